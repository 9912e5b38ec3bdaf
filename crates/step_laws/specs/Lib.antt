-- SPDX-FileCopyrightText: 2026 The PPVM Authors
-- SPDX-License-Identifier: Apache-2.0

-- The predictor-corrector step, and what is said of it.
pub mod Steps
pub mod Kept
pub mod Passing
