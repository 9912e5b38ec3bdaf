-- SPDX-FileCopyrightText: 2026 The PPVM Authors
-- SPDX-License-Identifier: Apache-2.0

-- The predictor-corrector step over a lent model and basis, what it is across the C interface, and how far it has come.
pub mod Calls
pub mod Exports
pub mod Between
