-- SPDX-FileCopyrightText: 2026 The PPVM Authors
-- SPDX-License-Identifier: Apache-2.0

-- Sums of words, and what an entry adds to them.
pub mod Sums
pub mod Tables
pub mod Between
