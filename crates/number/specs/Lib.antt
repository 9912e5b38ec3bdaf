-- SPDX-FileCopyrightText: 2026 The PPVM Authors
-- SPDX-License-Identifier: Apache-2.0

-- The numbers that the rules are written over, and the two that they are used at: f64, where each operation rounds
-- once, and the whole numbers, where none does.
pub mod Numbers
pub mod Whole
pub mod Floats
pub mod Key
pub mod Exact
pub mod Bounds
