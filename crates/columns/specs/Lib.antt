-- SPDX-FileCopyrightText: 2026 The PPVM Authors
-- SPDX-License-Identifier: Apache-2.0

-- The columns of the generator over a basis: their entries, the tests on the way, and a basis word that comes again.
pub mod Entries
pub mod Columns
pub mod Repeats
pub mod Stages
pub mod Between
