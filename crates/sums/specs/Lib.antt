-- SPDX-FileCopyrightText: 2026 The PPVM Authors
-- SPDX-License-Identifier: Apache-2.0

-- What lent tables hold: complex numbers in flat floats; rows of a word and a sum, and what putting a number does.
pub mod Numbers
pub mod Sums
pub mod Between
