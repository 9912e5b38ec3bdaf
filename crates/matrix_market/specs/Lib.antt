-- SPDX-FileCopyrightText: 2026 The PPVM Authors
-- SPDX-License-Identifier: Apache-2.0

-- A square matrix as a text in the Matrix Market form `coordinate integer general`: counts of 2^−32, the grammar, how a text is read,
-- and what writing one into a lent table answers and leaves.
pub mod Counts
pub mod Text
pub mod Reading
pub mod Writes
pub mod Between
