-- SPDX-FileCopyrightText: 2026 The PPVM Authors
-- SPDX-License-Identifier: Apache-2.0

-- Which items share a qubit with a word, the index that finds them, and the order in which they are visited.
pub mod Index
pub mod Visit
