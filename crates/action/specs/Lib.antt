-- SPDX-FileCopyrightText: 2026 The PPVM Authors
-- SPDX-License-Identifier: Apache-2.0

-- The action of a lent model on a word: what is listed, refused and left in the lent tables.
pub mod Acts
pub mod Counts
pub mod Between
