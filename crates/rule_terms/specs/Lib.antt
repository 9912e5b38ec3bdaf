-- SPDX-FileCopyrightText: 2026 The PPVM Authors
-- SPDX-License-Identifier: Apache-2.0

-- What the items of a model add for a word.
pub mod Adds
pub mod Steps
pub mod Sums
