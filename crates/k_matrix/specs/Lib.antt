-- SPDX-FileCopyrightText: 2026 The PPVM Authors
-- SPDX-License-Identifier: Apache-2.0

-- A matrix K over operators: its entries and pairs, and what adding it answers.
pub mod Added
pub mod Matrix
pub mod Pairs
pub mod Work
