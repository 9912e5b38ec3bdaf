-- SPDX-FileCopyrightText: 2026 The PPVM Authors
-- SPDX-License-Identifier: Apache-2.0

-- The theorems that carry the demands.
pub mod OneAnswer
pub mod Refusals
pub mod Accepts
pub mod Bases
pub mod Exact
pub mod Leaks
pub mod Limits
pub mod Matrices
pub mod Products
pub mod Texts
pub mod Steps
