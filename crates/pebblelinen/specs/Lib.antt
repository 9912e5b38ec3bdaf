-- SPDX-FileCopyrightText: 2026 The PPVM Authors
-- SPDX-License-Identifier: Apache-2.0

-- What the exported functions answer, in plain numbers.
pub mod Words
pub mod Models
pub mod Actions
pub mod Bases
pub mod Leakages
pub mod Generators
pub mod Markets
pub mod Products
pub mod Norms
pub mod Evolutions
pub mod Examples
