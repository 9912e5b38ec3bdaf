-- SPDX-FileCopyrightText: 2026 The PPVM Authors
-- SPDX-License-Identifier: Apache-2.0

-- Exported: what a call promises, part by part. Places, Sizes, BasisSizes, WorkSizes, TextSizes: the sizes that are named, and
-- that they are enough.
-- Examples: the examples of document 01 hold.
pub mod Exported
pub mod Places
pub mod Sizes
pub mod BasisSizes
pub mod WorkSizes
pub mod TextSizes
pub mod Examples
