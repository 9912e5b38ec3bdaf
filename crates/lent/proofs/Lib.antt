-- SPDX-FileCopyrightText: 2026 The PPVM Authors
-- SPDX-License-Identifier: Apache-2.0

-- Laws of this crate.
pub mod Passed
pub mod OneTest
pub mod Firsts
pub mod NeedLaws
pub mod WordLaws
pub mod Filled
pub mod Lists
pub mod WriteLaws
pub mod LaidLaws
