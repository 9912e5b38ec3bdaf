-- SPDX-FileCopyrightText: 2026 The PPVM Authors
-- SPDX-License-Identifier: Apache-2.0

-- Laws of this crate.
pub mod Entries
pub mod Choices
pub mod Ranges
pub mod GivenTerms
pub mod ModelTests
pub mod TestOrder
pub mod TermLaws
pub mod StandsLaws
