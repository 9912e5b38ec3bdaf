-- SPDX-FileCopyrightText: 2026 The PPVM Authors
-- SPDX-License-Identifier: Apache-2.0

-- Laws of this crate.
pub mod CallLaws
pub mod CheckLaws
pub mod LentLaws
pub mod ListingLaws
pub mod TableLaws
