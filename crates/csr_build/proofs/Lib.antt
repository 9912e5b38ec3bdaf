-- SPDX-FileCopyrightText: 2026 The PPVM Authors
-- SPDX-License-Identifier: Apache-2.0

-- Laws of this crate.
pub mod AscendLaws
pub mod CountLaws
pub mod OffsetLaws
pub mod PlaceLaws
pub mod RowLaws
pub mod SameLaws
pub mod SortLaws
