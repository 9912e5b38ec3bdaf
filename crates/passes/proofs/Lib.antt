-- SPDX-FileCopyrightText: 2026 The PPVM Authors
-- SPDX-License-Identifier: Apache-2.0

-- Laws of this crate.
pub mod TookLaws
pub mod TableLaws
pub mod TermLaws
pub mod PassLaws
pub mod RoomLaws
pub mod ListLaws
pub mod PassesLaws
