-- SPDX-FileCopyrightText: 2026 The PPVM Authors
-- SPDX-License-Identifier: Apache-2.0

-- Laws of this crate.
pub mod Accepted
pub mod Calls
pub mod Growth
pub mod RowEntries
pub mod RowPlaces
pub mod TableLaws
pub mod SoundRows
