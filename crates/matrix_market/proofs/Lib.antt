-- SPDX-FileCopyrightText: 2026 The PPVM Authors
-- SPDX-License-Identifier: Apache-2.0

-- Laws of this crate. CountLaws: the count is the nearest, ties away from zero, too large exactly from 2^30 on. ReadingLaws: what is
-- written is read back, so that a text determines its matrix.
pub mod NaturalLaws
pub mod LaidLaws
pub mod DigitLaws
pub mod LineLaws
pub mod CountLaws
pub mod HalfLaws
pub mod WriteLaws
pub mod NearestLaws
pub mod ReadingLaws
pub mod TextLaws
pub mod Examples
