-- SPDX-FileCopyrightText: 2026 The PPVM Authors
-- SPDX-License-Identifier: Apache-2.0

-- Laws of this crate.
pub mod NumberLaws
pub mod OffsetLaws
pub mod CheckLaws
pub mod WalkLaws
pub mod ColumnLaws
pub mod PassLaws
pub mod AnswerLaws
pub mod CsrLaws
pub mod ReadLaws
