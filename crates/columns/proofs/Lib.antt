-- SPDX-FileCopyrightText: 2026 The PPVM Authors
-- SPDX-License-Identifier: Apache-2.0

-- Laws of this crate.
pub mod ColumnLaws
pub mod EntryLaws
pub mod GeneratorLaws
pub mod MemberLaws
pub mod RepeatLaws
pub mod TermLaws
