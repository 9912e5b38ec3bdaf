-- SPDX-FileCopyrightText: 2026 The PPVM Authors
-- SPDX-License-Identifier: Apache-2.0

-- Laws of this crate.
pub mod AnswerLaws
pub mod CheckLaws
pub mod EmptyLaws
pub mod FillLaws
