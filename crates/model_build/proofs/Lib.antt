-- SPDX-FileCopyrightText: 2026 The PPVM Authors
-- SPDX-License-Identifier: Apache-2.0

-- Laws of this crate.
pub mod Parts
pub mod ItemAnswers
pub mod FirstRefusal
pub mod StoreLaws
pub mod ReadLaws
pub mod OperatorLaws
pub mod TakenLaws
pub mod LengthLaws
pub mod JumpsLaws
pub mod SizeLaws
pub mod BuildLaws
pub mod CheckLaws
pub mod FinishLaws
