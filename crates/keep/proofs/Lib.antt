-- SPDX-FileCopyrightText: 2026 The PPVM Authors
-- SPDX-License-Identifier: Apache-2.0

-- Laws of this crate.
pub mod PickLaws
pub mod MoveLaws
pub mod FillLaws
pub mod RetainLaws
pub mod WalkLaws
pub mod FlagLaws
pub mod Listed
pub mod ChosenLaws
pub mod AdmitLaws
pub mod PruneLaws
pub mod OrderOnce
pub mod UnflaggedLaws
pub mod SameFlags
pub mod LargestLaws
