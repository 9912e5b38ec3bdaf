-- SPDX-FileCopyrightText: 2026 The PPVM Authors
-- SPDX-License-Identifier: Apache-2.0

-- Laws of this crate.
pub mod GatherLaws
pub mod GeneralLaws
pub mod ItemLaws
pub mod PairAdds
pub mod PairFactors
pub mod PairItems
pub mod RuleLaws
