-- SPDX-FileCopyrightText: 2026 The PPVM Authors
-- SPDX-License-Identifier: Apache-2.0

-- That the rules give the exact generator. OverLaws has the two theorems: action-exact and exact-real.
pub mod GaussLaws
pub mod WholeRules
pub mod Totals
pub mod WordLaws
pub mod ExactTerms
pub mod Parity
pub mod Fold
pub mod TermNumbers
pub mod RuleLaws
pub mod SingleLaws
pub mod Reality
pub mod Coefficients
pub mod Tables
pub mod Triangle
pub mod ModelLaws
pub mod OverLaws
pub mod AtWords
