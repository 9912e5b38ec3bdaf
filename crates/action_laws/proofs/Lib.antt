-- SPDX-FileCopyrightText: 2026 The PPVM Authors
-- SPDX-License-Identifier: Apache-2.0

-- Laws of the action of a model that was built.
pub mod LaidTerms
pub mod ExtendedItems
pub mod JumpRules
pub mod PairRules
pub mod MatrixRules
pub mod OperatorsRead
pub mod MadeParts
pub mod MadeRules
pub mod MadeLimits
pub mod WholeSizes
pub mod WholeWeights
pub mod WholeAdds
pub mod WholeRules
pub mod WholeMatrices
pub mod WholeAction
pub mod WholeListed
pub mod MadeExact
pub mod ListedWords
pub mod CallExact
pub mod Runs
pub mod ReachedNothing
pub mod ReachedNear
pub mod ReachedMade
pub mod ReachedListed
pub mod FiniteSums
