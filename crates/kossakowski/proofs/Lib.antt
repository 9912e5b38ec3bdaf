-- SPDX-FileCopyrightText: 2026 The PPVM Authors
-- SPDX-License-Identifier: Apache-2.0

-- Laws of this crate.
pub mod OperatorTests
pub mod MatrixTests
pub mod MatrixAccepted
pub mod PairLaws
pub mod PairsLaws
pub mod AddLaws
pub mod CompiledLaws
pub mod WholeMatrix
