-- SPDX-FileCopyrightText: 2026 The PPVM Authors
-- SPDX-License-Identifier: Apache-2.0

-- Laws of this crate.
pub mod LaidLaws
pub mod JumpTests
pub mod ExtendedLaws
pub mod RelatedLaws
pub mod WordsBelow
pub mod FormedBounds
pub mod ReadItems
pub mod Answered
pub mod CompiledLaws
pub mod BuiltLaws
pub mod PairsGood
pub mod AddedLaws
pub mod SizesLaws
pub mod RoomLaws
pub mod FormedExact
pub mod WholeStored
pub mod ActionBounds
pub mod TestedNumbers
pub mod RuleBounds
