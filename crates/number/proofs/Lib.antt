-- SPDX-FileCopyrightText: 2026 The PPVM Authors
-- SPDX-License-Identifier: Apache-2.0

-- Laws that belong to no one function.
-- Tests, Integers: truth values, and integers by sign and size. WholeLaws: the ring of the whole numbers.
-- KeyLaws: floats compare as their keys do. WholeFloats, ExactLaws: floats that are whole numbers. ExactComplex: complex
-- numbers that are Gaussian integers. ToleranceLaws: tests for 0. RangeLaws: bounds by powers of two. ZeroLaws:
-- zeros in a sum.
pub mod Tests
pub mod Integers
pub mod WholeLaws
pub mod KeyLaws
pub mod WholeFloats
pub mod ExactLaws
pub mod ExactComplex
pub mod ToleranceLaws
pub mod RangeLaws
pub mod ZeroLaws
