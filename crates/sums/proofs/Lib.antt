-- SPDX-FileCopyrightText: 2026 The PPVM Authors
-- SPDX-License-Identifier: Apache-2.0

-- Laws that belong to no one function; NumberLaws, SumLaws and Search are those that other crates cite.
-- NumberLaws: complex numbers in flat floats. SumLaws: tables in word order. Search: the place of a word.
-- Filled, Gap: filling a list from the front, and moving elements up by one place. Cases: what `put` leaves.
pub mod NumberLaws
pub mod Gap
pub mod SumLaws
pub mod Search
pub mod Cases
