-- SPDX-FileCopyrightText: 2026 The PPVM Authors
-- SPDX-License-Identifier: Apache-2.0

-- Laws that belong to no one function; WordLaws, OrderLaws and CoverLaws are those that other crates cite.
pub mod Sums
pub mod CountLaws
pub mod Digits
pub mod Lowest
pub mod Lanes
pub mod Words
pub mod WordLaws
pub mod OrderLaws
pub mod Planes
pub mod NextLaws
pub mod Tests
pub mod CoverLaws
pub mod FlatLaws
pub mod HashLaws
