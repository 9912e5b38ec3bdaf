-- SPDX-FileCopyrightText: 2026 The PPVM Authors
-- SPDX-License-Identifier: Apache-2.0

-- Laws of this crate.
pub mod Members
pub mod Fuel
pub mod Runs
pub mod Halves
pub mod CountLaws
pub mod OrderLaws
pub mod StableLaws
pub mod RankLaws
pub mod MagnitudeLaws
pub mod PlaceLaws
