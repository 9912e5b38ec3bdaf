-- SPDX-FileCopyrightText: 2026 The PPVM Authors
-- SPDX-License-Identifier: Apache-2.0

-- Laws of this crate.
pub mod PutLaws
pub mod RisingLaws
pub mod RowLaws
pub mod WordOrderLaws
pub mod PositionLaws
pub mod StandLaws
pub mod ThoseLaws
pub mod BesideLaws
pub mod BadLaws
pub mod PivotLaws
