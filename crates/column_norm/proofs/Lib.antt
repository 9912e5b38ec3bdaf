-- SPDX-FileCopyrightText: 2026 The PPVM Authors
-- SPDX-License-Identifier: Apache-2.0

-- Laws of this crate.
pub mod BasisLaws
pub mod ColumnLaws
pub mod NormLaws
