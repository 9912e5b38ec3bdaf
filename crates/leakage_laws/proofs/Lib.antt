-- SPDX-FileCopyrightText: 2026 The PPVM Authors
-- SPDX-License-Identifier: Apache-2.0

-- Laws about what leakage lists.
pub mod BelowZero
pub mod KeepLaws
pub mod CourseLaws
pub mod ReadLaws
pub mod ReachLaws
pub mod AlikeLaws
pub mod CallLaws
