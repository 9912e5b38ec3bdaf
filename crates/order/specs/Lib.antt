-- SPDX-FileCopyrightText: 2026 The PPVM Authors
-- SPDX-License-Identifier: Apache-2.0

-- Ordering positions.
pub mod Merge
pub mod Magnitudes
pub mod Places
pub mod Members
pub mod Between
