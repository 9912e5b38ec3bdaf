-- SPDX-FileCopyrightText: 2026 The PPVM Authors
-- SPDX-License-Identifier: Apache-2.0

-- The unshifted norm: the largest raw of any column.
pub mod Unshifted
pub mod Between
