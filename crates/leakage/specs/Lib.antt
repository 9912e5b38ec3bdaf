-- SPDX-FileCopyrightText: 2026 The PPVM Authors
-- SPDX-License-Identifier: Apache-2.0

-- Leakage out of a lent basis as a call: limits, what is listed, refused and left in the lent tables.
pub mod Leakages
pub mod Between
