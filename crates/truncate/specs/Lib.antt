-- SPDX-FileCopyrightText: 2026 The PPVM Authors
-- SPDX-License-Identifier: Apache-2.0

-- Calls on a lent basis: what is answered, refused and left in the lent tables.
pub mod Prunes
pub mod Marks
pub mod Admissions
