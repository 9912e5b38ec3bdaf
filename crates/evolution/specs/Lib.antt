-- SPDX-FileCopyrightText: 2026 The PPVM Authors
-- SPDX-License-Identifier: Apache-2.0

-- The coefficients of a lent basis evolved by one time step: what is tested, answered, written out and left in the lent tables.
pub mod Lent
pub mod Evolutions
pub mod Between
