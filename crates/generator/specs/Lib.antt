-- SPDX-FileCopyrightText: 2026 The PPVM Authors
-- SPDX-License-Identifier: Apache-2.0

-- The generator and the matrix by rows of a lent model over a lent basis: what is listed, refused and left in the lent tables.
pub mod Lent
pub mod Generators
pub mod Between
