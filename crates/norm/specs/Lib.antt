-- SPDX-FileCopyrightText: 2026 The PPVM Authors
-- SPDX-License-Identifier: Apache-2.0

-- The norm of the generator over a lent basis, and the degree for it: what is answered, refused and left in the lent tables.
pub mod Norms
pub mod Between
