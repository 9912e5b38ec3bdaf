-- SPDX-FileCopyrightText: 2026 The PPVM Authors
-- SPDX-License-Identifier: Apache-2.0

-- The generator of a lent model over a lent basis as a text: what is written, refused and left in the lent tables.
pub mod Exports
