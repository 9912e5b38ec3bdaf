-- SPDX-FileCopyrightText: 2026 The PPVM Authors
-- SPDX-License-Identifier: Apache-2.0

-- The columns of the generator, and their norms.
pub mod Columns
pub mod Between
