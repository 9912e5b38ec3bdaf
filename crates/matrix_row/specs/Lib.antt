-- SPDX-FileCopyrightText: 2026 The PPVM Authors
-- SPDX-License-Identifier: Apache-2.0

-- One row of a lent matrix.
pub mod Rows
pub mod Walks
