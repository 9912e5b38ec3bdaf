-- SPDX-FileCopyrightText: 2026 The PPVM Authors
-- SPDX-License-Identifier: Apache-2.0

-- Entries by rows: where each row starts, and the order that a stable count by rows gives.
pub mod Rows
pub mod Sorts
