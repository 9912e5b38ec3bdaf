-- SPDX-FileCopyrightText: 2026 The PPVM Authors
-- SPDX-License-Identifier: Apache-2.0

-- Entries that are kept, the positions chosen, and entries that come in.
pub mod Retained
pub mod Chosen
pub mod Largest
pub mod Admitted
pub mod Pruned
pub mod Between
