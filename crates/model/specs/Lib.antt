-- SPDX-FileCopyrightText: 2026 The PPVM Authors
-- SPDX-License-Identifier: Apache-2.0

-- A model in lent tables: what its tables mean, and how a lent one is tested.
pub mod Stored
pub mod Terms
pub mod Tested
pub mod Fails
pub mod Stands
pub mod Between
