-- SPDX-FileCopyrightText: 2026 The PPVM Authors
-- SPDX-License-Identifier: Apache-2.0

-- How a model is built, from texts and numbers, into lent tables.
pub mod Given
pub mod Compiled
pub mod Thinned
pub mod Built
pub mod Items
pub mod Taken
pub mod Work
pub mod Checked
