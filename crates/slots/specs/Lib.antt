-- SPDX-FileCopyrightText: 2026 The PPVM Authors
-- SPDX-License-Identifier: Apache-2.0

-- Places of words in a list, found by slots.
pub mod Slots
pub mod Between
