-- SPDX-FileCopyrightText: 2026 The PPVM Authors
-- SPDX-License-Identifier: Apache-2.0

-- What leaks out of a basis: candidates, passes, the room rule, the list.
pub mod Leaks
pub mod Between
