-- SPDX-FileCopyrightText: 2026 The PPVM Authors
-- SPDX-License-Identifier: Apache-2.0

-- What a step is lent and asks for, its end, and what its parts leave.
pub mod Lent
pub mod Ends
pub mod Between
