-- SPDX-FileCopyrightText: 2026 The PPVM Authors
-- SPDX-License-Identifier: Apache-2.0

-- Lent tables and what every call asks of them.
pub mod Tests
pub mod Words
pub mod Numbers
pub mod Read
pub mod Laid
pub mod Between
pub mod Every
