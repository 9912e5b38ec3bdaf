-- SPDX-FileCopyrightText: 2026 The PPVM Authors
-- SPDX-License-Identifier: Apache-2.0

-- Told: accepted and refused answers told apart, and what `?` hands on.
pub mod Told
