-- SPDX-FileCopyrightText: 2026 The PPVM Authors
-- SPDX-License-Identifier: Apache-2.0

-- A matrix K over operators, added to a model that stands.
pub mod Whole
