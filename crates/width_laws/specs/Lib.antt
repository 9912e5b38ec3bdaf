-- SPDX-FileCopyrightText: 2026 The PPVM Authors
-- SPDX-License-Identifier: Apache-2.0

-- Words of any number of lanes, and what lanes of 0 added to them leave as it was.
pub mod Width
