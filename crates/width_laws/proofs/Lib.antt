-- SPDX-FileCopyrightText: 2026 The PPVM Authors
-- SPDX-License-Identifier: Apache-2.0

-- Laws of words of any number of lanes.
pub mod Related
pub mod Padding
pub mod WidthLaws
