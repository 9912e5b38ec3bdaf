-- SPDX-FileCopyrightText: 2026 The PPVM Authors
-- SPDX-License-Identifier: Apache-2.0

-- HomeLaws: over tables that hold exactly the generator's entries. CallLaws: of accepted calls of generator and leakage.
pub mod HomeLaws
pub mod CallLaws
