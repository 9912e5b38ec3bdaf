-- SPDX-FileCopyrightText: 2026 The PPVM Authors
-- SPDX-License-Identifier: Apache-2.0

-- Laws of the places in use.
pub mod Firsts
pub mod KeptItems
pub mod SameModels
