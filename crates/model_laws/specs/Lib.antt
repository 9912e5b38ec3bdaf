-- SPDX-FileCopyrightText: 2026 The PPVM Authors
-- SPDX-License-Identifier: Apache-2.0

-- What a tested model is, and a model with more laid after it.
pub mod Extended
pub mod Related
pub mod Exactly
pub mod Ranged
pub mod BuiltFrom
pub mod AddedFrom
pub mod StoredOver
