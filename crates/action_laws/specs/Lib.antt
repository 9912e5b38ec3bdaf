-- SPDX-FileCopyrightText: 2026 The PPVM Authors
-- SPDX-License-Identifier: Apache-2.0

-- Models that were built, models of whole numbers, qubits on which a model does not act, and what it means that an answer is
-- that of the generator.
pub mod Made
pub mod WholeModel
pub mod Exact
pub mod Untouched
