-- SPDX-FileCopyrightText: 2026 The PPVM Authors
-- SPDX-License-Identifier: Apache-2.0

-- The adjoint generator of the GKSL equation: the rules that compute it, over any numbers, and its exact definition over
-- the whole numbers, from the equation alone.
pub mod Gauss
pub mod Operator
pub mod Model
pub mod Table
pub mod Rules
pub mod Generator
pub mod Words
