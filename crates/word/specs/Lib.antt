-- SPDX-FileCopyrightText: 2026 The PPVM Authors
-- SPDX-License-Identifier: Apache-2.0

-- Pauli letters, words over lanes of 64 qubits, their products and order.
pub mod Count
pub mod Letter
pub mod Word
pub mod Product
pub mod Register
pub mod Order
pub mod Flat
pub mod Hash
pub mod Steps
pub mod Between
