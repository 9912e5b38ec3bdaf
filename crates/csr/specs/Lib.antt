-- SPDX-FileCopyrightText: 2026 The PPVM Authors
-- SPDX-License-Identifier: Apache-2.0

-- What a lent matrix by rows means, and its product with a vector.
pub mod Lent
pub mod Rows
pub mod Products
pub mod Walks
