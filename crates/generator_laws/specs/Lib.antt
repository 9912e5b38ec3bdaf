-- SPDX-FileCopyrightText: 2026 The PPVM Authors
-- SPDX-License-Identifier: Apache-2.0

-- What accepted calls of the generator and of the matrix by rows say of their basis.
pub mod Matrices
