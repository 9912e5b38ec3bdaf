-- SPDX-FileCopyrightText: 2026 The PPVM Authors
-- SPDX-License-Identifier: Apache-2.0

-- Numbers evolved by one time step over a matrix by rows: the stages, the degree that is chosen for them, and the answer.
pub mod Stages
pub mod Evolves
pub mod Between
