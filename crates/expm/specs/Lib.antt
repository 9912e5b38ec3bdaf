-- SPDX-FileCopyrightText: 2026 The PPVM Authors
-- SPDX-License-Identifier: Apache-2.0

-- The Taylor degree and the number of steps of an exponential.
pub mod Theta
pub mod Selects
