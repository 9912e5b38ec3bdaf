-- SPDX-FileCopyrightText: 2026 The PPVM Authors
-- SPDX-License-Identifier: Apache-2.0

-- The demands: Demands states them, sentence by sentence, over the calls of Calls.
pub mod Calls
pub mod Demands
pub mod Requests
