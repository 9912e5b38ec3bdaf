-- SPDX-FileCopyrightText: 2026 The PPVM Authors
-- SPDX-License-Identifier: Apache-2.0

-- Laws of this crate. TextLaws: the text determines every row, column and rounded value, and how long it is at most.
pub mod CallLaws
pub mod TextLaws
