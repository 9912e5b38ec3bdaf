-- SPDX-FileCopyrightText: 2026 The PPVM Authors
-- SPDX-License-Identifier: Apache-2.0

-- Laws of the index; MarkLaws, Cursors, Kept and Sharing have those that other crates cite.
pub mod Walk
pub mod MarkLaws
pub mod Rows
pub mod Unions
pub mod Kept
pub mod Cursors
pub mod Sharing
