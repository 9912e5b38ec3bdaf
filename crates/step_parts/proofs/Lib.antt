-- SPDX-FileCopyrightText: 2026 The PPVM Authors
-- SPDX-License-Identifier: Apache-2.0

-- The laws of the parts of a step.
pub mod CheckLaws
pub mod CopyLaws
pub mod TruncateLaws
pub mod FinishLaws
pub mod ReadyLaws
