-- SPDX-FileCopyrightText: 2026 The PPVM Authors
-- SPDX-License-Identifier: Apache-2.0

-- The laws of the step: from part to part, beside the step over plain lists, and in tables of the named lengths.
pub mod CourseLaws
pub mod StandingLaws
pub mod PlainLaws
pub mod SizesLaws
