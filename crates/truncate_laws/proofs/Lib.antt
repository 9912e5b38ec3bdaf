-- SPDX-FileCopyrightText: 2026 The PPVM Authors
-- SPDX-License-Identifier: Apache-2.0

-- Laws about what calls on a lent basis keep.
pub mod AcceptedCalls
pub mod StaysLaws
pub mod LosesLaws
pub mod CapLaws
pub mod PruneLaws
