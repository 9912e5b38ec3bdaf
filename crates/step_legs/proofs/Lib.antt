-- SPDX-FileCopyrightText: 2026 The PPVM Authors
-- SPDX-License-Identifier: Apache-2.0

-- Laws of the legs of a step.
pub mod EvolveLaws
pub mod FollowLaws
pub mod EnterLaws
pub mod HopLaws
pub mod LegLaws
