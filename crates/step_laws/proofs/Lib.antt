-- SPDX-FileCopyrightText: 2026 The PPVM Authors
-- SPDX-License-Identifier: Apache-2.0

-- Laws of the step.
pub mod PickLaws
pub mod CourseLaws
pub mod EndLaws
pub mod RankLaws
pub mod PlaceLaws
pub mod LoweredLaws
pub mod EvolvedLaws
pub mod StepLaws
pub mod AdmissionLaws
pub mod RefusedLaws
pub mod EmptyLaws
pub mod CallLaws
pub mod InsideLaws
pub mod GrownLaws
pub mod HeldLaws
pub mod EvolveCall
pub mod AdmitCall
pub mod LeakCall
pub mod EndCall
