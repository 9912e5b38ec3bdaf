-- SPDX-FileCopyrightText: 2026 The PPVM Authors
-- SPDX-License-Identifier: Apache-2.0

-- Laws of this crate.
pub mod OrderOnce
pub mod ThresholdLaws
pub mod AdmitTests
pub mod AdmitLaws
pub mod AdmissionLaws
pub mod ChecksLaws
pub mod ReachLaws
pub mod ProtectLaws
pub mod PruneLaws
pub mod CapLaws
