-- SPDX-FileCopyrightText: 2026 The PPVM Authors
-- SPDX-License-Identifier: Apache-2.0

-- The order by magnitude lists each position once.
pub use Rattle.keep.proofs.OrderOnce.{magnitude_once}
