-- SPDX-FileCopyrightText: 2026 The PPVM Authors
-- SPDX-License-Identifier: Apache-2.0

-- Laws that belong to no one function; RoundTrips are those that other crates cite.
pub mod TextLaws
pub mod RoundTrips
