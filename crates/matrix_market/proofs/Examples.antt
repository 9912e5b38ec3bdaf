-- SPDX-FileCopyrightText: 2026 The PPVM Authors
-- SPDX-License-Identifier: Apache-2.0

-- Document 02's example, H 0.5 Z over X, Y, whose entries are (1, 0, −1) and (0, 1, 1): `2 2 2`, `2 1 -4294967296`, `1 2 4294967296` after the
-- header; and counts at and near a half. Assumes nothing.
use Rattle.std.proofs.Common.{◌≡◌, true, false, [], ◌∷◌, ◌++◌, pos, negsuc, refl}
use lib.Ieee.{fin}
use Rattle.matrix_market.specs.Counts.{nearest, count_of}
use Rattle.matrix_market.specs.Text.{digits_to, natural, whole, field, line_text, lines_text, size_line, header, text_of}
use Rattle.matrix_market.specs.Writes.{lines_of}

pub example : text_of 2 (lines_of (1 ∷ 0 ∷ []) (0 ∷ 1 ∷ []) (fin true 1 (pos 0) ∷ fin false 1 (pos 0) ∷ [])) ≡ header ++ (
    50 ∷ 32 ∷ 50 ∷ 32 ∷ 50 ∷ 10
    ∷ 50 ∷ 32 ∷ 49 ∷ 32 ∷ 45 ∷ 52 ∷ 50 ∷ 57 ∷ 52 ∷ 57 ∷ 54 ∷ 55 ∷ 50 ∷ 57 ∷ 54 ∷ 10
    ∷ 49 ∷ 32 ∷ 50 ∷ 32 ∷ 52 ∷ 50 ∷ 57 ∷ 52 ∷ 57 ∷ 54 ∷ 55 ∷ 50 ∷ 57 ∷ 54 ∷ 10 ∷ [])
unfolding text_of lines_of lines_text line_text size_line field whole natural digits_to count_of nearest
example = refl

-- 2^−33 and −2^−33 go away from zero; −2^−40 and −0 are written as 0
pub half : count_of (fin false 1 (negsuc 32)) ≡ pos 1
unfolding count_of nearest
half = refl

pub minus_half : count_of (fin true 1 (negsuc 32)) ≡ negsuc 0
unfolding count_of nearest
minus_half = refl

pub little : count_of (fin true 1 (negsuc 39)) ≡ pos 0
unfolding count_of nearest
little = refl

pub minus_zero : count_of (fin true 0 (pos 0)) ≡ pos 0
unfolding count_of nearest
minus_zero = refl
