-- SPDX-FileCopyrightText: 2026 The PPVM Authors
-- SPDX-License-Identifier: Apache-2.0

-- Contracts between functions: a number for each word, by halves of 32 bits, each times an odd number below 2^32, folded and multiplied
-- once more. Which numbers is free.
use Rattle.std.specs.Prelude.{ℕ, ◌*◌, ◌/◌, ◌%◌, get_or}
use Rattle.std.specs.Int.Bits.{bit_xor}
use Rattle.word.specs.declared.word.Word.{Word}

abbrev pub half : ℕ
half = 4294967296

unfoldable pub lane_hash : ℕ → ℕ → ℕ → ℕ
lane_hash a b lane = bit_xor (lane % half * a) (lane / half * b)

-- of the lanes from qubit 128 on
unfoldable pub upper_hash : ℕ → ℕ → ℕ → ℕ → ℕ
upper_hash x2 x3 z2 z3 =
    bit_xor (bit_xor (lane_hash 0xcc9e2d51 0x1b873593 x2) (lane_hash 0x7feb352d 0x846ca68b x3))
    (bit_xor (lane_hash 0x3c6ef35f 0x2545f491 z2) (lane_hash 0xed5ad4bb 0xac4c1b51 z3))

unfoldable pub lanes_hash : Word → ℕ
lanes_hash w =
    bit_xor
    (bit_xor (bit_xor (lane_hash 0x9e3779b1 0x85ebca77 (get_or w.x 0 0)) (lane_hash 0xc2b2ae3d 0x27d4eb2f (get_or w.x 1 0)))
    (bit_xor (lane_hash 0x165667b1 0xd3a2646d (get_or w.z 0 0)) (lane_hash 0xfd7046c5 0xb55a4f09 (get_or w.z 1 0))))
    (upper_hash (get_or w.x 2 0) (get_or w.x 3 0) (get_or w.z 2 0) (get_or w.z 3 0))

unfoldable pub word_hash : Word → ℕ
word_hash w = bit_xor (lanes_hash w) (lanes_hash w / half) % half * 0x9e3779b1 / 1048576
