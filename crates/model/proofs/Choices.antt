-- SPDX-FileCopyrightText: 2026 The PPVM Authors
-- SPDX-License-Identifier: Apache-2.0

-- Tests made one after another, with an early answer. Assumes nothing.
use mathlib.Core.Path.{◌≡◌, sym, ◌∙◌}
use mathlib.Core.Bool.{Bool, true, false, not, ◌&&◌, ◌||◌}
use borrow.Author.Tests.{not-true, not-false}

-- one of two: r is the first test's answer, s that of the second
pub or_first : {r a : Bool} (b : Bool) → r ≡ a → r ≡ true → true ≡ (a || b)
or_first {r} {a} b e h = rw (sym e ∙ h)

pub or_second : {r a s b : Bool} → r ≡ a → r ≡ false → s ≡ b → s ≡ (a || b)
or_second {r} {a} e h f = rw (sym e ∙ h) f

-- not both
pub lacks_first : {r a : Bool} (b : Bool) → r ≡ a → not r ≡ true → true ≡ not (a && b)
lacks_first {r} {a} b e h = rw (sym e ∙ not-true r h)

pub lacks_second : {r a s : Bool} (b : Bool) → r ≡ a → not r ≡ false → s ≡ not b → s ≡ not (a && b)
lacks_second {r} {a} b e h f = rw (sym e ∙ not-false r h) f
