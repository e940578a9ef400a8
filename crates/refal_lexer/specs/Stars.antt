-- 01's rule for a star, by the bytes before it and nothing else.
use Rattle.std.specs.Prelude.{ℕ, zero, suc, Bool, true, false, ◌||◌, List, [], ◌∷◌, eqb, length}
use Rattle.refal_text.specs.Pick.{pick}
use Rattle.refal_lexer.specs.Blanks.{white_len}

-- whether a newline is among the bytes
abbrev pub newline_in : List ℕ → Bool
newline_in [] = false
newline_in (b ∷ s) = eqb b 10 || newline_in s

-- what stands behind the last newline, where there is one
abbrev pub behind_last : List ℕ → List ℕ
behind_last [] = []
behind_last (b ∷ s) = pick (newline_in s) (behind_last s) s

-- whether the bytes, after `skip` more of a character, are white-space characters only
abbrev pub white_step : ℕ → (ℕ → Bool) → Bool
white_step zero go = false
white_step (suc k) go = go k

unfoldable pub only_white : ℕ → List ℕ → Bool
only_white skip [] = true
only_white zero (b ∷ s) = white_step (white_len (b ∷ s)) (λ k. only_white k s)
only_white (suc k) (b ∷ s) = only_white k s

-- only white space stands between it and the last newline, or, with no newline before it, its offset is 0
abbrev pub line_start : List ℕ → Bool
line_start before = pick (newline_in before) (only_white 0 (behind_last before)) (eqb (length before) 0)
