-- What the code's answers tell, in the terms of `decode` and `well_to`.
use Rattle.std.specs.Prelude.{ℕ, Option, Some, None}
use Rattle.refal_text.specs.Utf8.{ill}
use Rattle.refal_text.specs.declared.Char.{Char}

-- the character found; none is one of length 0
abbrev pub char_told : Option Char → Char
char_told None = ill
char_told (Some c) = c

-- the place found, and the end, n, where there is none
abbrev pub place_told : ℕ → Option ℕ → ℕ
place_told n None = n
place_told n (Some at) = at
