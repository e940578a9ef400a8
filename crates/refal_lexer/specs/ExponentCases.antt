-- Telling cases of the sign that may stand after a number's `E` (02, card 7), computed.
use Rattle.std.specs.Prelude.{ℕ, List, [], ◌∷◌, ◌≡◌, refl}
use Rattle.refal_text.specs.Utf8.{decode}
use Rattle.refal_ast.specs.Kinds.{tok_number}
use Rattle.refal_ast.specs.Tokens.{Token, token}
use Rattle.refal_lexer.specs.Blanks.{close_to}
use Rattle.refal_lexer.specs.Lex.{Out, more, stop_bad, eof_at}
use Rattle.refal_lexer.specs.Stars.{only_white}
use Rattle.refal_lexer.specs.Source.{lex01, source}

-- a source, and what reading gives of it
pub record Case : Type 0 where
  pub bytes : List ℕ
  pub out : Out

abbrev reads : List ℕ → Out → Case
reads bytes out = record { bytes = bytes; out = out }

abbrev each : (Case → Out) → List Case → List Out
each f [] = []
each f (c ∷ cs) = f c ∷ each f cs

-- a Number of n bytes at i: its text is all of it
abbrev number : ℕ → ℕ → ℕ → Token
number i n end = token tok_number 0 i n i end

abbrev pub cases : List Case
cases =
    -- `1E-5`, `-0.25E+03`, `+1E-5`: Numbers
    reads (49 ∷ 69 ∷ 45 ∷ 53 ∷ []) (more (number 0 4 4) (eof_at 4))
    ∷ reads (45 ∷ 48 ∷ 46 ∷ 50 ∷ 53 ∷ 69 ∷ 43 ∷ 48 ∷ 51 ∷ []) (more (number 0 9 9) (eof_at 9))
    ∷ reads (43 ∷ 49 ∷ 69 ∷ 45 ∷ 53 ∷ []) (more (number 0 5 5) (eof_at 5))
    -- `1E`: 17 at 0-2; `1E-`, `1E-x`, `1E--5`: 17 at 0-3
    ∷ reads (49 ∷ 69 ∷ []) (stop_bad 17 0 2)
    ∷ reads (49 ∷ 69 ∷ 45 ∷ []) (stop_bad 17 0 3)
    ∷ reads (49 ∷ 69 ∷ 45 ∷ 120 ∷ []) (stop_bad 17 0 3)
    ∷ reads (49 ∷ 69 ∷ 45 ∷ 45 ∷ 53 ∷ []) (stop_bad 17 0 3)
    -- `1E-5.2`: 10 at the point, behind a Number
    ∷ reads (49 ∷ 69 ∷ 45 ∷ 53 ∷ 46 ∷ 50 ∷ []) (more (number 0 4 4) (stop_bad 10 4 5))
    -- `+1`: 18; `1.-5`: 16 at 0-2; `1-5`: the Number 1, and 18 for `-5`
    ∷ reads (43 ∷ 49 ∷ []) (stop_bad 18 0 2)
    ∷ reads (49 ∷ 46 ∷ 45 ∷ 53 ∷ []) (stop_bad 16 0 2)
    ∷ reads (49 ∷ 45 ∷ 53 ∷ []) (more (number 0 1 1) (stop_bad 18 1 3))
    ∷ []

pub exponent_cases : each (λ c. source c.bytes) cases ≡ each (λ c. c.out) cases
unfolding lex01 only_white decode close_to
exponent_cases = refl
