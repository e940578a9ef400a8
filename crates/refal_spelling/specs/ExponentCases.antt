-- Telling cases of the sign that may stand after a number's `E` (02, card 7), in check 41's test of a word: computed.
use Rattle.std.specs.Prelude.{ℕ, Bool, true, false, List, [], ◌∷◌, ◌≡◌, refl}
use Rattle.refal_text.specs.Utf8.{decode}
use Rattle.refal_ast.specs.Kinds.{tok_number}
use Rattle.refal_spelling.specs.Spells.{spells}

-- a word, and whether reading gives it as a Number
pub record Case : Type 0 where
  pub word : List ℕ
  pub good : Bool

abbrev word : List ℕ → Bool → Case
word w good = record { word = w; good = good }

abbrev each : (Case → Bool) → List Case → List Bool
each f [] = []
each f (c ∷ cs) = f c ∷ each f cs

abbrev pub cases : List Case
cases =
    -- `1E-5`, `-0.25E+03`
    word (49 ∷ 69 ∷ 45 ∷ 53 ∷ []) true
    ∷ word (45 ∷ 48 ∷ 46 ∷ 50 ∷ 53 ∷ 69 ∷ 43 ∷ 48 ∷ 51 ∷ []) true
    -- `1E-`, `1E--5`, `1E-5.2`, `1.-5`, `1-5`
    ∷ word (49 ∷ 69 ∷ 45 ∷ []) false
    ∷ word (49 ∷ 69 ∷ 45 ∷ 45 ∷ 53 ∷ []) false
    ∷ word (49 ∷ 69 ∷ 45 ∷ 53 ∷ 46 ∷ 50 ∷ []) false
    ∷ word (49 ∷ 46 ∷ 45 ∷ 53 ∷ []) false
    ∷ word (49 ∷ 45 ∷ 53 ∷ []) false
    ∷ []

pub exponent_cases : each (λ c. spells tok_number c.word) cases ≡ each (λ c. c.good) cases
unfolding spells decode
exponent_cases = refl
