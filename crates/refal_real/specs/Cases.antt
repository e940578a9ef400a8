-- Telling cases of texts and their normal forms (document 02, card 8), computed.
use Rattle.std.specs.Prelude.{ℕ, Bool, true, false, List, [], ◌∷◌, ◌≡◌, refl}
use Rattle.refal_text.specs.Utf8.{decode}
use Rattle.refal_spelling.specs.Spells.{spells}
use Rattle.refal_real.specs.Parts.{run, past, parts}
use Rattle.refal_real.specs.Value.{tens, num, Whole, Value}
use Rattle.refal_real.specs.Form.{less, trim}
use Rattle.refal_real.specs.Real.{marked, Outcome, has_form, is_refused, outcome}
use Rattle.refal_real.specs.Theorems.{reals}

-- a text, and its form or refusal
pub record Case : Type 0 where
  pub bytes : List ℕ
  pub out : Outcome

abbrev is : List ℕ → Outcome → Case
is bytes out = record { bytes = bytes; out = out }

-- sign, digits, the power's sign and magnitude
abbrev form : Bool → List ℕ → Bool → ℕ → Outcome
form minus digits down power = has_form (record { minus = minus; digits = digits; down = down; power = power })

abbrev each : (Case → Outcome) → List Case → List Outcome
each f [] = []
each f (c ∷ cs) = f c ∷ each f cs

abbrev pub cases : List Case
cases =
    -- `150.0`, `1.50E2`: one form; `-12.340E+000000000000`
    is (49 ∷ 53 ∷ 48 ∷ 46 ∷ 48 ∷ []) (form false (49 ∷ 53 ∷ []) false 1)
    ∷ is (49 ∷ 46 ∷ 53 ∷ 48 ∷ 69 ∷ 50 ∷ []) (form false (49 ∷ 53 ∷ []) false 1)
    ∷ is (45 ∷ 49 ∷ 50 ∷ 46 ∷ 51 ∷ 52 ∷ 48 ∷ 69 ∷ 43 ∷ 48 ∷ 48 ∷ 48 ∷ 48 ∷ 48 ∷ 48 ∷ 48 ∷ 48 ∷ 48 ∷ 48 ∷ 48 ∷ 48 ∷ []) (form true (49 ∷ 50 ∷ 51 ∷ 52 ∷ []) true 2)
    -- zero: `-0.0E7`, `+0E-999999999`
    ∷ is (45 ∷ 48 ∷ 46 ∷ 48 ∷ 69 ∷ 55 ∷ []) (form false ([]) false 0)
    ∷ is (43 ∷ 48 ∷ 69 ∷ 45 ∷ 57 ∷ 57 ∷ 57 ∷ 57 ∷ 57 ∷ 57 ∷ 57 ∷ 57 ∷ 57 ∷ []) (form false ([]) false 0)
    -- `10E999999999`, `0.01E-999999999`, `1E0000000000999999999`: 9 digits, zeros aside
    ∷ is (49 ∷ 48 ∷ 69 ∷ 57 ∷ 57 ∷ 57 ∷ 57 ∷ 57 ∷ 57 ∷ 57 ∷ 57 ∷ 57 ∷ []) (form false (49 ∷ []) false 1000000000)
    ∷ is (48 ∷ 46 ∷ 48 ∷ 49 ∷ 69 ∷ 45 ∷ 57 ∷ 57 ∷ 57 ∷ 57 ∷ 57 ∷ 57 ∷ 57 ∷ 57 ∷ 57 ∷ []) (form false (49 ∷ []) true 1000000001)
    ∷ is (49 ∷ 69 ∷ 48 ∷ 48 ∷ 48 ∷ 48 ∷ 48 ∷ 48 ∷ 48 ∷ 48 ∷ 48 ∷ 48 ∷ 57 ∷ 57 ∷ 57 ∷ 57 ∷ 57 ∷ 57 ∷ 57 ∷ 57 ∷ 57 ∷ []) (form false (49 ∷ []) false 999999999)
    -- `1E-0`: the power of 0 has no minus; `00100.00100`
    ∷ is (49 ∷ 69 ∷ 45 ∷ 48 ∷ []) (form false (49 ∷ []) false 0)
    ∷ is (48 ∷ 48 ∷ 49 ∷ 48 ∷ 48 ∷ 46 ∷ 48 ∷ 48 ∷ 49 ∷ 48 ∷ 48 ∷ []) (form false (49 ∷ 48 ∷ 48 ∷ 48 ∷ 48 ∷ 49 ∷ []) true 3)
    -- 65: `0E1000000000`, `1E-0001000000000`
    ∷ is (48 ∷ 69 ∷ 49 ∷ 48 ∷ 48 ∷ 48 ∷ 48 ∷ 48 ∷ 48 ∷ 48 ∷ 48 ∷ 48 ∷ []) (is_refused 65)
    ∷ is (49 ∷ 69 ∷ 45 ∷ 48 ∷ 48 ∷ 48 ∷ 49 ∷ 48 ∷ 48 ∷ 48 ∷ 48 ∷ 48 ∷ 48 ∷ 48 ∷ 48 ∷ 48 ∷ []) (is_refused 65)
    -- 64: none, `15`, `1.`, `.5`, `1.5E`, `1E+-5`, `--1.0`, `+1`, ` 1.5`, `1.5 `, `1.5A`
    ∷ is ([]) (is_refused 64)
    ∷ is (49 ∷ 53 ∷ []) (is_refused 64)
    ∷ is (49 ∷ 46 ∷ []) (is_refused 64)
    ∷ is (46 ∷ 53 ∷ []) (is_refused 64)
    ∷ is (49 ∷ 46 ∷ 53 ∷ 69 ∷ []) (is_refused 64)
    ∷ is (49 ∷ 69 ∷ 43 ∷ 45 ∷ 53 ∷ []) (is_refused 64)
    ∷ is (45 ∷ 45 ∷ 49 ∷ 46 ∷ 48 ∷ []) (is_refused 64)
    ∷ is (43 ∷ 49 ∷ []) (is_refused 64)
    ∷ is (32 ∷ 49 ∷ 46 ∷ 53 ∷ []) (is_refused 64)
    ∷ is (49 ∷ 46 ∷ 53 ∷ 32 ∷ []) (is_refused 64)
    ∷ is (49 ∷ 46 ∷ 53 ∷ 65 ∷ []) (is_refused 64)
    ∷ []

pub real_cases : each (λ c. outcome c.bytes) cases ≡ each (λ c. c.out) cases
unfolding spells decode run past parts tens num less trim marked outcome
real_cases = refl

-- `1E999999999` and `10E999999998` have one value: whole numbers that nothing computes
abbrev one : List ℕ
one = 49 ∷ 69 ∷ 57 ∷ 57 ∷ 57 ∷ 57 ∷ 57 ∷ 57 ∷ 57 ∷ 57 ∷ 57 ∷ []

abbrev ten : List ℕ
ten = 49 ∷ 48 ∷ 69 ∷ 57 ∷ 57 ∷ 57 ∷ 57 ∷ 57 ∷ 57 ∷ 57 ∷ 57 ∷ 56 ∷ []

forms : (outcome one ≡ form false (49 ∷ []) false 999999999) × (outcome ten ≡ form false (49 ∷ []) false 999999999)
unfolding spells decode run past parts tens num less trim marked outcome
forms = (refl, refl)

pub one_value : (v w : Whole) → Value 0 (parts one) v → Value 0 (parts ten) w → v ≡ w
one_value v w p q = (reals.same_value one ten _ _ forms.0 forms.1 0 v w p q).1 refl
