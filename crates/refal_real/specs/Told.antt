-- What the code's values tell, in the words of the definitions.
use Rattle.std.specs.Prelude.{ℕ, ◌≤◌, ℤ, pos, neg_ℤ, int_lt, unsigned_abs, Bool, true, false, List, ◌++◌, ◌≡◌, length, Option, Some, None, MatchOption, Result, Ok, Err, MatchResult}
use Rattle.refal_text.specs.Pick.{pick}
use Rattle.refal_ast.specs.Told.{reason_code, refusal_told}
use Rattle.refal_ast.specs.Answers.{Refused}
use Rattle.refal_ast.specs.declared.answers.Reason.{Reason}
use Rattle.refal_ast.specs.declared.answers.Refusal.{Refusal}
use Rattle.refal_ast.specs.Limits.{most_bytes}
use Rattle.refal_lexer.specs.Numbers.{exponent_at}
use Rattle.refal_real.specs.Parts.{down_at, exponent_digits, Parts, parts}
use Rattle.refal_real.specs.Form.{Form}
use Rattle.refal_real.specs.Real.{is_real, Outcome, has_form, is_refused, answer_of}
use Rattle.refal_real.specs.Inner.{Scale, By, Over}
use Rattle.refal_real.specs.declared.digits.Digits.{Digits}
use Rattle.refal_real.specs.declared.parts.Parts.{Parts as Pieces}
use Rattle.refal_real.specs.declared.Form.{Form as Code}

-- digits before and behind a point, as one list
abbrev pub digits_told : Digits → List ℕ
digits_told d = d.whole.now ++ d.fraction.now

-- a form's power by its sign and magnitude
abbrev pub form_told : Code → Form
form_told f = record { minus = f.minus; digits = digits_told f.digits; down = int_lt f.power (pos 0); power = unsigned_abs f.power }

abbrev pub outcome_told : Result Code Reason → Outcome
outcome_told (Ok f) = has_form (form_told f)
outcome_told (Err reason) = is_refused (reason_code reason)

-- a form whose digits fit into m bytes, or the refusal
abbrev pub Fits : Outcome → ℕ → Result Code Refusal → Type 0
Fits o m r = MatchResult r (λ f. (has_form (form_told f) ≡ o) × (length (digits_told f.digits) ≤ m)) (λ e. Refused (refusal_told e) ≡ answer_of o m)

-- the parts that stand in the code's
abbrev pub parts_told : Pieces → Parts
parts_told p = record { minus = p.minus; whole = p.digits.whole.now; fraction = p.digits.fraction.now; down = down_at p.exponent.now; exponent = exponent_digits p.exponent.now }

-- p are the parts of a real, whose exponent goes to its end
pub record Split (t : List ℕ) (p : Pieces) : Type 0 where
  pub real : is_real t ≡ true
  pub parts : parts t ≡ parts_told p
  pub exponent : (exponent_at 0 p.exponent.now).end ≡ length p.exponent.now
  pub whole : length p.digits.whole.now ≤ most_bytes
  pub fraction : length p.digits.fraction.now ≤ most_bytes

abbrev pub Splits : List ℕ → Option Pieces → Type 0
Splits t r = MatchOption r (is_real t ≡ false) (λ p. Split t p)

-- an exponent as one number, where it has one
abbrev pub signed_power : Bool → ℕ → ℤ
signed_power down by = pick down (neg_ℤ (pos by)) (pos by)

abbrev pub exponent_of : Scale → Option ℤ
exponent_of (By down by) = Some (signed_power down by)
exponent_of Over = None
