-- What is proved of reals (document 02, card 8), for a reader. The functions' contracts equate what they answer and leave with `real_answer`,
-- `real_digits`, `real_form` and `reals_equal` of Real.antt; the statements here say what these mean. Proof: Theorems.antt `reals`.
use Rattle.std.specs.Prelude.{ℕ, ◌+◌, ◌≤◌, ◌<◌, true, List, [], ◌++◌, ◌↔◌, ◌≡◌, length, drop}
use Rattle.refal_ast.specs.Kinds.{tok_number, tok_eof}
use Rattle.refal_ast.specs.Limits.{most_bytes}
use Rattle.refal_ast.specs.Tokens.{token, words}
use Rattle.refal_ast.specs.Answers.{Done}
use Rattle.refal_lexer.specs.Read.{read_answer, read_rows}
use Rattle.refal_spelling.specs.Given.{Gives}
use Rattle.refal_real.specs.Parts.{parts}
use Rattle.refal_real.specs.Value.{Whole, Value, raised, lowered}
use Rattle.refal_real.specs.Form.{Form, FormValue}
use Rattle.refal_real.specs.Real.{marked, is_real, has_form, outcome, real_answer, reals_equal}
use Rattle.refal_real.specs.Written.{Normal, Signed, Spells, written}

-- ---- refusal 64: which texts are reals
-- Reading the text by itself, with rows lent for two tokens or more, gives two: a Number whose text is all of it, and Eof.
pub record Alone (t : List ℕ) : Type 0 where
  pub answer : (rows : List ℕ) → 12 ≤ length rows → read_answer t (length rows) ≡ Done 2
  pub left : (rows : List ℕ) → 12 ≤ length rows
      → read_rows t rows ≡ (words (token tok_number 0 0 (length t) 0 (length t)) ++ words (token tok_eof 0 0 0 (length t) (length t))) ++ drop 12 rows

-- A text is a real exactly when reading gives it, from some source, as a Number's text, and exactly when reading it by itself gives that Number;
-- and it has a point or an E.
abbrev pub Given : Type 0
Given = (t : List ℕ) → (is_real t ≡ true) ↔ (Gives tok_number t × (marked t ≡ true))

abbrev pub GivenAlone : Type 0
GivenAlone = (t : List ℕ) → (is_real t ≡ true) ↔ (Alone t × (marked t ≡ true))

-- ---- the value
-- Two texts that are not refused have the same value exactly when their normal forms are equal, whatever the power of ten that makes both values
-- whole.
abbrev pub SameValue : Type 0
SameValue =
    (s t : List ℕ) (f g : Form) → outcome s ≡ has_form f → outcome t ≡ has_form g
    → (n : ℕ) (v w : Whole) → Value n (parts s) v → Value n (parts t) w → (v ≡ w) ↔ (f ≡ g)

-- Every power from some one on is large enough for a text.
abbrev pub Large : Type 0
Large = (t : List ℕ) (n : ℕ) → lowered (parts t) ≤ n + raised (parts t) → (w : Whole) × Value n (parts t) w

-- A form's digits as a whole number, times its power, are the text's value.
abbrev pub FormsValue : Type 0
FormsValue = (t : List ℕ) (f : Form) → outcome t ≡ has_form f → (n : ℕ) (w : Whole) → Value n (parts t) w ↔ FormValue n f w

-- ---- the form
-- A text's form is normal, and a normal form written out has itself as its form, whether a plus is written or left out, in front and in the power.
abbrev pub FormsNormal : Type 0
FormsNormal = (t : List ℕ) (f : Form) → outcome t ≡ has_form f → Normal f

abbrev pub WrittenOut : Type 0
WrittenOut =
    (f : Form) → Normal f → (s z x : List ℕ) → Signed f.minus s → Signed f.down z → Spells x f.power
    → length (written s f.digits z x) ≤ most_bytes → outcome (written s f.digits z x) ≡ has_form f

-- Every power below 1,000,000,000 has at most 9 digits.
abbrev pub Spelled : Type 0
Spelled = (n : ℕ) → n < 1000000000 → (x : List ℕ) × Spells x n

-- Zero, which has no digits, needs no byte for them: it never gets 66.
abbrev pub ZeroFits : Type 0
ZeroFits = (t : List ℕ) (f : Form) → outcome t ≡ has_form f → f.digits ≡ [] → (m : ℕ) → real_answer t m ≡ Done 0

-- ---- the comparison
-- It says yes exactly of two texts that have one form.
abbrev pub Equal : Type 0
Equal = (a b : List ℕ) → (reals_equal a b ≡ true) ↔ ((f : Form) × (outcome a ≡ has_form f) × (outcome b ≡ has_form f))

pub record Reals : Type 0 where
  pub given : Given
  pub given_alone : GivenAlone
  pub same_value : SameValue
  pub large : Large
  pub forms_value : FormsValue
  pub forms_normal : FormsNormal
  pub written_out : WrittenOut
  pub spelled : Spelled
  pub zero_fits : ZeroFits
  pub equal : Equal
