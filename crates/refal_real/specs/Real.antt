-- What is answered of a text, and of two (document 02, card 8).
use Rattle.std.specs.Prelude.{ℕ, Bool, false, ◌&&◌, ◌||◌, List, [], ◌∷◌, ◌++◌, leb, eqb, length, drop, replicate}
use Rattle.std.specs.Bool.{beq}
use Rattle.refal_text.specs.Pick.{pick}
use Rattle.refal_ast.specs.Answers.{refusal, Answer, Done, Refused}
use Rattle.refal_ast.specs.Names.{same_list}
use Rattle.refal_spelling.specs.Spellings.{number_ok}
use Rattle.refal_real.specs.Parts.{parts}
use Rattle.refal_real.specs.Form.{Form, less, normal}

-- a byte of the text is a point or an E
unfoldable pub marked : List ℕ → Bool
marked [] = false
marked (b ∷ s) = (eqb b 46 || eqb b 69) || marked s

-- a real that reading gives: a Number with a point or an E
abbrev pub is_real : List ℕ → Bool
is_real t = number_ok t && marked t

-- a text's normal form, or the refusal that it gets however many bytes are lent for the digits
pub data Outcome : Type 0 where
  has_form : Form → Outcome
  is_refused : ℕ → Outcome

-- 64: no real that reading gives; 65: its exponent, leading zeros aside, has over 9 digits
unfoldable pub outcome : List ℕ → Outcome
outcome t =
    pick (is_real t)
    (pick (leb (length (less (parts t).exponent)) 9) (has_form (normal (parts t))) (is_refused 65))
    (is_refused 64)

-- ---- the normal form of a text, with m bytes lent for its digits: 66 where they are too few
abbrev pub refused_by : ℕ → ℕ → Answer
refused_by number need = Refused (refusal number 0 0 0 0 need)

abbrev pub answer_of : Outcome → ℕ → Answer
answer_of (has_form f) m = pick (leb (length f.digits) m) (Done (length f.digits)) (refused_by 66 (length f.digits))
answer_of (is_refused x) m = refused_by x 0

-- the bytes lent: the digits, and behind them what was there; all 0 on a refusal
abbrev pub digits_of : Outcome → List ℕ → List ℕ
digits_of (has_form f) old = pick (leb (length f.digits) (length old)) (f.digits ++ drop (length f.digits) old) (replicate (length old) 0)
digits_of (is_refused x) old = replicate (length old) 0

-- the form's three words: sign (0 plus, 1 minus), the power's sign (0 for zero or plus, 1 minus) and magnitude; all 0 on a refusal
abbrev pub bit : Bool → ℕ
bit b = pick b 1 0

abbrev pub no_words : List ℕ
no_words = 0 ∷ 0 ∷ 0 ∷ []

abbrev pub form_words : Form → List ℕ
form_words f = bit f.minus ∷ bit f.down ∷ f.power ∷ []

abbrev pub words_of : Outcome → ℕ → List ℕ
words_of (has_form f) m = pick (leb (length f.digits) m) (form_words f) no_words
words_of (is_refused x) m = no_words

abbrev pub real_answer : List ℕ → ℕ → Answer
real_answer t m = answer_of (outcome t) m

abbrev pub real_digits : List ℕ → List ℕ → List ℕ
real_digits t old = digits_of (outcome t) old

abbrev pub real_form : List ℕ → ℕ → List ℕ
real_form t m = words_of (outcome t) m

-- ---- whether two texts have one normal form
abbrev pub same_form : Form → Form → Bool
same_form f g = (beq f.minus g.minus && beq f.down g.down) && (eqb f.power g.power && same_list f.digits g.digits)

abbrev pub same_outcome : Outcome → Outcome → Bool
same_outcome (has_form f) (has_form g) = same_form f g
same_outcome (has_form f) (is_refused y) = false
same_outcome (is_refused x) (has_form g) = false
same_outcome (is_refused x) (is_refused y) = false

abbrev pub reals_equal : List ℕ → List ℕ → Bool
reals_equal a b = same_outcome (outcome a) (outcome b)
