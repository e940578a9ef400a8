-- The parts of a real's text, as spelled: a sign or none; whole digits; a point and fraction digits, or neither; `E`, a sign or none and exponent
-- digits, or nothing.
use Rattle.std.specs.Prelude.{ℕ, Bool, true, ◌&&◌, List, [], eqb, take, drop, get_or}
use Rattle.refal_text.specs.Pick.{pick}
use Rattle.refal_text.specs.Span.{span}
use Rattle.refal_lexer.specs.Classes.{digit}
use Rattle.refal_lexer.specs.Numbers.{sign_bytes}

-- the first byte, 0 where there is none
abbrev pub first : List ℕ → ℕ
first s = get_or s 0 0

-- a text less the sign that it begins with
abbrev pub unsigned : List ℕ → List ℕ
unsigned s = drop (sign_bytes true s) s

-- the digits that a text begins with, and what stands behind them
unfoldable pub run : List ℕ → List ℕ
run s = take (span digit s) s

unfoldable pub past : List ℕ → List ℕ
past s = drop (span digit s) s

-- at a point: the fraction's digits, and what stands behind them
abbrev pub fraction_at : List ℕ → List ℕ
fraction_at s = pick (eqb (first s) 46) (run (drop 1 s)) []

abbrev pub past_fraction : List ℕ → List ℕ
past_fraction s = pick (eqb (first s) 46) (past (drop 1 s)) s

-- at an E: whether its sign is a minus, and the exponent's digits
abbrev pub down_at : List ℕ → Bool
down_at s = eqb (first s) 69 && eqb (first (drop 1 s)) 45

abbrev pub exponent_digits : List ℕ → List ℕ
exponent_digits s = pick (eqb (first s) 69) (run (unsigned (drop 1 s))) []

-- the parts; the digits are ASCII
pub record Parts : Type 0 where
  pub minus : Bool
  pub whole : List ℕ
  pub fraction : List ℕ
  pub down : Bool
  pub exponent : List ℕ

unfoldable pub parts : List ℕ → Parts
parts t = record {
  minus = eqb (first t) 45;
  whole = run (unsigned t);
  fraction = fraction_at (past (unsigned t));
  down = down_at (past_fraction (past (unsigned t)));
  exponent = exponent_digits (past_fraction (past (unsigned t)));
}
