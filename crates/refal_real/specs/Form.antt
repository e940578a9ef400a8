-- The normal form: sign, digits without leading or trailing zeros, and a signed power of ten, so that the value is the digits as a whole number times
-- that power. Zero has no digits, plus sign, power 0.
use Rattle.std.specs.Prelude.{ℕ, ◌+◌, ◌-◌, Bool, false, List, [], ◌∷◌, ltb, eqb, length}
use Rattle.refal_text.specs.Pick.{pick}
use Rattle.refal_real.specs.Parts.{Parts}
use Rattle.refal_real.specs.Value.{all, raised, lowered, Whole, Times}

-- digits less the zeros that lead them
unfoldable pub less : List ℕ → List ℕ
less [] = []
less (b ∷ s) = pick (eqb b 48) (less s) (b ∷ s)

-- digits less the zeros that trail them: a digit stays before one that stays, or where it is no zero
abbrev pub before : ℕ → List ℕ → List ℕ
before b [] = pick (eqb b 48) [] (b ∷ [])
before b (c ∷ s) = b ∷ c ∷ s

unfoldable pub trim : List ℕ → List ℕ
trim [] = []
trim (b ∷ s) = before b (trim s)

-- how many zeros trail them
abbrev pub trailing : List ℕ → ℕ
trailing s = length s - length (trim s)

-- sign, digits in ASCII, the power's sign and magnitude
pub record Form : Type 0 where
  pub minus : Bool
  pub digits : List ℕ
  pub down : Bool
  pub power : ℕ

-- the form with these digits, whose power of ten is u less d
abbrev pub form : Bool → List ℕ → ℕ → ℕ → Form
form minus [] u d = record { minus = false; digits = []; down = false; power = 0 }
form minus (b ∷ s) u d = record { minus = minus; digits = b ∷ s; down = ltb u d; power = (u - d) + (d - u) }

abbrev pub normal : Parts → Form
normal p = form p.minus (less (trim (all p))) (raised p + trailing (all p)) (lowered p)

-- the whole number w is ten to the n times the digits as a whole number times that power
abbrev pub FormValue : ℕ → Form → Whole → Type 0
FormValue n f w = Times n f.minus f.digits (pick f.down 0 f.power) (pick f.down f.power 0) w
