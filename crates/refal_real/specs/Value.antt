-- A real's value, from the parts of its text: the whole and the fraction's digits as one whole number, times ten to the exponent less the number of
-- the fraction's digits. Values are compared as whole numbers, both multiplied by one power of ten large enough to make them so.
use Rattle.std.specs.Prelude.{ℕ, ◌+◌, ◌*◌, ◌-◌, ◌^◌, Bool, List, [], ◌∷◌, ◌++◌, ◌≡◌, length}
use Rattle.refal_text.specs.Pick.{pick}
use Rattle.refal_real.specs.Parts.{Parts}

-- ten to a power; nothing computes it
unfoldable pub tens : ℕ → ℕ
tens n = 10 ^ n

-- ASCII digits as a number
unfoldable pub num : List ℕ → ℕ
num [] = 0
num (b ∷ s) = (b - 48) * tens (length s) + num s

-- a whole number with its sign: how far above zero, and how far below
pub record Whole : Type 0 where
  pub above : ℕ
  pub below : ℕ

abbrev pub signed : Bool → ℕ → Whole
signed minus n = pick minus (record { above = 0; below = n }) (record { above = n; below = 0 })

-- the whole number w is ten to the n times the digits' number times ten to u less d
pub record Times (n : ℕ) (minus : Bool) (digits : List ℕ) (u d : ℕ) (w : Whole) : Type 0 where
  pub size : ℕ
  pub sign : w ≡ signed minus size
  pub is : size * tens d ≡ num digits * tens (n + u)

-- all digits, whole and fraction
abbrev pub all : Parts → List ℕ
all p = p.whole ++ p.fraction

-- by how much the exponent raises the power of ten, and by how much the fraction and the exponent lower it
abbrev pub raised : Parts → ℕ
raised p = pick p.down 0 (num p.exponent)

abbrev pub lowered : Parts → ℕ
lowered p = length p.fraction + pick p.down (num p.exponent) 0

-- the whole number w is ten to the n times the value
abbrev pub Value : ℕ → Parts → Whole → Type 0
Value n p w = Times n p.minus (all p) (raised p) (lowered p) w
