-- Where the parts of a real's text stand, and the value of its exponent.
use Rattle.std.specs.Prelude.{ℕ, ◌+◌, min, Bool, true, List, leb, length}
use Rattle.std.proofs.Math.Seq.{slice}
use Rattle.refal_text.specs.Pick.{pick}
use Rattle.refal_lexer.specs.Numbers.{sign_bytes, digits_end, point_at}
use Rattle.refal_real.specs.Value.{num}
use Rattle.refal_real.specs.Form.{less}
use Rattle.refal_real.specs.Real.{is_real}
use Rattle.refal_real.specs.Inner as P
use Rattle.refal_real.specs.Inner.{Places, Spelled, Scale, By, Over}

-- where the parts of a real stand, by the lexer's scans
abbrev pub from_of : List ℕ → ℕ
from_of t = sign_bytes true t

abbrev pub whole_of : List ℕ → ℕ
whole_of t = digits_end (from_of t) t

abbrev pub to_of : List ℕ → ℕ
to_of t = (point_at (whole_of t) t).end

abbrev pub places_of : List ℕ → Places
places_of t = record { from = from_of t; whole = whole_of t; to = to_of t }

abbrev pub spelled_of : List ℕ → Spelled
spelled_of t = pick (is_real t) (P.Real (places_of t)) P.Other

-- an exponent by its sign and digits
abbrev pub scale_of : Bool → List ℕ → Scale
scale_of down x = pick (leb (length (less x)) 9) (By down (num x)) Over

-- the digits of a real by its places
abbrev pub whole_at : List ℕ → Places → List ℕ
whole_at t p = slice p.from p.whole t

abbrev pub fraction_in : List ℕ → Places → List ℕ
fraction_in t p = slice (min (p.whole + 1) p.to) p.to t
