-- Numbers: digits, then `.` with digits, then `E` with digits, before which one sign may stand, both optional. s stands at offset `at`; its digits start
-- at `from`, which is 1 behind a sign and else 0.
use Rattle.std.specs.Prelude.{ℕ, ◌+◌, ◌-◌, ◌*◌, List, [], ◌∷◌, leb, ltb, eqb, drop, Bool, true, false, ◌&&◌, Option, Some, None}
use Rattle.refal_text.specs.Pick.{pick}
use Rattle.refal_text.specs.Span.{span}
use Rattle.refal_ast.specs.Kinds.{tok_number}
use Rattle.refal_lexer.specs.Classes.{digit, sign}
use Rattle.refal_lexer.specs.Scans.{Scan, Token, Bad}

-- what the digits at the front of s are worth, after digits that are worth v
abbrev pub value : ℕ → List ℕ → ℕ
value v [] = v
value v (b ∷ s) = pick (digit b) (value (v * 10 + (b - 48)) s) v

-- what the digits at the front of s are worth, where that is 4294967295 at most
abbrev pub macrodigit : List ℕ → Option ℕ
macrodigit s = pick (leb (value 0 s) 4294967295) (Some (value 0 s)) None

-- where a part ends, and whether no digit stands in it
pub record Part : Type 0 where
  pub end : ℕ
  pub bare : Bool

abbrev pub ends : ℕ → Bool → Part
ends end bare = record { end = end; bare = bare }

-- the digits at i, where t stands
abbrev pub digits_at : ℕ → List ℕ → Part
digits_at i t = ends (i + span digit t) (eqb (span digit t) 0)

-- how many bytes of a sign stand at the front of t: one at most, and none where the part is not signed
abbrev pub sign_bytes : Bool → List ℕ → ℕ
sign_bytes signed [] = 0
sign_bytes signed (b ∷ t) = pick (signed && sign b) 1 0

-- the part at i, where t stands, that `mark` begins: a mark, one sign or none if the part is signed, and digits; no part ends where it would start
abbrev pub part : ℕ → Bool → ℕ → List ℕ → Part
part mark signed i [] = ends i false
part mark signed i (b ∷ t) = pick (eqb b mark) (digits_at (i + 1 + sign_bytes signed t) (drop (sign_bytes signed t) t)) (ends i false)

-- `.` and digits
abbrev pub point_at : ℕ → List ℕ → Part
point_at i s = part 46 false i (drop i s)

-- `E`, a sign or none, and digits
abbrev pub exponent_at : ℕ → List ℕ → Part
exponent_at i s = part 69 true i (drop i s)

-- digits alone, worth v, to the n-th byte
abbrev pub whole_scan : ℕ → ℕ → ℕ → ℕ → Scan
whole_scan at from n v =
    pick (ltb 0 from) (Bad 18 at (at + n))
    (pick (leb v 4294967295) (Token tok_number 0 at n at (at + n))
    (Bad 19 at (at + n)))

-- the digits end at n, worth v; then the point's part, then the exponent
abbrev pub number_of : ℕ → ℕ → ℕ → ℕ → Part → Part → Scan
number_of at from n v p e =
    pick p.bare (Bad 16 at (at + p.end))
    (pick e.bare (Bad 17 at (at + e.end))
    (pick (eqb e.end n) (whole_scan at from n v)
    (Token tok_number 0 at e.end at (at + e.end))))

abbrev pub digits_end : ℕ → List ℕ → ℕ
digits_end from s = from + span digit (drop from s)

abbrev pub number_scan : ℕ → ℕ → List ℕ → Scan
number_scan at from s =
    number_of at from (digits_end from s) (value 0 (drop from s))
    (point_at (digits_end from s) s)
    (exponent_at (point_at (digits_end from s) s).end s)
