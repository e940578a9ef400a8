-- Laws of `span`: a loop that stands at i is at the end, at a byte that fails, or goes one step on.
use Rattle.std.specs.Prelude.{ℕ, suc, ◌+◌, ◌<◌, ◌≤◌, List, [], ◌∷◌, Bool, true, false, ◌≡◌, length, drop, get_or}
use Rattle.std.proofs.Common.{le_refl, add-one, arith, drop-cons}
use Rattle.refal_text.specs.Pick.{pick}
use Rattle.refal_text.specs.Span.{span}

pub span_step : (p : ℕ → Bool) (s : List ℕ) (i : ℕ) → i < length s → p (get_or s i 0) ≡ true → i + 1 + span p (drop (i + 1) s) ≡ i + span p (drop i s)
span_step p s i h e = rw (drop-cons s i 0 h, e, add-one i) (omega arith)

-- a byte of the class at the front
pub span_some : (p : ℕ → Bool) (s : List ℕ) (i : ℕ) → i < length s → p (get_or s i 0) ≡ true → 0 < span p (drop i s)
span_some p s i h e = rw (drop-cons s i 0 h, e) (omega arith)

-- the bytes of the class are there
pub span_le : (p : ℕ → Bool) (s : List ℕ) → span p s ≤ length s
span_le p [] = le_refl 0
span_le p (b ∷ s) = go (p b) (span_le p s)
  where
    go : (t : Bool) → span p s ≤ length s → pick t (suc (span p s)) 0 ≤ suc (length s)
    go true h = omega arith
    go false h = omega arith
