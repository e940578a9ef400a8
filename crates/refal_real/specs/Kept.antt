-- Laws of the zeros that lead digits and that trail them.
use Rattle.std.specs.Prelude.{ℕ, suc, ◌<◌, ◌≤◌, ◌-◌, Bool, true, false, ◌≡◌, eqb, length, take, drop, get_or}
use mathlib.Core.List.{List, [], ◌∷◌, ◌++◌, append-nil}
use Rattle.std.proofs.Math.Path.{refl, ap, sym}
use Rattle.std.proofs.Common.{◌∙◌, arith, ne_eqb, length-append, take-suc, take_all}
use Rattle.refal_text.specs.Pick.{pick}
use Rattle.refal_real.specs.Form.{less, before, trim}

-- ---- zeros that lead
pub less_none : less [] ≡ []
unfolding less
less_none = refl

pub less_zero : (s : List ℕ) → less (48 ∷ s) ≡ less s
unfolding less
less_zero s = refl

pub less_digit : (b : ℕ) (s : List ℕ) → (b ≡ 48 → ⊥) → less (b ∷ s) ≡ b ∷ s
unfolding less
less_digit b s h = rw (ne_eqb b 48 h) refl

-- ---- zeros that trail
pub trim_none : trim [] ≡ []
unfolding trim
trim_none = refl

pub trim_zero : (s : List ℕ) → trim (s ++ (48 ∷ [])) ≡ trim s
unfolding trim
trim_zero [] = refl
trim_zero (b ∷ s) = rw (trim_zero s) refl

pub trim_digit : (s : List ℕ) (b : ℕ) → (b ≡ 48 → ⊥) → trim (s ++ (b ∷ [])) ≡ s ++ (b ∷ [])
unfolding trim
trim_digit [] b h = rw (ne_eqb b 48 h) refl
trim_digit (c ∷ []) b h = rw (ne_eqb b 48 h) refl
trim_digit (c ∷ d ∷ s) b h = rw (trim_digit (d ∷ s) b h) refl

-- ---- a digit at an end of a slice
pub lead_zero : (s : List ℕ) → 1 ≤ length s → get_or s 0 0 ≡ 48 → less (take (length s - 1) (drop 1 s)) ≡ less s
lead_zero [] h e = absurd (omega arith)
lead_zero (b ∷ s) h e = let l : length (b ∷ s) - 1 ≡ length s = omega arith in rw (l, take_all (length s) s (omega arith), e) (sym (less_zero s))

pub lead_digit : (s : List ℕ) → 1 ≤ length s → (get_or s 0 0 ≡ 48 → ⊥) → s ≡ less s
lead_digit [] h e = absurd (omega arith)
lead_digit (b ∷ s) h e = sym (less_digit b s e)

pub lead_none : (s : List ℕ) → length s < 1 → s ≡ less s
lead_none [] h = sym less_none
lead_none (b ∷ s) h = absurd (omega arith)

ends : (s : List ℕ) → 1 ≤ length s → s ≡ take (length s - 1) s ++ (get_or s (length s - 1) 0 ∷ [])
ends s h =
    let l : suc (length s - 1) ≡ length s = omega arith in
    sym (sym (take-suc s (length s - 1) 0 (omega arith)) ∙ ap (λ (n : ℕ). take n s) l ∙ take_all (length s) s (omega arith))

pub trail_zero : (s : List ℕ) → 1 ≤ length s → get_or s (length s - 1) 0 ≡ 48 → trim (take (length s - 1) s) ≡ trim s
trail_zero s h e = sym (ap trim (ends s h) ∙ ap (λ (b : ℕ). trim (take (length s - 1) s ++ (b ∷ []))) e ∙ trim_zero (take (length s - 1) s))

pub trail_digit : (s : List ℕ) → 1 ≤ length s → (get_or s (length s - 1) 0 ≡ 48 → ⊥) → s ≡ trim s
trail_digit s h e = ends s h ∙ sym (trim_digit (take (length s - 1) s) (get_or s (length s - 1) 0) e) ∙ sym (ap trim (ends s h))

pub trail_none : (s : List ℕ) → length s < 1 → s ≡ trim s
trail_none [] h = sym trim_none
trail_none (b ∷ s) h = absurd (omega arith)

-- ---- two runs of digits as one
pub trim_append_some : (w f : List ℕ) → 0 < length (trim f) → trim (w ++ f) ≡ w ++ trim f
unfolding trim
trim_append_some [] f h = refl
trim_append_some (b ∷ w) f h = rw (trim_append_some w f h) (go (w ++ trim f) (let l = length-append w (trim f) in let z : 0 < length (w ++ trim f) = omega arith in z))
  where
    go : (r : List ℕ) → 0 < length r → before b r ≡ b ∷ r
    go [] h = absurd (omega arith)
    go (c ∷ r) h = refl

pub trim_append_none : (w f : List ℕ) → length (trim f) ≡ 0 → trim (w ++ f) ≡ trim w
unfolding trim
trim_append_none [] f h = go (trim f) h
  where
    go : (r : List ℕ) → length r ≡ 0 → r ≡ []
    go [] h = refl
    go (c ∷ r) h = absurd (omega arith)
trim_append_none (b ∷ w) f h = rw (trim_append_none w f h) refl

pub less_append_some : (w r : List ℕ) → 0 < length (less w) → less (w ++ r) ≡ less w ++ r
unfolding less
less_append_some [] r h = absurd (omega arith)
less_append_some (b ∷ w) r h = go (eqb b 48) (less_append_some w r) h
  where
    go : (x : Bool) → (0 < length (less w) → less (w ++ r) ≡ less w ++ r) → 0 < length (pick x (less w) (b ∷ w)) → pick x (less (w ++ r)) (b ∷ (w ++ r)) ≡ pick x (less w) (b ∷ w) ++ r
    go true ih k = ih k
    go false ih k = refl

pub less_append_none : (w r : List ℕ) → length (less w) ≡ 0 → less (w ++ r) ≡ less r
unfolding less
less_append_none [] r h = refl
less_append_none (b ∷ w) r h = go (eqb b 48) (less_append_none w r) h
  where
    go : (x : Bool) → (length (less w) ≡ 0 → less (w ++ r) ≡ less r) → length (pick x (less w) (b ∷ w)) ≡ 0 → pick x (less (w ++ r)) (b ∷ (w ++ r)) ≡ less r
    go true ih k = ih k
    go false ih k = absurd (omega arith)

-- ---- the ends of two runs, each known by itself
none : (x : List ℕ) → length x ≡ 0 → x ≡ []
none [] h = refl
none (b ∷ x) h = absurd (omega arith)

pub lead_some : (w f x : List ℕ) → x ≡ less w → 1 ≤ length x → x ++ f ≡ less (w ++ f)
lead_some w f x e h = sym (less_append_some w f (omega (arith, ap length e)) ∙ ap (λ (l : List ℕ). l ++ f) (sym e))

pub lead_both : (w f x y : List ℕ) → x ≡ less w → length x ≡ 0 → y ≡ less f → x ++ y ≡ less (w ++ f)
lead_both w f x y e h g = ap (λ (l : List ℕ). l ++ y) (none x h) ∙ g ∙ sym (less_append_none w f (omega (arith, ap length e)))

pub trail_some : (w f y : List ℕ) → y ≡ trim f → 1 ≤ length y → w ++ y ≡ trim (w ++ f)
trail_some w f y e h = sym (trim_append_some w f (omega (arith, ap length e)) ∙ ap (λ (l : List ℕ). w ++ l) (sym e))

pub trail_both : (w f x y : List ℕ) → y ≡ trim f → length y ≡ 0 → x ≡ trim w → x ++ y ≡ trim (w ++ f)
trail_both w f x y e h g = ap (λ (l : List ℕ). x ++ l) (none y h) ∙ append-nil x ∙ g ∙ sym (trim_append_none w f (omega (arith, ap length e)))
