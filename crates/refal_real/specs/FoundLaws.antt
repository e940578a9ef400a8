-- Laws of what the inner functions answer.
use Rattle.std.specs.Prelude.{ℕ, zero, suc, ◌+◌, ◌-◌, ◌<◌, ltb, ℤ, pos, negsuc, ◌+ℤ◌, ◌-ℤ◌, int_lt, unsigned_abs, Bool, true, false, List, [], ◌∷◌, ◌≡◌, refl, eqb, leb, length, drop, get_or, Some, None}
use Rattle.std.proofs.Common.{ap, ap₂, sym, ◌∙◌, arith, lt-ltb, le-ltb, leb-true}
use Rattle.std.proofs.lemmas.Int.{ints}
use Rattle.refal_text.specs.Pick.{pick}
use Rattle.refal_real.specs.Parts.{Parts, parts, run, past, unsigned, fraction_at, past_fraction, down_at, exponent_digits}
use Rattle.refal_real.specs.Value.{num, all}
use Rattle.refal_real.specs.Form.{less, trim, form, normal}
use Rattle.refal_real.specs.Real.{is_real, has_form, is_refused, outcome}
use Rattle.refal_real.specs.Tens.{Digits, num_less, num_below, digits_less, tens_up}
use Rattle.refal_real.specs.Loops.{nine}
use Rattle.refal_real.specs.Found.{whole_of, places_of, spelled_of, scale_of, whole_at, fraction_in}
use Rattle.refal_real.specs.Told.{signed_power, exponent_of}
use Rattle.refal_real.specs.PartLaws.{whole_is, fraction_is}
use Rattle.refal_real.specs.Inner as P
use Rattle.refal_real.specs.Inner.{Places, By, Over}

-- ---- what is spelled
pub no_real : (x : Bool) (q : Places) → P.Other ≡ pick x (P.Real q) P.Other → x ≡ false
no_real true q e = let z : ◌≡◌ {A = ℕ} 0 1 = cc in absurd (omega arith)
no_real false q e = refl

is_real_lem : (x : Bool) (p q : Places) → P.Real p ≡ pick x (P.Real q) P.Other → (x ≡ true) × (p ≡ q)
is_real_lem true p q e = (refl, cc)
is_real_lem false p q e = let z : ◌≡◌ {A = ℕ} 0 1 = cc in absurd (omega arith)

-- ---- a real, whose parts stand at p
module _ (t : List ℕ) (p : Places) (e : P.Real p ≡ spelled_of t) where
  pub real : is_real t ≡ true
  real = (is_real_lem (is_real t) p (places_of t) e).0

  same : p ≡ places_of t
  same = (is_real_lem (is_real t) p (places_of t) e).1

  behind : past_fraction (past (unsigned t)) ≡ drop p.to t
  behind = ap past_fraction (whole_is t).1 ∙ (fraction_is t (whole_of t)).1 ∙ ap (λ (q : Places). drop q.to t) (sym same)

  parts_are : parts t ≡ record { minus = eqb (get_or t 0 0) 45; whole = whole_at t p; fraction = fraction_in t p; down = down_at (drop p.to t); exponent = exponent_digits (drop p.to t) }
  unfolding parts
  parts_are =
      let w : run (unsigned t) ≡ whole_at t p = (whole_is t).0 ∙ ap (whole_at t) (sym same) in
      let f : fraction_at (past (unsigned t)) ≡ fraction_in t p = ap fraction_at (whole_is t).1 ∙ (fraction_is t (whole_of t)).0 ∙ ap (fraction_in t) (sym same) in
      ap₂ (λ (x y : List ℕ). record { minus = eqb (get_or t 0 0) 45; whole = x; fraction = y; down = down_at (past_fraction (past (unsigned t))); exponent = exponent_digits (past_fraction (past (unsigned t))) }) w f
      ∙ ap (λ (x : List ℕ). record { minus = eqb (get_or t 0 0) 45; whole = whole_at t p; fraction = fraction_in t p; down = down_at x; exponent = exponent_digits x }) behind

  pub split_parts : (m : Bool) (w f x : List ℕ) → m ≡ eqb (get_or t 0 0) 45 → w ≡ whole_at t p → f ≡ fraction_in t p → x ≡ drop p.to t
      → parts t ≡ record { minus = m; whole = w; fraction = f; down = down_at x; exponent = exponent_digits x }
  split_parts m w f x em ew ef ex = parts_are ∙ rw (em, ew, ef, ex) refl

-- ---- an exponent's value
none_over : (down : Bool) (x : List ℕ) → None ≡ exponent_of (scale_of down x) → leb (length (less x)) 9 ≡ false
none_over down x = go (leb (length (less x)) 9)
  where
    go : (b : Bool) → None ≡ exponent_of (pick b (By down (num x)) Over) → b ≡ false
    go true q = let z : ◌≡◌ {A = ℕ} 0 1 = cc in absurd (omega arith)
    go false q = refl

some_by : (down : Bool) (x : List ℕ) (e : ℤ) → Some e ≡ exponent_of (scale_of down x) → (leb (length (less x)) 9 ≡ true) × (e ≡ signed_power down (num x))
some_by down x e = go (leb (length (less x)) 9)
  where
    go : (b : Bool) → Some e ≡ exponent_of (pick b (By down (num x)) Over) → (b ≡ true) × (e ≡ signed_power down (num x))
    go true q = (refl, cc)
    go false q = let z : ◌≡◌ {A = ℕ} 0 1 = cc in absurd (omega arith)

pub signed_abs : (down : Bool) (k : ℕ) → unsigned_abs (signed_power down k) ≡ k
signed_abs true zero = refl
signed_abs true (suc k) = refl
signed_abs false k = refl

pub small : (down : Bool) (x : List ℕ) (e : ℤ) → Digits x → Some e ≡ exponent_of (scale_of down x) → num x < 1000000000
small down x e d h =
    omega (arith, num_less x, num_below (less x) (digits_less x d), tens_up (length (less x)) 9 (leb-true (length (less x)) 9 (some_by down x e h).0), nine)

-- ---- what is answered of a text
pub refused_64 : (t : List ℕ) → is_real t ≡ false → is_refused 64 ≡ outcome t
unfolding outcome
refused_64 t e = rw e refl

module _ (t : List ℕ) (p : Parts) (r : is_real t ≡ true) (q : parts t ≡ p) where
  pub refused_65 : None ≡ exponent_of (scale_of p.down p.exponent) → is_refused 65 ≡ outcome t
  unfolding outcome
  refused_65 h = sym (rw (r, q, none_over p.down p.exponent h) refl)

  pub formed : (e : ℤ) → Some e ≡ exponent_of (scale_of p.down p.exponent) → has_form (normal p) ≡ outcome t
  unfolding outcome
  formed e h = sym (rw (r, q, (some_by p.down p.exponent e h).0) refl)

-- ---- a form, from its digits
-- a power that is u less d, by its sign and magnitude
power_is : (q : ℤ) (u d : ℕ) → q +ℤ pos d ≡ pos u → (int_lt q (pos 0) ≡ ltb u d) × (unsigned_abs q ≡ (u - d) + (d - u))
power_is (pos a) u d e = let h : a + d ≡ u = omega (arith, ints) in rw (le-ltb u d (omega arith), le-ltb a 0 (omega arith)) (refl, omega arith)
power_is (negsuc a) u d e = let h : u + (a + 1) ≡ d = omega (arith, ints) in rw (lt-ltb u d (omega arith)) (refl, omega arith)

form_is : (m : Bool) (D : List ℕ) (q : ℤ) (u d : ℕ) → 0 < length D → q +ℤ pos d ≡ pos u → record { minus = m; digits = D; down = int_lt q (pos 0); power = unsigned_abs q } ≡ form m D u d
form_is m [] q u d h e = absurd (omega arith)
form_is m (b ∷ D) q u d h e = let k = power_is q u d e in rw (k.0, k.1) refl

moved : (down : Bool) (k z n : ℕ) (q : ℤ) → q ≡ (signed_power down k +ℤ pos z) -ℤ pos n → q +ℤ pos (n + pick down k 0) ≡ pos (pick down 0 k + z)
moved true zero z n q h = omega (arith, ints)
moved true (suc k) z n q h = omega (arith, ints)
moved false k z n q h = omega (arith, ints)

-- D: the digits that the form keeps
module _ (p : Parts) (D : List ℕ) (d : D ≡ less (trim (all p))) where
  pub found_some : (e q : ℤ) → 0 < length D → e ≡ signed_power p.down (num p.exponent) → q ≡ (e +ℤ pos (length (all p) - length (trim (all p)))) -ℤ pos (length p.fraction)
      → record { minus = p.minus; digits = D; down = int_lt q (pos 0); power = unsigned_abs q } ≡ normal p
  found_some e q h v m =
      form_is p.minus D q _ _ h (moved p.down (num p.exponent) (length (all p) - length (trim (all p))) (length p.fraction) q (m ∙ ap (λ (x : ℤ). (x +ℤ pos (length (all p) - length (trim (all p)))) -ℤ pos (length p.fraction)) v))
      ∙ ap (λ (x : List ℕ). form p.minus x (pick p.down 0 (num p.exponent) + (length (all p) - length (trim (all p)))) (length p.fraction + pick p.down (num p.exponent) 0)) d
