-- Laws of values and forms: a form's value is that of the parts, and two parts have one value exactly when they have one form.
use Rattle.std.specs.Prelude.{ℕ, zero, suc, ◌+◌, ◌*◌, ◌-◌, ◌≤◌, ◌<◌, Bool, ◌≡◌, ◌↔◌}
use Rattle.std.proofs.Math.Bool.{true, false}
use mathlib.Core.List.{List, [], ◌∷◌}
use Rattle.std.proofs.Math.Path.{refl, ap, sym}
use Rattle.std.proofs.Common.{◌∙◌, mul_assoc, mul-pos}
use native.Mathlib.Omega.{arith}
use Rattle.std.proofs.Math.Nat.{zero-mul, eq_of_mul-eq-mul_right}
use borrow.Author.Tests.{ltb-true, ltb-false, lt-ltb, le-ltb}
use Rattle.std.proofs.Math.Dec.{ltb}
use Rattle.refal_text.specs.Pick.{pick}
use Rattle.refal_real.specs.Parts.{Parts}
use Rattle.refal_real.specs.Value.{tens, num, Whole, signed, Times, all, raised, lowered, Value}
use Rattle.refal_real.specs.Form.{less, trim, trailing, Form, form, normal, FormValue}
use Rattle.refal_real.specs.Tens.{Digits, Clean, clean, clean_pos, unique, num_less, num_trim, tens_add, tens_pos}

-- ---- whole numbers with a sign
abbrev nought : Whole
nought = record { above = 0; below = 0 }

signed_nought : (m : Bool) (x : ℕ) → x ≡ 0 → signed m x ≡ nought
signed_nought true x e = rw e refl
signed_nought false x e = rw e refl

nought_signed : (m : Bool) (x : ℕ) → signed m x ≡ nought → x ≡ 0
nought_signed true x e = ap (λ (w : Whole). w.below) e
nought_signed false x e = ap (λ (w : Whole). w.above) e

signed_same : (m k : Bool) (x y : ℕ) → 0 < x → signed m x ≡ signed k y → (m ≡ k) × (x ≡ y)
signed_same true true x y h e = (refl, ap (λ (w : Whole). w.below) e)
signed_same false false x y h e = (refl, ap (λ (w : Whole). w.above) e)
signed_same true false x y h e = let z : x ≡ 0 = ap (λ (w : Whole). w.below) e in absurd (omega arith)
signed_same false true x y h e = let z : x ≡ 0 = ap (λ (w : Whole). w.above) e in absurd (omega arith)

-- ---- products with powers of ten
-- a power more on both sides
pub times_more : (x y d u k : ℕ) → x * tens d ≡ y * tens u → x * tens (d + k) ≡ y * tens (u + k)
times_more x y d u k e =
    ap (λ (z : ℕ). x * z) (tens_add d k) ∙ sym (mul_assoc x (tens d) (tens k))
    ∙ ap (λ (z : ℕ). z * tens k) e
    ∙ mul_assoc y (tens u) (tens k) ∙ ap (λ (z : ℕ). y * z) (sym (tens_add u k))

-- or less
pub times_less : (x y d u k : ℕ) → x * tens (d + k) ≡ y * tens (u + k) → x * tens d ≡ y * tens u
times_less x y d u k e =
    eq_of_mul-eq-mul_right (tens k) (tens_pos k) (x * tens d) (y * tens u)
    (mul_assoc x (tens d) (tens k) ∙ ap (λ (z : ℕ). x * z) (sym (tens_add d k))
    ∙ e
    ∙ ap (λ (z : ℕ). y * z) (tens_add u k) ∙ sym (mul_assoc y (tens u) (tens k)))

-- a product that is nothing, and one that is something
nothing : (x d a : ℕ) → x * tens d ≡ num [] * tens a → x ≡ 0
unfolding num
nothing x d a e = eq_of_mul-eq-mul_right (tens d) (tens_pos d) x 0 (e ∙ zero-mul (tens a) ∙ sym (zero-mul (tens d)))

something : (b : ℕ) (s : List ℕ) (x d a : ℕ) → Clean (b ∷ s) → x * tens d ≡ num (b ∷ s) * tens a → 0 < x
something b s zero d a c e = absurd (omega (arith, zero-mul (tens d), mul-pos (clean_pos b s c) (tens_pos a)))
something b s (suc x) d a c e = omega arith

-- ---- digits and powers, in whole numbers and in forms
ltb_same : (u d v e : ℕ) → u + e ≡ v + d → ltb u d ≡ ltb v e
ltb_same u d v e h = go (ltb u d) refl
  where
    go : (x : Bool) → ltb u d ≡ x → x ≡ ltb v e
    go true p = sym (lt-ltb v e (omega (arith, ltb-true u d p)))
    go false p = sym (le-ltb v e (omega (arith, ltb-false u d p)))

power_same : (u d v e : ℕ) → ltb u d ≡ ltb v e → (u - d) + (d - u) ≡ (v - e) + (e - v) → u + e ≡ v + d
power_same u d v e h p = go (ltb u d) refl
  where
    go : (x : Bool) → ltb u d ≡ x → u + e ≡ v + d
    go true q = omega (arith, ltb-true u d q, ltb-true v e (sym h ∙ q))
    go false q = omega (arith, ltb-false u d q, ltb-false v e (sym h ∙ q))

module _ (n : ℕ) (m k : Bool) (u d v e x y : ℕ) where
  shapes : (s t : List ℕ) → Clean s → Clean t → x * tens d ≡ num s * tens (n + u) → y * tens e ≡ num t * tens (n + v)
      → signed m x ≡ signed k y ↔ form m s u d ≡ form k t v e
  shapes [] [] c g p q = (λ _. refl, λ _. signed_nought m x (nothing x d (n + u) p) ∙ sym (signed_nought k y (nothing y e (n + v) q)))
  shapes [] (b ∷ t) c g p q = (
    λ h.
        let z : y ≡ 0 = nought_signed k y (sym h ∙ signed_nought m x (nothing x d (n + u) p)) in
        absurd (omega (arith, something b t y e (n + v) g q)),
    λ h. let z : [] ≡ b ∷ t = ap (λ (f : Form). f.digits) h in let o : ◌≡◌ {A = ℕ} 0 1 = cc in absurd (omega arith),
  )
  shapes (a ∷ s) [] c g p q = (
    λ h.
        let z : x ≡ 0 = nought_signed m x (h ∙ signed_nought k y (nothing y e (n + v) q)) in
        absurd (omega (arith, something a s x d (n + u) c p)),
    λ h. let z : a ∷ s ≡ [] = ap (λ (f : Form). f.digits) h in let o : ◌≡◌ {A = ℕ} 0 1 = cc in absurd (omega arith),
  )
  shapes (a ∷ s) (b ∷ t) c g p q = (to, from)
    where
      to : signed m x ≡ signed k y → form m (a ∷ s) u d ≡ form k (b ∷ t) v e
      to h =
          let w = signed_same m k x y (something a s x d (n + u) c p) h in
          let i : num (a ∷ s) * tens (n + u + e) ≡ num (b ∷ t) * tens (n + v + d) =
          sym (times_more x (num (a ∷ s)) d (n + u) e p) ∙ ap (λ (z : ℕ). x * tens z) (let z : d + e ≡ e + d = omega arith in z)
          ∙ ap (λ (z : ℕ). z * tens (e + d)) w.1 ∙ times_more y (num (b ∷ t)) e (n + v) d q in
          let r = unique a b s t c g (n + u + e) (n + v + d) i in
          let j : u + e ≡ v + d = omega (arith, r.1) in
          let o : (u - d) + (d - u) ≡ (v - e) + (e - v) = omega arith in
          rw (w.0, r.0, ltb_same u d v e j, o) refl

      from : form m (a ∷ s) u d ≡ form k (b ∷ t) v e → signed m x ≡ signed k y
      from h =
          let j = power_same u d v e (ap (λ (f : Form). f.down) h) (ap (λ (f : Form). f.power) h) in
          let l : a ∷ s ≡ b ∷ t = ap (λ (f : Form). f.digits) h in
          let o : n + u + e ≡ n + v + d = omega arith in
          let i : x * tens (d + e) ≡ y * tens (e + d) =
          times_more x (num (a ∷ s)) d (n + u) e p ∙ ap (λ (z : ℕ). num (a ∷ s) * tens z) o
          ∙ ap (λ (z : List ℕ). num z * tens (n + v + d)) l ∙ sym (times_more y (num (b ∷ t)) e (n + v) d q) in
          let z : e + d ≡ d + e = omega arith in
          let xy : x ≡ y = eq_of_mul-eq-mul_right (tens (d + e)) (tens_pos (d + e)) x y (i ∙ ap (λ (z : ℕ). y * tens z) z) in
          rw (ap (λ (f : Form). f.minus) h, xy) refl

-- ---- parts: their digits, less the zeros, raised by those that trail
num_kept : (l : List ℕ) (a : ℕ) → num l * tens a ≡ num (less (trim l)) * tens (a + trailing l)
num_kept l a =
    let z = trailing l in
    ap (λ (x : ℕ). x * tens a) (num_trim l ∙ ap (λ (x : ℕ). x * tens z) (sym (num_less (trim l))))
    ∙ mul_assoc (num (less (trim l))) (tens z) (tens a)
    ∙ ap (λ (x : ℕ). num (less (trim l)) * x) (sym (tens_add z a) ∙ ap tens (let o : z + a ≡ a + z = omega arith in o))

kept : (n u d x : ℕ) (l : List ℕ) → x * tens d ≡ num l * tens (n + u) → x * tens d ≡ num (less (trim l)) * tens (n + (u + trailing l))
kept n u d x l e = e ∙ num_kept l (n + u) ∙ ap (λ (a : ℕ). num (less (trim l)) * tens a) (let o : n + u + trailing l ≡ n + (u + trailing l) = omega arith in o)

unkept : (n u d x : ℕ) (l : List ℕ) → x * tens d ≡ num (less (trim l)) * tens (n + (u + trailing l)) → x * tens d ≡ num l * tens (n + u)
unkept n u d x l e = e ∙ ap (λ (a : ℕ). num (less (trim l)) * tens a) (let o : n + (u + trailing l) ≡ n + u + trailing l = omega arith in o) ∙ sym (num_kept l (n + u))

pub same_parts : (n : ℕ) (p q : Parts) → Digits (all p) → Digits (all q) → (v w : Whole) → Value n p v → Value n q w → v ≡ w ↔ normal p ≡ normal q
same_parts n p q g h v w a b =
    let f = shapes n p.minus q.minus (raised p + trailing (all p)) (lowered p) (raised q + trailing (all q)) (lowered q) a.size b.size
    (less (trim (all p))) (less (trim (all q))) (clean (all p) g) (clean (all q) h)
    (kept n (raised p) (lowered p) a.size (all p) a.is) (kept n (raised q) (lowered q) b.size (all q) b.is) in
    (λ i. f.0 (sym a.sign ∙ i ∙ b.sign), λ i. a.sign ∙ f.1 i ∙ sym b.sign)

-- ---- a form's value
module _ (n : ℕ) (m : Bool) (u d : ℕ) (w : Whole) where
  abbrev Of : Form → Type 0
  Of f = FormValue n f w

  to_form : (s : List ℕ) → Times n m s u d w → Of (form m s u d)
  unfolding num
  to_form [] t = record {
    size = 0;
    sign = t.sign ∙ signed_nought m t.size (nothing t.size d (n + u) t.is);
    is = zero-mul (tens 0) ∙ sym (zero-mul (tens (n + 0)));
  }
  to_form (b ∷ s) t = record { size = t.size; sign = t.sign; is = go (ltb u d) refl }
    where
      go : (x : Bool) → ltb u d ≡ x → t.size * tens (pick x ((u - d) + (d - u)) 0) ≡ num (b ∷ s) * tens (n + pick x 0 ((u - d) + (d - u)))
      go true e =
          let l = ltb-true u d e in
          let i : d ≡ (u - d) + (d - u) + u = omega arith in
          let j : n + u ≡ n + 0 + u = omega arith in
          times_less t.size (num (b ∷ s)) ((u - d) + (d - u)) (n + 0) u
          (ap (λ (z : ℕ). t.size * tens z) (sym i) ∙ t.is ∙ ap (λ (z : ℕ). num (b ∷ s) * tens z) j)
      go false e =
          let l = ltb-false u d e in
          let i : d ≡ 0 + d = omega arith in
          let j : n + u ≡ n + ((u - d) + (d - u)) + d = omega arith in
          times_less t.size (num (b ∷ s)) 0 (n + ((u - d) + (d - u))) d
          (ap (λ (z : ℕ). t.size * tens z) (sym i) ∙ t.is ∙ ap (λ (z : ℕ). num (b ∷ s) * tens z) j)

  of_form : (s : List ℕ) → Of (form m s u d) → Times n m s u d w
  unfolding num
  of_form [] t = record {
    size = 0;
    sign = t.sign ∙ signed_nought false t.size (nothing t.size 0 (n + 0) t.is) ∙ sym (signed_nought m 0 refl);
    is = zero-mul (tens d) ∙ sym (zero-mul (tens (n + u)));
  }
  of_form (b ∷ s) t = record { size = t.size; sign = t.sign; is = go (ltb u d) refl t.is }
    where
      go : (x : Bool) → ltb u d ≡ x → t.size * tens (pick x ((u - d) + (d - u)) 0) ≡ num (b ∷ s) * tens (n + pick x 0 ((u - d) + (d - u)))
          → t.size * tens d ≡ num (b ∷ s) * tens (n + u)
      go true e h =
          let l = ltb-true u d e in
          let i : (u - d) + (d - u) + u ≡ d = omega arith in
          let j : n + 0 + u ≡ n + u = omega arith in
          ap (λ (z : ℕ). t.size * tens z) (sym i) ∙ times_more t.size (num (b ∷ s)) ((u - d) + (d - u)) (n + 0) u h ∙ ap (λ (z : ℕ). num (b ∷ s) * tens z) j
      go false e h =
          let l = ltb-false u d e in
          let i : 0 + d ≡ d = omega arith in
          let j : n + ((u - d) + (d - u)) + d ≡ n + u = omega arith in
          ap (λ (z : ℕ). t.size * tens z) (sym i) ∙ times_more t.size (num (b ∷ s)) 0 (n + ((u - d) + (d - u))) d h ∙ ap (λ (z : ℕ). num (b ∷ s) * tens z) j

pub value_form : (n : ℕ) (p : Parts) (w : Whole) → Value n p w ↔ FormValue n (normal p) w
value_form n p w = (
  λ v. to_form n p.minus (raised p + trailing (all p)) (lowered p) w (less (trim (all p)))
      (record { size = v.size; sign = v.sign; is = kept n (raised p) (lowered p) v.size (all p) v.is }),
  λ v. go (of_form n p.minus (raised p + trailing (all p)) (lowered p) w (less (trim (all p))) v),
)
  where
    go : Times n p.minus (less (trim (all p))) (raised p + trailing (all p)) (lowered p) w → Value n p w
    go t = record { size = t.size; sign = t.sign; is = unkept n (raised p) (lowered p) t.size (all p) t.is }

-- ---- a power of ten that is large enough
pub large : (n : ℕ) (p : Parts) → lowered p ≤ n + raised p → (w : Whole) × Value n p w
large n p h = (
  signed p.minus (num (all p) * tens (n + raised p - lowered p)),
  record {
    size = num (all p) * tens (n + raised p - lowered p);
    sign = refl;
    is = mul_assoc (num (all p)) (tens (n + raised p - lowered p)) (tens (lowered p))
        ∙ ap (λ (x : ℕ). num (all p) * x) (sym (tens_add (n + raised p - lowered p) (lowered p)) ∙ ap tens (let o : n + raised p - lowered p + lowered p ≡ n + raised p = omega arith in o));
  },
)
