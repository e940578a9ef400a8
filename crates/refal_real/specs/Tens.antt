-- Laws of digits as numbers: a run of digits without zeros at its ends is known by its number, also times powers of ten.
use Rattle.std.specs.Prelude.{ℕ, zero, suc, ◌+◌, ◌*◌, ◌-◌, ◌^◌, ◌≤◌, ◌<◌, Bool, true, false, List, [], ◌∷◌, ◌++◌, ◌≡◌, refl, eqb, length, replicate}
use Rattle.std.proofs.Common.{ap, sym, ◌∙◌, arith, add-zero, mul_left_comm, pow-suc, mul-le-mul_right, mul_assoc, mul_comm, add-mul, zero-mul, mul-one, eqb-true, ne_eqb, length-append, pow-add}
use Rattle.std.proofs.Math.Nat.{one-le-pow, eq_of_mul-eq-mul_right, pow-le-pow_right}
use Rattle.std.proofs.Math.Decide.{dec_le}
use Rattle.std.proofs.lemmas.Bool.{eqb-false}
use Rattle.refal_text.specs.Pick.{pick}
use Rattle.refal_real.specs.Value.{tens, num}
use Rattle.refal_real.specs.Form.{less, before, trim}

-- ---- powers of ten
pub tens_zero : tens 0 ≡ 1
unfolding tens
tens_zero = refl

pub tens_suc : (n : ℕ) → tens (suc n) ≡ 10 * tens n
unfolding tens
tens_suc n = pow-suc 10 n ∙ mul_comm (10 ^ n) 10

pub tens_add : (i j : ℕ) → tens (i + j) ≡ tens i * tens j
unfolding tens
tens_add i j = pow-add 10 i j

pub tens_pos : (n : ℕ) → 0 < tens n
unfolding tens
tens_pos n = one-le-pow n 10 (omega arith)

pub tens_up : (i j : ℕ) → i ≤ j → tens i ≤ tens j
unfolding tens
tens_up i j h = pow-le-pow_right (omega arith) h

-- ---- all bytes are digits
abbrev pub Digits : List ℕ → Type 0
Digits [] = Unit
Digits (b ∷ t) = (48 ≤ b) × (b ≤ 57) × Digits t

pub num_append : (s t : List ℕ) → num (s ++ t) ≡ num s * tens (length t) + num t
unfolding num
num_append [] t = omega (arith, zero-mul (tens (length t)))
num_append (b ∷ s) t =
    let ih = num_append s t in
    let l = length-append s t in
    let e : tens (length (s ++ t)) ≡ tens (length s) * tens (length t) = ap tens l ∙ tens_add (length s) (length t) in
    let a : (b - 48) * tens (length (s ++ t)) ≡ (b - 48) * tens (length s) * tens (length t) = ap (λ (x : ℕ). (b - 48) * x) e ∙ sym (mul_assoc (b - 48) (tens (length s)) (tens (length t))) in
    omega (arith, add-mul ((b - 48) * tens (length s)) (num s) (tens (length t)))

pub num_below : (s : List ℕ) → Digits s → num s < tens (length s)
unfolding num
num_below [] d = omega (arith, tens_zero)
num_below (b ∷ s) d =
    let ih = num_below s d.2 in
    omega (arith, tens_suc (length s), mul-le-mul_right (tens (length s)) (let h : b - 48 ≤ 9 = omega arith in h))

-- two runs of one length and one number are one
pub num_same : (s t : List ℕ) → length s ≡ length t → Digits s → Digits t → num s ≡ num t → s ≡ t
unfolding num
num_same [] [] l d e h = refl
num_same [] (c ∷ t) l d e h = absurd (omega arith)
num_same (b ∷ s) [] l d e h = absurd (omega arith)
num_same (b ∷ s) (c ∷ t) l d e h = go (dec_le b c) (dec_le c b) (num_same s t m d.2 e.2)
  where
    m : length s ≡ length t
    m = omega arith

    k : tens (length s) ≡ tens (length t)
    k = ap tens m

    g : (b - 48) * tens (length s) + num s ≡ (c - 48) * tens (length s) + num t
    g = h ∙ ap (λ (x : ℕ). (c - 48) * x + num t) (sym k)

    x : num s < tens (length s)
    x = num_below s d.2

    y : num t < tens (length s)
    y = rw k (num_below t e.2)

    go : Dec (b ≤ c) → Dec (c ≤ b) → (num s ≡ num t → s ≡ t) → b ∷ s ≡ c ∷ t
    go (yes p) (yes q) ih =
        let i : b ≡ c = omega arith in
        let j : num s ≡ num t = omega (arith, ap (λ (z : ℕ). (z - 48) * tens (length s)) i, g) in
        let r = ih j in
        cc
    go (no p) q ih = absurd (omega (arith, g, x, y, mul-le-mul_right (tens (length s)) (let z : suc (c - 48) ≤ b - 48 = omega arith in z)))
    go (yes p) (no q) ih = absurd (omega (arith, g, x, y, mul-le-mul_right (tens (length s)) (let z : suc (b - 48) ≤ c - 48 = omega arith in z)))

-- ---- no zero before
abbrev pub Led : List ℕ → Type 0
Led [] = Unit
Led (b ∷ t) = b ≡ 48 → ⊥

pub num_less : (s : List ℕ) → num (less s) ≡ num s
unfolding num less
num_less [] = refl
num_less (b ∷ t) = go (eqb b 48) refl (num_less t)
  where
    go : (x : Bool) → eqb b 48 ≡ x → num (less t) ≡ num t → num (pick x (less t) (b ∷ t)) ≡ (b - 48) * tens (length t) + num t
    go true e ih = let q : b - 48 ≡ 0 = omega (arith, eqb-true b 48 e) in ih ∙ rw q (sym (omega (arith, zero-mul (tens (length t)))))
    go false e ih = refl

pub digits_less : (s : List ℕ) → Digits s → Digits (less s)
unfolding less
digits_less [] d = tt
digits_less (b ∷ t) d = go (eqb b 48) (digits_less t d.2)
  where
    go : (x : Bool) → Digits (less t) → Digits (pick x (less t) (b ∷ t))
    go true ih = ih
    go false ih = d

pub led_less : (s : List ℕ) → Led (less s)
unfolding less
led_less [] = tt
led_less (b ∷ t) = go (eqb b 48) refl (led_less t)
  where
    go : (x : Bool) → eqb b 48 ≡ x → Led (less t) → Led (pick x (less t) (b ∷ t))
    go true e ih = ih
    go false e ih = eqb-false b 48 e

pub led_low : (b : ℕ) (t : List ℕ) → Digits (b ∷ t) → Led (b ∷ t) → tens (length t) ≤ num (b ∷ t)
unfolding num
led_low b t d l =
    let h : 1 ≤ b - 48 = go in
    omega (arith, mul-le-mul_right (tens (length t)) h)
  where
    go : 1 ≤ b - 48
    go = omega (arith, d.0, l)

-- ---- no zero behind
abbrev pub Ended : List ℕ → Type 0
Ended [] = Unit
Ended (b ∷ []) = b ≡ 48 → ⊥
Ended (b ∷ c ∷ t) = Ended (c ∷ t)

pub ended_less : (s : List ℕ) → Ended s → Ended (less s)
unfolding less
ended_less [] h = tt
ended_less (b ∷ []) h = rw (ne_eqb b 48 h) h
ended_less (b ∷ c ∷ t) h = go (eqb b 48) (ended_less (c ∷ t) h)
  where
    go : (x : Bool) → Ended (less (c ∷ t)) → Ended (pick x (less (c ∷ t)) (b ∷ c ∷ t))
    go true ih = ih
    go false ih = h

pub ended_trim : (s : List ℕ) → Ended (trim s)
unfolding trim
ended_trim [] = tt
ended_trim (b ∷ t) = go (trim t) (ended_trim t)
  where
    one : (x : Bool) → eqb b 48 ≡ x → Ended (pick x [] (b ∷ []))
    one true e = tt
    one false e = eqb-false b 48 e

    go : (r : List ℕ) → Ended r → Ended (before b r)
    go [] h = one (eqb b 48) refl
    go (c ∷ r) h = h

-- what is trimmed are zeros
abbrev pub zeros : ℕ → List ℕ
zeros n = replicate n 48

pub trim_split : (s : List ℕ) → (z : ℕ) × (s ≡ trim s ++ zeros z)
unfolding trim
trim_split [] = (0, refl)
trim_split (b ∷ t) = go (trim t) (trim_split t)
  where
    one : (z : ℕ) → t ≡ zeros z → (x : Bool) → eqb b 48 ≡ x → (y : ℕ) × (b ∷ t ≡ pick x [] (b ∷ []) ++ zeros y)
    one z h true e = let q = eqb-true b 48 e in (suc z, cc)
    one z h false e = (z, cc)

    go : (r : List ℕ) → (z : ℕ) × (t ≡ r ++ zeros z) → (z : ℕ) × (b ∷ t ≡ before b r ++ zeros z)
    go [] h = one h.0 h.1 (eqb b 48) refl
    go (c ∷ r) h = (h.0, ap (λ (l : List ℕ). b ∷ l) h.1)

pub num_zeros : (z : ℕ) → num (zeros z) ≡ 0
unfolding num
num_zeros zero = refl
num_zeros (suc z) = omega (arith, num_zeros z, zero-mul (tens (length (zeros z))))

pub trim_length : (s : List ℕ) → length (trim s) ≤ length s
trim_length s = let h = trim_split s in omega (arith, ap length h.1, length-append (trim s) (zeros h.0))

pub num_trim : (s : List ℕ) → num s ≡ num (trim s) * tens (length s - length (trim s))
num_trim s =
    let h = trim_split s in
    let z = h.0 in
    let l : length (zeros z) ≡ length s - length (trim s) = omega (arith, ap length h.1, length-append (trim s) (zeros z)) in
    ap num h.1 ∙ num_append (trim s) (zeros z) ∙ rw (num_zeros z, l) (add-zero _)

pub digits_trim : (s : List ℕ) → Digits s → Digits (trim s)
unfolding trim
digits_trim [] d = tt
digits_trim (b ∷ t) d = go (trim t) (digits_trim t d.2)
  where
    one : (x : Bool) → Digits (pick x [] (b ∷ []))
    one true = tt
    one false = (d.0, d.1, tt)

    go : (r : List ℕ) → Digits r → Digits (before b r)
    go [] h = one (eqb b 48)
    go (c ∷ r) h = (d.0, d.1, h)

-- a run with no zero behind is no number of tens
pub ended_rest : (b : ℕ) (t : List ℕ) → Digits (b ∷ t) → Ended (b ∷ t) → (q r : ℕ) × (num (b ∷ t) ≡ q * 10 + r) × (0 < r) × (r < 10)
unfolding num
ended_rest b [] d h = (0, b - 48, rw tens_zero (omega arith), go, omega (arith, d.1))
  where
    go : 0 < b - 48
    go = omega (arith, d.0, h)
ended_rest b (c ∷ t) d h =
    let i = ended_rest c t d.2 h in
    let e : (b - 48) * tens (length (c ∷ t)) ≡ (b - 48) * tens (length t) * 10 = ap (λ (x : ℕ). (b - 48) * x) (tens_suc (length t) ∙ mul_comm 10 (tens (length t))) ∙ sym (mul_assoc (b - 48) (tens (length t)) 10) in
    ((b - 48) * tens (length t) + i.0, i.1, omega (arith, e, i.2), i.3, i.4)

-- ---- runs with no zero before nor behind
pub record Clean (s : List ℕ) : Type 0 where
  pub digits : Digits s
  pub led : Led s
  pub ended : Ended s

pub clean : (s : List ℕ) → Digits s → Clean (less (trim s))
clean s d = record { digits = digits_less (trim s) (digits_trim s d); led = led_less (trim s); ended = ended_less (trim s) (ended_trim s) }

pub clean_pos : (b : ℕ) (t : List ℕ) → Clean (b ∷ t) → 0 < num (b ∷ t)
clean_pos b t k = omega (arith, led_low b t k.digits k.led, tens_pos (length t))

-- the longer has the larger number
longer : (b c : ℕ) (s t : List ℕ) → Clean (b ∷ s) → Clean (c ∷ t) → num (b ∷ s) ≡ num (c ∷ t) → length s < length t → ⊥
longer b c s t k m e h =
    let x : tens (suc (length s)) ≤ tens (length t) = tens_up (suc (length s)) (length t) h in
    omega (arith, led_low c t m.digits m.led, num_below (b ∷ s) k.digits, x, e)

same_clean : (b c : ℕ) (s t : List ℕ) → Clean (b ∷ s) → Clean (c ∷ t) → num (b ∷ s) ≡ num (c ∷ t) → b ∷ s ≡ c ∷ t
same_clean b c s t k m e = go (dec_le (length s) (length t)) (dec_le (length t) (length s))
  where
    go : Dec (length s ≤ length t) → Dec (length t ≤ length s) → b ∷ s ≡ c ∷ t
    go (yes p) (yes q) = num_same (b ∷ s) (c ∷ t) (omega arith) k.digits m.digits e
    go (no p) q = absurd (longer c b t s m k (sym e) (omega arith))
    go (yes p) (no q) = absurd (longer b c s t k m e (omega arith))

-- tens at the end of a run that has no zero behind
uneven : (b : ℕ) (s : List ℕ) → Clean (b ∷ s) → (x k : ℕ) → num (b ∷ s) ≡ x * tens (suc k) → ⊥
uneven b s c x k e =
    let r = ended_rest b s c.digits c.ended in
    let f : x * tens (suc k) ≡ 10 * (x * tens k) = ap (λ (y : ℕ). x * y) (tens_suc k) ∙ mul_left_comm x 10 (tens k) in
    omega (arith, r.2, r.3, r.4, e, f)

lower : (b c : ℕ) (s t : List ℕ) → Clean (b ∷ s) → Clean (c ∷ t) → (i k : ℕ) → num (b ∷ s) * tens i ≡ num (c ∷ t) * tens (i + k) → (b ∷ s ≡ c ∷ t) × (k ≡ 0)
lower b c s t u v i k e = go k (eq_of_mul-eq-mul_right (tens i) (tens_pos i) (num (b ∷ s)) (num (c ∷ t) * tens k) (e ∙ ap (λ (y : ℕ). num (c ∷ t) * y) (tens_add i k ∙ mul_comm (tens i) (tens k)) ∙ sym (mul_assoc (num (c ∷ t)) (tens k) (tens i))))
  where
    go : (k : ℕ) → num (b ∷ s) ≡ num (c ∷ t) * tens k → (b ∷ s ≡ c ∷ t) × (k ≡ 0)
    go zero h = (same_clean b c s t u v (h ∙ ap (λ (y : ℕ). num (c ∷ t) * y) tens_zero ∙ mul-one (num (c ∷ t))), refl)
    go (suc k) h = absurd (uneven b s u (num (c ∷ t)) k h)

-- such a run and a power are known by the number that they make
pub unique : (b c : ℕ) (s t : List ℕ) → Clean (b ∷ s) → Clean (c ∷ t) → (i j : ℕ) → num (b ∷ s) * tens i ≡ num (c ∷ t) * tens j → (b ∷ s ≡ c ∷ t) × (i ≡ j)
unique b c s t u v i j e = go (dec_le i j)
  where
    go : Dec (i ≤ j) → (b ∷ s ≡ c ∷ t) × (i ≡ j)
    go (yes p) =
        let q : j ≡ i + (j - i) = omega arith in
        let r = lower b c s t u v i (j - i) (e ∙ ap (λ (y : ℕ). num (c ∷ t) * tens y) q) in
        (r.0, omega (arith, r.1))
    go (no p) =
        let q : i ≡ j + (i - j) = omega arith in
        let r = lower c b t s v u j (i - j) (sym e ∙ ap (λ (y : ℕ). num (b ∷ s) * tens y) q) in
        (sym r.0, omega (arith, r.1))
