-- Laws of UTF-8: the count of leading ones, the ways out of `decode` and `ill_formed`, and that a character lies within its bytes.
use Rattle.std.specs.Prelude.{ℕ, zero, suc, ◌+◌, ◌-◌, ◌<◌, ◌≤◌, Bool, true, false, ◌&&◌, List, [], ◌∷◌, ◌≡◌, refl, leb, ltb, eqb, length, take, drop, get_or, Option, Some, None, IfSome}
use Rattle.std.proofs.Common.{arith, zero-add, add-zero, suc-add, eqb-true, eq-eqb, ne_eqb, ltb-true, true≢false, ap, sym, ◌∙◌, eqb→eq, drop_of_length-le, length-drop, get_or-drop, drop-cons, drop-drop, take_all}
use Rattle.std.proofs.Math.Decide.{dec_le}
use Rattle.std.specs.Int.Count.{count_leading_zeros}
use Rattle.std.proofs.Math.ListN.{get_or-eq_default}
use Rattle.std.proofs.lemmas.List.{get_or_read}
use Rattle.refal_rows.specs.Tests.{each_below, and_right, range_lo, range_hi}
use Rattle.refal_text.specs.Pick.{split}
use Rattle.refal_text.specs.Span.{span}
use Rattle.refal_text.specs.SpanLaws.{span_some, span_le}
use Rattle.refal_text.specs.Utf8.{char, ill, ascii, cont, leads, second, by_lead, char_of, decode, go_on, well_to}
use Rattle.refal_text.specs.Told.{char_told}
use Rattle.refal_text.specs.declared.Char.{Char}

-- the character at a place
pub decode_at : (s : List ℕ) (at : ℕ) → at < length s → decode (drop at s) ≡ char_of (get_or s at 0) (get_or s (at + 1) 0) (get_or s (at + 2) 0) (get_or s (at + 3) 0)
unfolding decode
decode_at s at h =
    let i : suc at + 0 ≡ at + 1 = omega arith in
    let j : suc at + 1 ≡ at + 2 = omega arith in
    let k : suc at + 2 ≡ at + 3 = omega arith in
    rw (drop-cons s at 0 h, get_or-drop (suc at) s 0 0, get_or-drop (suc at) s 1 0, get_or-drop (suc at) s 2 0, i, j, k)

pub decode_past : (s : List ℕ) (at : ℕ) → length s ≤ at → ill ≡ decode (drop at s)
unfolding decode
decode_past s at h = rw (drop_of_length-le s h)

-- ---- the count of leading ones, by the machine's count of the complement's leading zeros
lead_test : ℕ → Bool
lead_test a = eqb (count_leading_zeros 8 (255 - a)) (leads a)

pub leads_is : (a : ℕ) → a < 256 → count_leading_zeros 8 (255 - a) ≡ leads a
unfolding lead_test count_leading_zeros
leads_is a h = eqb→eq _ _ (each_below lead_test 256 tt a h)

-- ---- how far s is well-formed
pub well_skip : (k : ℕ) (s : List ℕ) → k ≤ length s → well_to k s ≡ k + well_to 0 (drop k s)
unfolding well_to
well_skip zero s h = sym (zero-add _)
well_skip (suc k) [] h = absurd (omega arith)
well_skip (suc k) (b ∷ s) h = ap suc (well_skip k s (omega arith)) ∙ sym (suc-add k (well_to 0 (drop k s)))

-- a scan that stands at i: the end, no character, and a character of n bytes
pub well_end : (s : List ℕ) (i : ℕ) → length s ≤ i → i + well_to 0 (drop i s) ≡ i
unfolding well_to
well_end s i h = rw (drop_of_length-le s h) (add-zero i)

well_here : (s : List ℕ) (i : ℕ) → i < length s → well_to 0 (drop i s) ≡ go_on (decode (drop i s)).len (λ k. well_to k (drop (suc i) s))
unfolding well_to
well_here s i h = rw (drop-cons s i 0 h)

pub well_stop : (s : List ℕ) (i : ℕ) → i < length s → (decode (drop i s)).len ≡ 0 → i + well_to 0 (drop i s) ≡ i
well_stop s i h e = rw (well_here s i h, e) (add-zero i)

pub well_step : (s : List ℕ) (i n : ℕ) → i < length s → (decode (drop i s)).len ≡ n → (n ≡ 0 → ⊥) → i + n ≤ length s → i + n + well_to 0 (drop (i + n) s) ≡ i + well_to 0 (drop i s)
well_step s i zero h e z l = absurd (z refl)
well_step s i (suc n) h e z l =
    let g : n ≤ length (drop (suc i) s) = rw length-drop (omega arith) in
    let j : suc i + n ≡ i + suc n = omega arith in
    let w : well_to n (drop (suc i) s) ≡ n + well_to 0 (drop (i + suc n) s) = well_skip n (drop (suc i) s) g ∙ rw (drop-drop, j) refl in
    let q : well_to 0 (drop i s) ≡ suc (well_to n (drop (suc i) s)) = rw (well_here s i h, e) refl in
    omega arith

-- a byte below 128 is a character
pub decode_ascii : (b : ℕ) (s : List ℕ) → ltb b 128 ≡ true → decode (b ∷ s) ≡ char b 1
unfolding decode
decode_ascii b s h = rw h

-- a run of bytes below 128 is well-formed
pub well_ascii : (s : List ℕ) → well_to 0 s ≡ span ascii s + well_to 0 (drop (span ascii s) s)
unfolding well_to
well_ascii [] = refl
well_ascii (b ∷ s) = split P (ascii b) (suc (span ascii s)) 0 (λ h. rw (decode_ascii b s h) (ap suc (well_ascii s) ∙ sym (suc-add (span ascii s) _))) (λ h. sym (zero-add _))
  where
    P : ℕ → Type 0
    P n = well_to 0 (b ∷ s) ≡ n + well_to 0 (drop n (b ∷ s))

pub well_run : (s : List ℕ) (i r : ℕ) → r ≡ i + span ascii (drop i s) → r + well_to 0 (drop r s) ≡ i + well_to 0 (drop i s)
well_run s i r e =
    let w = well_ascii (drop i s) in
    let d : drop (span ascii (drop i s)) (drop i s) ≡ drop r s = drop-drop (span ascii (drop i s)) i s ∙ ap (λ (k : ℕ). drop k s) (sym e) in
    let v : well_to 0 (drop i s) ≡ span ascii (drop i s) + well_to 0 (drop r s) = w ∙ ap (λ (l : List ℕ). span ascii (drop i s) + well_to 0 l) d in
    omega arith

-- such a run that begins at i is not empty, and is passed
pub well_ascii_run : (s : List ℕ) (i r : ℕ) → i < length s → ascii (get_or s i 0) ≡ true → r ≡ span ascii (take (length s - i) (drop i s))
    → (0 < r) × (i + r ≤ length s) × (i + r + well_to 0 (drop (i + r) s) ≡ i + well_to 0 (drop i s))
well_ascii_run s i r h t e =
    let f : r ≡ span ascii (drop i s) = e ∙ ap (λ (l : List ℕ). span ascii l) (take_all (length s - i) (drop i s) (omega (arith, length-drop i s))) in
    let some = span_some ascii s i h t in
    let most = span_le ascii (drop i s) in
    (omega arith, omega (arith, length-drop i s), well_run s i (i + r) (ap (λ (k : ℕ). i + k) f))

-- ---- what table 3-7 says of the second byte
pub record Second (a b : ℕ) : Type 0 where
  pub lo : 128 ≤ b
  pub hi : b ≤ 191
  pub e0 : a ≡ 224 → 160 ≤ b
  pub ed : a ≡ 237 → b ≤ 159
  pub f0 : a ≡ 240 → 144 ≤ b
  pub f4 : a ≡ 244 → b ≤ 143

neq : (a n : ℕ) → eqb a n ≡ false → a ≡ n → ⊥
neq a n h e = let z : true ≡ false = sym (eq-eqb a n e) ∙ h in absurd (true≢false z)

pub second_is : (a b : ℕ) → second a b ≡ true → Second a b
second_is a b =
    split P (eqb a 224) _ _ (λ t h. let e : a ≡ 224 = eqb-true _ _ t in let l = range_lo 160 b 191 h in let u = range_hi 160 b 191 h in
    record { lo = omega arith; hi = u; e0 = λ _. l; ed = λ i. absurd (omega arith); f0 = λ i. absurd (omega arith); f4 = λ i. absurd (omega arith) }) (λ n₀.
    split P (eqb a 237) _ _ (λ t h. let e : a ≡ 237 = eqb-true _ _ t in let l = range_lo 128 b 159 h in let u = range_hi 128 b 159 h in
    record { lo = l; hi = omega arith; e0 = λ i. absurd (omega arith); ed = λ _. u; f0 = λ i. absurd (omega arith); f4 = λ i. absurd (omega arith) }) (λ n₁.
    split P (eqb a 240) _ _ (λ t h. let e : a ≡ 240 = eqb-true _ _ t in let l = range_lo 144 b 191 h in let u = range_hi 144 b 191 h in
    record { lo = omega arith; hi = u; e0 = λ i. absurd (omega arith); ed = λ i. absurd (omega arith); f0 = λ _. l; f4 = λ i. absurd (omega arith) }) (λ n₂.
    split P (eqb a 244) _ _ (λ t h. let e : a ≡ 244 = eqb-true _ _ t in let l = range_lo 128 b 143 h in let u = range_hi 128 b 143 h in
    record { lo = l; hi = omega arith; e0 = λ i. absurd (omega arith); ed = λ i. absurd (omega arith); f0 = λ i. absurd (omega arith); f4 = λ _. u }) (λ n₃ h.
    record {
      lo = range_lo 128 b 191 h;
      hi = range_hi 128 b 191 h;
      e0 = λ i. absurd (neq _ _ n₀ i);
      ed = λ i. absurd (neq _ _ n₁ i);
      f0 = λ i. absurd (neq _ _ n₂ i);
      f4 = λ i. absurd
          (neq _ _ n₃ i);
    }))))
  where
    P : Bool → Type 0
    P t = t ≡ true → Second a b

-- ---- a character lies within its list
cont_in : (s : List ℕ) (i : ℕ) → 128 ≤ get_or s i 0 → i < length s
cont_in s i h = go (dec_le (suc i) (length s))
  where
    go : Dec (suc i ≤ length s) → i < length s
    go (yes l) = l
    go (no l) =
        let d : get_or s i 0 ≡ 0 = get_or-eq_default s 0 (omega arith) in
        absurd (omega arith)

pub decode_in : (s : List ℕ) (at : ℕ) → at < length s → at + (decode (drop at s)).len ≤ length s
decode_in s at h = rw (decode_at s at h) (
    split P (eqb n 0) _ _ (λ _. omega arith) (λ _.
    split P (eqb n 2) _ _ (λ _. split P (leb 194 a && cont b) _ _ (λ u. let l = cont_in s (at + 1) (range_lo 128 b 191 (and_right (leb 194 a) (cont b) u)) in
    omega arith) (λ _. omega arith)) (λ _.
    split P (eqb n 3) _ _ (λ _. split P (second a b && cont c) _ _ (λ u. let l = cont_in s (at + 2) (range_lo 128 c 191 (and_right (second a b) (cont c) u)) in
    omega arith) (λ _. omega arith)) (λ _.
    split P (eqb n 4) _ _
    (λ _. split P ((leb a 244 && second a b) && (cont c && cont d)) _ _
    (λ u. let l = cont_in s (at + 3) (range_lo 128 d 191 (and_right (cont c) (cont d) (and_right (leb a 244 && second a b) (cont c && cont d) u))) in
    omega arith) (λ _. omega arith)) (λ _.
    omega arith)))))
  where
    a : ℕ
    a = get_or s at 0

    b : ℕ
    b = get_or s (at + 1) 0

    c : ℕ
    c = get_or s (at + 2) 0

    d : ℕ
    d = get_or s (at + 3) 0

    n : ℕ
    n = leads a

    P : Char → Type 0
    P x = at + x.len ≤ length s

-- ---- the character at a place, by the count of ones that its lead byte begins with
module _ (s : List ℕ) (at n : ℕ) (h : at < length s) (e : n ≡ leads (get_or s at 0)) where
  lead_by : decode (drop at s) ≡ by_lead n (get_or s at 0) (get_or s (at + 1) 0) (get_or s (at + 2) 0) (get_or s (at + 3) 0)
  lead_by = decode_at s at h ∙ ap (λ (k : ℕ). by_lead k (get_or s at 0) (get_or s (at + 1) 0) (get_or s (at + 2) 0) (get_or s (at + 3) 0)) (sym e)

  pub char_none : (n ≡ 0 → ⊥) → (n ≡ 2 → ⊥) → (n ≡ 3 → ⊥) → (n ≡ 4 → ⊥) → ill ≡ decode (drop at s)
  char_none n0 n2 n3 n4 = sym (lead_by ∙ simp (ne_eqb _ _ n0, ne_eqb _ _ n2, ne_eqb _ _ n3, ne_eqb _ _ n4))

-- the same, where the lead byte that was read is a, and its count m is n, or none that leads a character
module _ (s : List ℕ) (at a m : ℕ) (h : true ≡ ltb at (length s)) (g : a ≡ get_or s at a) (e : m ≡ leads a) where
  within : at < length s
  within = ltb-true _ _ (sym h)

  first : a ≡ get_or s at 0
  first = get_or_read s at a within g 0

  count : m ≡ leads (get_or s at 0)
  count = e ∙ ap (λ (x : ℕ). leads x) first

  pub decode_by : (n : ℕ) → m ≡ n → decode (drop at s) ≡ by_lead n a (get_or s (at + 1) 0) (get_or s (at + 2) 0) (get_or s (at + 3) 0)
  decode_by n q =
      lead_by s at n within (sym q ∙ count) ∙ ap (λ (x : ℕ). by_lead n x (get_or s (at + 1) 0) (get_or s (at + 2) 0) (get_or s (at + 3) 0)) (sym first)

  pub decode_none : (m ≡ 0 → ⊥) → (m ≡ 2 → ⊥) → (m ≡ 3 → ⊥) → (m ≡ 4 → ⊥) → ill ≡ decode (drop at s)
  decode_none = char_none s at m within count

  -- a character so found lies within
  pub found_within : (n : ℕ) → m ≡ n → (r : Option Char) → char_told r ≡ by_lead n a (get_or s (at + 1) 0) (get_or s (at + 2) 0) (get_or s (at + 3) 0)
      → IfSome r (λ c. 1 ≤ c.len) → IfSome r (λ c. (1 ≤ c.len) × (at + c.len ≤ length s))
  found_within n q None e k = k
  found_within n q (Some c) e k = let i = decode_in s at within in let j : (decode (drop at s)).len ≡ c.len = ap (λ (x : Char). x.len) (decode_by n q ∙ sym e) in (k, omega arith)
