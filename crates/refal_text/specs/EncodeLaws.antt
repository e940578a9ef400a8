-- Laws of characters: what is encoded decodes to it, and what decoding gives is a scalar value.
use Rattle.std.specs.Prelude.{ℕ, suc, ◌+◌, ◌-◌, ◌*◌, ◌/◌, ◌%◌, ◌<◌, ◌≤◌, Bool, true, false, ◌&&◌, List, [], ◌∷◌, ◌++◌, ◌≡◌, leb, ltb, eqb, length, get_or}
use Rattle.std.proofs.Common.{arith, lt-ltb, le-ltb, le-leb, ltb-true, ltb-false, leb-true, eqb-true, true≢false, sym, ◌∙◌}
use Rattle.std.proofs.Math.Decide.{dec_le}
use Rattle.std.proofs.lemmas.Bool.{lt-leb}
use Rattle.refal_rows.specs.Tests.{and_left, and_right, range_lo, range_hi}
use Rattle.refal_text.specs.Pick.{split}
use Rattle.refal_text.specs.Encode.{enc2, enc3, enc4, encode, Scalar}
use Rattle.refal_text.specs.Utf8.{char, ill, cont, leads, second, code2, code3, code4, char_of, decode}
use Rattle.refal_text.specs.Utf8Laws.{decode_ascii, Second, second_is}
use Rattle.refal_text.specs.declared.Char.{Char}

cont_of : (y : ℕ) → y < 64 → cont (128 + y) ≡ true
cont_of y h = simp (le-leb 128 (128 + y) (omega arith), le-leb (128 + y) 191 (omega arith))

range_is : (a b c : ℕ) → a ≤ b → b ≤ c → leb a b && leb b c ≡ true
range_is a b c l h = simp (le-leb a b l, le-leb b c h)

-- a second byte within the table's bounds
pub is_second : (a b : ℕ) → Second a b → second a b ≡ true
is_second a b h =
    split P (eqb a 224) _ _ (λ t. range_is 160 b 191 (h.e0 (eqb-true _ _ t)) h.hi) (λ _.
    split P (eqb a 237) _ _ (λ t. range_is 128 b 159 h.lo (h.ed (eqb-true _ _ t))) (λ _.
    split P (eqb a 240) _ _ (λ t. range_is 144 b 191 (h.f0 (eqb-true _ _ t)) h.hi) (λ _.
    split P (eqb a 244) _ _ (λ t. range_is 128 b 143 h.lo (h.f4 (eqb-true _ _ t))) (λ _.
    range_is 128 b 191 h.lo h.hi))))
  where
    P : Bool → Type 0
    P t = t ≡ true

dec2 : (x : ℕ) (r : List ℕ) → 128 ≤ x → x < 2048 → decode (enc2 x ++ r) ≡ char x 2
unfolding decode
dec2 x r lo hi =
    let e : code2 (192 + x / 64) (128 + x % 64) ≡ x = omega arith in
    simp (
      le-ltb (192 + x / 64) 128 (omega arith),
      le-ltb (192 + x / 64) 192 (omega arith),
      lt-ltb (192 + x / 64) 224 (omega arith),
      le-leb 194 (192 + x / 64) (omega arith),
      cont_of
          (x % 64) (omega arith),
      e,
    )

below_surrogates : (x : ℕ) → leb 55296 x && leb x 57343 ≡ false → 224 + x / 4096 ≡ 237 → x < 65536 → 128 + x / 64 % 64 ≤ 159
below_surrogates x p e h = go (dec_le 55296 x) (dec_le x 57343)
  where
    go : Dec (55296 ≤ x) → Dec (x ≤ 57343) → 128 + x / 64 % 64 ≤ 159
    go (no l) d = omega arith
    go (yes l) (no u) = absurd (omega arith)
    go (yes l) (yes u) = let z : true ≡ false = sym (range_is 55296 x 57343 l u) ∙ p in absurd (true≢false z)

dec3 : (x : ℕ) (r : List ℕ) → 2048 ≤ x → x < 65536 → leb 55296 x && leb x 57343 ≡ false → decode (enc3 x ++ r) ≡ char x 3
unfolding decode
dec3 x r lo hi p =
    let e : code3 (224 + x / 4096) (128 + x / 64 % 64) (128 + x % 64) ≡ x = omega arith in
    let s : Second (224 + x / 4096)
    (128 + x / 64 % 64) = record {
      lo = omega arith;
      hi = omega arith;
      e0 = λ i. omega arith;
      ed = λ i. below_surrogates x p i hi;
      f0 = λ i. absurd (omega arith);
      f4 = λ i. absurd
          (omega arith);
    } in
    simp (
      le-ltb (224 + x / 4096) 128 (omega arith),
      le-ltb (224 + x / 4096) 192 (omega arith),
      le-ltb (224 + x / 4096) 224 (omega arith),
      lt-ltb (224 + x / 4096) 240
          (omega arith),
      is_second _ _ s,
      cont_of (x % 64) (omega arith),
      e,
    )

up : (x n : ℕ) → x / 262144 ≤ n → x / 4096 ≡ x / 262144 * 64 + x / 4096 % 64
up x n h = omega arith

mid : (x : ℕ) → x / 64 ≡ x / 4096 * 64 + x / 64 % 64
mid x = omega arith

low : (x : ℕ) → x ≡ x / 64 * 64 + x % 64
low x = omega arith

top_of : (x : ℕ) → x ≤ 1114111 → x / 262144 % 8 ≡ x / 262144
top_of x h = omega arith

join : (x a b c d e f : ℕ) → e ≡ a * 64 + b → f ≡ e * 64 + c → x ≡ f * 64 + d → (240 + a - 240) * 262144 + (128 + b - 128) * 4096 + (128 + c - 128) * 64 + (128 + d - 128) ≡ x
join x a b c d e f p q r = omega arith

dec4 : (x : ℕ) (r : List ℕ) → 65536 ≤ x → x ≤ 1114111 → decode (enc4 x ++ r) ≡ char x 4
unfolding decode
dec4 x r lo hi =
    let t : x / 262144 % 8 ≡ x / 262144 = top_of x hi in
    let e : code4 (240 + x / 262144) (128 + x / 4096 % 64) (128 + x / 64 % 64) (128 + x % 64) ≡ x = join x (x / 262144) (x / 4096 % 64) (x / 64 % 64) (x % 64) (x / 4096) (x / 64)
    (up x 4 (omega arith)) (mid x) (low x) in
    let a = 240 + x / 262144 in
    let s : Second (240 + x / 262144)
    (128 + x / 4096 % 64) = record { lo = omega arith; hi = omega arith; e0 = λ i. absurd (omega arith); ed = λ i. absurd (omega arith); f0 = λ i. omega arith; f4 = λ i. omega arith } in
    simp (
      t,
      le-ltb a 128 (omega arith),
      le-ltb a 192 (omega arith),
      le-ltb a 224 (omega arith),
      le-ltb a 240 (omega arith),
      lt-ltb a 248 (omega arith),
      le-leb a 244
          (omega arith),
      is_second _ _ s,
      cont_of (x / 64 % 64) (omega arith),
      cont_of (x % 64) (omega arith),
      e,
    )

-- what is encoded decodes
pub decode_encode : (x : ℕ) → Scalar x → (r : List ℕ) → decode (encode x ++ r) ≡ char x (length (encode x))
decode_encode x sc r =
    split P (ltb x 128) _ _ (λ h. decode_ascii x r h) (λ h.
    split P (ltb x 2048) _ _ (λ i. dec2 x r (ltb-false _ _ h) (ltb-true _ _ i)) (λ i.
    split P (ltb x 65536) _ _ (λ j. dec3 x r (ltb-false _ _ i) (ltb-true _ _ j) sc.plain) (λ j. dec4 x r (ltb-false _ _ j) sc.top)))
  where
    P : List ℕ → Type 0
    P l = decode (l ++ r) ≡ char x (length l)

-- the first byte of what is encoded
pub data Enc (x : ℕ) : List ℕ → Type 0 where
  enc_ascii : x < 128 → Enc x (x ∷ [])
  enc_wide : (b : ℕ) (bs : List ℕ) → 128 ≤ b → Enc x (b ∷ bs)

pub encoded : (x : ℕ) → Enc x (encode x)
encoded x =
    split (Enc x) (ltb x 128) _ _ (λ h. enc_ascii (ltb-true _ _ h)) (λ h.
    split (Enc x) (ltb x 2048) _ _ (λ i. enc_wide _ _ (omega arith)) (λ i.
    split (Enc x) (ltb x 65536) _ _ (λ j. enc_wide _ _ (omega arith)) (λ j. enc_wide _ _ (omega arith))))

-- ---- what decoding gives
pub data Decoded (a : ℕ) : Char → Type 0 where
  d_ill : Decoded a ill
  d_ascii : a < 128 → Decoded a (char a 1)
  d_wide : {x n : ℕ} → 128 ≤ x → Scalar x → Decoded a (char x (suc n))

abbrev Hi : ℕ → ℕ → Type 0
Hi a n = (n ≡ 0 → a < 128) × (n ≡ 2 → a < 224) × (n ≡ 3 → (224 ≤ a) × (a < 240)) × (n ≡ 4 → 240 ≤ a)

leads_hi : (a : ℕ) → Hi a (leads a)
leads_hi a =
    split (Hi a) (ltb a 128) _ _ (λ h. let k : a < 128 = ltb-true _ _ h in (λ e. k, λ e. absurd (omega arith), λ e. absurd (omega arith), λ e. absurd (omega arith))) (λ _.
    split (Hi a) (ltb a 192) _ _ (λ h. (λ e. absurd (omega arith), λ e. absurd (omega arith), λ e. absurd (omega arith), λ e. absurd (omega arith))) (λ _.
    split (Hi a) (ltb a 224) _ _ (λ h. let k : a < 224 = ltb-true _ _ h in (λ e. absurd (omega arith), λ e. k, λ e. absurd (omega arith), λ e. absurd (omega arith))) (λ g.
    split (Hi a) (ltb a 240) _ _ (λ h. let k : a < 240 = ltb-true _ _ h in let j : 224 ≤ a = ltb-false _ _ g in
    (λ e. absurd (omega arith), λ e. absurd (omega arith), λ e. (j, k), λ e. absurd (omega arith))) (λ g'.
    let j : 240 ≤ a = ltb-false _ _ g' in
    split (Hi a) (ltb a 248) _ _ (λ h. (λ e. absurd (omega arith), λ e. absurd (omega arith), λ e. absurd (omega arith), λ e. j)) (λ _.
    split (Hi a) (ltb a 252) _ _ (λ h. (λ e. absurd (omega arith), λ e. absurd (omega arith), λ e. absurd (omega arith), λ e. j)) (λ _.
    split (Hi a) (ltb a 254) _ _ (λ h. (λ e. absurd (omega arith), λ e. absurd (omega arith), λ e. absurd (omega arith), λ e. j)) (λ _.
    split (Hi a) (ltb a 255) _ _ (λ h. (λ e. absurd (omega arith), λ e. absurd (omega arith), λ e. absurd (omega arith), λ e. j)) (λ _.
    (λ e. absurd (omega arith), λ e. absurd (omega arith), λ e. absurd (omega arith), λ e. j)))))))))

no_surrogate : (x : ℕ) → ((55296 ≤ x) → (x ≤ 57343) → ⊥) → leb 55296 x && leb x 57343 ≡ false
no_surrogate x h = go (dec_le 55296 x) (dec_le x 57343)
  where
    go : Dec (55296 ≤ x) → Dec (x ≤ 57343) → leb 55296 x && leb x 57343 ≡ false
    go (no l) d = simp (lt-leb 55296 x (omega arith))
    go (yes l) (no u) = simp (le-leb 55296 x l, lt-leb x 57343 (omega arith))
    go (yes l) (yes u) = absurd (h l u)

-- three bytes: past U+07FF, and no surrogate
module _ (a b c : ℕ) (lo : 224 ≤ a) (hi : a < 240) (s : Second a b) (cl : 128 ≤ c) (ch : c ≤ 191) where
  three_lo : 2048 ≤ code3 a b c
  three_lo = go (dec_le a 224)
    where
      go : Dec (a ≤ 224) → 2048 ≤ code3 a b c
      go (yes e) = let i : a ≡ 224 = omega arith in let g : 160 ≤ b = s.e0 i in omega arith
      go (no e) = let g = s.lo in omega arith

  three_plain : leb 55296 (code3 a b c) && leb (code3 a b c) 57343 ≡ false
  three_plain = no_surrogate (code3 a b c) (go (dec_le a 237) (dec_le 237 a))
    where
      go : Dec (a ≤ 237) → Dec (237 ≤ a) → 55296 ≤ code3 a b c → code3 a b c ≤ 57343 → ⊥
      go (yes e) (yes f) l u = let i : a ≡ 237 = omega arith in let g : b ≤ 159 = s.ed i in let g' = s.lo in omega arith
      go (yes e) (no f) l u = let g = s.lo in let g' = s.hi in omega arith
      go (no e) d l u = let g = s.lo in let g' = s.hi in omega arith

  three_top : code3 a b c ≤ 1114111
  three_top = let g = s.hi in omega arith

-- four bytes: past U+FFFF, and at most U+10FFFF
module _ (a b c d : ℕ) (lo : 240 ≤ a) (hi : a ≤ 244) (s : Second a b) (cl : 128 ≤ c) (ch : c ≤ 191) (dl : 128 ≤ d) (dh : d ≤ 191) where
  four_lo : 65536 ≤ code4 a b c d
  four_lo = go (dec_le a 240)
    where
      go : Dec (a ≤ 240) → 65536 ≤ code4 a b c d
      go (yes e) = let i : a ≡ 240 = omega arith in let g : 144 ≤ b = s.f0 i in omega arith
      go (no e) = let g = s.lo in omega arith

  four_top : code4 a b c d ≤ 1114111
  four_top = go (dec_le 244 a)
    where
      go : Dec (244 ≤ a) → code4 a b c d ≤ 1114111
      go (yes e) = let i : a ≡ 244 = omega arith in let g : b ≤ 143 = s.f4 i in omega arith
      go (no e) = let g = s.hi in omega arith

decoded : (a b c d : ℕ) → Decoded a (char_of a b c d)
decoded a b c d =
    let up = leads_hi a in
    split P (eqb (leads a) 0) _ _ (λ n. d_ascii (up.0 (eqb-true _ _ n))) (λ _.
    split P (eqb (leads a) 2) _ _ (λ n. split P (leb 194 a && cont b) _ _ (λ u.
    let h : a < 224 = up.1 (eqb-true _ _ n) in
    let k : 194 ≤ a = leb-true _ _ (and_left (leb 194 a) (cont b) u) in
    let l : 128 ≤ b = range_lo 128 b 191 (and_right (leb 194 a) (cont b) u) in
    let i : b ≤ 191 = range_hi 128 b 191 (and_right (leb 194 a) (cont b) u) in
    d_wide (omega arith) (record { top = omega arith; plain = no_surrogate (code2 a b) (λ x y. omega arith) })) (λ _. d_ill)) (λ _.
    split P (eqb (leads a) 3) _ _ (λ n. split P (second a b && cont c) _ _ (λ u.
    let h = up.2 (eqb-true _ _ n) in
    let s = second_is a b (and_left (second a b) (cont c) u) in
    let v = and_right (second a b) (cont c) u in
    let l = range_lo 128 c 191 v in
    let i = range_hi 128 c 191 v in
    let w = three_lo a b c h.0 h.1 s l i in
    d_wide (omega arith) (record { top = three_top a b c h.0 h.1 s l i; plain = three_plain a b c h.0 h.1 s l i })) (λ _. d_ill)) (λ _.
    split P (eqb (leads a) 4) _ _ (λ n. split P ((leb a 244 && second a b) && (cont c && cont d)) _ _ (λ u.
    let f = and_left (leb a 244 && second a b) (cont c && cont d) u in
    let v = and_right (leb a 244 && second a b) (cont c && cont d) u in
    let h = leb-true _ _ (and_left (leb a 244) (second a b) f) in
    let s = second_is a b (and_right (leb a 244) (second a b) f) in
    let v₀ = and_left (cont c) (cont d) v in
    let v₁ = and_right (cont c) (cont d) v in
    let lo = up.3 (eqb-true _ _ n) in
    let w = four_lo a b c d lo h s (range_lo 128 c 191 v₀) (range_hi 128 c 191 v₀) (range_lo 128 d 191 v₁) (range_hi 128 d 191 v₁) in
    d_wide (omega arith) (record {
      top = four_top a b c d lo h s (range_lo 128 c 191 v₀) (range_hi 128 c 191 v₀) (range_lo 128 d 191 v₁) (range_hi 128 d 191 v₁);
      plain = no_surrogate
          (code4 a b c d) (λ x y. omega arith);
    })) (λ _. d_ill)) (λ _.
    d_ill))))
  where
    P : Char → Type 0
    P = Decoded a

pub decode_view : (b : ℕ) (s : List ℕ) → Decoded b (decode (b ∷ s))
unfolding decode
decode_view b s = decoded b (get_or s 0 0) (get_or s 1 0) (get_or s 2 0)
