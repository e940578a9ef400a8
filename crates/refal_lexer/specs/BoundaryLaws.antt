-- Laws of character boundaries: in well-formed bytes a boundary is the end, or an offset whose byte continues no character.
use Rattle.std.specs.Prelude.{ℕ, zero, suc, ◌+◌, ◌-◌, ◌<◌, ◌≤◌, Bool, true, false, ◌&&◌, List, [], ◌∷◌, ◌≡◌, refl, leb, eqb, length, drop, get_or}
use Rattle.std.proofs.Common.{arith, zero-add, add-zero, suc-add, le-leb, le-ltb, lt-ltb, true≢false, ap, sym, subst, ◌∙◌, length-drop, get_or-drop, drop-drop}
use Rattle.std.proofs.Math.Decide.{dec_le}
use Rattle.std.proofs.lemmas.Bool.{lt-leb}
use Rattle.refal_rows.specs.Tests.{and_left, and_right}
use Rattle.refal_text.specs.Pick.{split}
use Rattle.refal_text.specs.Utf8.{cont, leads, second, char_of, decode, well_to}
use Rattle.refal_text.specs.Utf8Laws.{decode_in, well_skip, second_is}
use Rattle.refal_text.specs.declared.Char.{Char}
use Rattle.refal_lexer.specs.Boundaries.{Boundary, first, later, Well}

-- a boundary lies within the bytes
pub past_in : (n : ℕ) (s : List ℕ) → (decode s).len ≡ suc n → suc n ≤ length s
unfolding decode
past_in n [] e = absurd (omega arith)
past_in n (b ∷ s) e = let d = decode_in (b ∷ s) 0 (omega arith) in omega arith

pub boundary_in : {s : List ℕ} {i : ℕ} → Boundary s i → i ≤ length s
boundary_in first = omega arith
boundary_in {s} (later n e b) =
    let h = past_in n s e in
    let l = boundary_in b in
    let k = length-drop (suc n) s in
    omega arith

-- ---- what a character's length says of its bytes: the first continues nothing, those behind it continue it
front_byte : (a b c d n : ℕ) → (char_of a b c d).len ≡ suc n → cont a ≡ false
front_byte a b c d n = go (dec_le 128 a) (dec_le a 191)
  where
    go : Dec (128 ≤ a) → Dec (a ≤ 191) → (char_of a b c d).len ≡ suc n → cont a ≡ false
    go (no l) u e = simp (lt-leb 128 a (omega arith))
    go (yes l) (no u) e = simp (le-leb 128 a l, lt-leb a 191 (omega arith))
    go (yes l) (yes u) e =
        let z : 0 ≡ suc n = rw (le-ltb a 128 l, lt-ltb a 192 (omega arith)) at e in
        absurd (omega arith)

second_cont : (a b : ℕ) → second a b ≡ true → cont b ≡ true
second_cont a b h = let s = second_is a b h in simp (le-leb 128 b s.lo, le-leb b 191 s.hi)

-- the bytes behind the first
abbrev Behind : List ℕ → Char → Type 0
Behind s c = (k j : ℕ) → c.len ≡ suc k → j < k → cont (get_or s j 0) ≡ true

behind : (a : ℕ) (s : List ℕ) → Behind s (char_of a (get_or s 0 0) (get_or s 1 0) (get_or s 2 0))
behind a s =
    split (Behind s) (eqb (leads a) 0) _ _ (λ _ k j e h. absurd (omega arith)) (λ _.
    split (Behind s) (eqb (leads a) 2) _ _ (λ _.
    split (Behind s) (leb 194 a && cont x) _ _ (λ u k j e h.
    each 1 j (omega arith) (omega arith) (λ _. and_right (leb 194 a) (cont x) u) (λ f. absurd (omega arith)) (λ f. absurd (omega arith))) none) (λ _.
    split (Behind s) (eqb (leads a) 3) _ _ (λ _.
    split (Behind s) (second a x && cont y) _ _ (λ u k j e h.
    each 2 j (omega arith) (omega arith) (λ _. second_cont a x (and_left (second a x) (cont y) u)) (λ _. and_right (second a x) (cont y) u) (λ f. absurd (omega arith))) none) (λ _.
    split (Behind s) (eqb (leads a) 4) _ _ (λ _.
    split (Behind s) ((leb a 244 && second a x) && (cont y && cont z)) _ _ (λ u k j e h.
    let f = and_left (leb a 244 && second a x) (cont y && cont z) u in
    let v = and_right (leb a 244 && second a x) (cont y && cont z) u in
    each 3 j (omega arith) (omega arith) (λ _. second_cont a x (and_right (leb a 244) (second a x) f)) (λ _. and_left (cont y) (cont z) v) (λ _. and_right (cont y) (cont z) v)) none) none)))
  where
    x : ℕ
    x = get_or s 0 0

    y : ℕ
    y = get_or s 1 0

    z : ℕ
    z = get_or s 2 0

    none : {t : Bool} → t ≡ false → (k j : ℕ) → 0 ≡ suc k → j < k → cont (get_or s j 0) ≡ true
    none _ k j e h = absurd (omega arith)

    -- of the n bytes behind the first, each by its own fact
    each : (n j : ℕ) → n ≤ 3 → j < n → (0 < n → cont x ≡ true) → (1 < n → cont y ≡ true) → (2 < n → cont z ≡ true) → cont (get_or s j 0) ≡ true
    each n zero l h p q r = p (omega arith)
    each n (suc zero) l h p q r = q (omega arith)
    each n (suc (suc zero)) l h p q r = r (omega arith)
    each n (suc (suc (suc j))) l h p q r = absurd (omega arith)

pub decode_front : (b n : ℕ) (s : List ℕ) → (decode (b ∷ s)).len ≡ suc n → cont b ≡ false
unfolding decode
decode_front b n s e = front_byte b (get_or s 0 0) (get_or s 1 0) (get_or s 2 0) n e

pub decode_behind : (b n j : ℕ) (s : List ℕ) → (decode (b ∷ s)).len ≡ suc n → j < n → cont (get_or s j 0) ≡ true
unfolding decode
decode_behind b n j s e h = behind b s n j e h

-- ---- well-formed bytes: a character stands at the front, and behind it well-formed bytes
pub record Front (b : ℕ) (s : List ℕ) : Type 0 where
  pub n : ℕ
  pub long : (decode (b ∷ s)).len ≡ suc n
  pub fits : n ≤ length s
  pub rest : Well (drop n s)

pub rest_well : (b n : ℕ) (s : List ℕ) → (decode (b ∷ s)).len ≡ suc n → well_to 0 (b ∷ s) ≡ suc (n + well_to 0 (drop n s))
unfolding well_to
rest_well b n s e = rw e (ap suc (well_skip n s (let d = decode_in (b ∷ s) 0 (omega arith) in omega arith)))

none_well : (b : ℕ) (s : List ℕ) → (decode (b ∷ s)).len ≡ 0 → well_to 0 (b ∷ s) ≡ 0
unfolding well_to
none_well b s e = rw e

pub well_front : (b : ℕ) (s : List ℕ) → Well (b ∷ s) → Front b s
well_front b s w = go (decode (b ∷ s)).len refl
  where
    go : (k : ℕ) → (decode (b ∷ s)).len ≡ k → Front b s
    go zero e = let z = none_well b s e in absurd (omega arith)
    go (suc n) e =
        let d = decode_in (b ∷ s) 0 (omega arith) in
        let l : n ≤ length s = omega arith in
        let r = rest_well b n s e in
        let m = length-drop n s in
        record { n = n; long = e; fits = l; rest = omega arith }

-- the first byte of well-formed bytes continues nothing; nor does a byte that is missing, which counts as 0
pub well_byte : (s : List ℕ) → Well s → cont (get_or s 0 0) ≡ false
well_byte [] w = refl
well_byte (b ∷ s) w = let f = well_front b s w in decode_front b f.n s f.long

-- ---- in well-formed bytes
past_well : (n : ℕ) (s : List ℕ) → (decode s).len ≡ suc n → Well s → Well (drop (suc n) s)
unfolding decode
past_well n [] e w = absurd (omega arith)
past_well n (b ∷ s) e w =
    let f = well_front b s w in
    let g : f.n ≡ n = let x = f.long in omega arith in
    subst (λ (k : ℕ). Well (drop k s)) g f.rest

-- what stands at a boundary is well-formed
pub boundary_well : (s : List ℕ) (i : ℕ) → Well s → Boundary s i → Well (drop i s)
boundary_well s i w first = w
boundary_well s i w (later {i = j} n e b) = subst Well (drop-drop j (suc n) s) (boundary_well (drop (suc n) s) j (past_well n s e w) b)

-- a boundary is the end, or the byte there continues nothing: a byte that is missing counts as 0
pub boundary_byte : (s : List ℕ) (i : ℕ) → Well s → Boundary s i → (i ≤ length s) × (cont (get_or s i 0) ≡ false)
boundary_byte s i w b =
    (boundary_in b, ap cont (sym (get_or-drop i s 0 0 ∙ ap (λ (j : ℕ). get_or s j 0) (add-zero i))) ∙ well_byte (drop i s) (boundary_well s i w b))

-- and the other way round. `reached` starts past k bytes of a character
reached : (s : List ℕ) (k j : ℕ) → k + j ≤ length s → Well (drop k s) → cont (get_or s (k + j) 0) ≡ false → Boundary (drop k s) j
reached [] zero zero h w c = first
reached [] zero (suc j) h w c = absurd (omega arith)
reached [] (suc k) j h w c = absurd (omega arith)
reached (b ∷ s) (suc k) j h w c = reached s k j (omega arith) w (rw suc-add at c)
reached (b ∷ s) zero zero h w c = first
reached (b ∷ s) zero (suc j) h w c =
    let f = well_front b s w in
    go f.n f.long (dec_le f.n j) (λ i l x. reached s f.n i l f.rest x)
  where
    here : cont (get_or s j 0) ≡ false
    here = rw zero-add at c

    go : (n : ℕ) → (decode (b ∷ s)).len ≡ suc n → Dec (n ≤ j) → ((i : ℕ) → n + i ≤ length s → cont (get_or s (n + i) 0) ≡ false → Boundary (drop n s) i) → Boundary (b ∷ s) (suc j)
    go n e (yes l) ih =
        let d : n + (j - n) ≡ j = omega arith in
        let y : cont (get_or s (n + (j - n)) 0) ≡ false = ap (λ (i : ℕ). cont (get_or s i 0)) d ∙ here in
        subst (Boundary (b ∷ s)) (let z : suc n + (j - n) ≡ suc j = omega arith in z) (later n e (ih (j - n) (omega arith) y))
    go n e (no l) ih =
        let z : true ≡ false = sym (decode_behind b n j s e (omega arith)) ∙ here in
        absurd (true≢false z)

pub byte_boundary : (s : List ℕ) (i : ℕ) → Well s → i ≤ length s → cont (get_or s i 0) ≡ false → Boundary s i
byte_boundary s i w h c = reached s 0 i (omega arith) w (rw zero-add c)

-- ---- of any bytes, how far they are well-formed is a boundary
well_from : (k : ℕ) (s : List ℕ) → k ≤ length s → Boundary (drop k s) (well_to 0 (drop k s))
unfolding well_to
well_from zero [] h = first
well_from (suc k) [] h = absurd (omega arith)
well_from (suc k) (b ∷ s) h = well_from k s (omega arith)
well_from zero (b ∷ s) h = go (decode (b ∷ s)).len refl (λ n. well_from n s)
  where
    go : (k : ℕ) → (decode (b ∷ s)).len ≡ k → ((n : ℕ) → n ≤ length s → Boundary (drop n s) (well_to 0 (drop n s))) → Boundary (b ∷ s) (well_to 0 (b ∷ s))
    go zero e ih = rw e first
    go (suc n) e ih =
        let d = decode_in (b ∷ s) 0 (omega arith) in
        subst (Boundary (b ∷ s)) (suc-add n (well_to 0 (drop n s)) ∙ sym (rest_well b n s e)) (later n e (ih n (omega arith)))

pub well_boundary : (s : List ℕ) → Boundary s (well_to 0 s)
well_boundary s = well_from 0 s (omega arith)
