-- Laws of literals: the ways out of their loops.
use Rattle.std.specs.Prelude.{ℕ, zero, suc, ◌+◌, ◌<◌, ◌≤◌, List, [], ◌∷◌, Bool, true, false, ◌≡◌, refl, ltb, eqb, length, drop, get_or}
use Rattle.std.proofs.Common.{eq-eqb, ne_eqb, lt-ltb, add-one, arith, ap, ◌∙◌, subst, drop_of_length-le, length-drop, drop-cons, drop-drop}
use Rattle.std.proofs.Math.Nat.{add-zero}
use Rattle.std.proofs.Math.Path.{sym}
use Rattle.std.proofs.Math.Seq.{get_or-drop}
use Rattle.std.specs.Bool.{then_some}
use Rattle.refal_text.specs.Pick.{pick}
use Rattle.refal_text.specs.Told.{char_told}
use Rattle.refal_text.specs.Utf8.{decode, char, ill}
use Rattle.refal_text.specs.Utf8Laws.{decode_in, decode_ascii}
use Rattle.refal_text.specs.declared.Char.{Char}
use Rattle.refal_ast.specs.Tokens.{Token as Tok, token, words}
use Rattle.refal_lexer.specs.Literals.{some, lit_char, lit_step, lit_from, char_step, char_tokens, Lit, closed, newline, unclosed}
use Rattle.refal_lexer.specs.Puts.{put_tokens}
use Rattle.refal_rows.specs.Rows.{put_row}
use Rattle.refal_lexer.specs.Tokens.{found, refused, literal_of}
use Rattle.refal_lexer.specs.declared.Cursor.{Cursor}
use Rattle.refal_lexer.specs.Scans.{On, Stop}
use Rattle.refal_lexer.specs.Steps.{cursor, step_of, rows_of, end_of}

-- ---- the character at a place
decode_low : (s : List ℕ) (at : ℕ) → at < length s → get_or s at 0 < 128 → decode (drop at s) ≡ char (get_or s at 0) 1
decode_low s at h l = ap decode (drop-cons s at 0 h) ∙ decode_ascii (get_or s at 0) (drop (suc at) s) (lt-ltb _ _ l)

module _ (q : ℕ) (s : List ℕ) (i : ℕ) (h : i < length s) where
  char_is : lit_char q (drop i s) ≡ pick (eqb (get_or s i 0) q) (pick (eqb (get_or s (i + 1) 0) q) (char q 2) ill) (some (decode (drop i s)))
  unfolding lit_char
  char_is = rw (get_or-drop i s 0 0, get_or-drop i s 1 0, add-zero i)

  char_whole : (get_or s i 0 ≡ q → ⊥) → (c : Char) → c ≡ decode (drop i s) → (c.len ≡ 0 → ⊥) → (c ≡ lit_char q (drop i s)) × (i + c.len ≤ length s)
  char_whole e c f g =
      let y : (decode (drop i s)).len ≡ c.len = ap (λ (x : Char). x.len) (sym f) in
      (f ∙ sym (char_is ∙ simp (ne_eqb _ _ e, y, ne_eqb _ _ g)), subst (λ (x : Char). i + x.len ≤ length s) (sym f) (decode_in s i h))

  -- a byte below 128 is the character
  pub char_low : (get_or s i 0 ≡ q → ⊥) → get_or s i 0 < 128 → (w : ℕ) → w ≡ get_or s i 0 → (char w 1 ≡ lit_char q (drop i s)) × (i + 1 ≤ length s)
  char_low e l w v = let f : char w 1 ≡ decode (drop i s) = ap (λ (x : ℕ). char x 1) v ∙ sym (decode_low s i h l) in char_whole e (char w 1) f (λ z. omega arith)

  -- a quote: doubled it is a character, alone it is none
  pub char_quote : get_or s i 0 ≡ q → (w x : ℕ) → w ≡ get_or s i 0 → x ≡ get_or s (i + 1) 0 → char_told (then_some (eqb x q) (char w 2)) ≡ lit_char q (drop i s)
  char_quote e w x v f = go (eqb x q) refl
    where
      go : (t : Bool) → eqb x q ≡ t → char_told (then_some t (char w 2)) ≡ lit_char q (drop i s)
      go true g = ap (λ (a : ℕ). char a 2) (v ∙ e) ∙ sym (char_is ∙ simp (eq-eqb _ _ e, ← f, g))
      go false g = sym (char_is ∙ simp (eq-eqb _ _ e, ← f, g))

  -- another byte: the character there, or a byte that is none
  pub char_else : (get_or s i 0 ≡ q → ⊥) → some (decode (drop i s)) ≡ lit_char q (drop i s)
  char_else e = sym (char_is ∙ simp (ne_eqb _ _ e))

pub lit_skip : (q k i n : ℕ) (s : List ℕ) → k ≤ length s → lit_from q k i n s ≡ lit_from q 0 (i + k) n (drop k s)
unfolding lit_from
lit_skip q zero i n s h = rw (add-zero i) refl
lit_skip q (suc k) i n [] h = absurd (omega arith)
lit_skip q (suc k) i n (b ∷ s) h = lit_skip q k (suc i) n s (omega arith) ∙ ap (λ (j : ℕ). lit_from q 0 j n (drop k s)) (omega arith)

pub lit_end : (q : ℕ) (s : List ℕ) (i n : ℕ) → length s ≤ i → unclosed i ≡ lit_from q 0 i n (drop i s)
unfolding lit_from
lit_end q s i n h = rw (drop_of_length-le s h)

module _ (q : ℕ) (s : List ℕ) (i n : ℕ) (c : Char) (h : i < length s) (e : c ≡ lit_char q (drop i s)) where
  abbrev Rest : ℕ → Lit
  Rest k = lit_from q k (suc i) (suc n) (drop (suc i) s)

  lit_here : lit_from q 0 i n (drop i s) ≡ lit_step c.len i n (get_or s i 0) Rest
  unfolding lit_from
  lit_here = rw (drop-cons s i 0 h) (ap (λ (x : Char). lit_step x.len i n (get_or s i 0) Rest) (ap (lit_char q) (sym (drop-cons s i 0 h)) ∙ sym e))

  pub lit_close : c.len ≡ 0 → closed n (i + 1) ≡ lit_from q 0 i n (drop i s)
  lit_close z = sym (lit_here ∙ ap (λ (k : ℕ). lit_step k i n (get_or s i 0) Rest) z)

  pub lit_newline : (c.len ≡ 0 → ⊥) → get_or s i 0 ≡ 10 → newline (i + 1) ≡ lit_from q 0 i n (drop i s)
  lit_newline z f = sym (lit_here ∙ go c.len z)
    where
      go : (k : ℕ) → (k ≡ 0 → ⊥) → lit_step k i n (get_or s i 0) Rest ≡ newline (i + 1)
      go zero y = absurd (y refl)
      go (suc k) y = rw (eq-eqb _ _ f)

  pub lit_step_lem : (c.len ≡ 0 → ⊥) → (get_or s i 0 ≡ 10 → ⊥) → i + c.len ≤ length s → lit_from q 0 i n (drop i s) ≡ lit_from q 0 (i + c.len) (n + 1) (drop (i + c.len) s)
  lit_step_lem z f l = lit_here ∙ go c.len z l
    where
      go : (k : ℕ) → (k ≡ 0 → ⊥) → i + k ≤ length s → lit_step k i n (get_or s i 0) Rest ≡ lit_from q 0 (i + k) (n + 1) (drop (i + k) s)
      go zero y m = absurd (y refl)
      go (suc k) y m =
          let j : k ≤ length (drop (suc i) s) = rw length-drop (omega arith) in
          let g : suc i + k ≡ i + suc k = omega arith in
          rw (ne_eqb _ _ f) (lit_skip q k (suc i) (suc n) (drop (suc i) s) j ∙ rw (g, drop-drop, g, add-one n))

-- ---- a closed literal: it has as many rows as the characters counted, fewer than bytes, and lies within
pub record Closed (i n m end : ℕ) (s : List ℕ) (ts : List Tok) : Type 0 where
  pub count : n + length ts ≡ m
  pub few : i + length ts < end
  pub within : end ≤ i + length s

later : (i n m end b : ℕ) (s : List ℕ) (ts : List Tok) → Closed (suc i) n m end s ts → Closed i n m end (b ∷ s) ts
later i n m end b s ts c =
    let f = c.few in
    let w = c.within in
    record { count = c.count; few = omega arith; within = omega arith }

pub lit_closed : (q from to skip i n m end : ℕ) (s : List ℕ) → lit_from q skip i n s ≡ closed m end → Closed i n m end s (char_tokens q from to skip s)
unfolding lit_from char_tokens
lit_closed q from to skip i n m end [] e = let z : ◌≡◌ {A = ℕ} 0 1 = cc in absurd (omega arith)
lit_closed q from to (suc k) i n m end (b ∷ s) e = later i n m end b s (char_tokens q from to k s) (lit_closed q from to k (suc i) n m end s e)
lit_closed q from to zero i n m end (b ∷ s) e = go (lit_char q (b ∷ s)).len (λ k. lit_closed q from to k (suc i) (suc n) m end s) e
  where
    To : ℕ → List Tok
    To k = char_tokens q from to k s

    on : ℕ → Lit
    on k = lit_from q k (suc i) (suc n) s

    onward : (t : Bool) (x : Lit) → pick t (newline (i + 1)) x ≡ closed m end → x ≡ closed m end
    onward true x f = let z : ◌≡◌ {A = ℕ} 0 1 = cc in absurd (omega arith)
    onward false x f = f

    go : (k : ℕ) → ((j : ℕ) → on j ≡ closed m end → Closed (suc i) (suc n) m end s (To j)) → lit_step k i n b on ≡ closed m end
        → Closed i n m end (b ∷ s) (char_step k (token 6 (lit_char q (b ∷ s)).code 0 0 from to) To)
    go zero ih f =
        let x : n ≡ m = cc in
        let y : i + 1 ≡ end = cc in
        record { count = omega arith; few = omega arith; within = omega arith }
    go (suc k) ih f =
        let c = ih k (onward (eqb b 10) (on k) f) in
        let x = c.count in
        let y = c.few in
        let w = c.within in
        record { count = omega arith; few = omega arith; within = omega arith }

-- ---- the code's ways out of a literal, whose quote q stands first in s
module _ (at row q : ℕ) (s : List ℕ) where
  abbrev L : Lit
  L = lit_from q 0 1 0 (drop 1 s)

  -- what it answers: as many rows as characters
  pub lit_answer : (l : Lit) → L ≡ l → end_of at row l ≡ step_of (literal_of at q (drop 1 s) l) row
  lit_answer (newline len) e = refl
  lit_answer (unclosed len) e = refl
  lit_answer (closed n len) e = go (ltb 255 n) (eqb n 0)
    where
      go : (t u : Bool) → pick t (Stop 20 at (at + len)) (pick u (Stop 21 at (at + len)) (On (cursor (at + len) (row + n) false)))
          ≡ step_of (pick t (refused 20 at (at + len)) (pick u (refused 21 at (at + len)) (found (char_tokens q at (at + len) 0 (drop 1 s)) (at + len)))) row
      go true u = refl
      go false true = refl
      go false false = let c = (lit_closed q at (at + len) 0 1 0 n len (drop 1 s) e).count in let z : length (char_tokens q at (at + len) 0 (drop 1 s)) ≡ n = omega arith in rw z refl

  -- a refusal leaves the words
  pub lit_stop : (l : Lit) (rows : List ℕ) (number start end : ℕ) → end_of at row l ≡ Stop number start end → rows ≡ rows_of (literal_of at q (drop 1 s) l) rows row
  lit_stop (newline len) rows number start end e = refl
  lit_stop (unclosed len) rows number start end e = refl
  lit_stop (closed n len) rows number start end e = go (ltb 255 n) (eqb n 0) e
    where
      go : (t u : Bool) → pick t (Stop 20 at (at + len)) (pick u (Stop 21 at (at + len)) (On (cursor (at + len) (row + n) false))) ≡ Stop number start end
          → rows ≡ rows_of (pick t (refused 20 at (at + len)) (pick u (refused 21 at (at + len)) (found (char_tokens q at (at + len) 0 (drop 1 s)) (at + len)))) rows row
      go true u f = refl
      go false true f = refl
      go false false f = let z : ◌≡◌ {A = ℕ} 0 1 = cc in absurd (omega arith)

  -- where it goes on: within the source
  pub lit_in : (l : Lit) (c : Cursor) → L ≡ l → end_of at row l ≡ On c → 0 < length s → c.at ≤ at + length s
  lit_in (newline len) c e f h = let z : ◌≡◌ {A = ℕ} 0 1 = cc in absurd (omega arith)
  lit_in (unclosed len) c e f h = let z : ◌≡◌ {A = ℕ} 0 1 = cc in absurd (omega arith)
  lit_in (closed n len) c e f h = go (ltb 255 n) (eqb n 0) f
    where
      go : (t u : Bool) → pick t (Stop 20 at (at + len)) (pick u (Stop 21 at (at + len)) (On (cursor (at + len) (row + n) false))) ≡ On c → c.at ≤ at + length s
      go true u g = let z : ◌≡◌ {A = ℕ} 0 1 = cc in absurd (omega arith)
      go false true g = let z : ◌≡◌ {A = ℕ} 0 1 = cc in absurd (omega arith)
      go false false g =
          let x : cursor (at + len) (row + n) false ≡ c = cc in
          let y : at + len ≡ c.at = ap (λ (k : Cursor). k.at) x in
          let w = (lit_closed q at (at + len) 0 1 0 n len (drop 1 s) e).within in
          let d = length-drop 1 s in
          omega arith

-- ---- its tokens' loop
pub chars_skip : (q from to k : ℕ) (s : List ℕ) → k ≤ length s → char_tokens q from to k s ≡ char_tokens q from to 0 (drop k s)
unfolding char_tokens
chars_skip q from to zero s h = refl
chars_skip q from to (suc k) [] h = absurd (omega arith)
chars_skip q from to (suc k) (b ∷ s) h = chars_skip q from to k s (omega arith)

pub chars_end : (q from to : ℕ) (s : List ℕ) (i : ℕ) → length s ≤ i → char_tokens q from to 0 (drop i s) ≡ []
unfolding char_tokens
chars_end q from to s i h = rw (drop_of_length-le s h)

module _ (q from to : ℕ) (s : List ℕ) (i : ℕ) (c : Char) (h : i < length s) (e : c ≡ lit_char q (drop i s)) where
  abbrev More : ℕ → List Tok
  More k = char_tokens q from to k (drop (suc i) s)

  chars_here : char_tokens q from to 0 (drop i s) ≡ char_step c.len (token 6 c.code 0 0 from to) More
  unfolding char_tokens
  chars_here = rw (drop-cons s i 0 h) (ap (λ (x : Char). char_step x.len (token 6 x.code 0 0 from to) More) (ap (lit_char q) (sym (drop-cons s i 0 h)) ∙ sym e))

  pub chars_close : c.len ≡ 0 → char_tokens q from to 0 (drop i s) ≡ []
  chars_close z = chars_here ∙ ap (λ (k : ℕ). char_step k (token 6 c.code 0 0 from to) More) z

  pub chars_step : (c.len ≡ 0 → ⊥) → i + c.len ≤ length s → char_tokens q from to 0 (drop i s) ≡ token 6 c.code 0 0 from to ∷ char_tokens q from to 0 (drop (i + c.len) s)
  chars_step z l = chars_here ∙ go c.len z l
    where
      go : (k : ℕ) → (k ≡ 0 → ⊥) → i + k ≤ length s → char_step k (token 6 c.code 0 0 from to) More ≡ token 6 c.code 0 0 from to ∷ char_tokens q from to 0 (drop (i + k) s)
      go zero y m = absurd (y refl)
      go (suc k) y m =
          let j : k ≤ length (drop (suc i) s) = rw length-drop (omega arith) in
          let g : suc i + k ≡ i + suc k = omega arith in
          ap (λ (l : List Tok). token 6 c.code 0 0 from to ∷ l) (chars_skip q from to k (drop (suc i) s) j ∙ rw (drop-drop, g))

-- ---- a loop that puts a literal's rows: what is still to come
pub record Fills (ts ts₀ : List Tok) (m m₀ : List ℕ) (n n₀ : ℕ) : Type 0 where
  pub count : n + length ts ≡ n₀ + length ts₀
  pub words : put_tokens m n ts ≡ put_tokens m₀ n₀ ts₀

pub fills_row : (ts us ts₀ : List Tok) (t : Tok) (m m' m₀ : List ℕ) (n n₀ : ℕ) → ts ≡ t ∷ us → m' ≡ put_row 6 m n (words t) → Fills ts ts₀ m m₀ n n₀ → Fills us ts₀ m' m₀ (n + 1) n₀
fills_row ts us ts₀ t m m' m₀ n n₀ e f h =
    let g : Fills (t ∷ us) ts₀ m m₀ n n₀ = subst (λ (x : List Tok). Fills x ts₀ m m₀ n n₀) e h in
    record { count = omega (arith, g.count); words = rw (f, add-one) g.words }

pub fills_end : (ts ts₀ : List Tok) (m m₀ : List ℕ) (n n₀ : ℕ) → ts ≡ [] → Fills ts ts₀ m m₀ n n₀ → (n ≡ n₀ + length ts₀) × (m ≡ put_tokens m₀ n₀ ts₀)
fills_end ts ts₀ m m₀ n n₀ e h =
    let g : Fills [] ts₀ m m₀ n n₀ = subst (λ (x : List Tok). Fills x ts₀ m m₀ n n₀) e h in
    (omega (arith, g.count), g.words)
