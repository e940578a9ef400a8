-- Laws of white space, comments and blanks: the ways out of their loops.
use mir.Val.{bool_byte}
use Prim.Native.Nat.{ℕ, suc, ◌+◌, ◌<◌, ◌≤◌, zero, ◌-◌}
use Rattle.std.proofs.Common.{lt-ltb, add-zero, arith, true≢false, ap, ◌∙◌, sym, ap₂, subst, drop_of_length-le, length-drop, drop-cons, drop-drop, take_all}
use Rattle.std.proofs.Math.Decide.{dec_le}
use mathlib.Core.List.{List, [], ◌∷◌}
use Rattle.std.specs.Prelude.{Bool, true, ◌&&◌, ◌≡◌, refl, eqb, length, take}
use Rattle.std.proofs.Math.Bool.{false}
use Rattle.std.proofs.Math.ListN.{drop, get_or, get_or-eq_default}
use Rattle.refal_text.specs.Pick.{pick, split}
use Rattle.refal_text.specs.Utf8.{decode}
use Rattle.refal_text.specs.White.{white_space}
use Rattle.refal_text.specs.Utf8Laws.{decode_ascii}
use Rattle.refal_text.specs.declared.Char.{Char}
use Rattle.refal_lexer.specs.Blanks.{white_len, on_white, close_to, comment_at}
use Rattle.refal_text.specs.SpanLaws.{span_le}
use Rattle.refal_lexer.specs.Classes.{not_newline, blank}
use Rattle.refal_lexer.specs.ClassLaws.{blank_white}
use Rattle.refal_lexer.specs.Carried.{line_after, place, whites, stop_at, go_on, blanks_from}
use Rattle.refal_lexer.specs.LineLaws.{white_in}
use Rattle.refal_lexer.specs.declared.blank.Place.{Place}
use Rattle.refal_lexer.specs.Scans.{Comment, Long, Bare, Blank, Past}

-- a byte that is not 0 is there
pub nonzero_in : (s : List ℕ) (i : ℕ) → (get_or s i 0 ≡ 0 → ⊥) → i < length s
nonzero_in s i h = go (dec_le (suc i) (length s))
  where
    go : Dec (suc i ≤ length s) → i < length s
    go (yes l) = l
    go (no l) = absurd (h (get_or-eq_default s 0 (omega arith)))

-- the part from a on, as the code lends it
pub rest_is : (a : ℕ) (s : List ℕ) → take (length s - a) (drop a s) ≡ drop a s
rest_is a s = let l = length-drop a s in take_all (length s - a) (drop a s) (omega arith)

pub rest_length : (a : ℕ) (s : List ℕ) → length (take (length s - a) (drop a s)) ≡ length s - a
rest_length a s = ap length (rest_is a s) ∙ length-drop a s

-- ---- white space
white_skip : (k at : ℕ) (line : Bool) (s : List ℕ) → k ≤ length s → whites k at line s ≡ whites 0 (at + k) line (drop k s)
unfolding whites
white_skip zero at line s h = rw (add-zero at) refl
white_skip (suc k) at line [] h = absurd (omega arith)
white_skip (suc k) at line (b ∷ s) h = white_skip k (suc at) line s (omega arith) ∙ ap (λ (j : ℕ). whites 0 j line (drop k s)) (omega arith)

pub white_end : (s : List ℕ) (at i : ℕ) (l : Bool) → length s ≤ i → place (at + i) l ≡ whites 0 (at + i) l (drop i s)
unfolding whites
white_end s at i l h = rw (drop_of_length-le s h)

module _ (s : List ℕ) (at i : ℕ) (l : Bool) (h : i < length s) where
  white_here : whites 0 (at + i) l (drop i s) ≡ on_white (white_len (drop i s)) (λ k. whites k (suc (at + i)) (line_after (get_or s i 0) (at + i) l) (drop (suc i) s)) (place (at + i) l)
  unfolding whites
  white_here = rw (drop-cons s i 0 h)

  pub white_stop : 0 ≡ white_len (drop i s) → place (at + i) l ≡ whites 0 (at + i) l (drop i s)
  white_stop e = sym (white_here ∙ rw (sym e) refl)

  pub white_on : (n : ℕ) → n ≡ white_len (drop i s) → (n ≡ 0 → ⊥) → i + n ≤ length s
      → whites 0 (at + (i + n)) (line_after (get_or s i 0) (at + i) l) (drop (i + n) s) ≡ whites 0 (at + i) l (drop i s)
  white_on zero e z m = absurd (z refl)
  white_on (suc k) e z m =
      let d = length-drop (suc i) s in
      let f : suc (at + i) + k ≡ at + (i + suc k) = omega arith in
      let g : suc i + k ≡ i + suc k = omega arith in
      sym (white_here ∙ rw (sym e) (white_skip k (suc (at + i)) (line_after (get_or s i 0) (at + i) l) (drop (suc i) s) (omega arith)
      ∙ ap₂ (λ (x : ℕ) (y : List ℕ). whites 0 x (line_after (get_or s i 0) (at + i) l) y) f (drop-drop k (suc i) s ∙ ap (λ (x : ℕ). drop x s) g)))

-- ---- a comment has a byte or more, and lies within
abbrev In : ℕ → Comment → Type 0
In m (Long n) = (1 ≤ n) × (n ≤ m)
In m (Bare o) = Unit {0}

close_in : (star : Bool) (n : ℕ) (s : List ℕ) → In (n + length s) (close_to star n s)
unfolding close_to
close_in star n [] = tt
close_in star n (b ∷ s) = split (In (n + suc (length s))) (star && eqb b 47) _ _ (λ _. (omega arith, omega arith)) (λ _. subst (λ (m : ℕ). In m (close_to (eqb b 42) (n + 1) s))
    (let z : n + 1 + length s ≡ n + suc (length s) = omega arith in z) (close_in (eqb b 42) (n + 1) s))

and_none : (x : Bool) → x && false ≡ true → ⊥
and_none true e = true≢false (sym e)
and_none false e = true≢false (sym e)

comment_some : (line : Bool) (b : ℕ) (s : List ℕ) → In (suc (length s)) (comment_at line (b ∷ s))
comment_some line b s =
    let m = span_le not_newline s in
    split (In (suc (length s))) (eqb b 42 && line) _ _ (λ _. (omega arith, omega arith)) (λ _. slash s)
  where
    slash : (t : List ℕ) → In (suc (length t)) (pick (eqb b 47 && eqb (get_or t 0 0) 42) (close_to false 2 (drop 1 t)) (Bare false))
    slash [] = split (In 1) (eqb b 47 && eqb 0 42) _ _ (λ z. absurd (and_none (eqb b 47) z)) (λ _. tt)
    slash (x ∷ t) = split (In (suc (suc (length t)))) (eqb b 47 && eqb x 42) _ _ (λ _. subst (λ (m : ℕ). In m (close_to false 2 t)) (let z : 2 + length t ≡ suc (suc (length t)) = omega arith in z) (close_in false 2 t)) (λ _. tt)

pub comment_in : (line : Bool) (s : List ℕ) (n : ℕ) → 0 < length s → comment_at line s ≡ Long n → (1 ≤ n) × (n ≤ length s)
comment_in line [] n h e = absurd (omega arith)
comment_in line (b ∷ s) n h e = subst (In (suc (length s))) e (comment_some line b s)

-- ---- blanks
blanks_skip : (k at : ℕ) (line : Bool) (s : List ℕ) → k ≤ length s → blanks_from k at line s ≡ blanks_from 0 (at + k) line (drop k s)
unfolding blanks_from
blanks_skip zero at line s h = rw (add-zero at) refl
blanks_skip (suc k) at line [] h = absurd (omega arith)
blanks_skip (suc k) at line (b ∷ s) h = blanks_skip k (suc at) line s (omega arith) ∙ ap (λ (j : ℕ). blanks_from 0 j line (drop k s)) (omega arith)

-- w is past the white space of s, whose offset is `at`: the blanks o go on there, and no white space stands there
pub record Passed (o : Blank) (k at : ℕ) (s : List ℕ) (w : Place) : Type 0 where
  pub on : at + k ≤ w.at
  pub same : o ≡ blanks_from 0 w.at w.line (drop (w.at - at) s)
  pub stop : white_len (drop (w.at - at) s) ≡ 0

no_white : white_len [] ≡ 0
unfolding decode
no_white = refl

pub past_white : (k at : ℕ) (line : Bool) (s : List ℕ) → k ≤ length s → Passed (blanks_from k at line s) k at s (whites k at line s)
unfolding whites blanks_from
past_white zero at line [] h = let z : at - at ≡ 0 = omega arith in record { on = omega arith; same = rw z refl; stop = rw z no_white }
past_white (suc k) at line [] h = absurd (omega arith)
past_white (suc k) at line (b ∷ s) h = later k at b s _ _ (past_white k (suc at) line s (omega arith))
  where
    later : (k at b : ℕ) (s : List ℕ) (o : Blank) (w : Place) → Passed o k (suc at) s w → Passed o (suc k) at (b ∷ s) w
    later k at b s o w p =
        let l = p.on in
        let z : suc (w.at - suc at) ≡ w.at - at = omega arith in
        record { on = omega arith; same = p.same ∙ ap (λ (n : ℕ). blanks_from 0 w.at w.line (drop n (b ∷ s))) z; stop = ap (λ (n : ℕ). white_len (drop n (b ∷ s))) (sym z) ∙ p.stop }
past_white zero at line (b ∷ s) h = go (white_len (b ∷ s)) refl (λ k l. past_white k (suc at) (line_after b at line) s l)
  where
    C : Blank
    C = go_on (comment_at line (b ∷ s)) (λ n. blanks_from (n - 1) (suc at) false s) (stop_at (comment_at line (b ∷ s)) at line (at + suc (length s)))

    go : (n : ℕ) → white_len (b ∷ s) ≡ n → ((k : ℕ) → k ≤ length s → Passed (blanks_from k (suc at) (line_after b at line) s) k (suc at) s (whites k (suc at) (line_after b at line) s))
        → Passed (on_white n (λ k. blanks_from k (suc at) (line_after b at line) s) C) 0 at (b ∷ s) (on_white n (λ k. whites k (suc at) (line_after b at line) s) (place at line))
    go zero e ih = let z : at - at ≡ 0 = omega arith in record { on = omega arith; same = rw (z, e) refl; stop = rw z e }
    go (suc k) e ih =
        let p = ih k (white_in b s k e) in
        let w = whites k (suc at) (line_after b at line) s in
        let l = p.on in
        let z : suc (w.at - suc at) ≡ w.at - at = omega arith in
        record { on = omega arith; same = p.same ∙ ap (λ (n : ℕ). blanks_from 0 w.at w.line (drop n (b ∷ s))) z; stop = ap (λ (n : ℕ). white_len (drop n (b ∷ s))) (sym z) ∙ p.stop }

-- ---- the ways out of `blanks`, at i, where no white space stands
module _ (s : List ℕ) (at i : ℕ) (l : Bool) (h : i < length s) (w : white_len (drop i s) ≡ 0) where
  blanks_here : blanks_from 0 (at + i) l (drop i s)
      ≡ go_on (comment_at l (drop i s)) (λ n. blanks_from (n - 1) (suc (at + i)) false (drop (suc i) s)) (stop_at (comment_at l (drop i s)) (at + i) l (at + i + suc (length (drop (suc i) s))))
  unfolding blanks_from
  blanks_here = go (drop i s) (drop-cons s i 0 h) w
    where
      go : (t : List ℕ) → t ≡ get_or s i 0 ∷ drop (suc i) s → white_len t ≡ 0
          → blanks_from 0 (at + i) l t ≡ go_on (comment_at l t) (λ n. blanks_from (n - 1) (suc (at + i)) false (drop (suc i) s)) (stop_at (comment_at l t) (at + i) l (at + i + suc (length (drop (suc i) s))))
      go t e v = rw e (rw (rw e at v) refl)

  -- a comment of n bytes
  pub blanks_on : (n : ℕ) → comment_at l (drop i s) ≡ Long n → blanks_from 0 (at + i) l (drop i s) ≡ blanks_from 0 (at + (i + n)) false (drop (i + n) s)
  blanks_on n e =
      let m = comment_in l (drop i s) n (rw length-drop (omega arith)) e in
      let d = length-drop i s in
      let d' = length-drop (suc i) s in
      let lo = m.0 in
      let hi = m.1 in
      let f : suc (at + i) + (n - 1) ≡ at + (i + n) = omega arith in
      let g : suc i + (n - 1) ≡ i + n = omega arith in
      blanks_here ∙ rw e (blanks_skip (n - 1) (suc (at + i)) false (drop (suc i) s) (omega arith)
      ∙ ap₂ (λ (x : ℕ) (y : List ℕ). blanks_from 0 x false y) f (drop-drop (n - 1) (suc i) s ∙ ap (λ (x : ℕ). drop x s) g))

  -- no comment
  pub blanks_stop : (c : Comment) (t : Bool) → c ≡ comment_at l (drop i s) → c ≡ Bare t → stop_at c (at + i) l (at + length s) ≡ blanks_from 0 (at + i) l (drop i s)
  blanks_stop c t e z =
      let d = length-drop (suc i) s in
      let f : at + length s ≡ at + i + suc (length (drop (suc i) s)) = omega arith in
      ap (stop_at c (at + i) l) f ∙ ap (λ (x : Comment). stop_at x (at + i) l (at + i + suc (length (drop (suc i) s)))) z ∙ sym (blanks_here ∙ rw (sym e ∙ z) refl)

pub blanks_end : (s : List ℕ) (at i : ℕ) (l : Bool) → length s ≤ i → Past (at + i) l ≡ blanks_from 0 (at + i) l (drop i s)
unfolding blanks_from
blanks_end s at i l h = rw (drop_of_length-le s h)

-- ---- the turns of `blanks`
abbrev pub Turn : List ℕ → ℕ → Bool → ℕ → Bool → Type 0
Turn s at line i l = (i ≤ length s) × (blanks_from 0 (at + i) l (drop i s) ≡ blanks_from 0 at line s) × (white_len (drop i s) ≡ 0)

pub first_turn : (s : List ℕ) (at : ℕ) (line : Bool) (w : Place) → w ≡ whites 0 at line s → w.at ≤ at + length s → Turn s at line (w.at - at) w.line
first_turn s at line w e h =
    let p : Passed (blanks_from 0 at line s) 0 at s w = subst (Passed (blanks_from 0 at line s) 0 at s) (sym e) (past_white 0 at line s (omega arith)) in
    let l = p.on in
    let z : at + (w.at - at) ≡ w.at = omega arith in
    (omega arith, ap (λ (n : ℕ). blanks_from 0 n w.line (drop (w.at - at) s)) z ∙ sym p.same, p.stop)

-- a comment of n bytes at i, and white space behind it, in the part that is lent there
pub next_turn : (s : List ℕ) (at : ℕ) (line : Bool) (i n : ℕ) (l : Bool) (w : Place) → Turn s at line i l → i < length s → comment_at l (drop i s) ≡ Long n → i + n ≤ length s
    → w ≡ whites 0 (at + (i + n)) false (drop (i + n) s) → w.at ≤ at + length s → Turn s at line (w.at - at) w.line
next_turn s at line i n l w I h c m e hi =
    let k = i + n in
    let p : Passed (blanks_from 0 (at + (i + n)) false (drop (i + n) s)) 0 (at + (i + n)) (drop (i + n) s) w = subst (Passed (blanks_from 0 (at + (i + n)) false (drop (i + n) s)) 0 (at + (i + n)) (drop (i + n) s)) (sym e) (past_white 0 (at + (i + n)) false (drop (i + n) s) (omega arith)) in
    let lo = p.on in
    let z : at + (w.at - at) ≡ w.at = omega arith in
    let y : i + n + (w.at - (at + (i + n))) ≡ w.at - at = omega arith in
    let d : drop (w.at - (at + (i + n))) (drop (i + n) s) ≡ drop (w.at - at) s = drop-drop (w.at - (at + (i + n))) (i + n) s ∙ ap (λ (x : ℕ). drop x s) y in (
      omega arith,
      ap (λ (x : ℕ). blanks_from 0 x w.line (drop (w.at - at) s)) z ∙ ap (blanks_from 0 w.at w.line) (sym d) ∙ sym p.same ∙ sym (blanks_on s at i l h I.2 n c) ∙ I.1,
      ap white_len (sym d) ∙ p.stop,
    )

-- a byte below 128
module _ (s : List ℕ) (h : 0 < length s) (l : get_or s 0 0 < 128) where
  ascii_len : white_len s ≡ pick (blank (get_or s 0 0)) 1 0
  ascii_len = go s h l
    where
      go : (t : List ℕ) → 0 < length t → get_or t 0 0 < 128 → white_len t ≡ pick (blank (get_or t 0 0)) 1 0
      go [] h l = absurd (omega arith)
      go (b ∷ t) h l = ap (λ (c : Char). pick (white_space c.code) c.len 0) (decode_ascii b t (lt-ltb b 128 l)) ∙ ap (λ (w : Bool). pick w 1 0) (sym (blank_white b l))

  pub ascii_white : blank (get_or s 0 0) ≡ true → (1 ≡ white_len s) × (1 ≤ length s)
  ascii_white e = (sym (ascii_len ∙ ap (λ (w : Bool). pick w 1 0) e), omega arith)

  pub ascii_none : blank (get_or s 0 0) ≡ false → (0 ≡ white_len s) × (0 ≤ length s)
  ascii_none e = (sym (ascii_len ∙ ap (λ (w : Bool). pick w 1 0) e), omega arith)

  -- the code's answer there
  pub ascii_byte : (r : ℕ) (t : Bool) → r ≡ bool_byte t → t ≡ blank (get_or s 0 0) → (r ≡ white_len s) × (r ≤ length s)
  ascii_byte r true e f = let w = ascii_white (sym f) in rw e w
  ascii_byte r false e f = let w = ascii_none (sym f) in rw e w
