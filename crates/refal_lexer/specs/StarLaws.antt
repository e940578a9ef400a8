-- At every place that reading reaches, the flag that it carries is 01's condition on the bytes before; so both readings give the same, of any bytes.
use Prim.Native.Nat.{ℕ, zero, suc, ◌+◌, ◌-◌, ◌≤◌}
use Rattle.std.proofs.Common.{add-zero, eqb-true, ne_eqb, lt-ltb, le-leb, ltb-true, true≢false, sym, subst, ◌∙◌, length-drop, drop-drop, take-add, length-take-le}
use native.Mathlib.Omega.{arith}
use Rattle.std.proofs.Math.Decide.{dec_le}
use Rattle.std.proofs.lemmas.Bool.{eqb-false}
use mathlib.Core.List.{List, [], ◌∷◌, ◌++◌}
use Rattle.std.proofs.Math.Bool.{Bool, false}
use Rattle.std.specs.Prelude.{true, not, ◌&&◌, ◌||◌, ◌≡◌, T, leb, ltb, length, take, drop, get_or}
use Rattle.std.proofs.Math.Path.{refl, ap}
use Rattle.std.proofs.Math.Dec.{eqb}
use Rattle.refal_rows.specs.Tests.{below, each_below, and_left, and_right}
use Rattle.refal_text.specs.Pick.{pick, split}
use Rattle.refal_text.specs.Span.{span}
use Rattle.refal_text.specs.SpanLaws.{span_le}
use Rattle.refal_text.specs.Utf8.{decode}
use Rattle.refal_text.specs.White.{white_space}
use Rattle.refal_text.specs.declared.Char.{Char}
use Rattle.refal_lexer.specs.Classes.{upper, digit, sign, letter, name_byte, not_newline, class_of, c_quote, c_minus}
use Rattle.refal_lexer.specs.ClassLaws.{ClassIs, class_view, is_wide, is_white, is_quote, is_star, is_slash, is_dollar, is_plus, is_minus, is_upper, is_digit, is_variable, is_other, is_single, is_none}
use Rattle.refal_lexer.specs.Carried.{line_after, lex_by}
use Rattle.refal_lexer.specs.Blanks.{white_len, close_to, comment_at, on_white, on_comment}
use Rattle.refal_lexer.specs.Words.{entry_word, extern_word, name_of, index_of, variable_scan, directive_of}
use Rattle.refal_lexer.specs.Numbers.{value, sign_bytes, part, point_at, exponent_at, number_of, digits_end, number_scan, Part}
use Rattle.refal_lexer.specs.Literals.{lit_char, Lit, closed, newline, unclosed, lit_step, lit_from}
use Rattle.refal_lexer.specs.Lex.{Out, more_all, stop_bad}
use Rattle.refal_lexer.specs.EndLaws.{At, Low, either, range_low, digit_low, letter_low, name_low}
use Rattle.refal_lexer.specs.Stars.{newline_in, line_start}
use Rattle.refal_lexer.specs.LineLaws.{Ink, white_in, line_ink, line_white}
use Rattle.refal_lexer.specs.Scans.{Comment, Long, Bare, Scan, Token, Bad}
use Rattle.refal_lexer.specs.Tokens.{sign_scan, wide_scan, class_scan, Found, found, refused, one, literal_of, token_at}
use Rattle.refal_lexer.specs.Source.{on_found, turn, lex01, source}
use Rattle.refal_lexer.specs.BlankLaws.{comment_in}
use Rattle.refal_lexer.specs.NumberLaws.{sign_le}
use Rattle.refal_lexer.specs.PlaceLaws.{FoundIn, found_in, part_within}

-- ---- bytes that are no white space, by their class
ink_test : ℕ → Bool
ink_test b = ltb b 128 && pick (white_space b) false true

no_white : (t : Bool) → pick t false true ≡ true → t ≡ false
no_white true h = absurd (true≢false (sym h))
no_white false h = refl

ink_is : (b : ℕ) → ink_test b ≡ true → Ink b
unfolding ink_test
ink_is b h = (and_left (ltb b 128) _ h, no_white (white_space b) (and_right (ltb b 128) _ h))

-- a class of bytes below 128, each of them ink: computed
implies : Bool → Bool → Bool
implies false y = true
implies true y = y

implied : (x y : Bool) → T (implies x y) → x ≡ true → y ≡ true
unfolding implies
implied true true t e = refl
implied true false t e = absurd t
implied false y t e = absurd (true≢false (sym e))

class_ink : (p : ℕ → Bool) → T (below (λ (k : ℕ). implies (p k) (ink_test k)) 128) → (b : ℕ) → Low b → p b ≡ true → Ink b
class_ink p t b l h = ink_is b (implied (p b) (ink_test b) (each_below (λ (k : ℕ). implies (p k) (ink_test k)) 128 t b (ltb-true b 128 l)) h)

name_ink : (b : ℕ) → name_byte b ≡ true → Ink b
unfolding ink_test implies
name_ink b h = class_ink name_byte tt b (name_low b h) h

letter_ink : (b : ℕ) → letter b ≡ true → Ink b
unfolding ink_test implies
letter_ink b h = class_ink letter tt b (letter_low b h) h

digit_ink : (b : ℕ) → digit b ≡ true → Ink b
unfolding ink_test implies
digit_ink b h = class_ink digit tt b (digit_low b h) h

upper_ink : (b : ℕ) → upper b ≡ true → Ink b
unfolding ink_test implies
upper_ink b h = class_ink upper tt b (range_low 65 b 90 (omega arith) h) h

quote_ink : (b : ℕ) → eqb b 39 || eqb b 34 ≡ true → Ink b
quote_ink b = either (eqb b 39) (eqb b 34) (λ t. subst Ink (sym (eqb-true b 39 t)) (refl, refl)) (λ t. subst Ink (sym (eqb-true b 34 t)) (refl, refl))

is_ink : (b n : ℕ) → Ink n → eqb b n ≡ true → Ink b
is_ink b n i t = subst Ink (sym (eqb-true b n t)) i

-- a byte below 128 whose class is not that of white space
first_ink : (b : ℕ) → Low b → eqb (class_of b) 2 ≡ false → Ink b
unfolding ink_test implies
first_ink b l h = class_ink (λ (k : ℕ). not (eqb (class_of k) 2)) tt b l (rw h refl)

ink_newline : (b : ℕ) → Ink b → eqb b 10 ≡ false
ink_newline b i = ne_eqb b 10 (λ (e : b ≡ 10). absurd (true≢false (ap white_space (sym e) ∙ i.1)))

-- no newline stands in what is left of a line
line_clean : (s : List ℕ) → newline_in (take (span not_newline s) s) ≡ false
line_clean [] = refl
line_clean (b ∷ s) = go (eqb b 10) refl (line_clean s)
  where
    go : (t : Bool) → eqb b 10 ≡ t → newline_in (take (span not_newline s) s) ≡ false → newline_in (take (pick (not t) (suc (span not_newline s)) 0) (b ∷ s)) ≡ false
    go true e h = refl
    go false e h = rw e h

module _ (src : List ℕ) where
  abbrev Off : ℕ → Type 0
  Off i = line_start (take i src) ≡ false

  past : (i j n : ℕ) (t : List ℕ) → At src i t → n ≤ length t → j ≡ i + n → At src j (drop n t)
  past i j n t a h e =
      let l : length (drop i src) ≡ length t = ap length a.rest in
      let k = length-drop i src in
      let m = a.inside in
      record { inside = omega arith; rest = ap (λ (x : ℕ). drop x src) e ∙ sym (drop-drop n i src) ∙ ap (drop n) a.rest }

  next : (i j b : ℕ) (s : List ℕ) → At src i (b ∷ s) → j ≡ i + 1 → At src j s
  next i j b s a e = past i j 1 (b ∷ s) a (omega arith) e

  -- the bytes up to n past b, which stands at i
  cut : (i b n : ℕ) (s : List ℕ) → At src i (b ∷ s) → take (i + suc n) src ≡ take i src ++ (b ∷ take n s)
  cut i b n s a = take-add i (suc n) src ∙ ap (λ (l : List ℕ). take i src ++ take (suc n) l) a.rest

  -- behind a byte that is ink no line starts
  step : (i j b : ℕ) (s : List ℕ) → At src i (b ∷ s) → Ink b → j ≡ i + 1 → Off j
  step i j b s a k e = ap (λ (n : ℕ). line_start (take n src)) e ∙ ap line_start (cut i b 0 s a) ∙ line_ink (take i src) [] b k (rw (ink_newline b k) refl)

  moved : {i j : ℕ} → i ≡ j → Off i → Off j
  moved e h = subst Off e h

  -- nor behind a run of ink
  run : (p : ℕ → Bool) → ((b : ℕ) → p b ≡ true → Ink b) → (i j : ℕ) (t : List ℕ) → At src i t → Off i → j ≡ i + span p t → Off j
  run p ink i j [] a h = λ e. moved (let z : i ≡ j = omega arith in z) h
  run p ink i j (b ∷ s) a h = split P (p b) _ _ (λ t e. run p ink (i + 1) j s (next i (i + 1) b s a refl) (step i (i + 1) b s a (ink b t) refl) (omega arith)) (λ _ e. moved (let z : i ≡ j = omega arith in z) h)
    where
      P : ℕ → Type 0
      P n = j ≡ i + n → Off j

  -- ---- scans at `at`
  abbrev Lined : Scan → Type 0
  Lined (Token kind detail text len start end) = Off end
  Lined (Bad number start end) = Unit {0}

  lined_name : (at n : ℕ) → Off (at + n) → Lined (name_of at n)
  lined_name at n e = split Lined (leb n 15) _ _ (λ _. e) (λ _. tt)

  lined_index : (at b n : ℕ) → Off (at + (2 + n)) → Lined (index_of at b n)
  lined_index at b n e = split Lined (eqb n 0) _ _ (λ _. tt) (λ _. split Lined (leb n 15) _ _ (λ _. e) (λ _. tt))

  lined_variable : (at b : ℕ) (s : List ℕ) → At src (at + 1) s → Off (at + 1) → Lined (variable_scan at (b ∷ s))
  lined_variable at b [] a h = tt
  lined_variable at b (x ∷ s) a h =
      split Lined (eqb x 46) _ _ (λ t. lined_index at b (span name_byte s) (run name_byte name_ink (at + 2) (at + (2 + span name_byte s)) s (next (at + 1) (at + 2) x s a (omega arith)) (on (is_ink x 46 (refl, refl) t)) (omega arith))) (λ _.
      split Lined (upper x || digit x) _ _ (λ t. on (either (upper x) (digit x) (upper_ink x) (digit_ink x) t)) (λ _. tt))
    where
      on : Ink x → Off (at + 2)
      on l = step (at + 1) (at + 2) x s a l (omega arith)

  lined_directive : (at n : ℕ) (s : List ℕ) → Off (at + (1 + n)) → Lined (directive_of at n s)
  lined_directive at n s e = split Lined (entry_word n s) _ _ (λ _. e) (λ _. split Lined (extern_word n s) _ _ (λ _. e) (λ _. tt))

  lined_number : (at from n v : ℕ) (p e : Part) → Off (at + n) → Off (at + e.end) → Lined (number_of at from n v p e)
  lined_number at from n v p e x z =
      split Lined p.bare _ _ (λ _. tt) (λ _.
      split Lined e.bare _ _ (λ _. tt) (λ _.
      split Lined (eqb e.end n) _ _ (λ _. split Lined (ltb 0 from) _ _ (λ _. tt) (λ _. split Lined (leb v 4294967295) _ _ (λ _. x) (λ _. tt))) (λ _. z)))

  -- a part at i, where t stands
  sign_off : (signed : Bool) (i : ℕ) (t : List ℕ) → At src i t → Off i → Off (i + sign_bytes signed t)
  sign_off signed i [] a h = moved (sym (add-zero i)) h
  sign_off signed i (b ∷ t) a h =
      split (λ (n : ℕ). Off (i + n)) (signed && sign b) 1 0
      (λ u. step i (i + 1) b t a (either (eqb b 43) (eqb b 45) (is_ink b 43 (refl, refl)) (is_ink b 45 (refl, refl)) (and_right signed (sign b) u)) refl) (λ _. moved (sym (add-zero i)) h)

  part_off : (mark : ℕ) (signed : Bool) (at i : ℕ) (t : List ℕ) → Ink mark → At src (at + i) t → Off (at + i) → Off (at + (part mark signed i t).end)
  part_off mark signed at i [] l a h = h
  part_off mark signed at i (b ∷ t) l a h =
      let n = sign_bytes signed t in
      let c = next (at + i) (at + i + 1) b t a refl in
      split (λ (p : Part). Off (at + p.end)) (eqb b mark) _ _
      (λ u. run digit digit_ink (at + i + 1 + n) (at + (i + 1 + n + span digit (drop n t))) (drop n t) (past (at + i + 1) (at + i + 1 + n) n t c (sign_le signed t) refl)
      (sign_off signed (at + i + 1) t c (step (at + i) (at + i + 1) b t a (is_ink b mark l u) refl)) (omega arith)) (λ _. h)

  -- s stands at `at`, and its digits end where no line starts
  lined_digits : (at from : ℕ) (s : List ℕ) → At src at s → from ≤ length s → Off (at + digits_end from s) → Lined (number_scan at from s)
  lined_digits at from s a l h =
      let m = span_le digit (drop from s) in
      let d = length-drop from s in
      let p = part_within 46 false (digits_end from s) s (omega arith) in
      let hp = part_off 46 false at (digits_end from s) (drop (digits_end from s) s) (refl, refl) (past at (at + digits_end from s) (digits_end from s) s a (omega arith) refl) h in
      let p1 = p.1 in
      lined_number at from (digits_end from s) (value 0 (drop from s)) (point_at (digits_end from s) s) (exponent_at (point_at (digits_end from s) s).end s) h
      (part_off 69 true at (point_at (digits_end from s) s).end (drop (point_at (digits_end from s) s).end s) (refl, refl) (past at (at + (point_at (digits_end from s) s).end) (point_at (digits_end from s) s).end s a p1 refl) hp)

  lined_sign : (k at b : ℕ) (s : List ℕ) → At src at (b ∷ s) → Off (at + 1) → Lined (sign_scan k at (b ∷ s))
  lined_sign k at b s a h =
      split Lined (digit (get_or s 0 0)) _ _ (λ _. lined_digits at 1 (b ∷ s) a (omega arith) (run digit digit_ink (at + 1) (at + (1 + span digit s)) s (next at (at + 1) b s a refl) h (omega arith))) (λ _.
      split Lined (eqb k c_minus) _ _ (λ _. tt) (λ _. tt))

  lined_first : (at b : ℕ) (s : List ℕ) → digit b ≡ true → At src at (b ∷ s) → Off (at + 1) → Lined (number_scan at 0 (b ∷ s))
  lined_first at b s t a h = lined_digits at 0 (b ∷ s) a (omega arith) (rw t (run digit digit_ink (at + 1) (at + (0 + suc (span digit s))) s (next at (at + 1) b s a refl) h (omega arith)))

  lined_wide : (at : ℕ) (c : Char) → Lined (wide_scan at c)
  lined_wide at c = split Lined (eqb c.len 0) _ _ (λ _. tt) (λ _. tt)

  lined_class : (at b : ℕ) (s : List ℕ) (k : ℕ) → At src at (b ∷ s) → (eqb k 2 ≡ false → Off (at + 1)) → ClassIs b k → Lined (class_scan k at (b ∷ s))
  lined_class at b s k a i (is_wide t) = lined_wide at (decode (b ∷ s))
  lined_class at b s k a i (is_white n t) = tt
  lined_class at b s k a i (is_quote t) = tt
  lined_class at b s k a i (is_star t) = tt
  lined_class at b s k a i (is_slash t) = tt
  lined_class at b s k a i (is_dollar t) = lined_directive at (span letter s) s (run letter letter_ink (at + 1) (at + (1 + span letter s)) s (next at (at + 1) b s a refl) (i refl) (omega arith))
  lined_class at b s k a i (is_plus t) = lined_sign 17 at b s a (i refl)
  lined_class at b s k a i (is_minus t) = lined_sign 20 at b s a (i refl)
  lined_class at b s k a i (is_upper t) = lined_name at (1 + span name_byte s) (run name_byte name_ink (at + 1) (at + (1 + span name_byte s)) s (next at (at + 1) b s a refl) (i refl) (omega arith))
  lined_class at b s k a i (is_digit t) = lined_first at b s t a (i refl)
  lined_class at b s k a i (is_variable t) = lined_variable at b s (next at (at + 1) b s a refl) (i refl)
  lined_class at b s k a i (is_other t) = tt
  lined_class at b s k a i (is_single t) = i refl
  lined_class at b s k a i is_none = tt

  -- ---- literals: only the quote closes
  abbrev LinedLit : ℕ → Lit → Type 0
  LinedLit at (closed n end) = Off (at + end)
  LinedLit at (newline end) = Unit {0}
  LinedLit at (unclosed end) = Unit {0}

  module _ (q : ℕ) (iq : Ink q) where
    lit_quote : (b : ℕ) (s : List ℕ) → (lit_char q (b ∷ s)).len ≡ 0 → Ink b
    unfolding lit_char
    lit_quote b s =
        split P (eqb b q) _ _ (λ t _. is_ink b q iq t) (λ _.
        split P (eqb (decode (b ∷ s)).len 0) _ _ (λ t e. absurd (omega arith)) (λ t e.
        absurd (eqb-false _ _ t e)))
      where
        P : Char → Type 0
        P c = c.len ≡ 0 → Ink b

    lined_literal : (at skip i n : ℕ) (s : List ℕ) → At src (at + i) s → LinedLit at (lit_from q skip i n s)
    unfolding lit_from
    lined_literal at skip i n [] a = tt
    lined_literal at (suc k) i n (b ∷ s) a = lined_literal at k (suc i) n s (next (at + i) (at + suc i) b s a (omega arith))
    lined_literal at zero i n (b ∷ s) a = go (lit_char q (b ∷ s)).len refl (λ k. lined_literal at k (suc i) (suc n) s (next (at + i) (at + suc i) b s a (omega arith)))
      where
        go : (k : ℕ) → (lit_char q (b ∷ s)).len ≡ k → ((j : ℕ) → LinedLit at (lit_from q j (suc i) (suc n) s)) → LinedLit at (lit_step k i n b (λ j. lit_from q j (suc i) (suc n) s))
        go zero e ih = step (at + i) (at + (i + 1)) b s a (lit_quote b s e) (omega arith)
        go (suc k) e ih = split (LinedLit at) (eqb b 10) _ _ (λ _. tt) (λ _. ih k)

  -- ---- what is found at `at`
  abbrev LinedFound : Found → Type 0
  LinedFound (found ts end) = Off end
  LinedFound (refused number start end) = Unit {0}

  lined_one : (x : Scan) → Lined x → LinedFound (one x)
  lined_one (Token kind detail text len start end) h = h
  lined_one (Bad number start end) h = tt

  lined_lit : (at q : ℕ) (s : List ℕ) (l : Lit) → LinedLit at l → LinedFound (literal_of at q s l)
  lined_lit at q s (closed n end) h = split LinedFound (ltb 255 n) _ _ (λ _. tt) (λ _. split LinedFound (eqb n 0) _ _ (λ _. tt) (λ _. h))
  lined_lit at q s (newline end) h = tt
  lined_lit at q s (unclosed end) h = tt

  lined_found : (at b : ℕ) (s : List ℕ) → At src at (b ∷ s) → LinedFound (token_at at (b ∷ s))
  lined_found at b s a =
      split LinedFound (eqb (class_of b) c_quote) _ _ (λ t. lined_lit at b s (lit_from b 0 1 0 s) (lined_literal b (quote t) at 0 1 0 s (next at (at + 1) b s a refl))) (λ _.
      lined_one (class_scan (class_of b) at (b ∷ s)) (go (dec_le 128 b)))
    where
      of_quote : (k : ℕ) → ClassIs b k → k ≡ 3 → Ink b
      of_quote k (is_quote h) e = quote_ink b h
      of_quote k (is_wide t) e = absurd (omega arith)
      of_quote k (is_white n t) e = absurd (omega arith)
      of_quote k (is_star t) e = absurd (omega arith)
      of_quote k (is_slash t) e = absurd (omega arith)
      of_quote k (is_dollar t) e = absurd (omega arith)
      of_quote k (is_plus t) e = absurd (omega arith)
      of_quote k (is_minus t) e = absurd (omega arith)
      of_quote k (is_upper t) e = absurd (omega arith)
      of_quote k (is_digit t) e = absurd (omega arith)
      of_quote k (is_variable t) e = absurd (omega arith)
      of_quote k (is_other t) e = absurd (omega arith)
      of_quote k (is_single t) e = absurd (omega arith)
      of_quote k is_none e = absurd (omega arith)

      quote : eqb (class_of b) c_quote ≡ true → Ink b
      quote t = of_quote (class_of b) (class_view b) (eqb-true (class_of b) 3 t)

      go : Dec (128 ≤ b) → Lined (class_scan (class_of b) at (b ∷ s))
      go (yes l) = subst (λ (k : ℕ). Lined (class_scan k at (b ∷ s))) (let w : 18 ≡ class_of b = sym (simp (le-leb 128 b l)) in w) (lined_wide at (decode (b ∷ s)))
      go (no l) = lined_class at b s (class_of b) a (λ h. step at (at + 1) b s a (first_ink b (lt-ltb b 128 (omega arith)) h) refl) (class_view b)

  -- ---- comments
  abbrev LinedComment : ℕ → Comment → Type 0
  LinedComment at (Long n) = Off (at + n)
  LinedComment at (Bare o) = Unit {0}

  lined_close : (star : Bool) (at n : ℕ) (s : List ℕ) → At src (at + n) s → LinedComment at (close_to star n s)
  unfolding close_to
  lined_close star at n [] a = tt
  lined_close star at n (b ∷ s) a =
      split (LinedComment at) (star && eqb b 47) _ _ (λ t. step (at + n) (at + (n + 1)) b s a (is_ink b 47 (refl, refl) (and_right star (eqb b 47) t)) (omega arith)) (λ _.
      lined_close (eqb b 42) at (n + 1) s (next (at + n) (at + (n + 1)) b s a (omega arith)))

  lined_comment : (at : ℕ) (starts : Bool) (b : ℕ) (s : List ℕ) → At src at (b ∷ s) → LinedComment at (comment_at starts (b ∷ s))
  lined_comment at starts b s a =
      split (LinedComment at) (eqb b 42 && starts) _ _ (λ t. star (eqb-true b 42 (and_left (eqb b 42) starts t))) (λ _. slash s a)
    where
      star : b ≡ 42 → Off (at + (1 + span not_newline s))
      star e =
          let k : Ink b = subst Ink (sym e) (refl, refl) in
          moved (let z : at + suc (span not_newline s) ≡ at + (1 + span not_newline s) = omega arith in z)
          (ap line_start (cut at b (span not_newline s) s a) ∙ line_ink (take at src) (take (span not_newline s) s) b k (rw (ink_newline b k) (line_clean s)))

      slash : (t : List ℕ) → At src at (b ∷ t) → LinedComment at (pick (eqb b 47 && eqb (get_or t 0 0) 42) (close_to false 2 (drop 1 t)) (Bare false))
      slash [] a = split (LinedComment at) (eqb b 47 && eqb 0 42) _ _ (λ t. absurd (true≢false (sym (and_right (eqb b 47) (eqb 0 42) t)))) (λ _. tt)
      slash (x ∷ t) a = split (LinedComment at) (eqb b 47 && eqb x 42) _ _ (λ _. lined_close false at 2 t (past at (at + 2) 2 (b ∷ x ∷ t) a (omega arith) refl)) (λ _. tt)

  -- ---- white space
  lined_white : (at b k : ℕ) (s : List ℕ) → At src at (b ∷ s) → white_len (b ∷ s) ≡ suc k → line_after b at (line_start (take at src)) ≡ line_start (take (at + suc k) src)
  lined_white at b k s a e =
      let l : length (take at src) ≡ at = length-take-le at src a.inside in
      sym (ap line_start (cut at b k s a) ∙ line_white (take at src) b s k e ∙ ap (λ (n : ℕ). line_after b n (line_start (take at src))) l)

  -- ---- reading: `line`, at the end of what is skipped, is 01's condition
  reads : (skip at : ℕ) (line : Bool) (s : List ℕ) → skip ≤ length s → At src at s → line ≡ line_start (take (at + skip) src) → lex01 src skip at s ≡ lex_by skip at line s
  unfolding lex01 lex_by
  reads skip at line [] h a e = refl
  reads (suc k) at line (b ∷ s) h a e = reads k (suc at) line s (omega arith) (next at (suc at) b s a (omega arith)) (e ∙ ap (λ (n : ℕ). line_start (take n src)) (let z : at + suc k ≡ suc at + k = omega arith in z))
  reads zero at line (b ∷ s) h a e =
      white (white_len (b ∷ s)) refl (λ k l i f. reads k (suc at) l s i (next at (suc at) b s a (omega arith)) f)
      ∙ ap (λ (l : Bool). turn l at b s (λ k. lex_by k (suc at) (line_after b at l) s) (λ k. lex_by k (suc at) false s) (λ k. lex_by k (suc at) false s)) (sym (e ∙ ap (λ (n : ℕ). line_start (take n src)) (add-zero at)))
    where
      L : Bool
      L = line_start (take at src)

      IH : Type 0
      IH = (k : ℕ) (l : Bool) → k ≤ length s → l ≡ line_start (take (suc at + k) src) → lex01 src k (suc at) s ≡ lex_by k (suc at) l s

      Old : ℕ → Out
      Old k = lex01 src k (suc at) s

      New : Bool → ℕ → Out
      New l k = lex_by k (suc at) l s

      there : (n m : ℕ) → n ≡ m → line_start (take n src) ≡ line_start (take m src)
      there n m z = ap (λ (k : ℕ). line_start (take k src)) z

      token : (x : Found) → FoundIn at (at + suc (length s)) x → LinedFound x → IH → on_found at x Old ≡ on_found at x (New false)
      token (found ts end) p f ih =
          let lo = p.0 in
          let hi = p.1 in
          ap (more_all ts) (ih (end - suc at) false (omega arith) (sym f ∙ there end (suc at + (end - suc at)) (omega arith)))
      token (refused number start end) p f ih = refl

      comment : (c : Comment) → comment_at L (b ∷ s) ≡ c → LinedComment at c → IH
          → on_comment c (λ n. Old (n - 1)) (stop_bad 24 at (at + suc (length s))) (on_found at (token_at at (b ∷ s)) Old)
          ≡ on_comment c (λ n. New false (n - 1)) (stop_bad 24 at (at + suc (length s))) (on_found at (token_at at (b ∷ s)) (New false))
      comment (Long n) c f ih =
          let m = comment_in L (b ∷ s) n (omega arith) c in
          let lo = m.0 in
          let hi = m.1 in
          ih (n - 1) false (omega arith) (sym f ∙ there (at + n) (suc at + (n - 1)) (omega arith))
      comment (Bare true) c f ih = refl
      comment (Bare false) c f ih = token (token_at at (b ∷ s)) (found_in at (b ∷ s) (omega arith)) (lined_found at b s a) ih

      white : (n : ℕ) → white_len (b ∷ s) ≡ n → IH
          → on_white n Old (on_comment (comment_at L (b ∷ s)) (λ n. Old (n - 1)) (stop_bad 24 at (at + suc (length s))) (on_found at (token_at at (b ∷ s)) Old))
          ≡ on_white n (New (line_after b at L)) (on_comment (comment_at L (b ∷ s)) (λ n. New false (n - 1)) (stop_bad 24 at (at + suc (length s))) (on_found at (token_at at (b ∷ s)) (New false)))
      white zero w ih = comment (comment_at L (b ∷ s)) refl (lined_comment at L b s a) ih
      white (suc k) w ih = ih k (line_after b at L) (white_in b s k w) (lined_white at b k s a w ∙ there (at + suc k) (suc at + k) (omega arith))

-- for every source, of any bytes
pub source_is : (s : List ℕ) → source s ≡ lex_by 0 0 true s
unfolding lex01 lex_by
source_is s = reads s 0 0 true s (omega arith) (record { inside = omega arith; rest = refl }) refl
