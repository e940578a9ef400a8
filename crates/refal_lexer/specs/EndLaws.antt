-- Every scan that starts on a boundary of well-formed bytes ends on one, and its token's text starts and ends on one.
use Prim.Native.Nat.{ℕ, zero, suc, ◌+◌, ◌<◌, ◌≤◌}
use Rattle.std.proofs.Common.{add-zero, true≢false, ap, sym, ◌∙◌, length-drop, get_or-drop, drop-drop}
use native.Mathlib.Omega.{arith}
use Rattle.std.proofs.Math.Decide.{dec_le}
use borrow.Author.Tests.{ltb-true, eqb-true, eqb-false, lt-ltb, le-leb, lt-leb, not-false}
use mathlib.Core.List.{List, [], ◌∷◌, ◌++◌}
use Rattle.std.specs.Prelude.{Bool, true, false, ◌&&◌, ◌||◌, ◌≡◌, leb, ltb, drop, get_or}
use Rattle.std.proofs.Math.Path.{refl, subst}
use Rattle.std.proofs.Math.Dec.{eqb}
use Rattle.std.proofs.Math.ListN.{length}
use Rattle.refal_rows.specs.Tests.{and_right, range_hi}
use Rattle.refal_text.specs.Pick.{split, pick}
use Rattle.refal_text.specs.Span.{span}
use Rattle.refal_text.specs.Utf8.{cont, decode, well_to}
use Rattle.refal_text.specs.Utf8Laws.{decode_ascii}
use Rattle.refal_text.specs.declared.Char.{Char}
use Rattle.refal_lexer.specs.Classes.{upper, digit, sign, letter, name_byte, not_newline, class_of, c_minus, c_quote}
use Rattle.refal_lexer.specs.Scans.{Scan, Token, Bad, Comment, Long, Bare}
use Rattle.refal_lexer.specs.Tokens.{wide_scan, sign_scan, class_scan, Found, found, refused, one, literal_of, token_at}
use Rattle.refal_lexer.specs.Words.{name_of, other_scan, index_of, variable_scan, entry_word, extern_word, directive_of}
use Rattle.refal_lexer.specs.Numbers.{value, sign_bytes, part, number_of, number_scan, point_at, exponent_at, digits_end, Part}
use Rattle.refal_lexer.specs.Literals.{lit_char, lit_step, lit_from, char_step, char_tokens, Lit, closed, newline, unclosed}
use Rattle.refal_lexer.specs.ClassLaws.{ClassIs, class_view, is_wide, is_white, is_quote, is_star, is_slash, is_dollar, is_plus, is_minus, is_upper, is_digit, is_variable, is_other, is_single, is_none, quote_class}
use Rattle.refal_lexer.specs.Boundaries.{Boundary, first, Well, AllOn, all_more}
use Rattle.refal_lexer.specs.BoundaryLaws.{boundary_well, byte_boundary, well_front, well_byte}
use Rattle.refal_text.specs.SpanLaws.{span_le}
use Rattle.refal_lexer.specs.Blanks.{white_len, close_to, comment_at}
use Rattle.refal_ast.specs.Tokens.{Token as Tok, token}
use Rattle.refal_lexer.specs.LineLaws.{white_len_lem}
use Rattle.refal_lexer.specs.PlaceLaws.{part_within}

-- ---- bytes below 128
pub either : {A : Type 0} (x y : Bool) → (x ≡ true → A) → (y ≡ true → A) → x || y ≡ true → A
either true y f g h = f refl
either false y f g h = g h

abbrev pub Low : ℕ → Type 0
Low b = ltb b 128 ≡ true

pub range_low : (a b c : ℕ) → c < 128 → leb a b && leb b c ≡ true → Low b
range_low a b c l h = let k = range_hi a b c h in lt-ltb b 128 (omega arith)

pub is_low : (b n : ℕ) → n < 128 → eqb b n ≡ true → Low b
is_low b n l h = let k : b ≡ n = eqb-true b n h in lt-ltb b 128 (omega arith)

pub digit_low : (b : ℕ) → digit b ≡ true → Low b
digit_low b = range_low 48 b 57 (omega arith)

pub letter_low : (b : ℕ) → letter b ≡ true → Low b
letter_low b = either (leb 65 b && leb b 90) (leb 97 b && leb b 122) (range_low 65 b 90 (omega arith)) (range_low 97 b 122 (omega arith))

pub name_low : (b : ℕ) → name_byte b ≡ true → Low b
name_low b =
    either ((letter b || digit b) || eqb b 95) (eqb b 45)
    (either (letter b || digit b) (eqb b 95) (either (letter b) (digit b) (letter_low b) (digit_low b)) (is_low b 95 (omega arith))) (is_low b 45 (omega arith))

-- a scan's span, and its token's text, stand on boundaries
abbrev pub Ends : List ℕ → Scan → Type 0
Ends s (Token kind detail text len start end) = Boundary s start × Boundary s end × Boundary s text × Boundary s (text + len)
Ends s (Bad number start end) = Boundary s start × Boundary s end

nil_well : Well []
unfolding well_to
nil_well = refl

low_well : (b : ℕ) (s : List ℕ) → Low b → Well (b ∷ s) → Well s
low_well b s l w =
    let f = well_front b s w in
    let d : (decode (b ∷ s)).len ≡ 1 = ap (λ (c : Char). c.len) (decode_ascii b s l) in
    let z : f.n ≡ 0 = let x = f.long in omega arith in
    subst (λ (k : ℕ). Well (drop k s)) z f.rest

-- ---- t stands at the offset i of s
pub record At (s : List ℕ) (i : ℕ) (t : List ℕ) : Type 0 where
  pub inside : i ≤ length s
  pub rest : drop i s ≡ t

-- and i is a boundary
pub record Here (s : List ℕ) (i : ℕ) (t : List ℕ) : Type 0 where
  pub at : At s i t
  pub well : Well t

pub moved : {src t : List ℕ} {i j : ℕ} → i ≡ j → Here src i t → Here src j t
moved {src} {t} e h = subst (λ (k : ℕ). Here src k t) e h

module _ (src : List ℕ) (w : Well src) where
  pub past : (i j n : ℕ) (t : List ℕ) → At src i t → n ≤ length t → j ≡ i + n → At src j (drop n t)
  past i j n t a h e =
      let l : length (drop i src) ≡ length t = ap length a.rest in
      let k = length-drop i src in
      let m = a.inside in
      record { inside = omega arith; rest = ap (λ (x : ℕ). drop x src) e ∙ sym (drop-drop n i src) ∙ ap (drop n) a.rest }

  next : (i j b : ℕ) (s : List ℕ) → At src i (b ∷ s) → j ≡ i + 1 → At src j s
  next i j b s a e = past i j 1 (b ∷ s) a (omega arith) e

  byte_is : (i : ℕ) (t : List ℕ) → At src i t → get_or src i 0 ≡ get_or t 0 0
  byte_is i t a = sym (get_or-drop i src 0 0 ∙ ap (λ (j : ℕ). get_or src j 0) (add-zero i)) ∙ ap (λ (l : List ℕ). get_or l 0 0) a.rest

  pub stands : (i : ℕ) (t : List ℕ) → Here src i t → Boundary src i
  stands i t h = byte_boundary src i w h.at.inside (ap cont (byte_is i t h.at) ∙ well_byte t h.well)

  pub here_is : (i : ℕ) (t : List ℕ) → At src i t → Boundary src i → Here src i t
  here_is i t a b = record { at = a; well = subst Well a.rest (boundary_well src i w b) }

  -- a byte below 128 stands on a boundary, and so does what stands behind it
  low_here : (i b : ℕ) (s : List ℕ) → At src i (b ∷ s) → Low b → Here src i (b ∷ s)
  low_here i b s a l =
      let k : b < 128 = ltb-true b 128 l in
      let c : cont b ≡ false = simp (lt-leb 128 b k) in
      here_is i (b ∷ s) a (byte_boundary src i w a.inside (ap cont (byte_is i (b ∷ s) a) ∙ c))

  step : (i j b : ℕ) (s : List ℕ) → Here src i (b ∷ s) → Low b → j ≡ i + 1 → Here src j s
  step i j b s h l e = record { at = next i j b s h.at e; well = low_well b s l h.well }

  -- a whole character
  char_step_lem : (i j b n : ℕ) (s : List ℕ) → Here src i (b ∷ s) → (decode (b ∷ s)).len ≡ suc n → j ≡ i + suc n → (n ≤ length s) × Here src j (drop n s)
  char_step_lem i j b n s h d e =
      let f = well_front b s h.well in
      let z : f.n ≡ n = let x = f.long in omega arith in
      let l : n ≤ length s = let x = f.fits in omega arith in
      (l, record { at = past i j (suc n) (b ∷ s) h.at (omega arith) e; well = subst (λ (k : ℕ). Well (drop k s)) z f.rest })

  -- a run of bytes below 128
  run : (p : ℕ → Bool) → ((b : ℕ) → p b ≡ true → Low b) → (i j : ℕ) (t : List ℕ) → Here src i t → j ≡ i + span p t → Here src j (drop (span p t) t)
  run p low i j [] h = λ e. moved (let z : i ≡ j = omega arith in z) h
  run p low i j (b ∷ s) h = split P (p b) _ _ (λ t e. run p low (i + 1) j s (step i (i + 1) b s h (low b t) refl) (omega arith))
      (λ _ e. moved (let z : i ≡ j = omega arith in z) h)
    where
      P : ℕ → Type 0
      P n = j ≡ i + n → Here src j (drop n (b ∷ s))

  run_end : (p : ℕ → Bool) → ((b : ℕ) → p b ≡ true → Low b) → (i : ℕ) (t : List ℕ) → Here src i t → Boundary src (i + span p t)
  run_end p low i t h = stands (i + span p t) (drop (span p t) t) (run p low i (i + span p t) t h refl)

  -- ---- words: s stands at `at`
  ends_name : (at n : ℕ) → Boundary src at → Boundary src (at + n) → Ends src (name_of at n)
  ends_name at n a e = split (Ends src) (leb n 15) _ _ (λ _. (a, e, a, e)) (λ _. (a, e))

  ends_index : (at b n : ℕ) → Boundary src at → Boundary src (at + 2) → Boundary src (at + (2 + n)) → Ends src (index_of at b n)
  ends_index at b n a t e =
      split (Ends src) (eqb n 0) _ _ (λ _. (a, t)) (λ _.
      split (Ends src) (leb n 15) _ _ (λ _. (a, e, t, subst (Boundary src) (let z : at + (2 + n) ≡ at + 2 + n = omega arith in z) e)) (λ _. (a, e)))

  run_to : (p : ℕ → Bool) → ((b : ℕ) → p b ≡ true → Low b) → (i j : ℕ) (t : List ℕ) → Here src i t → j ≡ i + span p t → Boundary src j
  run_to p low i j t h e = stands j (drop (span p t) t) (run p low i j t h e)

  ends_other : (at b : ℕ) (s : List ℕ) → Boundary src at → Here src (at + 1) s → Ends src (other_scan at (b ∷ s))
  ends_other at b s a h = (a, run_to name_byte name_low (at + 1) (at + (1 + span name_byte s)) s h (omega arith))

  ends_variable : (at b : ℕ) (s : List ℕ) → Boundary src at → Here src (at + 1) s → Ends src (variable_scan at (b ∷ s))
  ends_variable at b [] a h = ends_other at b [] a h
  ends_variable at b (x ∷ s) a h =
      split (Ends src) (eqb x 46) _ _ (λ t. let g = on (is_low x 46 (omega arith) t) in
      ends_index at b (span name_byte s) a (stands (at + 2) s g) (run_to name_byte name_low (at + 2) (at + (2 + span name_byte s)) s g (omega arith))) (λ _.
      split (Ends src) (upper x || digit x) _ _ (λ t. let e = stands (at + 2) s (on (either (upper x) (digit x) (range_low 65 x 90 (omega arith)) (digit_low x) t)) in
      (a, e, stands (at + 1) (x ∷ s) h, subst (Boundary src) (let z : at + 2 ≡ at + 1 + 1 = omega arith in z) e)) (λ _. ends_other at b (x ∷ s) a h))
    where
      on : Low x → Here src (at + 2) s
      on l = step (at + 1) (at + 2) x s h l (omega arith)

  ends_directive : (at n : ℕ) (s : List ℕ) → Boundary src at → Boundary src (at + (1 + n)) → Ends src (directive_of at n s)
  ends_directive at n s a e = split (Ends src) (entry_word n s) _ _ (λ _. (a, e, first, first)) (λ _. split (Ends src) (extern_word n s) _ _ (λ _. (a, e, first, first)) (λ _. (a, e)))

  -- ---- numbers
  sign_here : (signed : Bool) (i : ℕ) (t : List ℕ) → Here src i t → Here src (i + sign_bytes signed t) (drop (sign_bytes signed t) t)
  sign_here signed i [] h = moved (sym (add-zero i)) h
  sign_here signed i (b ∷ t) h =
      split (λ (n : ℕ). Here src (i + n) (drop n (b ∷ t))) (signed && sign b) 1 0
      (λ u. step i (i + 1) b t h (either (eqb b 43) (eqb b 45) (is_low b 43 (omega arith)) (is_low b 45 (omega arith)) (and_right signed (sign b) u)) refl) (λ _. moved (sym (add-zero i)) h)

  part_end : (mark : ℕ) (signed : Bool) (at i : ℕ) (t : List ℕ) → mark < 128 → Here src (at + i) t → Boundary src (at + (part mark signed i t).end)
  part_end mark signed at i [] l h = stands (at + i) [] h
  part_end mark signed at i (b ∷ t) l h =
      let n = sign_bytes signed t in
      split (λ (p : Part). Boundary src (at + p.end)) (eqb b mark) _ _
      (λ u. run_to digit digit_low (at + i + 1 + n) (at + (i + 1 + n + span digit (drop n t))) (drop n t)
      (sign_here signed (at + i + 1) t (step (at + i) (at + i + 1) b t h (is_low b mark l u) refl)) (omega arith)) (λ _. stands (at + i) (b ∷ t) h)

  ends_number : (at from n v : ℕ) (p e : Part) → Boundary src at → Boundary src (at + n) → Boundary src (at + p.end) → Boundary src (at + e.end) → Ends src (number_of at from n v p e)
  ends_number at from n v p e a x y z =
      split (Ends src) p.bare _ _ (λ _. (a, y)) (λ _.
      split (Ends src) e.bare _ _ (λ _. (a, z)) (λ _.
      split (Ends src) (eqb e.end n) _ _ (λ _.
      split (Ends src) (ltb 0 from) _ _ (λ _. (a, x)) (λ _.
      split (Ends src) (leb v 4294967295) _ _ (λ _. (a, x, a, x)) (λ _. (a, x)))) (λ _.
      (a, z, a, z))))

  -- s stands at `at`, and its digits end on a boundary
  ends_digits : (at from : ℕ) (s : List ℕ) → At src at s → from ≤ length s → Boundary src at → Boundary src (at + digits_end from s) → Ends src (number_scan at from s)
  ends_digits at from s t l a h =
      let m = span_le digit (drop from s) in
      let d = length-drop from s in
      let p = part_within 46 false (digits_end from s) s (omega arith) in
      let p1 = p.1 in
      let hp = part_end 46 false at (digits_end from s) (drop (digits_end from s) s) (omega arith) (here_is (at + digits_end from s) (drop (digits_end from s) s) (past at (at + digits_end from s) (digits_end from s) s t (omega arith) refl) h) in
      let q = (point_at (digits_end from s) s).end in
      ends_number at from (digits_end from s) (value 0 (drop from s)) (point_at (digits_end from s) s) (exponent_at (point_at (digits_end from s) s).end s) a h hp
      (part_end 69 true at (point_at (digits_end from s) s).end (drop (point_at (digits_end from s) s).end s) (omega arith)
      (here_is (at + (point_at (digits_end from s) s).end) (drop (point_at (digits_end from s) s).end s) (past at (at + (point_at (digits_end from s) s).end) (point_at (digits_end from s) s).end s t p1 refl) hp))

  ends_sign : (k at b : ℕ) (s : List ℕ) → Here src at (b ∷ s) → Here src (at + 1) s → Ends src (sign_scan k at (b ∷ s))
  ends_sign k at b s h g =
      let a = stands at (b ∷ s) h in
      split (Ends src) (digit (get_or s 0 0)) _ _ (λ _. ends_digits at 1 (b ∷ s) h.at (omega arith) a (run_to digit digit_low (at + 1) (at + (1 + span digit s)) s g (omega arith))) (λ _.
      split (Ends src) (eqb k c_minus) _ _ (λ _. ends_other at b s a g) (λ _. (a, stands (at + 1) s g)))

  -- ---- comments
  abbrev pub EndsComment : ℕ → Comment → Type 0
  EndsComment at (Long n) = Boundary src (at + n)
  EndsComment at (Bare o) = Unit {0}

  ends_close : (star : Bool) (at n : ℕ) (s : List ℕ) → At src (at + n) s → EndsComment at (close_to star n s)
  unfolding close_to
  ends_close star at n [] a = tt
  ends_close star at n (b ∷ s) a =
      split (EndsComment at) (star && eqb b 47) _ _ (λ t.
      let l = is_low b 47 (omega arith) (and_right star (eqb b 47) t) in
      stands (at + (n + 1)) s (step (at + n) (at + (n + 1)) b s (low_here (at + n) b s a l) l (omega arith))) (λ _.
      ends_close (eqb b 42) at (n + 1) s (next (at + n) (at + (n + 1)) b s a (omega arith)))

  -- a line ends before a newline, or at the end
  line_end : (i : ℕ) (s : List ℕ) → At src i s → Boundary src (i + span not_newline s)
  line_end i [] a = subst (Boundary src) (sym (add-zero i)) (stands i [] (record { at = a; well = nil_well }))
  line_end i (b ∷ s) a =
      split (λ (n : ℕ). Boundary src (i + n)) (not_newline b) _ _
      (λ _. subst (Boundary src) (let z : i + 1 + span not_newline s ≡ i + suc (span not_newline s) = omega arith in z) (line_end (i + 1) s (next i (i + 1) b s a refl)))
      (λ t. subst (Boundary src) (sym (add-zero i)) (stands i (b ∷ s) (low_here i b s a (is_low b 10 (omega arith) (not-false (eqb b 10) t)))))

  pub ends_comment : (at : ℕ) (starts : Bool) (b : ℕ) (s : List ℕ) → At src at (b ∷ s) → EndsComment at (comment_at starts (b ∷ s))
  ends_comment at starts b s a =
      split (EndsComment at) (eqb b 42 && starts) _ _ (λ t. subst (Boundary src) (let z : at + 1 + span not_newline s ≡ at + (1 + span not_newline s) = omega arith in z) (line_end (at + 1) s (next at (at + 1) b s a refl))) (λ _. slash s a)
    where
      slash : (t : List ℕ) → At src at (b ∷ t) → EndsComment at (pick (eqb b 47 && eqb (get_or t 0 0) 42) (close_to false 2 (drop 1 t)) (Bare false))
      slash [] a = split (EndsComment at) (eqb b 47 && eqb 0 42) _ _ (λ t. absurd (true≢false (sym (and_right (eqb b 47) (eqb 0 42) t)))) (λ _. tt)
      slash (x ∷ t) a = split (EndsComment at) (eqb b 47 && eqb x 42) _ _ (λ _. ends_close false at 2 t (past at (at + 2) 2 (b ∷ x ∷ t) a (omega arith) refl)) (λ _. tt)

  -- the end of the source
  pub last : (i : ℕ) (t : List ℕ) → At src i t → Boundary src (i + length t)
  last i [] a = subst (Boundary src) (sym (add-zero i)) (stands i [] (record { at = a; well = nil_well }))
  last i (b ∷ t) a = subst (Boundary src) (let z : i + 1 + length t ≡ i + suc (length t) = omega arith in z) (last (i + 1) t (next i (i + 1) b t a refl))

  -- ---- characters past U+007F, and white space
  char_end : (at b : ℕ) (s : List ℕ) → Here src at (b ∷ s) → Boundary src (at + (decode (b ∷ s)).len)
  char_end at b s h =
      let f = well_front b s h.well in
      let m = f.long in
      let c = char_step_lem at (at + suc f.n) b f.n s h m refl in
      subst (λ (k : ℕ). Boundary src (at + k)) (sym m) (stands (at + suc f.n) (drop f.n s) c.1)

  pub white_end : (at b k : ℕ) (s : List ℕ) → Here src at (b ∷ s) → white_len (b ∷ s) ≡ suc k → Boundary src (at + suc k)
  white_end at b k s h e = subst (λ (n : ℕ). Boundary src (at + n)) (white_len_lem (b ∷ s) k e) (char_end at b s h)

  ends_wide : (at b : ℕ) (s : List ℕ) → Here src at (b ∷ s) → Ends src (wide_scan at (decode (b ∷ s)))
  ends_wide at b s h =
      let f = well_front b s h.well in
      let m = f.long in
      let a = stands at (b ∷ s) h in
      split (Ends src) (eqb (decode (b ∷ s)).len 0) _ _ (λ t. let z : (decode (b ∷ s)).len ≡ 0 = eqb-true _ _ t in absurd (omega arith)) (λ _. (a, char_end at b s h))

  ends_class : (at b : ℕ) (s : List ℕ) (k : ℕ) → Here src at (b ∷ s) → Here src (at + 1) s → Low b → ClassIs b k → Ends src (class_scan k at (b ∷ s))
  ends_class at b s k h g l (is_wide t) = ends_wide at b s h
  ends_class at b s k h g l (is_white n t) = (stands at (b ∷ s) h, stands (at + 1) s g)
  ends_class at b s k h g l (is_quote t) = (stands at (b ∷ s) h, stands (at + 1) s g)
  ends_class at b s k h g l (is_star t) = (stands at (b ∷ s) h, stands (at + 1) s g)
  ends_class at b s k h g l (is_slash t) = (stands at (b ∷ s) h, stands (at + 1) s g)
  ends_class at b s k h g l (is_dollar t) = ends_directive at (span letter s) s (stands at (b ∷ s) h) (run_to letter letter_low (at + 1) (at + (1 + span letter s)) s g (omega arith))
  ends_class at b s k h g l (is_plus t) = ends_sign 17 at b s h g
  ends_class at b s k h g l (is_minus t) = ends_sign 20 at b s h g
  ends_class at b s k h g l (is_upper t) = ends_name at (1 + span name_byte s) (stands at (b ∷ s) h) (run_to name_byte name_low (at + 1) (at + (1 + span name_byte s)) s g (omega arith))
  ends_class at b s k h g l (is_digit t) = ends_digits at 0 (b ∷ s) h.at (omega arith) (stands at (b ∷ s) h) (run_to digit digit_low at (at + (0 + span digit (b ∷ s))) (b ∷ s) h (omega arith))
  ends_class at b s k h g l (is_variable t) = ends_variable at b s (stands at (b ∷ s) h) g
  ends_class at b s k h g l (is_other t) = ends_other at b s (stands at (b ∷ s) h) g
  ends_class at b s k h g l (is_single t) = (stands at (b ∷ s) h, stands (at + 1) s g, first, first)
  ends_class at b s k h g l is_none = (stands at (b ∷ s) h, stands (at + 1) s g)

  ends_scan : (at b : ℕ) (s : List ℕ) → Here src at (b ∷ s) → Ends src (class_scan (class_of b) at (b ∷ s))
  ends_scan at b s h = go (dec_le 128 b)
    where
      go : Dec (128 ≤ b) → Ends src (class_scan (class_of b) at (b ∷ s))
      go (yes l) = subst (λ (k : ℕ). Ends src (class_scan k at (b ∷ s))) (let e : 18 ≡ class_of b = sym (simp (le-leb 128 b l)) in e) (ends_wide at b s h)
      go (no l) =
          let m = lt-ltb b 128 (omega arith) in
          ends_class at b s (class_of b) h (step at (at + 1) b s h m refl) m (class_view b)

  -- ---- the tokens found: they stand on boundaries, before others that do
  abbrev pub EndsFound : Found → Type 0
  EndsFound (found ts end) = Boundary src end × ((us : List Tok) → AllOn src us → AllOn src (ts ++ us))
  EndsFound (refused number start end) = Boundary src start × Boundary src end

  ends_one : (x : Scan) → Ends src x → EndsFound (one x)
  ends_one (Token kind detail text len start end) h = (h.1, λ us o. all_more (record { from = h.0; to = h.1; start = h.2; end = h.3 }) o)
  ends_one (Bad number start end) h = h

  chars_on : (q from to skip : ℕ) (s : List ℕ) (ts : List Tok) → Boundary src from → Boundary src to → AllOn src ts → AllOn src (char_tokens q from to skip s ++ ts)
  unfolding char_tokens
  chars_on q from to skip [] ts f t h = h
  chars_on q from to (suc k) (b ∷ s) ts f t h = chars_on q from to k s ts f t h
  chars_on q from to zero (b ∷ s) ts f t h = go (lit_char q (b ∷ s)).len (λ k. chars_on q from to k s ts f t h)
    where
      go : (k : ℕ) → ((j : ℕ) → AllOn src (char_tokens q from to j s ++ ts)) → AllOn src (char_step k (token 6 (lit_char q (b ∷ s)).code 0 0 from to) (λ j. char_tokens q from to j s) ++ ts)
      go zero ih = h
      go (suc k) ih = all_more (record { from = f; to = t; start = first; end = first }) (ih k)

  -- ---- literals, whose quote q is below 128
  module _ (q : ℕ) (some : 0 < q) (low : Low q) where
    doubled : (i : ℕ) (s : List ℕ) → Here src (i + 1) s → eqb (get_or s 0 0) q ≡ true → (1 ≤ length s) × Here src (i + 2) (drop 1 s)
    doubled i [] h t = let z : 0 ≡ q = eqb-true 0 q t in absurd (omega arith)
    doubled i (x ∷ s) h t = (omega arith, step (i + 1) (i + 2) x s h (subst Low (sym (eqb-true x q t)) low) (omega arith))

    -- the character there, if it doesn't close
    lit_on : (i b k : ℕ) (s : List ℕ) → Here src i (b ∷ s) → (lit_char q (b ∷ s)).len ≡ suc k → (k ≤ length s) × Here src (i + suc k) (drop k s)
    unfolding lit_char
    lit_on i b k s h =
        split P (eqb b q) _ _ (λ t. split P (eqb (get_or s 0 0) q) _ _ (λ u e. two (doubled i s (step i (i + 1) b s h (subst Low (sym (eqb-true b q t)) low) refl) u) (omega arith)) (λ _ e.
        absurd (omega arith))) (λ _.
        split P (eqb (decode (b ∷ s)).len 0) _ _ (λ t e.
        let f = well_front b s h.well in
        let m = f.long in
        let z : (decode (b ∷ s)).len ≡ 0 = eqb-true _ _ t in
        absurd (omega arith)) (λ _ e. char_step_lem i (i + suc k) b k s h e refl))
      where
        P : Char → Type 0
        P c = c.len ≡ suc k → (k ≤ length s) × Here src (i + suc k) (drop k s)

        two : (1 ≤ length s) × Here src (i + 2) (drop 1 s) → 1 ≡ k → (k ≤ length s) × Here src (i + suc k) (drop k s)
        two d e = subst (λ (n : ℕ). (n ≤ length s) × Here src (i + suc n) (drop n s)) e d

    -- only the quote closes
    lit_quote : (b : ℕ) (s : List ℕ) → (lit_char q (b ∷ s)).len ≡ 0 → Low b
    unfolding lit_char
    lit_quote b s =
        split P (eqb b q) _ _ (λ t _. subst Low (sym (eqb-true b q t)) low) (λ _.
        split P (eqb (decode (b ∷ s)).len 0) _ _ (λ t e. absurd (omega arith)) (λ t e.
        absurd (eqb-false _ _ t e)))
      where
        P : Char → Type 0
        P c = c.len ≡ 0 → Low b

    abbrev EndsLit : ℕ → Lit → Type 0
    EndsLit at (closed n end) = Boundary src (at + end)
    EndsLit at (newline end) = Boundary src (at + end)
    EndsLit at (unclosed end) = Boundary src (at + end)

    ends_literal : (at skip i n : ℕ) (s : List ℕ) → skip ≤ length s → Here src (at + i + skip) (drop skip s) → EndsLit at (lit_from q skip i n s)
    unfolding lit_from
    ends_literal at skip i n [] l h = subst (Boundary src) (let z : at + i + skip ≡ at + i = omega arith in z) (stands (at + i + skip) (drop skip []) h)
    ends_literal at (suc k) i n (b ∷ s) l h =
        ends_literal at k (suc i) n s (omega arith) (moved (let z : at + i + suc k ≡ at + suc i + k = omega arith in z) h)
    ends_literal at zero i n (b ∷ s) l h = go (lit_char q (b ∷ s)).len refl (λ k. ends_literal at k (suc i) (suc n) s)
      where
        here : Here src (at + i) (b ∷ s)
        here = moved (add-zero (at + i)) h

        behind : Low b → Boundary src (at + (i + 1))
        behind m = stands (at + (i + 1)) s (step (at + i) (at + (i + 1)) b s here m (omega arith))

        go : (k : ℕ) → (lit_char q (b ∷ s)).len ≡ k → ((j : ℕ) → j ≤ length s → Here src (at + suc i + j) (drop j s) → EndsLit at (lit_from q j (suc i) (suc n) s))
            → EndsLit at (lit_step k i n b (λ j. lit_from q j (suc i) (suc n) s))
        go zero e ih = behind (lit_quote b s e)
        go (suc k) e ih =
            split (EndsLit at) (eqb b 10) _ _ (λ t. behind (is_low b 10 (omega arith) t)) (λ _.
            let x = lit_on (at + i) b k s here e in
            ih k x.0 (moved (let z : at + i + suc k ≡ at + suc i + k = omega arith in z) x.1))

    ends_lit : (at : ℕ) (s : List ℕ) (l : Lit) → Boundary src at → EndsLit at l → EndsFound (literal_of at q s l)
    ends_lit at s (newline end) a h = (a, h)
    ends_lit at s (unclosed end) a h = (a, h)
    ends_lit at s (closed n end) a h =
        split EndsFound (ltb 255 n) _ _ (λ _. (a, h)) (λ _. split EndsFound (eqb n 0) _ _ (λ _. (a, h)) (λ _. (h, λ us o. chars_on q at (at + end) 0 s us a h o)))

  pub ends_found : (at b : ℕ) (s : List ℕ) → Here src at (b ∷ s) → EndsFound (token_at at (b ∷ s))
  ends_found at b s h =
      split EndsFound (eqb (class_of b) c_quote) _ _ (λ t. literal (quote_class b t)) (λ _. ends_one (class_scan (class_of b) at (b ∷ s)) (ends_scan at b s h))
    where
      literal : eqb b 39 || eqb b 34 ≡ true → EndsFound (literal_of at b s (lit_from b 0 1 0 s))
      literal t =
          let m : 0 < b = either (eqb b 39) (eqb b 34) (λ x. let z : b ≡ 39 = eqb-true b 39 x in omega arith) (λ x. let z : b ≡ 34 = eqb-true b 34 x in omega arith) t in
          let l : Low b = either (eqb b 39) (eqb b 34) (is_low b 39 (omega arith)) (is_low b 34 (omega arith)) t in
          let g = step at (at + 1) b s h l refl in
          ends_lit b m l at s (lit_from b 0 1 0 s) (stands at (b ∷ s) h) (ends_literal b m l at 0 1 0 s (omega arith) (moved (sym (add-zero (at + 1))) g))
