-- Where tokens stand: every scan starts at its offset, ends past it and within the bytes, and a token's text lies within its span.
use Rattle.std.specs.Prelude.{ℕ, zero, suc, ◌+◌, ◌<◌, ◌≤◌, List, [], ◌∷◌, Bool, true, false, ◌||◌, ◌≡◌, refl, leb, ltb, eqb, length, drop, get_or}
use Rattle.std.proofs.Common.{arith, true≢false, ap, sym, ◌∙◌, length-drop}
use Rattle.refal_text.specs.Pick.{split}
use Rattle.refal_text.specs.Span.{span}
use Rattle.refal_text.specs.SpanLaws.{span_le, span_some}
use Rattle.refal_text.specs.Utf8.{decode}
use Rattle.refal_text.specs.Utf8Laws.{decode_in}
use Rattle.refal_lexer.specs.Classes.{upper, digit, letter, name_byte, class_of, c_minus, c_quote}
use Rattle.refal_lexer.specs.Scans.{Scan, Token, Bad}
use Rattle.refal_lexer.specs.Tokens.{wide_scan, sign_scan, class_scan, Found, found, refused, one, literal_of, token_at}
use Rattle.refal_lexer.specs.Words.{name_of, other_scan, index_of, variable_scan, entry_word, extern_word, directive_of}
use Rattle.refal_lexer.specs.Numbers.{value, sign_bytes, part, number_of, number_scan, point_at, exponent_at, digits_end, Part}
use Rattle.refal_lexer.specs.Literals.{lit_from, Lit, closed, newline, unclosed}
use Rattle.refal_lexer.specs.ClassLaws.{ClassIs, class_view, is_wide, is_white, is_quote, is_star, is_slash, is_dollar, is_plus, is_minus, is_upper, is_digit, is_variable, is_other, is_single, is_none}
use Rattle.std.proofs.lemmas.Bool.{eqb-false}
use Rattle.refal_lexer.specs.BlankLaws.{nonzero_in}
use Rattle.refal_lexer.specs.NumberLaws.{sign_le}
use Rattle.refal_lexer.specs.LiteralLaws.{lit_closed}

-- a token's text: none, or within its span
pub data TextIn (from to : ℕ) : ℕ → ℕ → Type 0 where
  text_none : TextIn from to 0 0
  text_in : {start len : ℕ} → from ≤ start → start + len ≤ to → TextIn from to start len

abbrev pub Placed : ℕ → ℕ → Scan → Type 0
Placed at n (Token kind detail text len start end) = (start ≡ at) × (at < end) × (end ≤ n) × TextIn at end text len
Placed at n (Bad number start end) = (start ≡ at) × (at < end) × (end ≤ n)

module _ (at m : ℕ) where
  placed_name : (n : ℕ) → 0 < n → n ≤ m → Placed at (at + m) (name_of at n)
  placed_name n z h = split (Placed at (at + m)) (leb n 15) _ _ (λ _. (refl, omega arith, omega arith, text_in (omega arith) (omega arith))) (λ _. (refl, omega arith, omega arith))

  placed_index : (b n : ℕ) → 2 + n ≤ m → Placed at (at + m) (index_of at b n)
  placed_index b n h =
      split (Placed at (at + m)) (eqb n 0) _ _ (λ _. (refl, omega arith, omega arith)) (λ _.
      split (Placed at (at + m)) (leb n 15) _ _ (λ _. (refl, omega arith, omega arith, text_in (omega arith) (omega arith))) (λ _. (refl, omega arith, omega arith)))

  placed_directive : (n : ℕ) (s : List ℕ) → 1 + n ≤ m → Placed at (at + m) (directive_of at n s)
  placed_directive n s h =
      split (Placed at (at + m)) (entry_word n s) _ _ (λ _. (refl, omega arith, omega arith, text_none)) (λ _.
      split (Placed at (at + m)) (extern_word n s) _ _ (λ _. (refl, omega arith, omega arith, text_none)) (λ _. (refl, omega arith, omega arith)))

  placed_number : (from n v : ℕ) (p e : Part) → 0 < n → n ≤ p.end → p.end ≤ e.end → e.end ≤ m → Placed at (at + m) (number_of at from n v p e)
  placed_number from n v p e z h i j =
      split (Placed at (at + m)) p.bare _ _ (λ _. (refl, omega arith, omega arith)) (λ _.
      split (Placed at (at + m)) e.bare _ _ (λ _. (refl, omega arith, omega arith)) (λ _.
      split (Placed at (at + m)) (eqb e.end n) _ _ (λ _.
      split (Placed at (at + m)) (ltb 0 from) _ _ (λ _. (refl, omega arith, omega arith)) (λ _.
      split (Placed at (at + m)) (leb v 4294967295) _ _ (λ _. (refl, omega arith, omega arith, text_in (omega arith) (omega arith))) (λ _. (refl, omega arith, omega arith)))) (λ _.
      (refl, omega arith, omega arith, text_in (omega arith) (omega arith)))))

pub part_in : (mark : ℕ) (signed : Bool) (i : ℕ) (t : List ℕ) → (i ≤ (part mark signed i t).end) × ((part mark signed i t).end ≤ i + length t)
part_in mark signed i [] = (omega arith, omega arith)
part_in mark signed i (b ∷ t) =
    let n = sign_bytes signed t in
    let h = span_le digit (drop (sign_bytes signed t) t) in
    let l = sign_le signed t in
    let d = length-drop (sign_bytes signed t) t in
    split (λ (p : Part). (i ≤ p.end) × (p.end ≤ i + suc (length t))) (eqb b mark) _ _ (λ _. (omega arith, omega arith)) (λ _. (omega arith, omega arith))

pub part_within : (mark : ℕ) (signed : Bool) (i : ℕ) (s : List ℕ) → i ≤ length s → (i ≤ (part mark signed i (drop i s)).end) × ((part mark signed i (drop i s)).end ≤ length s)
part_within mark signed i s h =
    let p = part_in mark signed i (drop i s) in
    let lo = p.0 in
    let hi = p.1 in
    let d = length-drop i s in
    (lo, omega arith)

placed_digits : (at from : ℕ) (s : List ℕ) → from ≤ length s → 0 < span digit (drop from s) → Placed at (at + length s) (number_scan at from s)
placed_digits at from s l h =
    let a = span_le digit (drop from s) in
    let d = length-drop from s in
    let p = part_within 46 false (digits_end from s) s (omega arith) in
    let p0 = p.0 in
    let p1 = p.1 in
    let e = part_within 69 true (point_at (digits_end from s) s).end s p1 in
    placed_number at (length s) from (digits_end from s) (value 0 (drop from s)) (point_at (digits_end from s) s) (exponent_at (point_at (digits_end from s) s).end s) (omega arith) p0 e.0 e.1

placed_other : (at b : ℕ) (s : List ℕ) → Placed at (at + suc (length s)) (other_scan at (b ∷ s))
placed_other at b s = let h = span_le name_byte s in (refl, omega arith, omega arith)

digit_in : (s : List ℕ) (i : ℕ) → digit (get_or s i 0) ≡ true → i < length s
digit_in s i t = nonzero_in s i (λ y. absurd (true≢false (sym t ∙ ap digit y)))

placed_sign : (k at b : ℕ) (s : List ℕ) → Placed at (at + suc (length s)) (sign_scan k at (b ∷ s))
placed_sign k at b s =
    split (Placed at (at + suc (length s))) (digit (get_or s 0 0)) _ _ (λ t. placed_digits at 1 (b ∷ s) (omega arith) (span_some digit (b ∷ s) 1 (let i = digit_in s 0 t in omega arith) t)) (λ _.
    split (Placed at (at + suc (length s))) (eqb k c_minus) _ _ (λ _. placed_other at b s) (λ _. (refl, omega arith, omega arith)))

placed_variable : (at b : ℕ) (s : List ℕ) → Placed at (at + suc (length s)) (variable_scan at (b ∷ s))
placed_variable at b [] = placed_other at b []
placed_variable at b (x ∷ s) =
    let h = span_le name_byte s in
    split (Placed at (at + suc (suc (length s)))) (eqb x 46) _ _ (λ _. placed_index at (suc (suc (length s))) b (span name_byte s) (omega arith)) (λ _.
    split (Placed at (at + suc (suc (length s)))) (upper x || digit x) _ _ (λ _. (refl, omega arith, omega arith, text_in (omega arith) (omega arith))) (λ _. placed_other at b (x ∷ s)))

placed_wide : (at b : ℕ) (s : List ℕ) → Placed at (at + suc (length s)) (wide_scan at (decode (b ∷ s)))
placed_wide at b s =
    let d = decode_in (b ∷ s) 0 (omega arith) in
    split (Placed at (at + suc (length s))) (eqb (decode (b ∷ s)).len 0) _ _ (λ _. (refl, omega arith, omega arith)) (λ z.
    let p = eqb-false _ _ z in (refl, some (decode (b ∷ s)).len p, omega arith))
  where
    some : (n : ℕ) → (n ≡ 0 → ⊥) → at < at + n
    some zero h = absurd (h refl)
    some (suc n) h = omega arith

placed_class : (at b : ℕ) (s : List ℕ) (k : ℕ) → ClassIs b k → Placed at (at + suc (length s)) (class_scan k at (b ∷ s))
placed_class at b s k (is_wide h) = placed_wide at b s
placed_class at b s k (is_white n h) = (refl, omega arith, omega arith)
placed_class at b s k (is_quote h) = (refl, omega arith, omega arith)
placed_class at b s k (is_star h) = (refl, omega arith, omega arith)
placed_class at b s k (is_slash h) = (refl, omega arith, omega arith)
placed_class at b s k (is_dollar h) = placed_directive at (suc (length s)) (span letter s) s (let l = span_le letter s in omega arith)
placed_class at b s k (is_plus h) = placed_sign 17 at b s
placed_class at b s k (is_minus h) = placed_sign 20 at b s
placed_class at b s k (is_upper h) = placed_name at (suc (length s)) (1 + span name_byte s) (omega arith) (let l = span_le name_byte s in omega arith)
placed_class at b s k (is_digit h) = placed_digits at 0 (b ∷ s) (omega arith) (rw h (omega arith))
placed_class at b s k (is_variable h) = placed_variable at b s
placed_class at b s k (is_other h) = placed_other at b s
placed_class at b s k (is_single h) = (refl, omega arith, omega arith, text_none)
placed_class at b s k is_none = (refl, omega arith, omega arith)

pub scan_placed : (at b : ℕ) (s : List ℕ) → Placed at (at + suc (length s)) (class_scan (class_of b) at (b ∷ s))
scan_placed at b s = placed_class at b s (class_of b) (class_view b)

-- ---- the tokens found end past their start and within, and are no more than their bytes
abbrev pub FoundIn : ℕ → ℕ → Found → Type 0
FoundIn at n (found ts end) = (at < end) × (end ≤ n) × (at + length ts ≤ end)
FoundIn at n (refused number start end) = Unit {0}

one_in : (at n : ℕ) (x : Scan) → Placed at n x → FoundIn at n (one x)
one_in at n (Token kind detail text len start end) p = let lo = p.1 in (lo, p.2, omega arith)
one_in at n (Bad number start end) p = tt

literal_in : (at q : ℕ) (s : List ℕ) (l : Lit) → lit_from q 0 1 0 s ≡ l → FoundIn at (at + suc (length s)) (literal_of at q s l)
literal_in at q s (newline end) e = tt
literal_in at q s (unclosed end) e = tt
literal_in at q s (closed n end) e =
    let c = lit_closed q at (at + end) 0 1 0 n end s e in
    let f = c.few in
    let w = c.within in
    split (FoundIn at (at + suc (length s))) (ltb 255 n) _ _ (λ _. tt) (λ _. split (FoundIn at (at + suc (length s))) (eqb n 0) _ _ (λ _. tt) (λ _. (omega arith, omega arith, omega arith)))

pub found_in : (at : ℕ) (s : List ℕ) → 0 < length s → FoundIn at (at + length s) (token_at at s)
found_in at [] h = absurd (omega arith)
found_in at (b ∷ s) h = split (FoundIn at (at + suc (length s))) (eqb (class_of b) c_quote) _ _ (λ _. literal_in at b s (lit_from b 0 1 0 s) refl) (λ _. one_in at (at + suc (length s)) (class_scan (class_of b) at (b ∷ s)) (scan_placed at b s))
