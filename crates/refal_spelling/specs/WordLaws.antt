-- Laws of words: the tests of the code hold exactly of the words that reading gives.
use Rattle.std.specs.Prelude.{ℕ, zero, suc, ◌+◌, ◌<◌, ◌≤◌, Bool, true, false, ◌&&◌, ◌||◌, List, [], ◌∷◌, ◌++◌, ◌≡◌, refl, leb, eqb, length, take, drop, get_or}
use Rattle.std.proofs.Common.{arith, zero-add, le-leb, lt-ltb, eq-eqb, ne_eqb, eqb-true, true≢false, append-nil, ap, sym, subst, ◌∙◌, eqb→eq, take_all}
use Rattle.std.proofs.Math.Bool.{and-false}
use Rattle.std.proofs.Math.Dec.{eqb-suc-suc}
use Rattle.std.specs.List.{list_all}
use Rattle.refal_rows.specs.Tests.{each_below, and_left, and_right, range_lo, range_hi}
use Rattle.refal_text.specs.Pick.{pick}
use Rattle.refal_text.specs.Span.{span}
use Rattle.refal_ast.specs.Kinds.{tok_identifier, tok_number}
use Rattle.refal_lexer.specs.Classes.{name_byte, digit, sign, upper, class_of}
use Rattle.refal_lexer.specs.BlankLaws.{nonzero_in}
use Rattle.refal_lexer.specs.Numbers.{whole_scan, number_scan}
use Rattle.refal_lexer.specs.Tokens.{token_scan}
use Rattle.refal_lexer.specs.Scans.{Token}
use Rattle.refal_spelling.specs.Spell.{spelled}
use Rattle.refal_spelling.specs.Spells.{token_to, spells, spells_index, is_index}
use Rattle.refal_spelling.specs.SpellsLaws.{spells_identifier, identifier_spells, spells_number, spells_index_lem}
use Rattle.refal_spelling.specs.Good.{Every, Sign, unsigned, plus, minus, Number, macrodigit, real, Good, identifier, number, mark}
use Rattle.refal_spelling.specs.Runs.{every_span, span_every}
use Rattle.refal_spelling.specs.ScanWords.{digit_low}

false_of : (b : Bool) → (b ≡ true → ⊥) → false ≡ b
false_of true h = absurd (h refl)
false_of false h = refl

differ : {b : Bool} → b ≡ true → b ≡ false → ⊥
differ h e = true≢false (sym h ∙ e)

-- ---- identifiers
pub record Named (w : List ℕ) : Type 0 where
  pub some : 1 ≤ length w
  pub few : length w ≤ 15
  pub first : upper (get_or w 0 0) ≡ true
  pub rest : 1 + span name_byte (drop 1 w) ≡ length w

named : (w : List ℕ) → Good (spelled tok_identifier 0 w) → Named w
named w (identifier b s u a h) =
    let n : span name_byte s ≡ length s = ap (span name_byte) (sym (append-nil s)) ∙ span_every name_byte s [] a refl in
    record { some = omega arith; few = h; first = u; rest = omega arith }
named w (mark k l h) = absurd (omega arith)

name_no : (w : List ℕ) → (Named w → ⊥) → false ≡ spells tok_identifier w
name_no w h = false_of (spells tok_identifier w) (λ e. h (named w (spells_identifier w e)))

name_yes : (w : List ℕ) → Named w → spells tok_identifier w ≡ true
name_yes [] n = let h = n.some in absurd (omega arith)
name_yes (b ∷ s) n =
    let e : span name_byte s ≡ length s = let r = n.rest in omega arith in
    let a : Every name_byte s = subst (Every name_byte) (ap (λ (k : ℕ). take k s) e ∙ take_all (length s) s (omega arith)) (every_span name_byte s) in
    identifier_spells 0 (b ∷ s) (identifier b s n.first a n.few)

-- ---- indices
name_all : (w : List ℕ) → list_all name_byte w ≡ eqb (span name_byte w) (length w)
name_all [] = refl
name_all (b ∷ s) = go (name_byte b) (name_all s)
  where
    go : (t : Bool) → list_all name_byte s ≡ eqb (span name_byte s) (length s) → t && list_all name_byte s ≡ eqb (pick t (suc (span name_byte s)) 0) (suc (length s))
    go true e = e ∙ sym (eqb-suc-suc (span name_byte s) (length s))
    go false e = sym (ne_eqb 0 (suc (length s)) (λ z. omega arith))

index_is : (w : List ℕ) → (leb 1 (length w) && leb (length w) 15) && list_all name_byte w ≡ spells_index w
index_is w = ap (λ (t : Bool). (leb 1 (length w) && leb (length w) 15) && t) (name_all w) ∙ sym (spells_index_lem w)

pub index_in : (w : List ℕ) → 1 ≤ length w → length w ≤ 15 → list_all name_byte w ≡ spells_index w
index_in w lo hi = sym (rw (le-leb _ _ lo, le-leb _ _ hi)) ∙ index_is w

pub index_out : (w : List ℕ) → (1 ≤ length w → length w ≤ 15 → ⊥) → false ≡ spells_index w
index_out w h = false_of (spells_index w) (λ e.
    let r = and_left (leb 1 (length w) && leb (length w) 15) (list_all name_byte w) (index_is w ∙ e) in
    h (range_lo 1 (length w) 15 r) (range_hi 1 (length w) 15 r))

-- ---- an identifier is an index that begins with A to Z
upper_name : (b : ℕ) → upper b ≡ true → name_byte b ≡ true
upper_name b h = rw h refl

-- at such a byte its run of bytes of names goes on
upper_run : (w : List ℕ) → upper (get_or w 0 0) ≡ true → span name_byte w ≡ 1 + span name_byte (drop 1 w)
upper_run [] h = absurd (differ h refl)
upper_run (b ∷ s) h = rw (upper_name b h) (omega arith)

pub identifier_is : (w : List ℕ) → spells_index w && upper (get_or w 0 0) ≡ spells tok_identifier w
identifier_is w = ap (λ (t : Bool). t && upper (get_or w 0 0)) (spells_index_lem w) ∙ go (is_index w && upper (get_or w 0 0)) refl
  where
    short : Bool
    short = leb 1 (length w) && leb (length w) 15

    run : Bool
    run = eqb (span name_byte w) (length w)

    go : (t : Bool) → (short && run) && upper (get_or w 0 0) ≡ t → t ≡ spells tok_identifier w
    go true h =
        let i : short && run ≡ true = and_left (short && run) (upper (get_or w 0 0)) h in
        let u : upper (get_or w 0 0) ≡ true = and_right (short && run) (upper (get_or w 0 0)) h in
        let l : short ≡ true = and_left short run i in
        let r : span name_byte w ≡ length w = eqb-true _ _ (and_right short run i) in
        sym (name_yes w (record { some = range_lo 1 (length w) 15 l; few = range_hi 1 (length w) 15 l; first = u; rest = sym (upper_run w u) ∙ r }))
    go false h = name_no w (λ n. differ (both n) h)
      where
        both : Named w → (short && run) && upper (get_or w 0 0) ≡ true
        both n = rw (le-leb _ _ n.some, le-leb _ _ n.few, eq-eqb (span name_byte w) (length w) (upper_run w n.first ∙ n.rest)) n.first

-- ---- numbers
whole_pick : (n from a v : ℕ) (b : Bool) → leb v 4294967295 ≡ b → token_to tok_number n (whole_scan 0 from a v) ≡ (eqb from 0 && b) && eqb a n
whole_pick n zero a v true e = rw (e, zero-add a) refl
whole_pick n zero a v false e = rw e refl
whole_pick n (suc from) a v b e = rw (lt-ltb 0 (suc from) (omega arith), ne_eqb (suc from) 0 (omega arith)) refl

-- a number with a point or an E
pub real_same : (n len : ℕ) (s : List ℕ) (from : ℕ) → Token 5 0 0 len 0 (0 + len) ≡ number_scan 0 from s → eqb len n ≡ token_to tok_number n (number_scan 0 from s)
real_same n len s from e = ap (λ (k : ℕ). eqb k n) (sym (zero-add len)) ∙ ap (token_to tok_number n) e

-- a number with neither point nor E
pub whole_same : (n from a v : ℕ) (s : List ℕ) → whole_scan 0 from a v ≡ number_scan 0 from s → (eqb from 0 && leb v 4294967295) && eqb a n ≡ token_to tok_number n (number_scan 0 from s)
whole_same n from a v s e = sym (whole_pick n from a v (leb v 4294967295) refl) ∙ ap (token_to tok_number n) e

class_of_digit : (b : ℕ) → digit b ≡ true → class_of b ≡ 22
class_of_digit b h = sym (rw h refl) ∙ eqb→eq (pick (digit b) (class_of b) 22) 22 (each_below (λ (k : ℕ). eqb (pick (digit k) (class_of k) 22) 22) 128 tt b (digit_low b h))

-- a digit stands within the word
pub digit_in : (w : List ℕ) (i b : ℕ) → b ≡ get_or w i 0 → digit b ≡ true → i < length w
digit_in w i b e d = nonzero_in w i (λ z. differ (ap digit (sym z ∙ sym e) ∙ d) refl)

pub digit_first : (w : List ℕ) → digit (get_or w 0 0) ≡ true → token_to tok_number (length w) (number_scan 0 0 w) ≡ spells tok_number w
unfolding spells
digit_first [] h = absurd (differ h refl)
digit_first (b ∷ s) h = sym (rw (class_of_digit b h) refl)

pub sign_first : (w : List ℕ) → eqb (get_or w 0 0) 43 || eqb (get_or w 0 0) 45 ≡ true → digit (get_or w 1 0) ≡ true → token_to tok_number (length w) (number_scan 0 1 w) ≡ spells tok_number w
unfolding spells
sign_first [] h d = absurd (differ h refl)
sign_first (b ∷ s) h d = go (eqb b 43) refl
  where
    go : (t : Bool) → eqb b 43 ≡ t → token_to tok_number (suc (length s)) (number_scan 0 1 (b ∷ s)) ≡ token_to tok_number (suc (length s)) (token_scan 0 (b ∷ s))
    go true e = let z : b ≡ 43 = eqb-true _ _ e in rw z (sym (rw d refl))
    go false e = let z : b ≡ 45 = eqb-true _ _ (sym (ap (λ (x : Bool). x || eqb b 45) e) ∙ h) in rw z (sym (rw d refl))

-- what a number starts with
pub starts : ℕ → ℕ → Bool
starts b x = digit b || ((eqb b 43 || eqb b 45) && digit x)

number_starts : (w : List ℕ) → Number w → starts (get_or w 0 0) (get_or w 1 0) ≡ true
unfolding starts
number_starts w (macrodigit b s d a h) = rw d refl
number_starts w (real sign b s ps qs g d a p q h) = go sign g
  where
    go : (l : List ℕ) → Sign true l → starts (get_or (l ++ (b ∷ s ++ (ps ++ qs))) 0 0) (get_or (l ++ (b ∷ s ++ (ps ++ qs))) 1 0) ≡ true
    go l unsigned = rw d refl
    go l (plus e) = rw d refl
    go l (minus e) = rw d refl

no_good : (w : List ℕ) → starts (get_or w 0 0) (get_or w 1 0) ≡ false → Good (spelled tok_number 0 w) → ⊥
no_good w h (number v n) = differ (number_starts v n) h
no_good w h (mark k l i) = omega arith

number_no : (w : List ℕ) → starts (get_or w 0 0) (get_or w 1 0) ≡ false → false ≡ spells tok_number w
number_no w h = false_of (spells tok_number w) (λ e. no_good w h (spells_number w e))

pub no_sign : (w : List ℕ) → digit (get_or w 0 0) ≡ false → eqb (get_or w 0 0) 43 || eqb (get_or w 0 0) 45 ≡ false → false ≡ spells tok_number w
unfolding starts
no_sign w d s = number_no w (rw (d, s) refl)

pub no_digit : (w : List ℕ) → digit (get_or w 0 0) ≡ false → digit (get_or w 1 0) ≡ false → false ≡ spells tok_number w
unfolding starts
no_digit w d x = number_no w (rw (d, x) (and-false (eqb (get_or w 0 0) 43 || eqb (get_or w 0 0) 45)))

sign_digit : (b : ℕ) → sign b ≡ true → digit b ≡ false
sign_digit b h = go (eqb b 43) refl h
  where
    go : (t : Bool) → eqb b 43 ≡ t → t || eqb b 45 ≡ true → digit b ≡ false
    go true e h = rw (eqb-true _ _ e) refl
    go false e h = rw (eqb-true _ _ h) refl

-- from where its digits are to start: behind a sign, if it begins with one
pub number_is : (w : List ℕ) (t : Bool) (from : ℕ) → t ≡ sign (get_or w 0 0) → (t ≡ true → from ≡ 1) → (t ≡ false → from ≡ 0)
    → digit (get_or w from 0) && token_to tok_number (length w) (number_scan 0 from w) ≡ spells tok_number w
number_is w t from e one none = go t e one none
  where
    behind : (d : Bool) → sign (get_or w 0 0) ≡ true → digit (get_or w 1 0) ≡ d → d && token_to tok_number (length w) (number_scan 0 1 w) ≡ spells tok_number w
    behind true s d = sign_first w s d
    behind false s d = no_digit w (sign_digit (get_or w 0 0) s) d

    alone : (d : Bool) → sign (get_or w 0 0) ≡ false → digit (get_or w 0 0) ≡ d → d && token_to tok_number (length w) (number_scan 0 0 w) ≡ spells tok_number w
    alone true s d = digit_first w d
    alone false s d = no_sign w d s

    go : (t : Bool) → t ≡ sign (get_or w 0 0) → (t ≡ true → from ≡ 1) → (t ≡ false → from ≡ 0) → digit (get_or w from 0) && token_to tok_number (length w) (number_scan 0 from w) ≡ spells tok_number w
    go true e one none = rw (one refl) (behind (digit (get_or w 1 0)) (sym e) refl)
    go false e one none = rw (none refl) (alone (digit (get_or w 0 0)) (sym e) refl)
