-- Laws of the places of a real's parts: by the lexer's scans, what is a real, and what its parts are.
use Rattle.std.specs.Prelude.{ℕ, zero, suc, ◌+◌, ◌≤◌, ◌<◌, Bool, true, false, ◌&&◌, ◌||◌, List, [], ◌∷◌, ◌≡◌, refl, eqb, leb, length, drop, get_or}
use Rattle.std.proofs.Math.Bool.{and-false}
use Rattle.std.proofs.Common.{ap, sym, ◌∙◌, arith, zero-add, add-zero, eqb-true, eq-eqb, ne_eqb, le-leb, leb-true, get_or-drop}
use Rattle.std.proofs.lemmas.Bool.{eqb-false}
use Rattle.refal_rows.specs.Tests.{and_left, and_right}
use Rattle.refal_text.specs.Pick.{pick}
use Rattle.refal_text.specs.Span.{span}
use Rattle.refal_ast.specs.Kinds.{tok_number}
use Rattle.refal_ast.specs.Limits.{most_bytes}
use Rattle.refal_lexer.specs.Classes.{digit}
use Rattle.refal_lexer.specs.Numbers.{sign_bytes, part, point_at, exponent_at, digits_end, whole_scan, number_scan, Part}
use Rattle.refal_lexer.specs.BlankLaws.{nonzero_in}
use Rattle.refal_lexer.specs.NumberLaws.{worth, number_point, number_e, number_whole, number_real}
use Rattle.refal_lexer.specs.Scans.{Scan, Bad}
use Rattle.refal_spelling.specs.Spells.{token_to, spells}
use Rattle.refal_spelling.specs.Spellings.{number_ok}
use Rattle.refal_spelling.specs.WordLaws.{digit_first, sign_first, no_sign, no_digit, real_same, whole_same}
use Rattle.refal_real.specs.Parts.{first}
use Rattle.refal_real.specs.Real.{marked, is_real}
use Rattle.refal_real.specs.Found.{from_of, whole_of, to_of, spelled_of}
use Rattle.refal_real.specs.Inner as P

-- ---- what the answer turns on
other : (t : List ℕ) → is_real t ≡ false → P.Other ≡ spelled_of t
other t e = rw e refl

not_number : (t : List ℕ) → spells tok_number t ≡ false → P.Other ≡ spelled_of t
not_number t e = other t (ap (λ (x : Bool). (x && leb (length t) most_bytes) && marked t) e)

-- ---- digits at the front
some_digit : (s : List ℕ) → 0 < span digit s → digit (first s) ≡ true
some_digit [] h = absurd (omega arith)
some_digit (b ∷ s) h = go (digit b) refl h
  where
    go : (x : Bool) → digit b ≡ x → 0 < pick x (suc (span digit s)) 0 → digit b ≡ true
    go true e h = e
    go false e h = absurd (omega arith)

no_digits : (s : List ℕ) → span digit s ≡ 0 → digit (first s) ≡ false
no_digits [] h = refl
no_digits (b ∷ s) h = go (digit b) refl h
  where
    go : (x : Bool) → digit b ≡ x → pick x (suc (span digit s)) 0 ≡ 0 → digit b ≡ false
    go true e h = absurd (omega arith)
    go false e h = e

no_sign_digit : (b : ℕ) → eqb b 43 || eqb b 45 ≡ true → digit b ≡ false
no_sign_digit b e = go (eqb b 43) refl
  where
    go : (x : Bool) → eqb b 43 ≡ x → digit b ≡ false
    go true h = ap digit (eqb-true b 43 h)
    go false h = ap digit (eqb-true b 45 (sym (ap (λ (x : Bool). x || eqb b 45) h) ∙ e))

-- a number's digits start behind its sign
starts : (t : List ℕ) (from : ℕ) → from ≡ from_of t → 0 < span digit (drop from t) → token_to tok_number (length t) (number_scan 0 from t) ≡ spells tok_number t
starts [] zero e h = absurd (omega arith)
starts [] (suc n) e h = absurd (omega arith)
starts (b ∷ s) from e h = go (eqb b 43 || eqb b 45) refl e
  where
    go : (x : Bool) → eqb b 43 || eqb b 45 ≡ x → from ≡ pick x 1 0 → token_to tok_number (suc (length s)) (number_scan 0 from (b ∷ s)) ≡ spells tok_number (b ∷ s)
    go true g f = rw f (sign_first (b ∷ s) g (some_digit s (rw f at h)))
    go false g f = rw f (digit_first (b ∷ s) (some_digit (b ∷ s) (rw f at h)))

pub no_start : (t : List ℕ) (from : ℕ) → from ≡ from_of t → span digit (drop from t) ≡ 0 → P.Other ≡ spelled_of t
no_start [] from e h = not_number [] (sym (no_sign [] refl refl))
no_start (b ∷ s) from e h = go (eqb b 43 || eqb b 45) refl e
  where
    go : (x : Bool) → eqb b 43 || eqb b 45 ≡ x → from ≡ pick x 1 0 → P.Other ≡ spelled_of (b ∷ s)
    go true g f = not_number (b ∷ s) (sym (no_digit (b ∷ s) (no_sign_digit b g) (no_digits s (rw f at h))))
    go false g f = not_number (b ∷ s) (sym (no_sign (b ∷ s) (no_digits (b ∷ s) (rw f at h)) g))

-- ---- marks
part_mark : (mark : ℕ) (signed : Bool) (i : ℕ) (s : List ℕ) → ((part mark signed i s).end ≡ i → ⊥) → first s ≡ mark
part_mark mark signed i [] h = absurd (h refl)
part_mark mark signed i (b ∷ s) h = go (eqb b mark) refl h
  where
    rest : Part
    rest = record { end = i + 1 + sign_bytes signed s + span digit (drop (sign_bytes signed s) s); bare = eqb (span digit (drop (sign_bytes signed s) s)) 0 }

    go : (x : Bool) → eqb b mark ≡ x → ((pick x rest (record { end = i; bare = false })).end ≡ i → ⊥) → b ≡ mark
    go true e k = eqb-true b mark e
    go false e k = absurd (k refl)

pub first_drop : (t : List ℕ) (i : ℕ) → first (drop i t) ≡ get_or t i 0
first_drop t i = get_or-drop i t 0 0 ∙ ap (λ (x : ℕ). get_or t x 0) (add-zero i)

marked_at : (t : List ℕ) (i : ℕ) → i < length t → eqb (get_or t i 0) 46 || eqb (get_or t i 0) 69 ≡ true → marked t ≡ true
unfolding marked
marked_at [] i h e = absurd (omega arith)
marked_at (b ∷ t) zero h e = rw e refl
marked_at (b ∷ t) (suc i) h e = rw (marked_at t i (omega arith) e) (go (eqb b 46 || eqb b 69))
  where
    go : (x : Bool) → x || true ≡ true
    go true = refl
    go false = refl

-- digits alone have no mark
unmarked : (t : List ℕ) → span digit t ≡ length t → marked t ≡ false
unfolding marked
unmarked [] h = refl
unmarked (b ∷ t) h = go (digit b) refl h (unmarked t)
  where
    go : (x : Bool) → digit b ≡ x → pick x (suc (span digit t)) 0 ≡ suc (length t) → (span digit t ≡ length t → marked t ≡ false) → (eqb b 46 || eqb b 69) || marked t ≡ false
    go true e k ih =
        let lo : 48 ≤ b = leb-true 48 b (and_left (leb 48 b) (leb b 57) e) in
        let hi : b ≤ 57 = leb-true b 57 (and_right (leb 48 b) (leb b 57) e) in
        rw (ne_eqb b 46 (λ z. omega arith), ne_eqb b 69 (λ z. omega arith)) (ih (omega arith))
    go false e k ih = absurd (omega arith)

-- ---- a text whose digits start at `from` and end at n, with the parts p and e behind
module _ (t : List ℕ) (from n : ℕ) (p : Part) (ef : from ≡ from_of t) (some : 0 < span digit (drop from t)) (en : n ≡ digits_end from t) (ep : p ≡ point_at n t) where
  by_scan : (r : Scan) → r ≡ number_scan 0 from t → spells tok_number t ≡ token_to tok_number (length t) r
  by_scan r e = sym (starts t from ef some) ∙ ap (token_to tok_number (length t)) (sym e)

  pub point_bare : p.bare ≡ true → P.Other ≡ spelled_of t
  point_bare z = not_number t (by_scan (Bad 16 0 (0 + p.end)) (number_point t 0 from n p en ep z))

  module _ (e : Part) (z : p.bare ≡ false) (ee : e ≡ exponent_at p.end t) where
    pub e_bare : e.bare ≡ true → P.Other ≡ spelled_of t
    e_bare y = not_number t (by_scan (Bad 17 0 (0 + e.end)) (number_e t 0 from n p en ep e z ee y))

    pub whole_alone : e.bare ≡ false → e.end ≡ n → P.Other ≡ spelled_of t
    whole_alone y x = go (eqb from 0) refl (eqb n (length t)) refl
      where
        w : ℕ
        w = worth 0 (drop from t)

        is : spells tok_number t ≡ (eqb from 0 && leb w 4294967295) && eqb n (length t)
        is = sym (starts t from ef some) ∙ sym (whole_same (length t) from n w t (number_whole t 0 from n p en ep e w (whole_scan 0 from n w) z ee y x refl refl))

        go : (a : Bool) → eqb from 0 ≡ a → (b : Bool) → eqb n (length t) ≡ b → P.Other ≡ spelled_of t
        go true q true r =
            let f : from ≡ 0 = eqb-true from 0 q in
            let k : span digit t ≡ length t = sym (zero-add (span digit t)) ∙ sym (ap (λ (i : ℕ). i + span digit (drop i t)) f) ∙ sym en ∙ eqb-true n (length t) r in
            other t (ap (λ (b : Bool). number_ok t && b) (unmarked t k) ∙ and-false (number_ok t))
        go true q false r = not_number t (is ∙ ap (λ (b : Bool). (eqb from 0 && leb w 4294967295) && b) r ∙ and-false (eqb from 0 && leb w 4294967295))
        go false q b r = not_number t (is ∙ ap (λ (b : Bool). (b && leb w 4294967295) && eqb n (length t)) q)

    module _ (y : e.bare ≡ false) (x : e.end ≡ n → ⊥) where
      spells_is : spells tok_number t ≡ eqb e.end (length t)
      spells_is = sym (starts t from ef some) ∙ sym (real_same (length t) e.end t from (number_real t 0 from n p en ep e z ee y x))

      pub more_behind : e.end < length t → P.Other ≡ spelled_of t
      more_behind l = not_number t (spells_is ∙ ne_eqb e.end (length t) (λ q. omega arith))

      has_mark : marked t ≡ true
      has_mark = go (eqb p.end n) refl
        where
          at : (m : ℕ) → get_or t n 0 ≡ m → (m ≡ 0 → ⊥) → eqb m 46 || eqb m 69 ≡ true → marked t ≡ true
          at m q k h = marked_at t n (nonzero_in t n (λ r. k (sym q ∙ r))) (ap (λ (b : ℕ). eqb b 46 || eqb b 69) q ∙ h)

          go : (b : Bool) → eqb p.end n ≡ b → marked t ≡ true
          go false q = at 46 (sym (first_drop t n) ∙ part_mark 46 false n (drop n t) (λ r. eqb-false p.end n q (ap (λ (u : Part). u.end) ep ∙ r))) (λ r. omega arith) refl
          go true q =
              let i : p.end ≡ n = eqb-true p.end n q in
              at 69 (ap (λ (j : ℕ). get_or t j 0) (sym i) ∙ sym (first_drop t p.end) ∙ part_mark 69 true p.end (drop p.end t) (λ r. x (ap (λ (u : Part). u.end) ee ∙ r ∙ i))) (λ r. omega arith) refl

      pub a_real : length t ≤ e.end → e.end ≤ length t → length t ≤ most_bytes → (P.Real (record { from = from; whole = n; to = p.end }) ≡ spelled_of t)
      a_real l k short =
          let s : is_real t ≡ true =
          ap (λ (b : Bool). (b && leb (length t) most_bytes) && marked t) (spells_is ∙ eq-eqb e.end (length t) (omega arith))
          ∙ ap (λ (b : Bool). b && marked t) (le-leb (length t) most_bytes short) ∙ has_mark in
          let w : n ≡ whole_of t = en ∙ ap (λ (i : ℕ). digits_end i t) ef in
          let o : p.end ≡ to_of t = ap (λ (u : Part). u.end) ep ∙ ap (λ (i : ℕ). (point_at i t).end) w in
          ap (λ (i : ℕ). P.Real (record { from = i; whole = n; to = p.end })) ef
          ∙ ap (λ (i : ℕ). P.Real (record { from = from_of t; whole = i; to = p.end })) w
          ∙ ap (λ (i : ℕ). P.Real (record { from = from_of t; whole = whole_of t; to = i })) o
          ∙ sym (rw s refl)
