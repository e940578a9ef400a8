-- Laws of a real's parts, by what the code's scans answer.
use Rattle.std.specs.Prelude.{ℕ, ◌+◌, ◌-◌, ◌≤◌, ◌<◌, min, Bool, true, false, List, [], ◌∷◌, ◌≡◌, refl, eqb, length, take, drop, get_or, Some, None, Result, Ok, Err}
use Rattle.std.specs.Result.{result_ok}
use Rattle.std.proofs.Common.{ap, sym, ◌∙◌, arith, length-drop, length-take}
use Rattle.std.proofs.Math.Seq.{slice}
use Rattle.std.proofs.lemmas.Slice.{between_is, between_to_end}
use mir.Val.{bool_byte}
use Rattle.refal_text.specs.Pick.{pick}
use Rattle.refal_text.specs.Span.{span}
use Rattle.refal_ast.specs.Limits.{most_bytes}
use Rattle.refal_lexer.specs.Classes.{digit, sign}
use Rattle.refal_lexer.specs.Numbers.{sign_bytes, digits_at, ends, part, point_at, exponent_at, Part}
use Rattle.refal_lexer.specs.NumberLaws.{sign_here, sign_none}
use Rattle.refal_lexer.specs.Told.{part_told}
use Rattle.refal_lexer.specs.declared.number.Bare.{Bare}
use Rattle.refal_real.specs.Parts.{parts, down_at, exponent_digits}
use Rattle.refal_real.specs.Real.{is_real}
use Rattle.refal_real.specs.Found.{places_of, spelled_of}
use Rattle.refal_real.specs.Inner as P
use Rattle.refal_real.specs.Inner.{Places}
use Rattle.refal_real.specs.PlacesLaws.{no_start, point_bare, e_bare, whole_alone, more_behind, a_real}
use Rattle.refal_real.specs.FoundLaws.{no_real, real, split_parts}

-- how many bytes the sign at i has, by the byte there
pub sign_long : (t : List ℕ) (i b n : ℕ) (r : Bool) → b ≡ get_or t i 0 → r ≡ sign b → n ≡ bool_byte r → n ≡ sign_bytes true (drop i t)
sign_long t i b n true e q h = omega (arith, (sign_here true t i b e (sym q)).1)
sign_long t i b n false e q h = omega (arith, sign_none true t i b e (sym q))

-- ---- a part that the lexer scans
part_ok : (r : Result ℕ Bare) (x : ℕ) → result_ok r ≡ Some x → part_told r ≡ ends x false
part_ok (Ok y) x e = let h : y ≡ x = cc in ap (λ (i : ℕ). ends i false) h
part_ok (Err b) x e = let z : ◌≡◌ {A = ℕ} 0 1 = cc in absurd (omega arith)

pub ends_at : (r : Result ℕ Bare) (x : ℕ) → result_ok r ≡ Some x → (part_told r).end ≡ x
ends_at r x e = ap (λ (p : Part). p.end) (part_ok r x e)

part_err : (r : Result ℕ Bare) → result_ok r ≡ None → (part_told r).bare ≡ true
part_err (Ok y) e = let z : ◌≡◌ {A = ℕ} 0 1 = cc in absurd (omega arith)
part_err (Err b) e = refl

-- where an exponent ends, from where it begins
part_from : (i : ℕ) (s : List ℕ) → (part 69 true i s).end ≡ i + (part 69 true 0 s).end
part_from i [] = omega arith
part_from i (b ∷ s) = go (eqb b 69)
  where
    at : Bool → ℕ → Part
    at x i = pick x (digits_at (i + 1 + sign_bytes true s) (drop (sign_bytes true s) s)) (ends i false)

    go : (x : Bool) → (at x i).end ≡ i + (at x 0).end
    go true = omega arith
    go false = omega arith

split_end : (t x : List ℕ) (to : ℕ) → to ≤ length t → x ≡ drop to t → (exponent_at to t).end ≡ length t → (exponent_at 0 x).end ≡ length x
split_end t x to l ex e = rw ex (omega (arith, part_from to (drop to t), length-drop to t))

-- ---- a text by the code's scans: its digits from `from` up to n, behind a sign or none, and the point's part f behind them
pub record Scans (t : List ℕ) (from n : ℕ) (f : Result ℕ Bare) : Type 0 where
  pub starts : from ≡ sign_bytes true t
  pub end : n ≡ from + span digit (drop from t)
  pub part : part_told f ≡ point_at n t

pub scans : (t : List ℕ) (b from n : ℕ) (r : Bool) (f : Result ℕ Bare) → b ≡ get_or t 0 0 → r ≡ sign b → from ≡ bool_byte r → n ≡ from + span digit (drop from t) → part_told f ≡ point_at n t
    → Scans t from n f
scans t b from n r f eb er ef en ep = record { starts = sign_long t 0 b from r eb er ef; end = en; part = ep }

refused : (t : List ℕ) → P.Other ≡ spelled_of t → is_real t ≡ false
refused t e = no_real (is_real t) (places_of t) e

pub no_digit : (t : List ℕ) (b from n : ℕ) (r : Bool) → b ≡ get_or t 0 0 → r ≡ sign b → from ≡ bool_byte r → n ≡ from + span digit (drop from t) → n ≡ from → is_real t ≡ false
no_digit t b from n r eb er ef en h = refused t (no_start t from (sign_long t 0 b from r eb er ef) (omega arith))

module _ (t : List ℕ) (from n : ℕ) (f : Result ℕ Bare) (S : Scans t from n f) (some : n ≡ from → ⊥) where
  more : 0 < span digit (drop from t)
  more = let e = S.end in omega (arith, e, some)

  pub bare_point : result_ok f ≡ None → is_real t ≡ false
  bare_point k = refused t (point_bare t from n (part_told f) S.starts more S.end S.part (part_err f k))

  -- the point's part ends at `to`, and the exponent g stands there
  module _ (to : ℕ) (k : result_ok f ≡ Some to) (g : Result ℕ Bare) (h : part_told g ≡ exponent_at to t) where
    point_is : ends to false ≡ point_at n t
    point_is = sym (part_ok f to k) ∙ S.part

    pub bare_exponent : result_ok g ≡ None → is_real t ≡ false
    bare_exponent l = refused t (e_bare t from n (ends to false) S.starts more S.end point_is (part_told g) refl h (part_err g l))

    -- which ends at `end`
    module _ (end : ℕ) (l : result_ok g ≡ Some end) where
      exponent_is : ends end false ≡ exponent_at to t
      exponent_is = sym (part_ok g end l) ∙ h

      pub no_mark : end ≡ n → is_real t ≡ false
      no_mark e = refused t (whole_alone t from n (ends to false) S.starts more S.end point_is (ends end false) refl exponent_is refl e)

      module _ (marked : end ≡ n → ⊥) where
        pub not_all : end < length t → is_real t ≡ false
        not_all e = refused t (more_behind t from n (ends to false) S.starts more S.end point_is (ends end false) refl exponent_is refl marked e)

        -- a real, with its sign b, and its digits and exponent as the code cuts them
        module _ (whole : length t ≤ end) (within : end ≤ length t) (inside : to ≤ length t) (short : length t ≤ most_bytes) where
          located : P.Real (record { from = from; whole = n; to = to }) ≡ spelled_of t
          located = a_real t from n (ends to false) S.starts more S.end point_is (ends end false) refl exponent_is refl marked whole within short

          pub is : is_real t ≡ true
          is = real t (record { from = from; whole = n; to = to }) located

          pub parts_is : (b m : ℕ) → b ≡ get_or t 0 0 → m ≡ min (n + 1) to
              → parts t ≡ record { minus = eqb b 45; whole = take (n - from) (drop from t); fraction = take (to - m) (drop m t); down = down_at (take (length t - to) (drop to t)); exponent = exponent_digits (take (length t - to) (drop to t)) }
          parts_is b m eb em =
              split_parts t (record { from = from; whole = n; to = to }) located _ _ _ _ (ap (λ (x : ℕ). eqb x 45) eb) (between_is t from n)
              (between_is t m to ∙ ap (λ (i : ℕ). slice i to t) em) (between_to_end t to (length t) (omega arith))

          pub to_end : (exponent_at 0 (take (length t - to) (drop to t))).end ≡ length (take (length t - to) (drop to t))
          to_end = split_end t _ to inside (between_to_end t to (length t) (omega arith)) (sym (ap (λ (x : Part). x.end) exponent_is) ∙ (let z : end ≡ length t = omega arith in z))

-- a slice of a text is no longer
pub cut_short : (t : List ℕ) (i k : ℕ) → length t ≤ most_bytes → length (take k (drop i t)) ≤ most_bytes
cut_short t i k h = omega (arith, length-take k (drop i t), length-drop i t)
