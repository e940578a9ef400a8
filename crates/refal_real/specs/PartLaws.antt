-- Laws of a text's parts, by the places where the lexer's scans end.
use Rattle.std.specs.Prelude.{ℕ, zero, suc, ◌+◌, ◌≤◌, ◌<◌, min, Bool, true, false, List, [], ◌∷◌, ◌≡◌, refl, eqb, length, take, drop, get_or}
use Rattle.std.proofs.Common.{ap, ap₂, sym, ◌∙◌, arith, zero-add, add-zero, suc-add, add-one, le-leb, drop_of_length-le, drop-cons, drop-drop}
use Rattle.std.proofs.lemmas.Bool.{lt-leb}
use Rattle.std.proofs.Math.Seq.{slice, slice_empty}
use Rattle.refal_text.specs.Pick.{pick}
use Rattle.refal_text.specs.Span.{span}
use Rattle.refal_lexer.specs.Classes.{digit}
use Rattle.refal_lexer.specs.Numbers.{sign_bytes, digits_at, ends, part, point_at, exponent_at, Part}
use Rattle.refal_real.specs.Parts.{first, unsigned, run, past, fraction_at, past_fraction, down_at, exponent_digits}
use Rattle.refal_real.specs.Value.{num}
use Rattle.refal_real.specs.Form.{less}
use Rattle.refal_real.specs.Tens.{Digits, num_less, digits_less}
use Rattle.refal_real.specs.Written.{digits_run}
use Rattle.refal_real.specs.Found.{from_of, whole_of, scale_of}
use Rattle.refal_real.specs.PlacesLaws.{first_drop}
use Rattle.refal_real.specs.Inner.{By, Over}

-- ---- digits from a place on
take_drop : (f k : ℕ) (t : List ℕ) → take k (drop f t) ≡ slice f (f + k) t
take_drop zero k t = rw (zero-add k) refl
take_drop (suc f) k [] = go k
  where
    go : (k : ℕ) → ◌≡◌ {A = List ℕ} (take k []) (slice (suc f) (suc f + k) [])
    go zero = rw (suc-add f 0) refl
    go (suc k) = rw (suc-add f (suc k)) refl
take_drop (suc f) k (b ∷ t) = rw (suc-add f k) (take_drop f k t)

run_at : (t : List ℕ) (i : ℕ) → run (drop i t) ≡ slice i (i + span digit (drop i t)) t
unfolding run
run_at t i = take_drop i (span digit (drop i t)) t

past_at : (t : List ℕ) (i : ℕ) → past (drop i t) ≡ drop (i + span digit (drop i t)) t
unfolding past
past_at t i = drop-drop (span digit (drop i t)) i t

pub whole_is : (t : List ℕ) → (run (unsigned t) ≡ slice (from_of t) (whole_of t) t) × (past (unsigned t) ≡ drop (whole_of t) t)
whole_is t = (run_at t (from_of t), past_at t (from_of t))

-- ---- the fraction, behind n digits
no_sign : (s : List ℕ) → sign_bytes false s ≡ 0
no_sign [] = refl
no_sign (b ∷ s) = refl

pub fraction_is : (t : List ℕ) (n : ℕ) → (fraction_at (drop n t) ≡ slice (min (n + 1) (point_at n t).end) (point_at n t).end t) × (past_fraction (drop n t) ≡ drop (point_at n t).end t)
fraction_is t n = go (drop n t) refl
  where
    none : (s : List ℕ) → drop n t ≡ s → ([] ≡ slice (min (n + 1) n) n t) × (s ≡ drop n t)
    none s e = let m : min (n + 1) n ≡ n = omega arith in (sym (rw m (slice_empty n t)), sym e)

    some : (b : ℕ) (s : List ℕ) → drop n t ≡ b ∷ s → (k : ℕ) → k ≡ n + 1 + span digit s → (run s ≡ slice (min (n + 1) k) k t) × (past s ≡ drop k t)
    some b s e k q =
        let d : drop (n + 1) t ≡ s = sym (drop-drop 1 n t) ∙ ap (drop 1) e in
        let m : min (n + 1) (n + 1 + span digit s) ≡ n + 1 = omega arith in
        rw (q, m) (
          ap run (sym d) ∙ run_at t (n + 1) ∙ ap (λ (x : List ℕ). slice (n + 1) (n + 1 + span digit x) t) d,
          ap past (sym d) ∙ past_at t (n + 1) ∙ ap (λ (x : List ℕ). drop (n + 1 + span digit x) t) d,
        )

    go : (s : List ℕ) → drop n t ≡ s → (fraction_at s ≡ slice (min (n + 1) (part 46 false n s).end) (part 46 false n s).end t) × (past_fraction s ≡ drop (part 46 false n s).end t)
    go [] e = none [] e
    go (b ∷ s) e = on (eqb b 46)
      where
        at : Bool → Part
        at x = pick x (digits_at (n + 1 + sign_bytes false s) (drop (sign_bytes false s) s)) (ends n false)

        on : (x : Bool) → (pick x (run s) [] ≡ slice (min (n + 1) (at x).end) (at x).end t) × (pick x (past s) (b ∷ s) ≡ drop (at x).end t)
        on true = some b s e (at true).end (rw (no_sign s, add-zero (n + 1)) refl)
        on false = none (b ∷ s) e

-- ---- an exponent that goes to the text's end
pub scale_none : (t : List ℕ) (at : ℕ) → at ≡ length t → By false 0 ≡ scale_of (down_at (drop at t)) (exponent_digits (drop at t))
unfolding less num
scale_none t at e = rw (drop_of_length-le t (let l : length t ≤ at = omega arith in l)) refl

pub record Exponent (t : List ℕ) (at from : ℕ) : Type 0 where
  pub digits : slice from (length t) t ≡ exponent_digits (drop at t)
  pub down : down_at (drop at t) ≡ eqb (get_or t (at + 1) 0) 45

pub exponent_is : (t : List ℕ) (at from : ℕ) → at < length t → (exponent_at at t).end ≡ length t → from ≡ at + 1 + sign_bytes true (drop (at + 1) t) → Exponent t at from
exponent_is t at from h e f = go (eqb (get_or t at 0) 69) refl (sym (ap (λ (x : List ℕ). (part 69 true at x).end) dc) ∙ e)
  where
    dc : drop at t ≡ get_or t at 0 ∷ drop (at + 1) t
    dc = rw (add-one at) (drop-cons t at 0 h)

    behind : drop (sign_bytes true (drop (at + 1) t)) (drop (at + 1) t) ≡ drop from t
    behind = drop-drop (sign_bytes true (drop (at + 1) t)) (at + 1) t ∙ ap (λ (i : ℕ). drop i t) (sym f)

    go : (x : Bool) → eqb (get_or t at 0) 69 ≡ x
        → (pick {A = Part} x (digits_at (at + 1 + sign_bytes true (drop (at + 1) t)) (drop (sign_bytes true (drop (at + 1) t)) (drop (at + 1) t))) (ends at false)).end ≡ length t
        → Exponent t at from
    go false q k = absurd (omega arith)
    go true q k =
        let l : from + span digit (drop from t) ≡ length t = ap (λ (x : List ℕ). from + span digit x) (sym behind) ∙ ap (λ (i : ℕ). i + span digit (drop (sign_bytes true (drop (at + 1) t)) (drop (at + 1) t))) f ∙ k in
        record {
          digits = ap (λ (i : ℕ). slice from i t) (sym l) ∙ sym (run_at t from) ∙ ap run (sym behind) ∙ sym (ap exponent_digits dc ∙ rw q refl);
          down = ap down_at dc ∙ rw q (ap (λ (b : ℕ). eqb b 45) (first_drop t (at + 1)));
        }

pub digits_exponent : (s : List ℕ) → Digits (exponent_digits s)
digits_exponent s = go (eqb (first s) 69)
  where
    go : (x : Bool) → Digits (pick x (run (unsigned (drop 1 s))) [])
    go true = digits_run (unsigned (drop 1 s))
    go false = tt

-- s: its digits, leading zeros aside
module _ (t : List ℕ) (at : ℕ) (s : List ℕ) (z : s ≡ less (exponent_digits (drop at t))) where
  pub scale_over : 9 < length s → Over ≡ scale_of (down_at (drop at t)) (exponent_digits (drop at t))
  scale_over h = let l = ap length z in rw (lt-leb (length (less (exponent_digits (drop at t)))) 9 (omega arith)) refl

  pub scale_by : (by : ℕ) (down : Bool) → length s ≤ 9 → by ≡ num s → down ≡ down_at (drop at t) → By down by ≡ scale_of (down_at (drop at t)) (exponent_digits (drop at t))
  scale_by by down h e d =
      let l = ap length z in
      let n : by ≡ num (exponent_digits (drop at t)) = e ∙ ap num z ∙ num_less (exponent_digits (drop at t)) in
      rw (le-leb (length (less (exponent_digits (drop at t)))) 9 (omega arith)) (ap₂ By d n)

  pub scale_digits : Digits s
  scale_digits = rw z (digits_less (exponent_digits (drop at t)) (digits_exponent (drop at t)))
