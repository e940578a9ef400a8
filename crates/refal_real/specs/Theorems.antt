-- The theorems on reals: Statements.antt, proved.
use Rattle.std.specs.Prelude.{ℕ, ◌≤◌, Bool, false, ◌&&◌, ◌||◌, ◌≡◌, leb, eqb}
use Rattle.std.proofs.Common.{arith, true≢false, ap, sym, ◌∙◌}
use borrow.Author.Tests.{le-leb, eqb-true, eq-eqb}
use Rattle.std.proofs.Math.Bool.{true}
use Rattle.std.specs.Bool.{beq}
use mathlib.Core.List.{List, [], ◌∷◌, ◌++◌}
use Rattle.std.proofs.Math.Path.{refl}
use Rattle.std.proofs.Math.ListN.{length}
use Rattle.refal_rows.specs.Tests.{and_left, and_right}
use Rattle.refal_text.specs.Pick.{pick}
use Rattle.refal_ast.specs.Kinds.{tok_number}
use Rattle.refal_ast.specs.Limits.{most_bytes}
use Rattle.refal_ast.specs.Names.{same_list, same_true, same_refl}
use Rattle.refal_lexer.specs.Classes.{digit}
use Rattle.refal_spelling.specs.Spells.{spells}
use Rattle.refal_spelling.specs.Good as G
use Rattle.refal_spelling.specs.SpellsLaws.{number_spells}
use Rattle.refal_real.specs.Parts.{parts}
use Rattle.refal_real.specs.Form.{less, Form, normal}
use Rattle.refal_real.specs.Real.{marked, is_real, Outcome, has_form, is_refused, outcome, same_form, same_outcome}
use Rattle.refal_real.specs.Tens.{Digits, Clean}
use Rattle.refal_real.specs.Same.{same_parts, value_form, large}
use Rattle.refal_real.specs.Written.{Signed, left_out, plus, minus, written, digits_parts, parts_written, form_read, form_zero, normal_normal, length_less, decimal, spells_decimal}
use Rattle.refal_real.specs.Statements.{SameValue, FormsValue, FormsNormal, WrittenOut, ZeroFits, Equal, Reals}
use Rattle.refal_real.specs.Alone.{given, given_alone}

-- ---- a text that is not refused has the form of its parts
form_of : (t : List ℕ) (f : Form) → outcome t ≡ has_form f → f ≡ normal (parts t)
unfolding outcome
form_of t f e = go (is_real t) (leb (length (less (parts t).exponent)) 9) e
  where
    go : (x y : Bool) → pick x (pick y (has_form (normal (parts t))) (is_refused 65)) (is_refused 64) ≡ has_form f → f ≡ normal (parts t)
    go true true h = cc
    go true false h = let z : ◌≡◌ {A = ℕ} 0 1 = cc in absurd (omega arith)
    go false y h = let z : ◌≡◌ {A = ℕ} 0 1 = cc in absurd (omega arith)

same_value : SameValue
same_value s t f g a b n v w p q =
    let k = same_parts n (parts s) (parts t) (digits_parts s) (digits_parts t) v w p q in
    let i = form_of s f a in
    let j = form_of t g b in
    (λ h. i ∙ k.0 h ∙ sym j, λ h. k.1 (sym i ∙ h ∙ j))

forms_value : FormsValue
forms_value t f e n w = rw (form_of t f e) (value_form n (parts t) w)

forms_normal : FormsNormal
forms_normal t f e = rw (form_of t f e) (normal_normal t)

-- ---- a form written out
every : (s : List ℕ) → Digits s → G.Every digit s
every [] d = G.none
every (b ∷ s) d = G.also b s (is_digit b d.0 d.1) (every s d.2)
  where
    is_digit : (b : ℕ) → 48 ≤ b → b ≤ 57 → digit b ≡ true
    is_digit b l h = rw (le-leb 48 b l, le-leb b 57 h) refl

sign : {m : Bool} {s : List ℕ} → Signed m s → G.Sign true s
sign left_out = G.unsigned
sign plus = G.plus refl
sign minus = G.minus refl

marked_behind : (s r : List ℕ) → marked r ≡ true → marked (s ++ r) ≡ true
unfolding marked
marked_behind [] r h = h
marked_behind (b ∷ s) r h = rw (marked_behind s r h) (go (eqb b 46 || eqb b 69))
  where
    go : (x : Bool) → x || true ≡ true
    go true = refl
    go false = refl

first_digit : {p : ℕ → Bool} {b : ℕ} {s : List ℕ} → G.Every p (b ∷ s) → p b ≡ true
first_digit (G.also b s h a) = h

other_digits : {p : ℕ → Bool} {b : ℕ} {s : List ℕ} → G.Every p (b ∷ s) → G.Every p s
other_digits (G.also b s h a) = a

module _ (m e : Bool) (s z : List ℕ) (p : Signed m s) (q : Signed e z) (b : ℕ) (d : List ℕ) (c : ℕ) (x : List ℕ) (g : Digits (b ∷ d)) (h : Digits (c ∷ x)) where
  abbrev text : List ℕ
  text = s ++ ((b ∷ d) ++ (69 ∷ (z ++ (c ∷ x))))

  real_written : length text ≤ most_bytes → is_real text ≡ true
  unfolding marked
  real_written short =
      let D = every (b ∷ d) g in
      let X = every (c ∷ x) h in
      let n : spells tok_number text ≡ true =
      number_spells 0 text (G.number text (G.real s b d [] (69 ∷ (z ++ (c ∷ x))) (sign p) (first_digit D) (other_digits D) G.absent (G.digits z c x (sign q) (first_digit X) (other_digits X)) (omega arith))) in
      rw (n, le-leb (length text) most_bytes short) (marked_behind s ((b ∷ d) ++ (69 ∷ (z ++ (c ∷ x)))) (marked_behind (b ∷ d) (69 ∷ (z ++ (c ∷ x))) refl))

  outcome_written : length text ≤ most_bytes → length (c ∷ x) ≤ 9 → outcome text ≡ has_form (normal (record { minus = m; whole = b ∷ d; fraction = []; down = e; exponent = c ∷ x }))
  unfolding outcome
  outcome_written short few =
      let l : length (less (c ∷ x)) ≤ 9 = omega (arith, length_less (c ∷ x)) in
      rw (real_written short, parts_written m e s z p q b d c x g h, le-leb (length (less (c ∷ x))) 9 l) refl

written_out : WrittenOut
written_out f k s z [] p q r l = let o = r.some in absurd (omega arith)
written_out f k s z (c ∷ x) p q r l = go f.digits refl k.clean l
  where
    go : (d : List ℕ) → f.digits ≡ d → Clean d → length (written s d z (c ∷ x)) ≤ most_bytes → outcome (written s d z (c ∷ x)) ≡ has_form f
    go [] e g l = outcome_written f.minus f.down s z p q 48 [] c x (omega arith, omega arith, tt) r.digits l r.few ∙ ap has_form (form_zero f.minus f.down (c ∷ x) ∙ sym (k.zero_form e))
    go (b ∷ d) e g l =
        outcome_written f.minus f.down s z p q b d c x g.digits r.digits l r.few
        ∙ ap has_form (form_read f.minus f.down b d (c ∷ x) g (λ y. rw r.is (k.power y)) ∙ rw (r.is, ← e) refl)

zero_fits : ZeroFits
zero_fits t f e z m = rw (e, z, le-leb 0 m (omega arith)) refl

-- ---- the comparison
beq_same : (x y : Bool) → beq x y ≡ true → x ≡ y
beq_same true true h = refl
beq_same true false h = sym h
beq_same false true h = h
beq_same false false h = refl

beq_refl : (x : Bool) → beq x x ≡ true
beq_refl true = refl
beq_refl false = refl

form_same : (f g : Form) → f.minus ≡ g.minus → f.down ≡ g.down → f.power ≡ g.power → f.digits ≡ g.digits → f ≡ g
form_same f g a b c d = λ i. record { minus = a i; digits = d i; down = b i; power = c i }

same_form_lem : (f g : Form) → same_form f g ≡ true → f ≡ g
same_form_lem f g h =
    let s = and_left (beq f.minus g.minus && beq f.down g.down) (eqb f.power g.power && same_list f.digits g.digits) h in
    let t = and_right (beq f.minus g.minus && beq f.down g.down) (eqb f.power g.power && same_list f.digits g.digits) h in
    form_same f g (beq_same _ _ (and_left (beq f.minus g.minus) (beq f.down g.down) s)) (beq_same _ _ (and_right (beq f.minus g.minus) (beq f.down g.down) s))
    (eqb-true _ _ (and_left (eqb f.power g.power) (same_list f.digits g.digits) t)) (same_true _ _ (and_right (eqb f.power g.power) (same_list f.digits g.digits) t))

form_refl : (f : Form) → same_form f f ≡ true
form_refl f = rw (beq_refl f.minus, beq_refl f.down, eq-eqb f.power f.power refl) (same_refl f.digits)

equal : Equal
equal a b = (
  to (outcome a) (outcome b),
  λ r. rw (r.1, r.2) (form_refl r.0),
)
  where
    to : (o u : Outcome) → same_outcome o u ≡ true → (f : Form) × (o ≡ has_form f) × (u ≡ has_form f)
    to (has_form f) (has_form g) h = (f, refl, ap has_form (sym (same_form_lem f g h)))
    to (has_form f) (is_refused y) h = absurd (true≢false (sym h))
    to (is_refused x) (has_form g) h = absurd (true≢false (sym h))
    to (is_refused x) (is_refused y) h = absurd (true≢false (sym h))

pub reals : Reals
reals = record {
  given = given;
  given_alone = given_alone;
  same_value = same_value;
  large = λ t n h. large n (parts t) h;
  forms_value = forms_value;
  forms_normal = forms_normal;
  written_out = written_out;
  spelled = λ n h. (decimal n, spells_decimal n h);
  zero_fits = zero_fits;
  equal = equal;
}
