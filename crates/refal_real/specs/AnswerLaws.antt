-- Laws of what is answered of a text, and of two.
use Rattle.std.specs.Prelude.{ℕ, suc, ℤ, pos, negsuc, int_lt, unsigned_abs, Bool, true, false, ◌&&◌, List, [], ◌∷◌, ◌≡◌, refl, eqb, leb, length}
use Rattle.std.specs.Bool.{beq, Decides}
use Rattle.std.specs.Str.{bytes_eq}
use Rattle.std.proofs.Common.{true≢false, ap, ap₂, sym, subst, ◌∙◌, arith, le-ltb, eq-eqb, ne_eqb, int_eq}
use Rattle.std.proofs.lemmas.Bool.Decides.{Decides-int_eq}
use Rattle.refal_text.specs.Pick.{pick}
use Rattle.refal_ast.specs.Names.{same_list}
use Rattle.refal_ast.specs.Answers.{Refusal, Answer, Done, Refused}
use Rattle.refal_real.specs.Real.{Outcome, has_form, is_refused, answer_of, words_of, no_words, form_words, same_outcome}
use Rattle.refal_real.specs.Told.{digits_told, form_told}
use Rattle.refal_real.specs.declared.Form.{Form as Code}

-- ---- the words of a form that is refused
pub refused_words : (o : Outcome) (m : ℕ) (r : Refusal) → Refused r ≡ answer_of o m → no_words ≡ words_of o m
refused_words (is_refused x) m r e = refl
refused_words (has_form f) m r e = go (leb (length f.digits) m) _ _ e
  where
    go : (x : Bool) (n : ℕ) (a : Answer) → Refused r ≡ pick x (Done n) a → no_words ≡ pick x (form_words f) no_words
    go true n a q = let z : ◌≡◌ {A = ℕ} 0 1 = cc in absurd (omega arith)
    go false n a q = refl

-- ---- the comparison
same_bytes : (s t : List ℕ) → bytes_eq s t ≡ same_list s t
unfolding same_list
same_bytes [] [] = refl
same_bytes [] (b ∷ t) = refl
same_bytes (a ∷ s) [] = refl
same_bytes (a ∷ s) (b ∷ t) = ap (λ (x : Bool). eqb a b && x) (same_bytes s t)

beq_refl : (x : Bool) → beq x x ≡ true
beq_refl true = refl
beq_refl false = refl

same_power : (m d x : Bool) (p q : ℤ) → Decides x (p ≡ q) → (m && (x && d)) ≡ ((m && beq (int_lt p (pos 0)) (int_lt q (pos 0))) && (eqb (unsigned_abs p) (unsigned_abs q) && d))
same_power false d x p q h = refl
same_power true d true p q h =
    subst (λ (z : ℤ). d ≡ (beq (int_lt p (pos 0)) (int_lt z (pos 0)) && (eqb (unsigned_abs p) (unsigned_abs z) && d))) (h.0 refl)
    (rw (beq_refl (int_lt p (pos 0)), eq-eqb (unsigned_abs p) (unsigned_abs p) refl) refl)
same_power true d false (pos a) (pos b) h = rw (le-ltb a 0 (omega arith), le-ltb b 0 (omega arith), ne_eqb a b (λ e. true≢false (sym (h.1 (ap pos e))))) refl
same_power true d false (pos a) (negsuc b) h = rw (le-ltb a 0 (omega arith)) refl
same_power true d false (negsuc a) (pos b) h = rw (le-ltb b 0 (omega arith)) refl
same_power true d false (negsuc a) (negsuc b) h = rw (ne_eqb (suc a) (suc b) (λ e. true≢false (sym (h.1 (ap negsuc (let k : a ≡ b = omega arith in k)))))) refl

pub same_told : (o u : Outcome) (f g : Code) → has_form (form_told f) ≡ o → has_form (form_told g) ≡ u
    → (beq f.minus g.minus && (int_eq f.power g.power && bytes_eq (digits_told f.digits) (digits_told g.digits))) ≡ same_outcome o u
same_told o u f g e h =
    ap (λ (x : Bool). beq f.minus g.minus && (int_eq f.power g.power && x)) (same_bytes (digits_told f.digits) (digits_told g.digits))
    ∙ same_power (beq f.minus g.minus) (same_list (digits_told f.digits) (digits_told g.digits)) (int_eq f.power g.power) f.power g.power (Decides-int_eq f.power g.power) ∙ ap₂ same_outcome e h

-- the same, where the second form's sign and power stand in other words
pub same_by : (o u : Outcome) (f g : Code) (m : Bool) (q : ℤ) → has_form (form_told f) ≡ o → has_form (form_told g) ≡ u → m ≡ g.minus → q ≡ g.power
    → (beq f.minus m && (int_eq f.power q && bytes_eq (digits_told f.digits) (digits_told g.digits))) ≡ same_outcome o u
same_by o u f g m q e h a b = rw (a, b) (same_told o u f g e h)
