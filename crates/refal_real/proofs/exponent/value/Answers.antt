-- `refal_real::exponent::value` meets its contract.
use Rattle.std.proofs.Common.{arith, ◌≡◌, ap, sym, ◌∙◌, ℕ, ◌+◌, ◌-◌, ◌<◌, Bool, List, pos, neg_ℤ, eqb, length, take, drop, get_or, Some, eqb-true, eq-eqb, ne_eqb}
use Rattle.std.proofs.lemmas.Bool.{eqb-false}
use Rattle.std.proofs.lemmas.Slice.{between_is}
use Rattle.std.proofs.lemmas.Int.{ints}
use mir.Val.{bool_byte}
use Rattle.refal_lexer.specs.Classes.{sign}
use Rattle.refal_lexer.specs.Numbers.{exponent_at}
use Rattle.refal_real.specs.Parts.{down_at, exponent_digits}
use Rattle.refal_real.specs.Form.{less}
use Rattle.refal_real.specs.Told.{exponent_of}
use Rattle.refal_real.specs.SplitLaws.{sign_long}
use Rattle.refal_real.specs.PartLaws.{scale_none, exponent_is, scale_over, scale_by, scale_digits}
use Rattle.refal_real.proofs.exponent.value.Goals as goal

-- its digits and its sign, by the byte b behind its mark and by the number n of bytes of a sign there
spelled : (t : List ℕ) (b n : ℕ) (r : Bool) (s : List ℕ) → 0 < length t → (exponent_at 0 t).end ≡ length t → b ≡ get_or t 1 0 → r ≡ sign b → n ≡ bool_byte r
    → s ≡ less (take (length t - (1 + n)) (drop (1 + n) t)) → (s ≡ less (exponent_digits t)) × (down_at t ≡ eqb b 45)
spelled t b n r s h e eb er en es =
    let E = exponent_is t 0 (1 + n) h e (ap (λ (x : ℕ). 1 + x) (sign_long t 1 b n r eb er en)) in
    (es ∙ ap less (between_is t (1 + n) (length t)) ∙ ap less E.digits, E.down ∙ ap (λ (x : ℕ). eqb x 45) (sym eb))

pub returns-then-is_empty : goal.returns-then-is_empty
returns-then-is_empty c = ap exponent_of (scale_none c.args.exponent.now 0 (sym (eqb-true _ 0 (sym c.is_empty.ensures ∙ c.if-is_empty.true))))

pub returns-then-digits-gt-MOST_DIGITS : goal.returns-then-digits-gt-MOST_DIGITS
returns-then-digits-gt-MOST_DIGITS c =
    let h : (length c.args.exponent.now ≡ 0 → ⊥) = eqb-false _ 0 (sym c.is_empty.ensures ∙ c.if-is_empty.false) in
    let p = spelled c.args.exponent.now c.byte-sign.result c.from.result c.is_sign.result _ (omega (arith, h)) c.requires c.byte-sign.ensures c.is_sign.ensures c.from.ensures c.trim_start-digits.ensures in
    ap exponent_of (scale_over c.args.exponent.now 0 _ p.0 c.if-digits-gt-MOST_DIGITS.true)

pub number-requires : goal.number-requires
number-requires c =
    let h : (length c.args.exponent.now ≡ 0 → ⊥) = eqb-false _ 0 (sym c.is_empty.ensures ∙ c.if-is_empty.false) in
    let p = spelled c.args.exponent.now c.byte-sign.result c.from.result c.is_sign.result _ (omega (arith, h)) c.requires c.byte-sign.ensures c.is_sign.ensures c.from.ensures c.trim_start-digits.ensures in
    (omega arith, scale_digits c.args.exponent.now 0 _ p.0)

pub returns-then-down : goal.returns-then-down
returns-then-down c =
    let h : (length c.args.exponent.now ≡ 0 → ⊥) = eqb-false _ 0 (sym c.is_empty.ensures ∙ c.if-is_empty.false) in
    let p = spelled c.args.exponent.now c.byte-sign.result c.from.result c.is_sign.result _ (omega (arith, h)) c.requires c.byte-sign.ensures c.is_sign.ensures c.from.ensures c.trim_start-digits.ensures in
    ap Some (let k : _ ≡ neg_ℤ (pos c.number.result) = omega (arith, ints) in k)
    ∙ ap exponent_of (scale_by c.args.exponent.now 0 _ p.0 c.number.result _ (omega arith) c.number.ensures (sym (p.1 ∙ eq-eqb c.byte-sign.result 45 c.if-down.true)))

pub returns-else-down : goal.returns-else-down
returns-else-down c =
    let h : (length c.args.exponent.now ≡ 0 → ⊥) = eqb-false _ 0 (sym c.is_empty.ensures ∙ c.if-is_empty.false) in
    let p = spelled c.args.exponent.now c.byte-sign.result c.from.result c.is_sign.result _ (omega (arith, h)) c.requires c.byte-sign.ensures c.is_sign.ensures c.from.ensures c.trim_start-digits.ensures in
    ap Some (let k : _ ≡ pos c.number.result = omega (arith, ints) in k)
    ∙ ap exponent_of (scale_by c.args.exponent.now 0 _ p.0 c.number.result _ (omega arith) c.number.ensures (sym (p.1 ∙ ne_eqb c.byte-sign.result 45 c.if-down.false)))
