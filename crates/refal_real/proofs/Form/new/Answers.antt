-- `refal_real::Form::new` meets its contract.
use Rattle.std.proofs.Common.{arith, ◌≡◌, ap, sym, ◌∙◌, ◌-◌, pos, ◌+ℤ◌, ◌-ℤ◌, unsigned_abs, ℕ, length, length-append, length-take, to_z, of_z, w64}
use Rattle.std.proofs.lemmas.Bool.{eqb-false}
use Rattle.std.proofs.lemmas.Int.{ints}
use Rattle.refal_real.specs.Form.{less, trim}
use Rattle.refal_real.specs.Tens.{trim_length}
use Rattle.refal_real.specs.Told.{digits_told, parts_told}
use Rattle.refal_real.specs.FoundLaws.{found_some, signed_abs}
use Rattle.refal_real.proofs.Form.new.Goals as goal

pub overflow_sub-zeros : goal.overflow_sub-zeros
overflow_sub-zeros c = omega (arith, ap length c.trim_end-trimmed.ensures, trim_length, length-append {A = ℕ}, length-take {A = ℕ})

pub overflow_sub-power : goal.overflow_sub-power
overflow_sub-power c =
    let d = c.args.parts.digits in
    let p = parts_told c.args.parts in
    omega (arith, ints, ap unsigned_abs c.requires.value ∙ signed_abs p.down _, c.requires.small, c.requires.whole, c.requires.fraction, length-append d.whole.now d.fraction.now, ap length c.trim_end-trimmed.ensures, trim_length, length-append {A = ℕ}, length-take {A = ℕ})

pub returns : goal.returns
returns c =
    let d = c.args.parts.digits in
    let p = parts_told c.args.parts in
    let e = c.args.exponent in
    let q = to_z w64 (of_z w64 (to_z w64 (of_z w64 (to_z w64 (of_z w64 e) +ℤ to_z w64 (c.len.result - c.len-2.result))) -ℤ to_z w64 (length d.fraction.now))) in
    let m : q ≡ (e +ℤ pos (length (digits_told d) - length (trim (digits_told d)))) -ℤ pos (length d.fraction.now) =
    omega (arith, ints, ap unsigned_abs c.requires.value ∙ signed_abs p.down _, c.requires.small, c.requires.whole, c.requires.fraction, length-append d.whole.now d.fraction.now, ap length c.trim_end-trimmed.ensures, trim_length, length-append {A = ℕ}, length-take {A = ℕ}) in
    let h : (length (digits_told c.trim_start-digits.result) ≡ 0 → ⊥) = eqb-false _ 0 (sym c.is_empty.ensures ∙ c.if-is_empty.false) in
    found_some p _ (c.trim_start-digits.ensures ∙ ap less c.trim_end-trimmed.ensures) e q (omega (arith, h)) c.requires.value m
