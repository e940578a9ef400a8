-- `refal_real::parts::split` meets its contract.
use Rattle.std.proofs.Common.{arith, sym, ◌∙◌, ℕ, ◌≤◌, length, length-take}
use Rattle.refal_ast.specs.Limits.{most_bytes}
use Rattle.refal_real.specs.SplitLaws.{scans, no_digit, bare_point, bare_exponent, no_mark, not_all, is, parts_is, to_end, cut_short, ends_at}
use Rattle.refal_real.proofs.parts.split.Goals as goal
use Rattle.refal_real.proofs.parts.split.Goals.{then-end-whole-via-then-end-whole, then-end-whole-via-else-end-whole+then-end-text}

pub returns-then-whole-from : goal.returns-then-whole-from
returns-then-whole-from c = no_digit c.args.text.now c.byte-sign.result c.from-from.result c.digits-whole.result.end c.is_sign.result c.byte-sign.ensures c.is_sign.ensures c.from-from.ensures c.digits-whole.ensures.end c.if-whole-from.true

pub returns-in_err-to : goal.returns-in_err-to
returns-in_err-to c =
    let s = scans c.args.text.now c.byte-sign.result c.from-from.result c.digits-whole.result.end c.is_sign.result c.fraction.result c.byte-sign.ensures c.is_sign.ensures c.from-from.ensures c.digits-whole.ensures.end c.fraction.ensures.part in
    rw c.from_residual.ensures (bare_point c.args.text.now c.from-from.result c.digits-whole.result.end c.fraction.result s (λ q. c.if-whole-from.false q) (sym c.ok.ensures.value ∙ c.in_err-to.was))

pub returns-in_err-end : goal.returns-in_err-end
returns-in_err-end c =
    let s = scans c.args.text.now c.byte-sign.result c.from-from.result c.digits-whole.result.end c.is_sign.result c.fraction.result c.byte-sign.ensures c.is_sign.ensures c.from-from.ensures c.digits-whole.ensures.end c.fraction.ensures.part in
    rw c.from_residual-in_err-end.ensures (bare_exponent c.args.text.now c.from-from.result c.digits-whole.result.end c.fraction.result s (λ q. c.if-whole-from.false q) c.in_ok-to.to (sym c.ok.ensures.value ∙ c.in_ok-to.was) c.power.result c.power.ensures.part (sym c.ok-2.ensures.value ∙ c.in_err-end.was))

pub returns-then-end-whole : goal.returns-then-end-whole
returns-then-end-whole c =
    let s = scans c.args.text.now c.byte-sign.result c.from-from.result c.digits-whole.result.end c.is_sign.result c.fraction.result c.byte-sign.ensures c.is_sign.ensures c.from-from.ensures c.digits-whole.ensures.end c.fraction.ensures.part in
    elim c.then-end-whole.branch [
      | then-end-whole-via-then-end-whole w ↦ no_mark c.args.text.now c.from-from.result c.digits-whole.result.end c.fraction.result s (λ q. c.if-whole-from.false q) c.in_ok-to.to (sym c.ok.ensures.value ∙ c.in_ok-to.was) c.power.result c.power.ensures.part c.in_ok-end.end (sym c.ok-2.ensures.value ∙ c.in_ok-end.was) w.if-end-whole.true
      | then-end-whole-via-else-end-whole+then-end-text w ↦ not_all c.args.text.now c.from-from.result c.digits-whole.result.end c.fraction.result s (λ q. c.if-whole-from.false q) c.in_ok-to.to (sym c.ok.ensures.value ∙ c.in_ok-to.was) c.power.result c.power.ensures.part c.in_ok-end.end (sym c.ok-2.ensures.value ∙ c.in_ok-end.was) w.if-end-whole.false (omega (arith, length-take {A = ℕ}))
    ]

pub returns : goal.returns
returns c =
    let s = scans c.args.text.now c.byte-sign.result c.from-from.result c.digits-whole.result.end c.is_sign.result c.fraction.result c.byte-sign.ensures c.is_sign.ensures c.from-from.ensures c.digits-whole.ensures.end c.fraction.ensures.part in
    let t = c.args.text.now in
    let l : c.in_ok-to.to ≤ length t = omega (arith, ends_at c.fraction.result c.in_ok-to.to (sym c.ok.ensures.value ∙ c.in_ok-to.was), c.fraction.ensures.to) in
    let w : c.in_ok-end.end ≤ length t = omega (arith, ends_at c.power.result c.in_ok-end.end (sym c.ok-2.ensures.value ∙ c.in_ok-end.was), c.power.ensures.to) in
    let all : length t ≤ c.in_ok-end.end = omega (arith, length-take {A = ℕ}) in
    let h : length t ≤ most_bytes = omega (arith, c.if-text-gt-MOST_BYTES.false) in
    record {
      real = is c.args.text.now c.from-from.result c.digits-whole.result.end c.fraction.result s (λ q. c.if-whole-from.false q) c.in_ok-to.to (sym c.ok.ensures.value ∙ c.in_ok-to.was) c.power.result c.power.ensures.part c.in_ok-end.end (sym c.ok-2.ensures.value ∙ c.in_ok-end.was) c.if-end-whole.false all w l h;
      parts = parts_is c.args.text.now c.from-from.result c.digits-whole.result.end c.fraction.result s (λ q. c.if-whole-from.false q) c.in_ok-to.to (sym c.ok.ensures.value ∙ c.in_ok-to.was) c.power.result c.power.ensures.part c.in_ok-end.end (sym c.ok-2.ensures.value ∙ c.in_ok-end.was) c.if-end-whole.false all w l h c.byte-sign.result c.min.result c.byte-sign.ensures c.min.ensures;
      exponent = to_end c.args.text.now c.from-from.result c.digits-whole.result.end c.fraction.result s (λ q. c.if-whole-from.false q) c.in_ok-to.to (sym c.ok.ensures.value ∙ c.in_ok-to.was) c.power.result c.power.ensures.part c.in_ok-end.end (sym c.ok-2.ensures.value ∙ c.in_ok-end.was) c.if-end-whole.false all w l h;
      whole = cut_short t _ _ h;
      fraction = cut_short t _ _ h;
    }
