-- `refal_lexer::number::digits` meets its contract: a digit a turn.
use Rattle.std.proofs.Common.{◌+◌, arith, sym, ap, ◌∙◌, drop, rules}
use Rattle.refal_text.specs.SpanLaws.{span_step}
use Rattle.refal_lexer.specs.Classes.{digit}
use Rattle.refal_lexer.specs.NumberLaws.{worth, fit, worth_fit, worth_end, worth_stop, worth_step}
use Rattle.refal_lexer.proofs.number.digits.Goals as goal

pub loop-end-preserved : goal.loop-end-preserved
loop-end-preserved c = let d = sym c.if-is_ascii_digit.ensures.value in
    (omega arith, span_step digit _ _ c.loop-end-test.true d ∙ c.loop-end.invariant.1, ap (λ x. worth x (drop (c.loop-end.end + 1) c.args.src.now)) (search rules) ∙ worth_step c.loop-end.worth _ _ c.loop-end-test.true d ∙ c.loop-end.invariant.2)

pub returns-else-is_ascii_digit-clause-worth : goal.returns-else-is_ascii_digit-clause-worth
returns-else-is_ascii_digit-clause-worth c = let d = c.if-is_ascii_digit.ensures in sym (worth_stop _ _ _ c.loop-end-test.true (sym d.value)) ∙ c.loop-end.invariant.2

pub returns-after-loop-end-clause-worth : goal.returns-after-loop-end-clause-worth
returns-after-loop-end-clause-worth c = sym (worth_end _ _ _ c.loop-end-test.false) ∙ c.loop-end.invariant.2

pub returns-else-is_ascii_digit-clause-macrodigit : goal.returns-else-is_ascii_digit-clause-macrodigit
returns-else-is_ascii_digit-clause-macrodigit c =
    let d = c.if-is_ascii_digit.ensures in
    ap fit (sym (worth_stop _ _ _ c.loop-end-test.true (sym d.value)) ∙ c.loop-end.invariant.2) ∙ worth_fit (drop c.args.at c.args.src.now)

pub returns-after-loop-end-clause-macrodigit : goal.returns-after-loop-end-clause-macrodigit
returns-after-loop-end-clause-macrodigit c = ap fit (sym (worth_end _ _ _ c.loop-end-test.false) ∙ c.loop-end.invariant.2) ∙ worth_fit (drop c.args.at c.args.src.now)
