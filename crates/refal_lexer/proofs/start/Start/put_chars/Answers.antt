-- `refal_lexer::start::Start::put_chars` meets its contract.
use Rattle.std.proofs.Common.{arith, refl, ◌∙◌}
use Rattle.refal_text.specs.Utf8.{ill}
use Rattle.refal_lexer.specs.LiteralLaws.{chars_end, chars_close, chars_step, fills_row, fills_end}
use Rattle.refal_lexer.proofs.start.Start.put_chars.Goals as goal

pub returns-in_default : goal.returns-in_default
returns-in_default c = (fills_end _ _ _ _ _ _ (chars_close _ _ _ _ _ ill c.loop-i-test.true c.in_default.ensures.told refl) c.loop-i.invariant.4).1

pub loop-i-preserved : goal.loop-i-preserved
loop-i-preserved c = let x = c.in-Some.ensures in let w = x.within.0 in (
  omega arith,
  x.within.1,
  omega arith,
  c.put.auto.rows ∙ c.loop-i.invariant.3,
  fills_row _ _ _ _ _ _ _ _ _ (chars_step _ _ _ _ _ c.in-Some.c c.loop-i-test.true x.told (λ z. omega arith) x.within.1) c.put.ensures c.loop-i.invariant.4,
)

pub returns : goal.returns
returns c = (fills_end _ _ _ _ _ _ (chars_end _ _ _ _ _ c.loop-i-test.false) c.loop-i.invariant.4).1
