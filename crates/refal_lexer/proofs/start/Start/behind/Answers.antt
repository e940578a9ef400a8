-- `refal_lexer::start::Start::behind` meets its contract.
use Rattle.std.proofs.Common.{arith, refl, sym, ap, ◌∙◌}
use Rattle.refal_text.specs.Utf8.{ill}
use Rattle.refal_lexer.specs.Steps.{stop_of, end_of}
use Rattle.refal_lexer.specs.LiteralLaws.{lit_end, lit_close, lit_newline, lit_step_lem}
use Rattle.refal_lexer.proofs.start.Start.behind.Goals as goal

pub returns-in_default : goal.returns-in_default
returns-in_default c = let a = c.args in c.close.ensures ∙ ap (end_of a.self.at a.row) (lit_close _ _ _ _ ill c.loop-i-test.true c.in_default.ensures.told refl ∙ c.loop-i.invariant.3)

pub returns-then-self-i-eq10 : goal.returns-then-self-i-eq10
returns-then-self-i-eq10 c = let a = c.args in let x = c.in-Some.ensures in let w = x.within.0 in
    ap (λ s. stop_of s 0) c.over.ensures ∙ ap (end_of a.self.at a.row) (lit_newline _ _ _ _ c.in-Some.x c.loop-i-test.true x.told (λ z. omega arith) c.if-self-i-eq10.true ∙ c.loop-i.invariant.3)

pub loop-i-preserved : goal.loop-i-preserved
loop-i-preserved c = let x = c.in-Some.ensures in let w = x.within.0 in
    (omega arith, x.within.1, omega arith, sym (lit_step_lem _ _ _ _ c.in-Some.x c.loop-i-test.true x.told (λ z. omega arith) c.if-self-i-eq10.false x.within.1) ∙ c.loop-i.invariant.3)

pub returns : goal.returns
returns c = let a = c.args in ap (λ s. stop_of s 0) c.over-2.ensures ∙ ap (end_of a.self.at a.row) (lit_end _ _ _ _ c.loop-i-test.false ∙ c.loop-i.invariant.3)
