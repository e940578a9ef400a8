-- `refal_lexer::start::Rest::white` meets its contract.
use Rattle.std.proofs.Common.{◌+◌, ◌≤◌, arith, sym, ap, ◌∙◌, Bool, length, drop}
use Rattle.refal_lexer.specs.Blanks.{white_len}
use Rattle.refal_lexer.specs.Carried.{whites}
use Rattle.refal_lexer.specs.BlankLaws.{rest_is, rest_length, white_end, white_stop, white_on}
use Rattle.refal_lexer.proofs.start.Rest.white.Goals.{else-loop-i-test, then-loop-i-test+then-n-eq0}
use Rattle.refal_lexer.proofs.start.Rest.white.Goals as goal

pub loop-i-preserved : goal.loop-i-preserved
loop-i-preserved c = let s = c.args.self.src.now in let a = c.args.self.at in let i = c.loop-i.i in let n = c.white_len-n.result in
    let w = c.white_len-n.ensures.1 in let r = rest_length i s in
    let m : i + n ≤ length s = omega arith in
    (m, ap (λ (x : Bool). whites 0 (a + (i + n)) x (drop (i + n) s)) c.line_after-line.ensures ∙ white_on s a i c.loop-i.line c.loop-i-test.true n (c.white_len-n.ensures.0 ∙ ap white_len (rest_is i s)) c.if-n-eq0.false m ∙ c.loop-i.invariant.1)

pub returns : goal.returns
returns c = let s = c.args.self.src.now in let a = c.args.self.at in let i = c.loop-i.i in let l = c.loop-i.line in let I = c.loop-i.invariant in
    elim c.loop-i-test.branch [
      | else-loop-i-test w ↦ (white_end s a i l w.loop-i-test.false ∙ I.1, omega arith, omega arith)
      | then-loop-i-test+then-n-eq0 w ↦ (white_stop s a i l w.loop-i-test.true (sym w.if-n-eq0.true ∙ w.white_len-n.ensures.0 ∙ ap white_len (rest_is i s)) ∙ I.1, omega arith, omega arith)
    ]
