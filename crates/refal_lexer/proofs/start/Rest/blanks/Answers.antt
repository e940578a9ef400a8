-- `refal_lexer::start::Rest::blanks` meets its contract.
use Rattle.std.proofs.Common.{ℕ, arith, ap, ap₂, List, ◌∙◌, drop}
use Rattle.refal_lexer.specs.Carried.{blanks_from}
use Rattle.refal_lexer.specs.SpaceLaws.{front_on, front_none}
use Rattle.refal_lexer.proofs.start.Rest.blanks.Goals as goal

pub returns-then-not-begins_blank : goal.returns-then-not-begins_blank
returns-then-not-begins_blank c = let a = c.args in front_none a.self.src.now a.self.at a.line _ _ c.space_len-n.ensures.0 c.line_behind.ensures _ _ _ c.byte.ensures c.of.ensures.class c.begins_blank.ensures c.if-not-begins_blank.true

pub returns : goal.returns
returns c = let a = c.args in let s = a.self.src.now in let n = c.space_len-n.result in let r = c.from.ensures in
    c.repeat.ensures ∙ ap₂ (λ (x : ℕ) (t : List ℕ). blanks_from 0 x c.line_behind.result t) (r.0) (r.1 ∙ ap (λ (k : ℕ). drop k s) (omega arith)) ∙ front_on s a.self.at a.line n _ c.space_len-n.ensures.0 c.line_behind.ensures
