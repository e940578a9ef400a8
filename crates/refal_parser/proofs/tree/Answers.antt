-- `refal_parser::tree` meets its contract: 30 first, then the first refusal met, last 38.
use Rattle.std.proofs.Common.{sym, ap, ◌∙◌, arith}
use Rattle.std.proofs.lemmas.Result.{err_from_is_err_and}
use Rattle.refal_ast.specs.Told.{told}
use Rattle.refal_ast.specs.Answers.{Refused}
use Rattle.refal_parser.proofs.Steps.{got, not_got}
use Rattle.refal_parser.proofs.CheckLaws.{well_ready}
use Rattle.refal_parser.proofs.Final.{parsed_bad, parsed_good, answered, done, full}
use Rattle.refal_parser.proofs.tree.Goals as goal

pub returns-then-not-check-clause-answer : goal.returns-then-not-check-clause-answer
returns-then-not-check-clause-answer c = ap Refused c.from.ensures ∙ answered _ _ (parsed_bad _ (sym c.check.ensures ∙ c.if-not-check.true))

pub program-requires : goal.program-requires
program-requires c = well_ready _ (sym c.check.ensures ∙ c.if-not-check.false)

pub returns-in_err-nodes-clause-answer : goal.returns-in_err-nodes-clause-answer
returns-in_err-nodes-clause-answer c = let p = err_from_is_err_and _ c.from_residual.ensures.1 in
    ap told p.1 ∙ ap Refused p.2 ∙ answered _ _ (parsed_good _ (sym c.check.ensures ∙ c.if-not-check.false) ∙ not_got c.in_err-nodes.ensures)

pub overflow_mul-words : goal.overflow_mul-words
overflow_mul-words c = let p = got c.in_ok-nodes.ensures in let v = p.few in omega arith

pub returns-then-words-rows-clause-answer : goal.returns-then-words-rows-clause-answer
returns-then-words-rows-clause-answer c = let p = got c.in_ok-nodes.ensures in
    (done _ _ _ p.t _ (parsed_good _ (sym c.check.ensures ∙ c.if-not-check.false) ∙ p.means) p.count c.if-words-rows.true c.program.auto.rows p.rows).0

pub returns-then-words-rows-clause-left : goal.returns-then-words-rows-clause-left
returns-then-words-rows-clause-left c = let p = got c.in_ok-nodes.ensures in
    (done _ _ _ p.t _ (parsed_good _ (sym c.check.ensures ∙ c.if-not-check.false) ∙ p.means) p.count c.if-words-rows.true c.program.auto.rows p.rows).1

pub returns-else-words-rows-clause-answer : goal.returns-else-words-rows-clause-answer
returns-else-words-rows-clause-answer c = let p = got c.in_ok-nodes.ensures in
    ap Refused c.needing.ensures ∙ full _ _ p.t _ (parsed_good _ (sym c.check.ensures ∙ c.if-not-check.false) ∙ p.means) p.count (let l = c.if-words-rows.false in let k = c.program.auto.rows in omega arith)
