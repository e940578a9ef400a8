-- `refal_link::answer` meets its contract.
use Rattle.std.proofs.Common.{arith, ap, ◌∙◌}
use Rattle.std.proofs.lemmas.Result.{err_from_is_err_and}
use Rattle.refal_ast.specs.Answers.{Done}
use Rattle.refal_link.specs.Link.{linked}
use Rattle.refal_bound.specs.Scan.{lawful_few}
use Rattle.refal_link.specs.View.{rows, checked_file, bound_file, after_bound, answer_is, checked_both}
use Rattle.refal_link.proofs.answer.Goals as goal

pub returns-in_err-check : goal.returns-in_err-check
returns-in_err-check c =
    let p = err_from_is_err_and c.from_residual.result c.from_residual.ensures.1 in
    let f = c.args.files.now in
    rw (p.1, p.2) (c.in_err-check.ensures.answer (checked_file f.two (after_bound f (linked (rows f)))) ∙ answer_is f)

pub returns-in_err-check-2 : goal.returns-in_err-check-2
returns-in_err-check-2 c =
    let p = err_from_is_err_and c.from_residual-in_err-check-2.result c.from_residual-in_err-check-2.ensures.1 in
    let f = c.args.files.now in
    let rest = after_bound f (linked (rows f)) in
    rw (p.1, p.2) (c.in_err-check-2.ensures.answer rest ∙ c.in_ok-check.ensures.answer (checked_file f.two rest) ∙ answer_is f)

pub link_rows-requires : goal.link_rows-requires
link_rows-requires c =
    let f = c.args.files.now in
    let x = lawful_few f.one.tree.now c.in_ok-check.ensures.is_tree in
    let y = lawful_few f.two.tree.now c.in_ok-check-2.ensures.is_tree in
    omega arith

pub returns-in_err-calls : goal.returns-in_err-calls
returns-in_err-calls c =
    let p = err_from_is_err_and c.from_residual-in_err-calls.result c.from_residual-in_err-calls.ensures.1 in
    let f = c.args.files.now in
    rw (p.1, p.2) (ap (after_bound f) c.in_err-calls.ensures ∙ checked_both f c.in_ok-check.ensures.answer c.in_ok-check-2.ensures.answer)

pub bound-requires : goal.bound-requires
bound-requires c = c.in_ok-check.ensures.is_tree

pub returns-in_err-bound : goal.returns-in_err-bound
returns-in_err-bound c =
    let p = err_from_is_err_and c.from_residual-in_err-bound.result c.from_residual-in_err-bound.ensures.1 in
    let f = c.args.files.now in
    rw (p.1, p.2)
    (c.in_err-bound.ensures (bound_file 2 f.two (Done c.in_ok-calls.calls))
    ∙ ap (after_bound f) c.in_ok-calls.ensures
    ∙ checked_both f c.in_ok-check.ensures.answer c.in_ok-check-2.ensures.answer)

pub bound-requires-2 : goal.bound-requires-2
bound-requires-2 c = c.in_ok-check-2.ensures.is_tree

pub returns-in_err-bound-2 : goal.returns-in_err-bound-2
returns-in_err-bound-2 c =
    let p = err_from_is_err_and c.from_residual-in_err-bound-2.result c.from_residual-in_err-bound-2.ensures.1 in
    let f = c.args.files.now in
    rw (p.1, p.2)
    (c.in_err-bound-2.ensures (Done c.in_ok-calls.calls)
    ∙ c.in_ok-bound.ensures (bound_file 2 f.two (Done c.in_ok-calls.calls))
    ∙ ap (after_bound f) c.in_ok-calls.ensures
    ∙ checked_both f c.in_ok-check.ensures.answer c.in_ok-check-2.ensures.answer)

pub returns : goal.returns
returns c =
    let f = c.args.files.now in
    c.in_ok-bound-2.ensures (Done c.in_ok-calls.calls)
    ∙ c.in_ok-bound.ensures (bound_file 2 f.two (Done c.in_ok-calls.calls))
    ∙ ap (after_bound f) c.in_ok-calls.ensures
    ∙ checked_both f c.in_ok-check.ensures.answer c.in_ok-check-2.ensures.answer
