-- `refal_link::resolve` meets its contract.
use Rattle.std.proofs.Common.{arith, ◌∙◌}
use Rattle.std.proofs.lemmas.Result.{err_from_is_err_and}
use Rattle.refal_link.specs.LinkLaws.{calls_hit, calls_next, calls_end}
use Rattle.refal_link.proofs.resolve.Goals as goal

pub returns-in_err-found : goal.returns-in_err-found
returns-in_err-found c =
    let p = err_from_is_err_and c.from_residual.result c.from_residual.ensures.1 in
    let f = c.args.names.now.files in
    let h = c.in_err-found.ensures.tells in
    rw (p.1, p.2) (h.1 ∙ calls_hit f.one.tree.now f.one.source.now f.two.tree.now f.two.source.now c.loop-g.g c.loop-g.found (omega arith) c.loop-g.invariant.1 h.0)

pub loop-g-preserved : goal.loop-g-preserved
loop-g-preserved c =
    let f = c.args.names.now.files in
    let h = c.in_ok-found.ensures in
    (omega arith, rw h.one.0 (calls_next f.one.tree.now f.one.source.now f.two.tree.now f.two.source.now c.loop-g.g c.loop-g.found (omega arith) c.loop-g.invariant.1 h.tells))

pub returns : goal.returns
returns c =
    let f = c.args.names.now.files in
    calls_end f.one.tree.now f.one.source.now f.two.tree.now f.two.source.now c.loop-g.g c.loop-g.found (omega arith) c.loop-g.invariant.1
