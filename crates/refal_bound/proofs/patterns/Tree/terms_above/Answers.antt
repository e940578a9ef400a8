-- `refal_bound::patterns::Tree::terms_above` meets its contract: a turn goes up by one row.
use Rattle.std.proofs.Common.{ap, sym, ◌∙◌}
use Rattle.refal_bound.specs.Climb.{terms_above, above_turn, above_top}
use Rattle.refal_bound.proofs.patterns.Tree.terms_above.Goals as goal

pub loop-parent-preserved : goal.loop-parent-preserved
loop-parent-preserved c =
    let w = c.args.self.tree.now in
    let e = c.in-Some.ensures in
    c.loop-parent.invariant ∙ above_turn w c.loop-parent.at e.0 ∙ ap (terms_above w) (sym e.1)

pub returns : goal.returns
returns c = sym (c.loop-parent.invariant ∙ above_top c.args.self.tree.now c.loop-parent.at c.in_default.ensures)
