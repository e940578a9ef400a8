-- `refal_bound::patterns::Tree::terms_above`: the way from row `at` on leads where the way from row i does; rows fall.
use Rattle.std.proofs.Common.{◌≡◌}
use Rattle.refal_bound.specs.Climb.{terms_above}
use Rattle.refal_bound.proofs.patterns.Tree.terms_above.Given as goal

abbrev pub invariant-loop-parent : goal.invariant-loop-parent
invariant-loop-parent l = terms_above l.self.tree.now l.i ≡ terms_above l.self.tree.now l.at

abbrev pub decreases-loop-parent : goal.decreases-loop-parent
decreases-loop-parent l = l.at
