-- `refal_tree::check`: the rows from .. to get fewer at each call, and those that are left at each turn; what is left decides.
use Rattle.std.proofs.Common.{◌-◌, ◌≡◌, ◌≤◌}
use Rattle.refal_tree.specs.StateCodes.{state_code}
use Rattle.refal_tree.specs.Ranges.{ok_at}
use Rattle.refal_tree.proofs.+check.Given as goal

abbrev pub decreases-check : goal.decreases-check
decreases-check l = l.to - l.from

abbrev pub invariant-loop-i : goal.invariant-loop-i
invariant-loop-i l = (l.from ≤ l.i) × (l.i ≤ l.to) × (ok_at l.tree l.from l.to (state_code l.fn.start) l.left l.parent ≡ ok_at l.tree l.i l.to (state_code l.state) l.left l.parent)

abbrev pub decreases-loop-i : goal.decreases-loop-i
decreases-loop-i l = l.to - l.i
