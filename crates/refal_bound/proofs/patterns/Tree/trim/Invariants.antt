-- `refal_bound::patterns::Tree::trim`: what is in force is kept, and the bucket's first row falls.
use Rattle.std.proofs.Common.{◌≡◌, ◌+◌, get_or}
use Rattle.refal_bound.specs.Scan.{Keeps}
use Rattle.refal_bound.proofs.patterns.Tree.trim.Given as goal

abbrev pub invariant-loop-g : goal.invariant-loop-g
invariant-loop-g l =
    (l.bindings.rows ≡ l.fn.bindings.rows)
    × (l.bindings.buckets ≡ l.fn.bindings.buckets)
    × (l.next ≡ get_or l.bindings.words.now (l.bindings.rows + l.h) 0)
    × Keeps l.self.tree.now l.self.source.now l.bindings.words.now l.bindings.rows l.bindings.buckets l.u

abbrev pub decreases-loop-g : goal.decreases-loop-g
decreases-loop-g l = l.next
