-- `refal_bound::plain::Variable::is_bound`: what is left of the bucket's rows decides.
use Rattle.refal_index.specs.Chain.{Walk}
use Rattle.refal_bound.specs.Scan.{bucket, serves}
use Rattle.refal_bound.proofs.plain.Variable.is_bound.Given as goal

abbrev pub invariant-loop-g : goal.invariant-loop-g
invariant-loop-g l = Walk l.bindings.words.now l.bindings.rows l.bindings.buckets (bucket l.self.of.tree.now l.self.of.source.now l.bindings.buckets) (serves l.self.of.tree.now l.self.of.source.now l.self.row) l.next

abbrev pub decreases-loop-g : goal.decreases-loop-g
decreases-loop-g l = l.next
