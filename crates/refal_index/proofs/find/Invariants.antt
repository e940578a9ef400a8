-- `refal_index::find` meets its contract.
use Rattle.refal_files.specs.View.{row_of}
use Rattle.refal_index.specs.Chain.{Walk}
use Rattle.refal_index.specs.Named.{row_bucket, answers_to}
use Rattle.refal_index.specs.View.{only_functions}
use Rattle.refal_index.proofs.find.Given as goal

abbrev pub invariant-loop-g : goal.invariant-loop-g
invariant-loop-g l = Walk l.words l.rows l.buckets (row_bucket (row_of l.files) l.buckets) (λ i. answers_to (only_functions l.bearers) l.name (row_of l.files i)) l.next

abbrev pub decreases-loop-g : goal.decreases-loop-g
decreases-loop-g l = l.next
