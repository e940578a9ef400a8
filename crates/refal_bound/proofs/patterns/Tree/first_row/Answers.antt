-- `refal_bound::patterns::Tree::first_row` meets its contract: a lawful tree's rows are few.
use Rattle.std.proofs.Common.{arith}
use Rattle.refal_bound.specs.Scan.{keeps_start, lawful_few}
use Rattle.refal_bound.proofs.patterns.Tree.first_row.Goals as goal

pub new-bindings-requires : goal.new-bindings-requires
new-bindings-requires c = let l = lawful_few c.args.self.tree.now c.args.self.is_lawful in (omega arith, omega arith, omega arith, omega arith)

pub scan-requires-clause-keeps : goal.scan-requires-clause-keeps
scan-requires-clause-keeps c =
    let i = c.new-bindings.result in
    keeps_start c.args.self.tree.now c.args.self.source.now i.words.now i.rows i.buckets i.sized.1 (λ R. rw (c.new-bindings.ensures.shape.0, c.new-bindings.ensures.shape.1) (c.new-bindings.ensures.holds R))
