-- `refal_index::index::Index::new` meets its contract.
use Rattle.std.proofs.Common.{arith, ◌+◌, ◌-◌}
use Rattle.refal_index.specs.Named.{holds_cleared}
use Rattle.refal_index.proofs.index.Index.new.Goals as goal

pub returns-clause-holds : goal.returns-clause-holds
returns-clause-holds c = λ R. let a = c.args in
    holds_cleared a.words.now _ a.rows a.buckets a.rows (a.rows + a.buckets - a.rows) R (omega arith) (omega arith) (omega arith) (c.fill.ensures.after (λ y e. e))
