-- `refal_index::Names::enter` meets its contract.
use Rattle.std.proofs.Common.{arith}
use Rattle.refal_index.specs.View.{indexes_next}
use Rattle.refal_index.proofs.Names.enter.Goals.{in-Some, in_default}
use Rattle.refal_index.proofs.Names.enter.Goals as goal

pub invariant_of-self : goal.invariant_of-self
invariant_of-self c = elim c.match-self.branch [
  | in-Some w ↦
      let s = c.args.self.now in
      let h = rw w.in-Some.is at s.indexed in
      let e = w.enter.ensures in
      rw w.self-is (record {
        within = omega arith;
        indexed = indexes_next w.in-Some.index w.enter.new.self s.files s.entered h c.requires e.shape.0 e.shape.1 e.entered;
      })
  | in_default w ↦ rw (w.self-is, w.in_default.is) (record { within = omega arith; indexed = tt })
]
