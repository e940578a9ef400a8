-- `refal_writer::walk::write_rows` meets its contract.
use Rattle.std.proofs.Common.{◌+◌, ◌*◌, ◌-◌, ◌≤◌, ◌≡◌, length}
use Rattle.refal_tree.specs.StateCodes.{state_code}
use Rattle.refal_tree.specs.Walk.{flat_at}
use Rattle.refal_writer.specs.Puts.{Pours}
use Rattle.refal_writer.specs.Token.{text_of}
use Rattle.refal_writer.specs.Walk.{Walks, widest}
use Rattle.refal_writer.proofs.walk.+write_rows.Given as goal

abbrev pub decreases-write_rows : goal.decreases-write_rows
decreases-write_rows l = l.to - l.from

abbrev pub invariant-loop-i : goal.invariant-loop-i
invariant-loop-i l = (l.from ≤ l.i) × (l.i ≤ l.to) × (length l.out ≡ length l.initial.out) × (l.at + l.from * widest ≤ l.i * widest) × Walks l.tree l.i l.to (state_code l.state) × Pours (text_of l.src (flat_at l.tree l.from l.to (state_code l.fn.start))) (text_of l.src (flat_at l.tree l.i l.to (state_code l.state))) l.at l.out l.initial.out

abbrev pub decreases-loop-i : goal.decreases-loop-i
decreases-loop-i l = l.to - l.i
