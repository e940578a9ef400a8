-- `refal_writer::bytes::WordPut::put` meets its contract.
use Rattle.std.proofs.Common.{arith, ◌≡◌, refl, take, ◌∙◌}
use Rattle.refal_writer.specs.Puts.{front_put}
use Rattle.refal_writer.proofs.bytes.WordPut.put.Goals as goal

pub returns : goal.returns
returns c =
    let t = c.args.self.text.now in
    let n : c.loop-i.i ≡ c.min-n.result = omega arith in
    (rw c.loop-i.invariant (front_put t c.args.out.now (take c.loop-i.i t) c.loop-i.i (n ∙ c.min-n.ensures) refl), omega arith)
