-- `refal_writer::bytes::Tuple2Put::put` meets its contract.
use Rattle.std.proofs.Common.{arith}
use Rattle.refal_writer.specs.Puts.{puts_two}
use Rattle.refal_writer.proofs.bytes.Tuple2Put.put.Goals as goal

pub returns : goal.returns
returns g c =
    let p = c.args.self in
    (puts_two (g.A.Put.bytes p.0) (g.B.Put.bytes p.1) c.args.out.now c.put-n.new.out c.put.new.out c.put-n.result c.min-middle.result c.put.result c.put-n.ensures.0 c.min-middle.ensures c.put.ensures.0, omega (arith, c.put-n.ensures.1, c.put.ensures.1))
