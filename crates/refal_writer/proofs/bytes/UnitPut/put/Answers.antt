-- `refal_writer::bytes::UnitPut::put` meets its contract.
use Rattle.std.proofs.Common.{arith}
use Rattle.refal_writer.specs.TextPuts.{empty_puts}
use Rattle.refal_writer.proofs.bytes.UnitPut.put.Goals as goal

pub returns : goal.returns
returns c = (empty_puts _, omega arith)
