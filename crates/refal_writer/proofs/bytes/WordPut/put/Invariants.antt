-- The bytes before byte i are the text's, the others are as they came.
use Rattle.std.proofs.Common.{◌≡◌, ◌++◌, take, drop}
use Rattle.refal_writer.proofs.bytes.WordPut.put.Given as goal

abbrev pub invariant-loop-i : goal.invariant-loop-i
invariant-loop-i l = l.out ≡ take l.i l.self.text.now ++ drop l.i l.fn.out
