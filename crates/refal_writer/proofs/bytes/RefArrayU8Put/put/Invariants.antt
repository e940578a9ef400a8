-- The bytes before byte i are the array's, the others are as they came.
use Rattle.std.proofs.Common.{◌≡◌, ◌++◌, length, min, take, drop}
use Rattle.refal_writer.proofs.bytes.RefArrayU8Put.put.Given as goal

abbrev pub invariant-loop-i : goal.invariant-loop-i
invariant-loop-i g l = l.out ≡ take l.i l.self ++ drop l.i l.fn.out

abbrev pub invariant-loop-i-else-out : goal.invariant-loop-i-else-out
invariant-loop-i-else-out g l = l.out ≡ take (min l.i (length l.fn.out)) l.self ++ drop (min l.i (length l.fn.out)) l.fn.out
