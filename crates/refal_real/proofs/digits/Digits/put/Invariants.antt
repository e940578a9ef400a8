-- The digits before digit i stand in front, the other bytes are as they came; then those behind the point likewise.
use Rattle.std.proofs.Common.{◌≡◌, ◌+◌, ◌++◌, take, drop}
use Rattle.refal_real.proofs.digits.Digits.put.Given as goal

abbrev pub invariant-loop-i : goal.invariant-loop-i
invariant-loop-i l = l.out ≡ take l.i l.self.whole.now ++ drop l.i l.fn.out

abbrev pub invariant-loop-k : goal.invariant-loop-k
invariant-loop-k l = l.out ≡ (l.self.whole.now ++ take l.k l.self.fraction.now) ++ drop (l.point + l.k) l.fn.out
