-- `refal_real::exponent::number` meets its contract.
use Rattle.refal_real.specs.Loops.{Makes}
use Rattle.refal_real.proofs.exponent.number.Given as goal

abbrev pub invariant-loop-digit : goal.invariant-loop-digit
invariant-loop-digit l = Makes l.digits l.digit-index l.value
