-- `refal_real::digits::trim_end` meets its contract.
use Rattle.std.proofs.Common.{◌≡◌, length}
use Rattle.refal_real.specs.Form.{trim}
use Rattle.refal_real.proofs.digits.trim_end.Given as goal

abbrev pub invariant-loop-digits : goal.invariant-loop-digits
invariant-loop-digits l = trim l.digits ≡ trim l.fn.digits

abbrev pub decreases-loop-digits : goal.decreases-loop-digits
decreases-loop-digits l = length l.digits
