-- `refal_real::digits::trim_start` meets its contract.
use Rattle.std.proofs.Common.{◌≡◌, length}
use Rattle.refal_real.specs.Form.{less}
use Rattle.refal_real.proofs.digits.trim_start.Given as goal

abbrev pub invariant-loop-digits : goal.invariant-loop-digits
invariant-loop-digits l = less l.digits ≡ less l.fn.digits

abbrev pub decreases-loop-digits : goal.decreases-loop-digits
decreases-loop-digits l = length l.digits
