-- `refal_real::digits::trim_end` meets its contract.
use Rattle.std.proofs.Common.{rules}
use Rattle.refal_real.specs.Kept.{trail_zero, trail_digit, trail_none}
use Rattle.refal_real.proofs.digits.trim_end.Goals as goal

pub loop-digits-preserved : goal.loop-digits-preserved
loop-digits-preserved c = search (rules, trail_zero)

pub returns-in_default : goal.returns-in_default
returns-in_default c = search (rules, trail_none)

pub returns-in_default-2 : goal.returns-in_default-2
returns-in_default-2 c = search (rules, trail_digit)
