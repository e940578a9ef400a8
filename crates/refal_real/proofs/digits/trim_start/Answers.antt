-- `refal_real::digits::trim_start` meets its contract.
use Rattle.std.proofs.Common.{rules}
use Rattle.refal_real.specs.Kept.{lead_zero, lead_digit, lead_none}
use Rattle.refal_real.proofs.digits.trim_start.Goals as goal

pub loop-digits-preserved : goal.loop-digits-preserved
loop-digits-preserved c = search (rules, lead_zero)

pub returns-in_default : goal.returns-in_default
returns-in_default c = search (rules, lead_none)

pub returns-in_default-2 : goal.returns-in_default-2
returns-in_default-2 c = search (rules, lead_digit)
