-- `refal_real::digits::Digits::trim_start` meets its contract.
use Rattle.std.proofs.Common.{rules}
use Rattle.refal_real.specs.Kept.{lead_some, lead_both}
use Rattle.refal_real.proofs.digits.Digits.trim_start.Goals as goal

pub returns-then-is_empty : goal.returns-then-is_empty
returns-then-is_empty c = search (rules, lead_both)

pub returns : goal.returns
returns c = search (rules, lead_some)
