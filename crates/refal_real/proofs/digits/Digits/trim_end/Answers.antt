-- `refal_real::digits::Digits::trim_end` meets its contract.
use Rattle.std.proofs.Common.{rules}
use Rattle.refal_real.specs.Kept.{trail_some, trail_both}
use Rattle.refal_real.proofs.digits.Digits.trim_end.Goals as goal

pub returns-then-is_empty : goal.returns-then-is_empty
returns-then-is_empty c = search (rules, trail_both)

pub returns : goal.returns
returns c = search (rules, trail_some)
