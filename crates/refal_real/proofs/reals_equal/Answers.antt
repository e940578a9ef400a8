-- `refal_real::reals_equal` meets its contract.
use Rattle.std.proofs.Common.{arith, rules, ◌∙◌}
use Rattle.std.proofs.lemmas.Int.{ints, int_max_is}
use Rattle.refal_real.specs.AnswerLaws.{same_by}
use Rattle.refal_real.proofs.reals_equal.Goals as goal

pub returns : goal.returns
returns c = c.eq.ensures ∙ same_by _ _ c.in-Ok.f c.in-Ok-parse.g _ _ c.in-Ok.ensures c.in-Ok-parse.ensures (search rules) (omega (arith, ints, int_max_is))
