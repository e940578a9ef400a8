-- `refal_real::normal_form` meets its contract.
use Rattle.std.proofs.Common.{length}
use Rattle.refal_real.specs.Real.{outcome}
use Rattle.refal_real.specs.AnswerLaws.{refused_words}
use Rattle.refal_real.proofs.normal_form.Goals as goal

pub returns-in-Err-clause-formed : goal.returns-in-Err-clause-formed
returns-in-Err-clause-formed c = refused_words (outcome c.args.text.now) (length c.args.digits.now) _ c.in-Err.ensures
