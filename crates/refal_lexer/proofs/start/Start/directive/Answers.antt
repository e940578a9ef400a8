-- `refal_lexer::start::Start::directive` meets its contract.
use Rattle.std.proofs.Common.{refl, ap, ◌∙◌}
use Rattle.refal_lexer.specs.Told.{of_token}
use Rattle.refal_lexer.specs.WordLaws.{directive_some, directive_none}
use Rattle.refal_lexer.proofs.start.Start.directive.Goals as goal

pub returns-in_default : goal.returns-in_default
returns-in_default c = let r = c.run_end-len.ensures in c.over.ensures ∙ directive_none _ _ _ _ r.run r.within c.in_default.ensures.told refl

pub returns : goal.returns
returns c = let r = c.run_end-len.ensures in let k = c.in-Some.ensures in ap of_token c.bare.ensures ∙ directive_some _ _ _ _ r.run r.within k.told k.some
