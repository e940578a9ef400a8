-- `refal_lexer::class::is_name` meets its contract: the classes from 20 on.
use Rattle.std.proofs.Common.{ap, ◌∙◌, leb}
use Rattle.refal_lexer.specs.ClassLaws.{name_class}
use Rattle.refal_lexer.proofs.class.is_name.Goals as goal

pub returns : goal.returns
returns c = c.is_name.ensures ∙ ap (leb 20) c.of.ensures.class ∙ name_class _ c.ranges.b.fits
