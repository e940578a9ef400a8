-- `refal_lexer::class::Class::of` meets its contract: the table's rule, computed at each byte.
use Rattle.std.proofs.Common.{ℕ, ◌<◌, ◌≡◌, eqb, eqb→eq, get_or, ap, ◌∙◌}
use Rattle.refal_rows.specs.Tests.{each_below}
use Rattle.refal_lexer.specs.Classes.{class_of, single_kind}
use Rattle.refal_lexer.specs.Told.{class_code, single_code}
use Rattle.refal_lexer.specs.declared.class.TheConstants.{CLASSES}
use Rattle.refal_lexer.specs.declared.class.Class.TheVariants.{White}
use Rattle.refal_lexer.proofs.class.Class.of.Goals as goal

class_rule : (b : ℕ) → b < 256 → class_code (get_or CLASSES b White) ≡ class_of b
class_rule b h = eqb→eq _ _ (each_below (λ (k : ℕ). eqb (class_code (get_or CLASSES k White)) (class_of k)) 256 tt b h)

single_rule : (b : ℕ) → b < 256 → single_code (get_or CLASSES b White) ≡ single_kind b
single_rule b h = eqb→eq _ _ (each_below (λ (k : ℕ). eqb (single_code (get_or CLASSES k White)) (single_kind k)) 256 tt b h)

pub returns-clause-class : goal.returns-clause-class
returns-clause-class c = ap (λ (i : ℕ). class_code (get_or CLASSES i White)) c.from.ensures ∙ class_rule _ c.ranges.b.fits

pub returns-clause-single : goal.returns-clause-single
returns-clause-single c = ap (λ (i : ℕ). single_code (get_or CLASSES i White)) c.from.ensures ∙ single_rule _ c.ranges.b.fits
