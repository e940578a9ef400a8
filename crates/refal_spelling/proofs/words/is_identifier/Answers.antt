-- `refal_spelling::words::is_identifier` meets its contract.
use Rattle.std.proofs.Common.{◌∙◌}
use Rattle.refal_spelling.specs.WordLaws.{identifier_is}
use Rattle.refal_spelling.proofs.words.is_identifier.Goals as goal

pub returns-then-is_index : goal.returns-then-is_index
returns-then-is_index c = c.is_ascii_uppercase.ensures.value ∙ (rw (← c.if-is_index.ensures, ← c.byte.ensures) at (identifier_is c.args.word.now))

pub returns-else-is_index : goal.returns-else-is_index
returns-else-is_index c = c.if-is_index.false ∙ (rw (← c.if-is_index.ensures) at (identifier_is c.args.word.now))
