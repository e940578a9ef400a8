-- `refal_lexer::blank::white_len` meets its contract.
use Rattle.std.proofs.Common.{rules}
use Rattle.refal_lexer.specs.BlankLaws.{ascii_byte}
use Rattle.refal_lexer.proofs.blank.white_len.Goals as goal

pub returns-then-is_ascii : goal.returns-then-is_ascii
returns-then-is_ascii c = ascii_byte c.args.src.now c.requires (search rules) _ _ c.from.ensures c.is_blank.ensures
