-- `refal_lexer::number::marked` meets its contract: the run's test.
use Rattle.refal_lexer.specs.Classes.{digit}
use Rattle.refal_lexer.proofs.number.marked.Given as goal

abbrev pub ghost-run_end : goal.ghost-run_end
ghost-run_end a = digit
