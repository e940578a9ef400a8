-- `refal_lexer::runs::name_end` meets its contract: the run's test.
use Rattle.refal_lexer.specs.Classes.{name_byte}
use Rattle.refal_lexer.proofs.runs.name_end.Given as goal

abbrev pub ghost-run_end : goal.ghost-run_end
ghost-run_end a = name_byte
