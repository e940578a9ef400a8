-- `refal_lexer::start::Start::comment` meets its contract: the run's test.
use Rattle.refal_lexer.specs.Classes.{not_newline}
use Rattle.refal_lexer.proofs.start.Start.comment.Given as goal

abbrev pub ghost-run_end : goal.ghost-run_end
ghost-run_end a = not_newline
