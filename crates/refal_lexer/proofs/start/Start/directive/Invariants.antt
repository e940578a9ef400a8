-- `refal_lexer::start::Start::directive` meets its contract: the run's test.
use Rattle.refal_lexer.specs.Classes.{letter}
use Rattle.refal_lexer.proofs.start.Start.directive.Given as goal

abbrev pub ghost-run_end : goal.ghost-run_end
ghost-run_end a = letter
