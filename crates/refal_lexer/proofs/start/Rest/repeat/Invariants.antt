-- `refal_lexer::start::Rest::repeat` meets its contract.
use Rattle.std.proofs.Common.{◌+◌, ◌-◌, ◌≤◌, length}
use Rattle.refal_lexer.specs.BlankLaws.{Turn}
use Rattle.refal_lexer.proofs.start.Rest.repeat.Given as goal

abbrev pub invariant-loop-start : goal.invariant-loop-start
invariant-loop-start l = (l.self.at ≤ l.place.at) × Turn l.self.src.now l.self.at l.fn.line (l.place.at - l.self.at) l.place.line

abbrev pub decreases-loop-start : goal.decreases-loop-start
decreases-loop-start l = l.self.at + length l.self.src.now - l.place.at
