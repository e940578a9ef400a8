-- `refal_lexer::number::digits` meets its contract: a digit a turn.
use Rattle.std.proofs.Common.{◌+◌, ◌-◌, ◌≤◌, ◌≡◌, length, drop}
use Rattle.refal_text.specs.Span.{span}
use Rattle.refal_lexer.specs.Classes.{digit}
use Rattle.refal_lexer.specs.NumberLaws.{worth}
use Rattle.refal_lexer.proofs.number.digits.Given as goal

abbrev pub invariant-loop-end : goal.invariant-loop-end
invariant-loop-end l = (l.end ≤ length l.src) × (l.end + span digit (drop l.end l.src) ≡ l.at + span digit (drop l.at l.src)) × (worth l.worth (drop l.end l.src) ≡ worth 0 (drop l.at l.src))

abbrev pub decreases-loop-end : goal.decreases-loop-end
decreases-loop-end l = length l.src - l.end
