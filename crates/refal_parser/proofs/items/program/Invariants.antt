-- `refal_parser::items::program` meets its contract: items up to Eof.
use Rattle.std.proofs.Common.{◌≡◌, ◌-◌, length}
use Rattle.refal_parser.specs.PostItems.{ProgramInv}
use Rattle.refal_parser.proofs.items.program.Given as goal

abbrev pub invariant-loop-place : goal.invariant-loop-place
invariant-loop-place l = (l.place.tokens.now ≡ l.tokens) × ProgramInv l.tokens l.initial.rows l.rows l.place.at l.place.row

abbrev pub decreases-loop-place : goal.decreases-loop-place
decreases-loop-place l = length l.tokens - l.place.at
