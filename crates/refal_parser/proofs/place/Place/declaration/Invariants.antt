-- `refal_parser::place::Place::declaration` meets its contract: names parted by commas, then `;`.
use Rattle.std.proofs.Common.{◌≡◌, ◌-◌, length}
use Rattle.refal_parser.specs.PostItems.{NamesInv}
use Rattle.refal_parser.proofs.place.Place.declaration.Given as goal

abbrev pub invariant-loop-place : goal.invariant-loop-place
invariant-loop-place l = (l.place.tokens.now ≡ l.self.tokens.now) × NamesInv l.self.tokens.now l.initial.rows l.rows l.self.at l.self.row l.place.at l.place.row

abbrev pub decreases-loop-place : goal.decreases-loop-place
decreases-loop-place l = length l.self.tokens.now - l.place.at
