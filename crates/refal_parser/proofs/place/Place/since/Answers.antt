-- `refal_parser::place::Place::since` meets its contract: the span's end of the token before, and the place's row.
use Rattle.std.proofs.Common.{refl}
use Rattle.refal_parser.proofs.place.Place.since.Goals as goal

pub returns : goal.returns
returns c = (_, refl)
