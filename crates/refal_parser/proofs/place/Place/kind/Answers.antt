-- `refal_parser::place::Place::kind` meets its contract: a token that is ready is of a known kind.
use Rattle.refal_parser.proofs.TokenLaws.{known}
use Rattle.refal_parser.proofs.place.Place.kind.Goals as goal

pub unwrap-requires : goal.unwrap-requires
unwrap-requires c = known _ _ c.args.self.ready _ c.try_from.ensures
