-- `refal_parser::place::Place::next` meets its contract: behind a token that is not Eof stands a token.
use Rattle.std.proofs.Common.{refl}
use Rattle.refal_parser.proofs.TokenLaws.{ready_next}
use Rattle.refal_parser.proofs.place.Place.next.Goals as goal

pub invariant_of-result : goal.invariant_of-result
invariant_of-result c = record { ready = ready_next _ _ c.args.self.ready c.requires }

pub returns : goal.returns
returns c = (_, refl)
