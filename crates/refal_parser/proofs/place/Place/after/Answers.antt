-- `refal_parser::place::Place::after` meets its contract: the token after, or Eof itself.
use Rattle.std.proofs.Common.{sym, ◌∙◌}
use Rattle.refal_parser.proofs.TokenLaws.{from_next, to_next, from_eof, to_eof, is_kind, not_kind}
use Rattle.refal_parser.proofs.place.Place.after.Goals as goal

pub next-requires : goal.next-requires
next-requires c = not_kind c.token-present.ensures.kind c.in_default.not-Eof

pub returns-in-Eof-clause-from : goal.returns-in-Eof-clause-from
returns-in-Eof-clause-from c = let t = c.token-present.ensures in t.from ∙ sym (from_eof _ _ c.args.self.ready (is_kind t.kind c.in-Eof.is))

pub returns-in-Eof-clause-to : goal.returns-in-Eof-clause-to
returns-in-Eof-clause-to c = let t = c.token-present.ensures in t.to ∙ sym (to_eof _ _ c.args.self.ready (is_kind t.kind c.in-Eof.is))

pub returns-in_default : goal.returns-in_default
returns-in_default c =
    let N = c.next.ensures in
    let t = rw N.1 at c.token.ensures in
    record { from = t.from ∙ sym (from_next _ _ N.0); to = t.to ∙ sym (to_next _ _ N.0) }
