-- `refal_parser::place::Place::name` meets its contract: an identifier, or 31.
use Rattle.std.proofs.Common.{refl, arith}
use Rattle.refal_parser.proofs.TokenLaws.{is_kind, not_kind}
use Rattle.refal_parser.proofs.Steps.{is_at, is_no, put_as, other, first_name, more_name, first_none, more_none}
use Rattle.refal_parser.proofs.place.Place.name.Goals as goal

pub returns-in_default : goal.returns-in_default
returns-in_default c = let R = c.args.self.ready in
    let n = not_kind c.token-name.ensures.kind c.in_default.not-Identifier in
    is_no c.taken.ensures (record { first = λ a. first_none _ _ R a n; more = λ a ns. more_none _ _ R a ns n })

pub next-end-requires : goal.next-end-requires
next-end-requires c = other _ _ _ (is_kind c.token-name.ensures.kind c.in-Identifier.is) refl

pub invariant_of-spanless : goal.invariant_of-spanless
invariant_of-spanless c = let R = c.args.self.ready in let h = c.requires in rw c.next-end.ensures.1 (record { few = omega arith })

pub returns : goal.returns
returns c = let R = c.args.self.ready in
    let T = c.token-name.ensures in
    let k₃ = is_kind T.kind c.in-Identifier.is in
    let N = c.next-end.ensures in
    rw N.1 (is_at refl refl (record {
      next = refl;
      count = refl;
      rows = let p = put_as _ _ _ c.put.ensures (rw N.1 at c.named.ensures) in let s = T.start in let l = T.len in cc;
      first = λ a. first_name _ _ R a k₃;
      more = λ a ns. more_name _ _ R a ns k₃;
    }))
