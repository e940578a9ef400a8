-- `refal_parser::place::Place::closes` meets its contract: the closing kind, Eof, or another.
use Rattle.std.proofs.Common.{refl, ap, arith}
use Rattle.refal_parser.specs.Got.{At}
use Rattle.refal_parser.specs.declared.place.Place.{Place}
use Rattle.refal_parser.proofs.TokenLaws.{end_before_lem, is_kind, same_kind}
use Rattle.refal_parser.proofs.Steps.{is_at, closes_here}
use Rattle.refal_parser.proofs.place.Place.closes.Goals as goal

pub next-requires : goal.next-requires
next-requires c = let k = is_kind c.kind-kind.ensures (same_kind c.if-eq.ensures) in
    λ e. let l = c.requires in let z : ⊥ = omega arith in z

pub returns-then-eq : goal.returns-then-eq
returns-then-eq c = let w = c.args.self.tokens.now in
    let at₀ = c.args.self.at in
    let k = is_kind c.kind-kind.ensures (same_kind c.if-eq.ensures) in
    let N = c.next.ensures in
    is_at (ap (λ (p : Place). At p.tokens.now p.at p.row) N.1) refl (record { next = refl; rows = refl; last = end_before_lem w at₀; means = λ st p. closes_here w at₀ _ st p k })
