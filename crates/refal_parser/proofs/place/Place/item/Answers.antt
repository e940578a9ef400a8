-- `refal_parser::place::Place::item` meets its contract: a declaration or a function, or 32.
use Rattle.std.proofs.Common.{refl, ◌∙◌, ◌+◌, arith, get_or, true, false}
use Rattle.refal_ast.specs.Tree.{function as itemFunction}
use Rattle.refal_parser.proofs.TokenLaws.{is_kind, not_kind}
use Rattle.refal_parser.proofs.Steps.{is_no, turned, other, items_name, items_entry, items_none, entry_name, entry_none}
use Rattle.refal_parser.proofs.place.Place.item.Goals as goal

pub next-name-requires : goal.next-name-requires
next-name-requires c = other _ _ _ (is_kind c.token-first.ensures.kind c.in-Entry.is) refl

pub function-requires-in-Identifier-kind : goal.function-requires-in-Identifier-kind
function-requires-in-Identifier-kind c = let h = c.requires.0 in (rw c.next-name.ensures.1 (omega arith), is_kind c.kind.ensures c.in-Identifier-kind.is)

pub returns-in-Identifier : goal.returns-in-Identifier
returns-in-Identifier c = let w = c.args.self.tokens.now in
    let at₀ = c.args.self.at in
    let R = c.args.self.ready in
    let T = c.token-first.ensures in
    let k₃ = is_kind T.kind c.in-Identifier.is in
    turned (rw T.from at c.function.ensures)
    (λ j m F. record {
      x = itemFunction (get_or w (at₀ + 4) 0) false (get_or w (at₀ + 2) 0) (get_or w (at₀ + 3) 0) F.v F.e;
      on = F.on;
      few = F.few;
      rows = let h = F.rows in let k = F.count in cc;
      count = let k = F.count in omega arith;
      means = λ p. items_name _ _ R k₃ p ∙ F.means false p;
    })
    (λ a b k d e no p. items_name _ _ R k₃ p ∙ no false p)

pub returns-in-Identifier-kind : goal.returns-in-Identifier-kind
returns-in-Identifier-kind c = let w = c.args.self.tokens.now in
    let at₀ = c.args.self.at in
    let R = c.args.self.ready in
    let T = c.token-first.ensures in
    let N = c.next-name.ensures in
    let k₁ = is_kind T.kind c.in-Entry.is in
    let k₃ = is_kind (rw N.1 at c.kind.ensures) c.in-Identifier-kind.is in
    turned (rw (T.from, N.1) at c.function-in-Identifier-kind.ensures)
    (λ j m F. record {
      x = itemFunction (get_or w (at₀ + 4) 0) true (get_or w (at₀ + 6 + 2) 0) (get_or w (at₀ + 6 + 3) 0) F.v F.e;
      on = let q = F.on in omega arith;
      few = F.few;
      rows = let h = F.rows in let k = F.count in cc;
      count = let k = F.count in omega arith;
      means = λ p. items_entry _ _ R k₁ p ∙ entry_name _ _ N.0 (get_or w (at₀ + 4) 0) k₃ p ∙ F.means true p;
    })
    (λ a b k d e no p. items_entry _ _ R k₁ p ∙ entry_name _ _ N.0 (get_or w (at₀ + 4) 0) k₃ p ∙ no true p)

pub returns-in_default-kind : goal.returns-in_default-kind
returns-in_default-kind c = let N = c.next-name.ensures in
    let k₁ = is_kind c.token-first.ensures.kind c.in-Entry.is in
    is_no (rw N.1 at c.taken.ensures) (λ p. items_entry _ _ c.args.self.ready k₁ p ∙ entry_none _ _ N.0 _ (not_kind (rw N.1 at c.kind.ensures) c.in_default-kind.not-Identifier) p)

pub returns-in_default : goal.returns-in_default
returns-in_default c = let K = c.token-first.ensures.kind in
    is_no c.taken-in_default.ensures (items_none _ _ c.args.self.ready c.requires.1 c.requires.2 (not_kind K c.in_default.not-Extern) (not_kind K c.in_default.not-Entry) (not_kind K c.in_default.not-Identifier))
