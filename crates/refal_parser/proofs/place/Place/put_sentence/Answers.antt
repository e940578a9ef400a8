-- `refal_parser::place::Place::put_sentence` meets its contract: the row of a sentence, by whether a `}` stands where its `;` may.
use Rattle.std.proofs.Common.{refl, sym, ◌∙◌}
use Rattle.refal_ast.specs.declared.kinds.TokenKind.TheVariants as kind
use Rattle.refal_parser.proofs.TokenLaws.{not_kind, other_kind}
use Rattle.refal_parser.proofs.Steps.{other}
use Rattle.refal_parser.proofs.place.Place.put_sentence.Goals as goal

pub next-end-requires : goal.next-end-requires
next-end-requires c =
    let k₁₆ = c.requires.1 (not_kind {l = kind.RBrace} c.kind.ensures (other_kind (sym c.if-left_off.false ∙ c.eq-left_off.ensures))) in
    other _ _ _ k₁₆ refl
