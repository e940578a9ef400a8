-- `refal_parser::items::program` meets its contract: items up to Eof.
use Rattle.std.proofs.Common.{refl, sym, ◌∙◌, arith, zero-add}
use Rattle.refal_parser.proofs.TokenLaws.{is_kind}
use Rattle.refal_ast.specs.Tree.{p0, p_more, size_p}
use Rattle.refal_parser.specs.Writers.{w_p}
use Rattle.refal_parser.proofs.Rows.{more_items, size_items}
use Rattle.refal_parser.proofs.Steps.{got, stays, is_at, other, items_eof, items_pass}
use Rattle.refal_parser.proofs.items.program.Goals as goal

pub loop-place-init : goal.loop-place-init
unfolding size_p w_p
loop-place-init c = let S = c.start-place.ensures in
    (S.tokens, rw (S.begins.0, S.begins.1) (record { t = p0; few = omega arith; same = refl; rows = refl; count = refl; means = refl }))

pub returns-in-Eof : goal.returns-in-Eof
returns-in-Eof c = let I = c.loop-place.invariant in
    is_at refl I.0 (record {
      t = I.1.t;
      few = let R = c.loop-place.place.ready in let v = I.1.few in omega arith;
      rows = I.1.rows;
      count = I.1.count;
      means = I.1.means ∙ items_eof _ _ (rw I.0 at c.loop-place.place.ready) (is_kind (rw I.0 at c.kind.ensures) c.in-Eof.is) I.1.t;
    })

pub next-place-requires : goal.next-place-requires
next-place-requires c = other _ _ _ (is_kind c.kind.ensures c.in-Semicolon.is) refl

pub loop-place-preserved-in-Semicolon : goal.loop-place-preserved-in-Semicolon
loop-place-preserved-in-Semicolon c = let I = c.loop-place.invariant in
    let k₁₆ = is_kind (rw I.0 at c.kind.ensures) c.in-Semicolon.is in
    let N = c.next-place.ensures in
    rw N.1 (
      I.0,
      record {
        t = I.1.t;
        few = let v = I.1.few in omega arith;
        same = I.1.same;
        rows = I.1.rows;
        count = I.1.count;
        means = I.1.means ∙ items_pass _ _ (rw I.0 at c.loop-place.place.ready) k₁₆ I.1.t;
      },
    )

pub loop-place-smaller : goal.loop-place-smaller
loop-place-smaller c = let I = c.loop-place.invariant in
    let E = rw I.0 at c.in_ok-place-in_default.ensures in
    let X = got E in let R = rw (stays E) at c.in_ok-place-in_default.place.ready in let q = X.on in omega arith

pub loop-place-preserved : goal.loop-place-preserved
loop-place-preserved c = let I = c.loop-place.invariant in
    let E = rw I.0 at c.in_ok-place-in_default.ensures in
    let X = got E in (
      stays E,
      record {
        t = p_more I.1.t X.x;
        few = X.few;
        same = c.item.auto.rows ∙ I.1.same;
        rows = more_items 0 _ I.1.t X.x (I.1.count ∙ sym (zero-add (size_p I.1.t))) I.1.rows X.rows;
        count = size_items 0 I.1.t X.x (I.1.count ∙ sym (zero-add (size_p I.1.t))) X.count ∙ zero-add _;
        means = I.1.means ∙ X.means I.1.t;
      },
    )
