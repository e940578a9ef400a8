-- `refal_parser::place::Place::declaration` meets its contract: names parted by commas, then `;`.
use Rattle.std.proofs.Common.{refl, ◌∙◌, ◌+◌, arith, get_or}
use Rattle.refal_parser.proofs.TokenLaws.{end_before_lem, is_kind, not_kind}
use Rattle.refal_ast.specs.Tree.{n_one, n_more, size_n, declaration as itemDeclaration}
use Rattle.refal_parser.specs.Writers.{w_n}
use Rattle.refal_parser.proofs.Steps.{got, stays, not_got, is_at, is_no, passed, put_as, other, items_extern, named_comma, named_end, named_none}
use Rattle.refal_parser.proofs.place.Place.declaration.Goals as goal

pub next-requires : goal.next-requires
next-requires c = other _ _ _ c.requires.1 refl

pub name-requires : goal.name-requires
name-requires c = let h = c.requires.0 in rw c.next.ensures.1 (omega arith)

pub returns-in_err-place : goal.returns-in_err-place
returns-in_err-place c = let w = c.args.self.tokens.now in
    let at₀ = c.args.self.at in
    passed _ _ c.from_residual.ensures.1 (λ p. items_extern _ _ c.args.self.ready c.requires.1 p
    ∙ (not_got (rw c.next.ensures.1 at c.in_err-place.ensures)).first (get_or w (at₀ + 4) 0) p)

pub loop-place-init : goal.loop-place-init
unfolding size_n w_n
loop-place-init c = let w = c.args.self.tokens.now in
    let at₀ = c.args.self.at in
    let E = rw c.next.ensures.1 at c.in_ok-place.ensures in
    let F = got E in (
      stays E,
      record {
        ns = n_one (get_or w (at₀ + 6 + 2) 0) (get_or w (at₀ + 6 + 3) 0);
        on = let h = F.next in omega arith;
        few = let a = F.next in let b = F.count in let h = c.requires.0 in omega arith;
        same = refl;
        rows = λ B e. e;
        count = F.count;
        means = λ p. items_extern _ _ c.args.self.ready c.requires.1 p ∙ F.first (get_or w (at₀ + 4) 0) p;
      },
    )

pub next-requires-in-Comma : goal.next-requires-in-Comma
next-requires-in-Comma c = other _ _ _ (is_kind c.kind.ensures c.in-Comma.is) refl

pub name-requires-in-Comma : goal.name-requires-in-Comma
name-requires-in-Comma c = let v = c.loop-place.invariant.1.few in rw c.next-in-Comma.ensures.1 (omega arith)

pub returns-in_err-place-2 : goal.returns-in_err-place-2
returns-in_err-place-2 c = let a = get_or c.args.self.tokens.now (c.args.self.at + 4) 0 in
    let I = c.loop-place.invariant in
    let k₁₃ = is_kind (rw I.0 at c.kind.ensures) c.in-Comma.is in
    let E = rw (c.next-in-Comma.ensures.1, I.0) at c.in_err-place-2.ensures in
    passed _ _ c.from_residual-in_err-place-2.ensures.1 (λ p. I.1.means p ∙ named_comma _ _ (rw I.0 at c.loop-place.place.ready) a I.1.ns k₁₃ p ∙ (not_got E).more a I.1.ns p)

pub loop-place-smaller : goal.loop-place-smaller
loop-place-smaller c = let I = c.loop-place.invariant in
    let E = rw (c.next-in-Comma.ensures.1, I.0) at c.in_ok-place-2.ensures in
    let X = got E in let R = rw (stays E) at c.in_ok-place-2.place.ready in let q = X.next in omega arith

pub loop-place-preserved : goal.loop-place-preserved
unfolding size_n w_n
loop-place-preserved c = let w = c.args.self.tokens.now in
    let a₀ = get_or w (c.args.self.at + 4) 0 in
    let i₀ = c.loop-place.place.at in
    let I = c.loop-place.invariant in
    let E = rw (c.next-in-Comma.ensures.1, I.0) at c.in_ok-place-2.ensures in
    let X = got E in
    let k₁₃ = is_kind (rw I.0 at c.kind.ensures) c.in-Comma.is in (
      stays E,
      record {
        ns = n_more I.1.ns (get_or w (i₀ + 6 + 2) 0) (get_or w (i₀ + 6 + 3) 0);
        on = let h = X.next in let g = I.1.on in omega arith;
        few = let a = X.next in let b = X.count in let v = I.1.few in omega arith;
        same = c.name-in-Comma.auto.rows ∙ I.1.same;
        rows = λ B e. let h = I.1.rows B e in let k = I.1.count in let r = X.rows in cc;
        count = let b = X.count in let k = I.1.count in omega arith;
        means = λ p. I.1.means p ∙ named_comma _ _ (rw I.0 at c.loop-place.place.ready) a₀ I.1.ns k₁₃ p ∙ X.more a₀ I.1.ns p;
      },
    )

pub returns-in_default-kind : goal.returns-in_default-kind
returns-in_default-kind c = let I = c.loop-place.invariant in
    let L = rw I.0 at c.kind-2.ensures in
    is_no (rw I.0 at c.present.ensures) (λ p. I.1.means p
    ∙ named_none _ _ (rw I.0 at c.loop-place.place.ready) _ I.1.ns (not_kind (rw I.0 at c.kind.ensures) c.in_default.not-Comma) (not_kind L c.in_default-kind.not-Semicolon) p)

pub next-end-requires : goal.next-end-requires
next-end-requires c = other _ _ _ (is_kind c.kind-2.ensures c.in-Semicolon.is) refl

pub since-whole-requires : goal.since-whole-requires
since-whole-requires c = let R = c.loop-place.place.ready in let v = c.loop-place.invariant.1.few in rw c.next-end.ensures.1 (omega arith, omega arith)

pub returns : goal.returns
returns c = let w = c.args.self.tokens.now in
    let b₀ = c.args.rows.now in
    let at₀ = c.args.self.at in
    let i₀ = c.loop-place.place.at in
    let I = c.loop-place.invariant in
    let F = got (rw c.next.ensures.1 at c.in_ok-place.ensures) in
    let L = rw I.0 at c.kind-2.ensures in
    let k₁₆ = is_kind L c.in-Semicolon.is in
    let N = c.next-end.ensures in
    rw N.1 (is_at refl I.0 (record {
      x = itemDeclaration (get_or w (at₀ + 4) 0) I.1.ns (get_or w (i₀ + 5) 0);
      on = let g = I.1.on in omega arith;
      few = let v = I.1.few in omega arith;
      rows = let p = put_as _ _ _ c.put.ensures (rw (c.since-whole.ensures.1, N.1, I.0) at c.bare.ensures) in let h = I.1.rows b₀ F.rows in let k = I.1.count in let f = c.token.ensures.from in let l = end_before_lem w i₀ in cc;
      count = let k = I.1.count in omega arith;
      means = λ p. I.1.means p ∙ named_end _ _ (rw I.0 at c.loop-place.place.ready) (get_or w (at₀ + 4) 0) I.1.ns k₁₆ p;
    }))
