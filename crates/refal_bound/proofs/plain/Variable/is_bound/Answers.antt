-- `refal_bound::plain::Variable::is_bound` meets its contract: the walk over a bucket's rows.
use Rattle.std.proofs.Common.{◌≡◌, ◌+◌, true, false, arith, ap, sym, subst, ◌∙◌, ℕ, get_or}
use Rattle.refal_index.specs.Chain.{Walk, walk_low, walk_next}
use Rattle.refal_bound.specs.Scan.{bucket, serves, serve_start, serve_hit, serve_end}
use Rattle.refal_bound.proofs.plain.Variable.is_bound.Goals as goal

pub loop-g-init : goal.loop-g-init
loop-g-init c =
    let a = c.args in
    let w = a.self.of.tree.now in
    let s = a.self.of.source.now in
    let i = a.bindings.now in
    subst (Walk i.words.now i.rows i.buckets (bucket w s i.buckets) (serves w s a.self.row))
    (sym (c.first-next.ensures ∙ ap (λ (h : ℕ). get_or i.words.now (i.rows + h) 0) c.requires.buckets.1))
    (serve_start w s i.words.now i.rows i.buckets a.self.row i.sized.1 c.requires.keeps)

pub serves-requires : goal.serves-requires
serves-requires c = let L = walk_low _ _ _ _ _ _ c.loop-g.invariant in let R = c.requires.rows in omega arith

pub returns-then-serves : goal.returns-then-serves
returns-then-serves c =
    let a = c.args in
    let w = a.self.of.tree.now in
    let s = a.self.of.source.now in
    let i = a.bindings.now in
    let e : serves w s a.self.row c.in-Some.g ≡ true = cc in
    serve_hit w s c.args.self.of.is_lawful i.words.now i.rows i.buckets a.self.row c.args.self.there c.requires.keeps c.in-Some.g c.loop-g.next (omega arith) e c.loop-g.invariant

pub after-next-requires : goal.after-next-requires
after-next-requires c = let L = walk_low _ _ _ _ _ _ c.loop-g.invariant in omega arith

pub loop-g-smaller : goal.loop-g-smaller
loop-g-smaller c =
    let a = c.args in
    let e : serves a.self.of.tree.now a.self.of.source.now a.self.row c.in-Some.g ≡ false = cc in
    omega (arith, (walk_next _ _ _ _ _ c.in-Some.g c.loop-g.next (omega arith) e c.loop-g.invariant).1)

pub loop-g-preserved : goal.loop-g-preserved
loop-g-preserved c =
    let a = c.args in
    let w = a.self.of.tree.now in
    let s = a.self.of.source.now in
    let i = a.bindings.now in
    let e : serves w s a.self.row c.in-Some.g ≡ false = cc in
    subst (Walk i.words.now i.rows i.buckets (bucket w s i.buckets) (serves w s a.self.row)) (sym c.after-next.ensures)
    (walk_next _ _ _ _ _ c.in-Some.g c.loop-g.next (omega arith) e c.loop-g.invariant).0

pub returns : goal.returns
returns c =
    let a = c.args in
    let i = a.bindings.now in
    serve_end a.self.of.tree.now a.self.of.source.now c.args.self.of.is_lawful i.words.now i.rows i.buckets a.self.row c.args.self.there c.requires.keeps c.loop-g.next (omega arith) c.loop-g.invariant
