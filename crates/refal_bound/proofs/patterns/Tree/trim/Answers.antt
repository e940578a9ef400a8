-- `refal_bound::patterns::Tree::trim` meets its contract: a turn takes out the bucket's first row, which is not in force.
use Rattle.std.proofs.Common.{◌≡◌, ◌+◌, ◌<◌, ◌≤◌, false, arith, sym, subst, ◌∙◌, ℕ, get_or, get_or-set_same}
use Rattle.refal_bound.specs.Bound.{scope, within}
use Rattle.refal_bound.specs.Climb.{terms_above}
use Rattle.refal_bound.specs.Scan.{keeps_pop, pop_falls}
use Rattle.refal_bound.proofs.patterns.Tree.trim.Goals as goal

pub after-next-requires : goal.after-next-requires
after-next-requires c =
    let a = c.args in
    let i = c.loop-g.bindings in
    let I = c.loop-g.invariant in
    let at : get_or i.words.now (i.rows + a.h) 0 ≡ c.in-Some.g + 1 = sym I.2 ∙ (let z : c.loop-g.next ≡ c.in-Some.g + 1 = omega arith in z) in
    (pop_falls a.self.tree.now a.self.source.now c.args.self.is_lawful i.words.now i.rows i.buckets a.u a.h c.in-Some.g (subst (λ (n : ℕ). a.h < n) (sym I.1) c.requires.rows.1) i.sized.3 at I.3).1

pub pop-requires : goal.pop-requires
pop-requires c =
    let a = c.args in
    let i = c.loop-g.bindings in
    let I = c.loop-g.invariant in
    let at : get_or i.words.now (i.rows + a.h) 0 ≡ c.in-Some.g + 1 = sym I.2 ∙ (let z : c.loop-g.next ≡ c.in-Some.g + 1 = omega arith in z) in
    let h : a.h < i.buckets = subst (λ (n : ℕ). a.h < n) (sym I.1) c.requires.rows.1 in
    (h, (pop_falls a.self.tree.now a.self.source.now c.args.self.is_lawful i.words.now i.rows i.buckets a.u a.h c.in-Some.g h i.sized.3 at I.3).1)

pub loop-g-smaller : goal.loop-g-smaller
loop-g-smaller c =
    let a = c.args in
    let i = c.loop-g.bindings in
    let I = c.loop-g.invariant in
    let z : c.loop-g.next ≡ c.in-Some.g + 1 = omega arith in
    let l : get_or i.words.now c.in-Some.g 0 ≤ c.in-Some.g = (pop_falls a.self.tree.now a.self.source.now c.args.self.is_lawful i.words.now i.rows i.buckets a.u a.h c.in-Some.g (subst (λ (n : ℕ). a.h < n) (sym I.1) c.requires.rows.1) i.sized.3 (sym I.2 ∙ z) I.3).0 in
    let e : c.after-next.result ≡ get_or i.words.now c.in-Some.g 0 = c.after-next.ensures in
    omega (arith, l, e, z)

pub loop-g-preserved : goal.loop-g-preserved
loop-g-preserved c =
    let a = c.args in
    let w = a.self.tree.now in
    let i = c.loop-g.bindings in
    let I = c.loop-g.invariant in
    let g = c.in-Some.g in
    let v = get_or i.words.now g 0 in
    let P = c.pop.ensures in
    let at : get_or i.words.now (i.rows + a.h) 0 ≡ g + 1 = sym I.2 ∙ (let z : c.loop-g.next ≡ g + 1 = omega arith in z) in
    let h : a.h < i.buckets = subst (λ (n : ℕ). a.h < n) (sym I.1) c.requires.rows.1 in
    let room = i.sized.3 in
    let out : within w (scope w (terms_above w g)) a.u ≡ false = cc in (
      P.shape.0 ∙ I.0,
      P.shape.1 ∙ I.1,
      rw (P.out, P.shape.0) (c.after-next.ensures ∙ sym (get_or-set_same i.words.now (i.rows + a.h) v 0 (omega arith))),
      rw (P.out, P.shape.0, P.shape.1) (keeps_pop w a.self.source.now c.args.self.is_lawful i.words.now i.rows i.buckets a.u a.h g c.requires.rows.0 h room at out I.3),
    )
