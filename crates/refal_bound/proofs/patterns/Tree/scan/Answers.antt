-- `refal_bound::patterns::Tree::scan` meets its contract.
use Rattle.std.proofs.Common.{◌≡◌, ◌<◌, ◌≤◌, ◌+◌, true, false, not, max, arith, ap, ap₂, sym, ◌∙◌, refl, ℕ, Bool, List}
use Rattle.std.proofs.Math.Decide.{dec_le}
use Rattle.refal_bound.specs.Bound.{is_unbound}
use Rattle.refal_bound.specs.Scan.{reach_start, reach_next, scan_found, scan_none}
use Rattle.refal_bound.proofs.patterns.Tree.scan.Goals as goal

not_false_lem : (b : Bool) → false ≡ not b → b ≡ true
not_false_lem true e = refl
not_false_lem false e = e

not_true_lem : (b : Bool) → true ≡ not b → b ≡ false
not_true_lem false e = refl
not_true_lem true e = e

before : (w s : List ℕ) (u : ℕ) → ((v : ℕ) → v < u → is_unbound w s v ≡ false) → is_unbound w s u ≡ false → (v : ℕ) → v < u + 1 → is_unbound w s v ≡ false
before w s u h e v l = go (dec_le (v + 1) u)
  where
    go : Dec (v + 1 ≤ u) → is_unbound w s v ≡ false
    go (yes m) = h v (omega arith)
    go (no m) = ap (is_unbound w s) (let z : v ≡ u = omega arith in z) ∙ e

pub loop-u-init : goal.loop-u-init
loop-u-init c = (c.requires.rows, sym (reach_start c.args.self.tree.now), c.requires.keeps, λ v l. absurd (omega arith))

pub returns-then-not-scan_row : goal.returns-then-not-scan_row
returns-then-not-scan_row c =
    let w = c.args.self.tree.now in
    let s = c.args.self.source.now in
    scan_found w s c.loop-u.u (omega arith) (not_false_lem (is_unbound w s c.loop-u.u) (let e : false ≡ not (is_unbound w s c.loop-u.u) = cc in e)) c.loop-u.invariant.3

pub loop-u-preserved : goal.loop-u-preserved
loop-u-preserved c =
    let w = c.args.self.tree.now in
    let s = c.args.self.source.now in
    let u = c.loop-u.u in
    let I = c.loop-u.invariant in (
      c.scan_row.ensures.shape.0 ∙ I.0,
      c.max-far.ensures ∙ ap₂ max I.1 c.pattern_end.ensures ∙ sym (reach_next w u),
      c.scan_row.ensures.kept,
      before w s u I.3 (not_true_lem (is_unbound w s u) (let e : true ≡ not (is_unbound w s u) = cc in e)),
    )

pub returns : goal.returns
returns c = scan_none c.args.self.tree.now c.args.self.source.now (λ v l. c.loop-u.invariant.3 v (omega arith))
