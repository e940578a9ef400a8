-- `refal_tree::check` meets its contract: each turn by the law of what it finds at its row.
use Rattle.std.proofs.Common.{arith, ◌∙◌, sym, refl}
use Rattle.refal_ast.specs.Nodes.{node_at}
use Rattle.refal_ast.specs.Rows.{node_told}
use Rattle.refal_tree.specs.StateCodes.{no_kind}
use Rattle.refal_tree.specs.Ranges.{ok_end, stop_next, stop_parent, stop_row, stop_kids, go_on}
use Rattle.refal_tree.proofs.+check.Goals as goal

pub returns-in_default : goal.returns-in_default
returns-in_default t c = let a = c.args in
    sym (c.loop-i.invariant.2
    ∙ stop_row a.tree.now c.loop-i.i a.to _ a.left a.parent (node_at a.tree.now c.loop-i.i) refl c.loop-i-test.true (rw (no_kind _ _ c.in_default.ensures.1)))

pub returns-then-node-parent : goal.returns-then-node-parent
returns-then-node-parent t c = let a = c.args in
    sym (c.loop-i.invariant.2 ∙ stop_parent a.tree.now c.loop-i.i a.to _ a.left a.parent (node_told c.in-Ok.node) c.in-Ok.ensures c.loop-i-test.true c.if-node-parent.true)

pub returns-in_default-after_row : goal.returns-in_default-after_row
returns-in_default-after_row t c = let a = c.args in
    sym (c.loop-i.invariant.2 ∙ stop_row a.tree.now c.loop-i.i a.to _ a.left a.parent (node_told c.in-Ok.node) c.in-Ok.ensures c.loop-i-test.true c.in_default-after_row.ensures)

pub returns-then-end-i : goal.returns-then-end-i
returns-then-end-i t c = let a = c.args in
    sym (c.loop-i.invariant.2 ∙ stop_next a.tree.now c.loop-i.i a.to _ a.left a.parent (node_told c.in-Ok.node) c.in-Ok.ensures c.loop-i-test.true (λ lo hi. omega arith))

pub returns-then-not-check : goal.returns-then-not-check
returns-then-not-check t c = let a = c.args in
    sym (c.loop-i.invariant.2 ∙ stop_kids a.tree.now c.loop-i.i a.to _ a.left a.parent (node_told c.in-Ok.node) c.in-Ok.ensures (omega arith) (omega arith) (cc))

pub loop-i-preserved : goal.loop-i-preserved
loop-i-preserved t c = let a = c.args in (
  omega arith,
  omega arith,
  rw c.in-Some.ensures.1 (c.loop-i.invariant.2
      ∙ go_on a.tree.now c.loop-i.i a.to _ a.left a.parent (node_told c.in-Ok.node) c.in-Ok.ensures (omega arith) (omega arith) c.if-node-parent.false c.in-Some.ensures.0 (cc)),
)

pub returns : goal.returns
returns t c = let a = c.args in
    c.ends.ensures ∙ sym (c.loop-i.invariant.2 ∙ ok_end a.tree.now c.loop-i.i a.to _ a.left a.parent (omega arith))
