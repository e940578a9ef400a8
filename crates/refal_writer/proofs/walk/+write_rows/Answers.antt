-- `refal_writer::walk::write_rows` meets its contract.
use Rattle.std.proofs.Common.{ℕ, ◌-◌, ◌≤◌, ◌<◌, ◌+◌, List, refl, subst, arith, rules, ◌≡◌}
use Rattle.refal_ast.specs.KindCodes.{node_code}
use Rattle.refal_tree.specs.StateCodes.{state_code}
use Rattle.refal_tree.specs.Walk.{flat_at}
use Rattle.refal_writer.specs.Puts.{Pours, least_is, pours_start, pours_on, pours_end}
use Rattle.refal_writer.specs.Token.{text_of}
use Rattle.refal_writer.specs.Walk.{row_reads, next_state, turn, end_text, filled_small, turn_small, rows_fall, left_falls}
use Rattle.refal_writer.proofs.walk.+write_rows.Goals as goal

pub loop-i-init : goal.loop-i-init
loop-i-init t c = (omega arith, c.requires.0, refl, omega arith, c.requires.3, pours_start _ _)

pub unwrap-node-requires : goal.unwrap-node-requires
unwrap-node-requires t c = let a = c.args in let g = c.loop-i in
    row_reads a.tree.now g.i a.to (state_code g.state) c.read.result c.loop-i-test.true g.invariant.4 c.read.ensures

pub write_opening-at-requires : goal.write_opening-at-requires
write_opening-at-requires t c = let a = c.args in let g = c.loop-i in let st = state_code g.state in let n = c.unwrap-node.result in
    let T = turn a.tree.now g.i a.to st c.read.result n c.read.ensures c.unwrap-node.ensures c.loop-i-test.true g.invariant.4 in
    T.letter

pub overflow_add-at : goal.overflow_add-at
overflow_add-at t c = let a = c.args in let g = c.loop-i in let st = state_code g.state in let n = c.unwrap-node.result in
    let T = turn a.tree.now g.i a.to st c.read.result n c.read.ensures c.unwrap-node.ensures c.loop-i-test.true g.invariant.4 in
    let w = c.write_opening-at.ensures.1 in let l = T.low in let h = T.high in let b = g.invariant.3 in let m = c.requires.2 in
    omega arith

pub write_rows-at-requires : goal.write_rows-at-requires
write_rows-at-requires t c = let a = c.args in let g = c.loop-i in let st = state_code g.state in let n = c.unwrap-node.result in
    let T = turn a.tree.now g.i a.to st c.read.result n c.read.ensures c.unwrap-node.ensures c.loop-i-test.true g.invariant.4 in
    let d : n.next - (g.i + 1) < a.to - a.from = rows_fall a.from g.i n.next a.to g.invariant.0 T.low T.high in
    let m = c.decreases in
    (omega arith, (omega (arith, T.low), omega (arith, T.high), omega (arith, T.high), T.kids (state_code c.inside.result) c.inside.ensures))

pub overflow_add-at-in-loop-i : goal.overflow_add-at-in-loop-i
overflow_add-at-in-loop-i t c = let a = c.args in let g = c.loop-i in let st = state_code g.state in let n = c.unwrap-node.result in
    let T = turn a.tree.now g.i a.to st c.read.result n c.read.ensures c.unwrap-node.ensures c.loop-i-test.true g.invariant.4 in
    let f = filled_small a.from g.i n.next a.to g.at c.write_opening-at.result c.write_rows-at.result g.invariant.3 c.write_opening-at.ensures.1 c.write_rows-at.ensures.1 T.high c.requires.2 in
    search rules

pub overflow_add-at-in-loop-i-2 : goal.overflow_add-at-in-loop-i-2
overflow_add-at-in-loop-i-2 t c = let a = c.args in let g = c.loop-i in let st = state_code g.state in let n = c.unwrap-node.result in
    let T = turn a.tree.now g.i a.to st c.read.result n c.read.ensures c.unwrap-node.ensures c.loop-i-test.true g.invariant.4 in
    let f = filled_small a.from g.i n.next a.to g.at c.write_opening-at.result c.write_rows-at.result g.invariant.3 c.write_opening-at.ensures.1 c.write_rows-at.ensures.1 T.high c.requires.2 in
    let l = c.write_closing-at.ensures.1 in
    search rules

pub unwrap-state-requires : goal.unwrap-state-requires
unwrap-state-requires t c = let a = c.args in let g = c.loop-i in let st = state_code g.state in let n = c.unwrap-node.result in
    let T = turn a.tree.now g.i a.to st c.read.result n c.read.ensures c.unwrap-node.ensures c.loop-i-test.true g.invariant.4 in
    T.goes c.after.result c.after.ensures

pub loop-i-smaller : goal.loop-i-smaller
loop-i-smaller t c = let a = c.args in let g = c.loop-i in let st = state_code g.state in let n = c.unwrap-node.result in
    let T = turn a.tree.now g.i a.to st c.read.result n c.read.ensures c.unwrap-node.ensures c.loop-i-test.true g.invariant.4 in
    left_falls g.i n.next a.to T.low T.high

pub loop-i-preserved : goal.loop-i-preserved
loop-i-preserved t c = let a = c.args in let g = c.loop-i in let st = state_code g.state in let n = c.unwrap-node.result in
    let T = turn a.tree.now g.i a.to st c.read.result n c.read.ensures c.unwrap-node.ensures c.loop-i-test.true g.invariant.4 in
    let u = next_state st (node_code n.kind) n.detail c.after.result c.unwrap-state.result c.after.ensures c.unwrap-state.ensures in
    let b = turn_small a.from g.i n.next a.to g.at c.write_opening-at.result c.write_rows-at.result g.invariant.3 c.write_opening-at.ensures.1 c.write_rows-at.ensures.1 T.high c.requires.2 c.write_closing-at.result c.write_closing-at.ensures.1 in
    let e = T.parts a.src.now (state_code c.inside.result) (state_code c.unwrap-state.result) c.inside.ensures u in
    let p = subst (λ (r : List ℕ). Pours (text_of a.src.now (flat_at a.tree.now a.from a.to (state_code a.start))) r g.at g.out a.out.now) e g.invariant.5 in
    let p1 = pours_on _ _ _ _ _ _ _ _ _ p (least_is _ _ _ c.min-middle.ensures) c.write_opening-at.ensures.0 in
    let p2 = pours_on _ _ _ _ _ _ _ _ _ p1 c.min-middle-in-loop-i.ensures c.write_rows-at.ensures.0 in
    let p3 = pours_on _ _ _ _ _ _ _ _ _ p2 c.min-middle-in-loop-i-2.ensures c.write_closing-at.ensures.0 in
    let f : a.from ≤ n.next = let i = g.invariant.0 in let l = T.low in omega arith in
    (f, T.high, search rules, b, T.rest (state_code c.unwrap-state.result) u, p3)

pub returns : goal.returns
returns t c = let a = c.args in let g = c.loop-i in
    let e : g.i ≡ a.to = omega arith in
    let p = subst (λ (r : List ℕ). Pours (text_of a.src.now (flat_at a.tree.now a.from a.to (state_code a.start))) r g.at g.out a.out.now) (end_text a.tree.now a.src.now g.i a.to (state_code g.state) e) g.invariant.5 in
    (pours_end _ _ _ _ p, omega arith)
