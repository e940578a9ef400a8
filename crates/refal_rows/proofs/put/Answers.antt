-- `refal_rows::put` meets its contract.
use Rattle.std.proofs.Common.{arith, ◌*◌, ◌+◌, ◌<◌, sym, ap, ◌∙◌, ◌≡◌, ℕ, List, length, take, set, get_or, length-set, length-take-le, take_all, add-one, take-suc}
use Rattle.std.proofs.lemmas.List.Edits.{sets}
use Rattle.refal_rows.specs.Writes.{put_fits, put_not, set_after}
use Rattle.refal_rows.proofs.put.Goals as goal

-- one word more
put_next : (B l row : List ℕ) (at i : ℕ) → l ≡ sets B at (take i row) → i < length row → set l (at + i) (get_or row i 0) ≡ sets B at (take (i + 1) row)
put_next B l row at i e h = rw (add-one i, take-suc row i 0 h)
    (ap (λ (m : List ℕ). set m (at + i) (get_or row i 0)) e ∙ set_after B at i (take i row) (get_or row i 0) (length-take-le i row (omega arith)))

pub loop-i-preserved : goal.loop-i-preserved
loop-i-preserved g c = let n : length c.args.row ≡ g.row.N = omega arith in record {
  long = simp length-set c.loop-i.invariant.long;
  put = put_next c.args.rows.now c.loop-i.rows c.args.row (g.row.N * c.args.m) c.loop-i.i c.loop-i.invariant.put (omega arith);
}

pub returns-after-loop-i : goal.returns-after-loop-i
returns-after-loop-i g c =
    let n : length c.args.row ≡ g.row.N = omega arith in
    c.loop-i.invariant.put
    ∙ ap (sets c.args.rows.now (g.row.N * c.args.m)) (take_all c.loop-i.i c.args.row (omega arith))
    ∙ sym (put_fits g.row.N c.args.rows.now c.args.m c.args.row c.if-end-rows.true)

pub returns-else-end-rows : goal.returns-else-end-rows
returns-else-end-rows g c = sym (put_not g.row.N c.args.rows.now c.args.m c.args.row (omega arith))
