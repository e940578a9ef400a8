-- The words before word i stand in their places.
use Rattle.std.proofs.Common.{◌≡◌, length, take}
use Rattle.std.proofs.lemmas.List.Edits.{sets}
use Rattle.refal_rows.proofs.put.Given as goal

abbrev pub invariant-loop-i : goal.invariant-loop-i
invariant-loop-i g l = record {
  long : length l.rows ≡ length l.fn.rows;
  put : l.rows ≡ sets l.fn.rows l.at (take l.i l.row);
}
