-- `refal_link::resolve` meets its contract.
use Rattle.std.proofs.Common.{◌≤◌}
use Rattle.refal_link.specs.LinkLaws.{Counting}
use Rattle.refal_link.proofs.resolve.Given as goal

abbrev pub invariant-loop-g : goal.invariant-loop-g
invariant-loop-g l =
    let f = l.names.files in
    (l.found ≤ l.g) × Counting f.one.tree.now f.one.source.now f.two.tree.now f.two.source.now l.g l.found
