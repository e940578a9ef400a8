-- `refal_link::repeated` meets its contract.
use Rattle.std.proofs.Common.{◌≡◌}
use Rattle.refal_link.specs.LinkLaws.{OpenAt}
use Rattle.refal_link.proofs.repeated.Given as goal

abbrev pub invariant-loop : goal.invariant-loop
invariant-loop l =
    let f = l.fn.names.files in
    (l.names.files ≡ f) × (l.names.entered ≡ l.counter) × OpenAt f.one.tree.now f.one.source.now f.two.tree.now f.two.source.now l.counter
