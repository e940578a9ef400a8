-- `refal_bound::unbound` meets its contract: the row that is found is a variable, so its kind is known.
use Rattle.std.proofs.Common.{◌≡◌, arith, sym, List, ℕ, Option, Some, None}
use Rattle.refal_bound.specs.Bound.{first_unbound}
use Rattle.refal_bound.specs.View.{RowAt, IsFirst}
use Rattle.refal_bound.specs.ForceTheorems.{found_variable}
use Rattle.refal_bound.specs.Scan.{lawful_whole}
use Rattle.refal_ast.specs.declared.nodes.Node.{Node}
use Rattle.refal_bound.proofs.unbound.Goals as goal

first_row : (w s : List ℕ) (u : ℕ) (r : Option Node) → first_unbound w s ≡ Some u → RowAt w u r → IsFirst w s r
first_row w s u None e h =
    let k = found_variable w s u e in
    let l = h (omega arith) in
    absurd (omega arith)
first_row w s u (Some x) e h = (u, e, h)

pub returns-in-Some : goal.returns-in-Some
returns-in-Some c = first_row c.args.file.now.tree.now c.args.file.now.source.now c.in-Some.u c.row.result (sym c.in-Some.ensures) c.row.ensures

pub invariant_of-tree : goal.invariant_of-tree
invariant_of-tree c = record { is_lawful = c.requires; whole = lawful_whole c.args.file.now.tree.now c.requires }
