-- `refal_tree::lawful` meets its contract: whole rows, not too many, and a check of all of them.
use Rattle.std.proofs.Common.{arith, sym, ◌∙◌, inl, inr}
use Rattle.refal_tree.specs.Whole.{not_whole, too_many, all_rows}
use Rattle.refal_tree.proofs.lawful.Goals as goal

pub returns-then-tree-ne0 : goal.returns-then-tree-ne0
returns-then-tree-ne0 c = sym (elim c.then-tree-ne0.either [ inl h ↦ not_whole _ h | inr h ↦ too_many _ (omega arith) ])

pub returns : goal.returns
returns c = c.check.ensures ∙ sym (all_rows _ _ (omega arith) (omega arith))
