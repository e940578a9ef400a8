-- Rows are a lawful tree, in document 01's wording row by row, exactly when they are the rows of some tree; and of one tree only, so that
-- the depth and the flattening of lawful rows are those of their tree.
use mathlib.Core.Path.{◌≡◌, ap, ◌∙◌}
use Prim.Native.Nat.{ℕ, ◌+◌}
use mathlib.Core.List.{List}
use mathlib.Core.Logic.{◌↔◌}
use mathlib.Core.Option.{some}
use native.Mathlib.Omega.{arith}
use Rattle.refal_ast.specs.Tree.{depth_p}
use Rattle.refal_tree.specs.Lawful.{tree_of, tree_of_lem, of_tree}
use Rattle.refal_demands.specs.Trees.{Lawful, ByRows}

pub lawful_by_rows : (T : List ℕ) → ByRows T ↔ Lawful T
lawful_by_rows T = (
  (λ h. record { program = h.1; rows = (of_tree h.0 T h.1 h.2).words }),
  λ h. (depth_p h.program, h.program, ap (λ (l : List ℕ). tree_of (depth_p h.program) l) h.rows ∙ tree_of_lem (depth_p h.program) h.program (omega arith)),
)

pub one_program : (T : List ℕ) (a b : Lawful T) → a.program ≡ b.program
one_program T a b =
    let d = depth_p a.program + depth_p b.program in
    let p : tree_of d T ≡ some a.program = ap (λ (l : List ℕ). tree_of d l) a.rows ∙ tree_of_lem d a.program (omega arith) in
    let q : tree_of d T ≡ some b.program = ap (λ (l : List ℕ). tree_of d l) b.rows ∙ tree_of_lem d b.program (omega arith) in
    cc
