-- Lawful trees of rows, and what it is to flatten to the tokens of a list of words.
use Rattle.std.specs.Prelude.{◌≡◌, ℕ, List, [], ◌∷◌}
use Rattle.std.proofs.Math.Option.{some}
use Rattle.refal_ast.specs.Tokens.{tokens_of}
use Rattle.refal_ast.specs.Tree.{Program, depth_p}
use Rattle.refal_ast.specs.Encode.{enc_p}
use Rattle.refal_ast.specs.Flatten.{Flat, flats_of, Loose}
use Rattle.refal_tree.specs.Lawful.{tree_of}

-- The rows T are a lawful tree: they are the rows of some tree, from row 0 on. (Every value of `Program` is a lawful tree.)
pub record Lawful (T : List ℕ) : Type 0 where
  pub program : Program
  pub rows : T ≡ enc_p program 0

-- The same in document 01's wording row by row, "these children and fields, exact nexts, top rows of 1 and 3, and variable letters s, t, e":
-- the rows hold a tree, with some number of levels. (`lawful_by_rows` shows that the two are the same, `one_program` that the tree is one.)
abbrev pub ByRows : List ℕ → Type 0
ByRows T = (levels : ℕ) × (t : Program) × (tree_of levels T ≡ some t)

-- a list without its last element
abbrev pub without_last : List Flat → List Flat
without_last [] = []
without_last (x ∷ []) = []
without_last (x ∷ y ∷ l) = x ∷ without_last (y ∷ l)

-- the tokens of the words w as flattened tokens, without Eof, which is the last
abbrev pub tokens_before_eof : List ℕ → List Flat
tokens_before_eof w = without_last (flats_of (tokens_of w))

-- the lawful tree T flattens to the tokens of w without Eof, but for semicolons outside items
abbrev pub Flattens : {T : List ℕ} → Lawful T → List ℕ → Type 0
Flattens h w = Loose h.program (tokens_before_eof w)

-- its depth
abbrev pub depth : {T : List ℕ} → Lawful T → ℕ
depth h = depth_p h.program
