-- The rows of two trees with their sources as one list: file one's rows in their order, then file two's. A row stands with the number of its file and
-- that file's source.
use Rattle.std.specs.Prelude.{ℕ, List, [], ◌∷◌, ◌++◌, map, eqb}
use Rattle.refal_text.specs.Pick.{pick}
use Rattle.refal_ast.specs.Nodes.{Node, nodes_of}
use Rattle.refal_spelling.specs.Spell.{text_at}

-- a row: its file, 1 or 2, the file's source, and its node
pub record Placed : Type 0 where
  pub file : ℕ
  pub source : List ℕ
  pub node : Node

abbrev pub placed : ℕ → List ℕ → Node → Placed
placed file src x = record { file = file; source = src; node = x }

-- the text of a node, as a part of its source
abbrev pub node_text : List ℕ → Node → List ℕ
node_text src x = text_at src x.start x.len

abbrev pub text_of : Placed → List ℕ
text_of p = node_text p.source p.node

-- the rows of one file
unfoldable pub file_rows : ℕ → List ℕ → List ℕ → List Placed
file_rows file w src = map (placed file src) (nodes_of w)

-- the rows of both
unfoldable pub both_rows : List ℕ → List ℕ → List ℕ → List ℕ → List Placed
both_rows w₁ s₁ w₂ s₂ = file_rows 1 w₁ s₁ ++ file_rows 2 w₂ s₂

-- the rows of a kind, in order
unfoldable pub of_kind : ℕ → List Placed → List Placed
of_kind k [] = []
of_kind k (p ∷ ps) = pick (eqb p.node.kind k) (p ∷ of_kind k ps) (of_kind k ps)
