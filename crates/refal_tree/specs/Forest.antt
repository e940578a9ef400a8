-- Forests of rows: any rows, each with the rows below it, and the words of a forest.
use Rattle.std.specs.Prelude.{ℕ, ◌+◌, List, [], ◌++◌}
use Rattle.refal_ast.specs.Nodes.{Node, node}

-- a node's own words: kind, detail, text start and length, span start and end
pub record Row : Type 0 where
  pub kind : ℕ
  pub detail : ℕ
  pub start : ℕ
  pub len : ℕ
  pub from : ℕ
  pub to : ℕ

abbrev pub row : ℕ → ℕ → ℕ → ℕ → ℕ → ℕ → Row
row kind detail start len from to = record { kind = kind; detail = detail; start = start; len = len; from = from; to = to }

abbrev pub own : Node → Row
own x = row x.kind x.detail x.start x.len x.from x.to

-- no rows; or a row, its children, and what stands after it
pub data Forest : Type 0 where
  empty : Forest
  tree : Row → Forest → Forest → Forest

-- how many rows
unfoldable pub size_g : Forest → ℕ
size_g empty = 0
size_g (tree r f g) = 1 + size_g f + size_g g

-- a row's words, with the number of the next row and of the parent's
abbrev pub row_words : Row → ℕ → ℕ → List ℕ
row_words r next parent = node r.kind r.detail r.start r.len r.from r.to next parent

-- the words of a forest whose first row is row n, under the parent q: parent first, `next` being the row after the subtree
unfoldable pub enc_g : Forest → ℕ → ℕ → List ℕ
enc_g empty n q = []
enc_g (tree r f g) n q = row_words r (n + 1 + size_g f) q ++ (enc_g f (n + 1) n ++ enc_g g (n + 1 + size_g f) q)

-- a row's node, with the number of the next row and of the parent's
abbrev pub with_next : Row → ℕ → ℕ → Node
with_next r next parent =
    record { kind = r.kind; detail = r.detail; start = r.start; len = r.len; from = r.from; to = r.to; next = next; parent = parent }

-- two forests, one after the other
unfoldable pub join_g : Forest → Forest → Forest
join_g empty h = h
join_g (tree r f g) h = tree r f (join_g g h)
