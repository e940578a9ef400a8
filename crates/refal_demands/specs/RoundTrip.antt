-- The terms of demand 3's round trip: what reading and then parsing accept, and flattenings as spelled.
use Rattle.std.specs.Prelude.{◌≡◌, ℕ, ◌*◌, ◌≤◌, List, length, take}
use Rattle.refal_ast.specs.Nodes.{node_width}
use Rattle.refal_ast.specs.Flatten.{flatten_p}
use Rattle.refal_ast.specs.Answers.{Done}
use Rattle.refal_lexer.specs.Source.{source}
use Rattle.refal_lexer.specs.Read.{read_answer, read_rows}
use Rattle.refal_parser.specs.Parse.{parse_answer}
use Rattle.refal_spelling.specs.Spell.{Spelled, views}
use Rattle.refal_demands.specs.Trees.{Lawful}
use Rattle.refal_demands.specs.Demand3.{parser_tree}

-- the first n rows that reading s leaves in the token words M: what parsing is handed
abbrev pub token_rows : List ℕ → List ℕ → ℕ → List ℕ
token_rows s M n = take (6 * n) (read_rows s M)

-- reading and then parsing accept the source s, with the token words M and the node words B lent: n tokens and m nodes
pub record Accepted (s M B : List ℕ) : Type 0 where
  pub n : ℕ
  pub m : ℕ
  pub reads : read_answer s (length M) ≡ Done n
  pub parses : parse_answer (token_rows s M n) B ≡ Done m

-- the m rows that parsing leaves
abbrev pub tree_rows : {s M B : List ℕ} → Accepted s M B → List ℕ
tree_rows {s} {M} {B} a = parser_tree (token_rows s M a.n) B a.m

-- the flattening of the rows T, which are a lawful tree, as spelled in the source s: kind, detail and the text's bytes of each token
abbrev pub as_spelled : {T : List ℕ} → List ℕ → Lawful T → List Spelled
as_spelled s t = views s (flatten_p t.program)

-- The rows T and U, each with its own source, are lawful trees with the same flattening, as spelled.
pub record SameAsSpelled (s T s' U : List ℕ) : Type 0 where
  pub first : Lawful T
  pub second : Lawful U
  pub same : as_spelled s first ≡ as_spelled s' second

-- Rows suffice: the token rows lent are at least the tokens of the source s, Eof included, and the node rows lent at least the m nodes.
pub record RowsSuffice (s : List ℕ) (m : ℕ) (M B : List ℕ) : Type 0 where
  pub tokens : 6 * length (source s).tokens ≤ length M
  pub nodes : node_width * m ≤ length B

-- reading and then parsing the source s', with M and B lent, accept it and give a tree of as many rows as T, with the flattening of the rows T, as
-- spelled
pub record Again (s T s' M B : List ℕ) : Type 0 where
  pub accepted : Accepted s' M B
  pub rows : length (tree_rows accepted) ≡ length T
  pub same : SameAsSpelled s T s' (tree_rows accepted)
