-- Node rows: a node's words, and the nodes whose rows stand in a list of words. The width of a row and its columns are fixed here.
use Rattle.std.specs.Prelude.{ℕ, ◌+◌, ◌*◌, ◌%◌, ◌≤◌, Bool, ◌||◌, List, [], ◌∷◌, ◌++◌, eqb, length, get_or}
use Rattle.refal_ast.specs.Kinds.{node_name, node_function, node_identifier, node_number, node_variable, node_call}

-- kind, detail, text start and length, span start and end, next: the row after the subtree, parent: the parent's row
pub record Node : Type 0 where
  pub kind : ℕ
  pub detail : ℕ
  pub start : ℕ
  pub len : ℕ
  pub from : ℕ
  pub to : ℕ
  pub next : ℕ
  pub parent : ℕ

-- the parent of a top row
abbrev pub no_parent : ℕ
no_parent = 4294967295

-- a node's row
abbrev pub node : ℕ → ℕ → ℕ → ℕ → ℕ → ℕ → ℕ → ℕ → List ℕ
node kind detail start len from to next parent = kind ∷ detail ∷ start ∷ len ∷ from ∷ to ∷ next ∷ parent ∷ []

abbrev pub node_words : Node → List ℕ
node_words x = node x.kind x.detail x.start x.len x.from x.to x.next x.parent

-- the kinds that use their text: Name, Function, Identifier, Number, Variable, Call
abbrev pub has_text : ℕ → Bool
has_text k = ((((eqb k node_name || eqb k node_function) || eqb k node_identifier) || eqb k node_number) || eqb k node_variable) || eqb k node_call

-- how many words a row has
abbrev pub node_width : ℕ
node_width = 8

-- the columns of a row
abbrev pub col_kind : ℕ
col_kind = 0

abbrev pub col_detail : ℕ
col_detail = 1

abbrev pub col_start : ℕ
col_start = 2

abbrev pub col_len : ℕ
col_len = 3

abbrev pub col_from : ℕ
col_from = 4

abbrev pub col_to : ℕ
col_to = 5

abbrev pub col_next : ℕ
col_next = 6

abbrev pub col_parent : ℕ
col_parent = 7

-- the word of row i in a column
abbrev pub word_at : List ℕ → ℕ → ℕ → ℕ
word_at w i column = get_or w (node_width * i + column) 0

-- row i
abbrev pub node_at : List ℕ → ℕ → Node
node_at w i = record {
  kind = word_at w i col_kind;
  detail = word_at w i col_detail;
  start = word_at w i col_start;
  len = word_at w i col_len;
  from = word_at w i col_from;
  to = word_at w i col_to;
  next = word_at w i col_next;
  parent = word_at w i col_parent;
}

-- row i stands whole in the words
abbrev pub HasRow : List ℕ → ℕ → Type 0
HasRow w i = node_width * (i + 1) ≤ length w

-- no words beside whole rows
abbrev pub whole_rows : List ℕ → Bool
whole_rows w = eqb (length w % node_width) 0

-- the nodes whose rows stand in a list of words; words short of a whole row hold none
unfoldable pub nodes_of : List ℕ → List Node
nodes_of [] = []
nodes_of (k ∷ []) = []
nodes_of (k ∷ d ∷ []) = []
nodes_of (k ∷ d ∷ s ∷ []) = []
nodes_of (k ∷ d ∷ s ∷ l ∷ []) = []
nodes_of (k ∷ d ∷ s ∷ l ∷ a ∷ []) = []
nodes_of (k ∷ d ∷ s ∷ l ∷ a ∷ b ∷ []) = []
nodes_of (k ∷ d ∷ s ∷ l ∷ a ∷ b ∷ x ∷ []) = []
nodes_of (k ∷ d ∷ s ∷ l ∷ a ∷ b ∷ x ∷ q ∷ w) = record { kind = k; detail = d; start = s; len = l; from = a; to = b; next = x; parent = q } ∷ nodes_of w

-- the rows of a list of nodes, one after the other
abbrev pub flat_nodes : List Node → List ℕ
flat_nodes [] = []
flat_nodes (x ∷ xs) = node_words x ++ flat_nodes xs
