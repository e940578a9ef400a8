-- The terms of demand 3 on parsing: the trees that fit a list of tokens, and the parser's own. `parse_answer w B` is what `parse` answers on
-- the token words w with the node words B lent, and `parse_rows w B` what it leaves in them: its contract equates both.
use Rattle.std.specs.Prelude.{ℕ, ◌*◌, ◌≤◌, List, length, take}
use Rattle.refal_ast.specs.Nodes.{node_width}
use Rattle.refal_ast.specs.Limits.{most_levels}
use Rattle.refal_parser.specs.Parse.{parse_rows}
use Rattle.refal_demands.specs.Trees.{Lawful, Flattens, depth}

-- the rows T are a lawful tree of depth at most 64 (`most_levels`), with no more rows than B has room for, that flattens to the tokens of w
pub record Fits (w B T : List ℕ) : Type 0 where
  pub lawful : Lawful T
  pub deep : depth lawful ≤ most_levels
  pub room : length T ≤ length B
  pub flattens : Flattens lawful w

-- the first m rows that parsing leaves
abbrev pub parser_tree : List ℕ → List ℕ → ℕ → List ℕ
parser_tree w B m = take (node_width * m) (parse_rows w B)
