-- Demand 3 whole, in document 01's terms. Each of `read`, `parse` and `write` has a contract that equates what it answers with `read_answer`,
-- `parse_answer`, `write_answer` and what it leaves in its slices with `read_rows`, `parse_rows`, `write_bytes`; the three parts speak of these.
use Rattle.std.specs.Prelude.{◌≡◌, ℕ, ◌*◌, true, List, ◌↔◌, length, take}
use Rattle.refal_ast.specs.Check.{well_formed}
use Rattle.refal_ast.specs.Nodes.{node_width}
use Rattle.refal_ast.specs.Answers.{Refusal, Done, Refused}
use Rattle.refal_parser.specs.Parse.{parse_answer}
use Rattle.refal_writer.specs.Write.{write_answer, write_bytes}
use Rattle.refal_demands.specs.Spans.{SameButSpans}
use Rattle.refal_demands.specs.Trees.{Lawful, Flattens}
use Rattle.refal_demands.specs.Demand3.{Fits, parser_tree}
use Rattle.refal_demands.specs.RoundTrip.{Accepted, tree_rows, RowsSuffice, Again}

-- Part 1. Parsing accepts token words w that check 30 passes exactly when some lawful tree, of depth 64 or less and with no more rows than are
-- lent, flattens to their tokens but for semicolons outside items; and the rows that it leaves are then such a tree, of as many rows as it
-- answers. (`exactly` and `gives` of proofs/Demand3.)
abbrev pub Exactly : Type 0
Exactly = (w B : List ℕ) → well_formed w ≡ true → ((m : ℕ) × (parse_answer w B ≡ Done m)) ↔ ((T : List ℕ) × Fits w B T)

abbrev pub Gives : Type 0
Gives = (w B : List ℕ) (m : ℕ) → parse_answer w B ≡ Done m → Fits w B (parser_tree w B m) × (length (parser_tree w B m) ≡ node_width * m)

-- Part 2. That tree is the only one: every lawful tree that flattens so, whatever its depth, is equal to the parser's, spans aside. (`only` of
-- proofs/Demand3.)
abbrev pub Only : Type 0
Only = (w B : List ℕ) (m : ℕ) → parse_answer w B ≡ Done m → (T : List ℕ) (t : Lawful T) → Flattens t w → SameButSpans T (parser_tree w B m)

-- Part 3. Of every source s that reading and then parsing accept: where writing accepts the parser's tree with s and answers k, the first k
-- bytes that it leaves are read and parsed, rows sufficing, to a tree with the same flattening, as spelled. (`back` of proofs/Demand3Whole.)
abbrev pub Back : Type 0
Back = (s M B : List ℕ) (a : Accepted s M B) (out : List ℕ) (k : ℕ) → write_answer (tree_rows a) s out ≡ Done k → (M' B' : List ℕ)
    → RowsSuffice (take k (write_bytes (tree_rows a) s out)) a.m M' B'
    → Again s (tree_rows a) (take k (write_bytes (tree_rows a) s out)) M' B'

-- And writing refuses the parser's tree with its source by 42 alone, never by 40 or 41. (`by_42_alone` of proofs/Demand3Whole.)
abbrev pub By42Alone : Type 0
By42Alone = (s M B : List ℕ) (a : Accepted s M B) (out : List ℕ) (r : Refusal) → write_answer (tree_rows a) s out ≡ Refused r → r.number ≡ 42

-- The whole (`demand3_whole` of proofs/Demand3Whole).
pub record Demand3Whole : Type 0 where
  pub exactly : Exactly
  pub gives : Gives
  pub only : Only
  pub back : Back
  pub by_42_alone : By42Alone
