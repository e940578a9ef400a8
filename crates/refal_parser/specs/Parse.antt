-- What `parse` answers and leaves in the rows, for every list of words: check 30, then the first refusal met or the tree, last 38.
use Rattle.std.specs.Prelude.{ℕ, ◌*◌, List, ◌++◌, Bool, true, false, length, drop, replicate, leb}
use Rattle.refal_rows.specs.Rows.{pick_list}
use Rattle.refal_ast.specs.Answers.{refusal, pick_answer, Answer, Done, Refused}
use Rattle.refal_ast.specs.Tokens.{tokens_of}
use Rattle.refal_ast.specs.Check.{well_formed}
use Rattle.refal_ast.specs.Tree.{Program, p0, size_p}
use Rattle.refal_ast.specs.Nodes.{node_width}
use Rattle.refal_ast.specs.Encode.{enc_p}
use Rattle.refal_ast.specs.Limits.{most_levels}
use Rattle.refal_parser.specs.Machine.{outside, Outcome, tree, refuse, run}

abbrev pub pick_outcome : Bool → Outcome → Outcome → Outcome
pick_outcome true a b = a
pick_outcome false a b = b

-- the tree, or the first refusal
unfoldable pub parsed : List ℕ → Outcome
parsed w = pick_outcome (well_formed w) (run most_levels (tokens_of w) p0 outside) (refuse 30 0 0 0 0)

-- whether a tree's rows fit into the words B
abbrev pub fits : Program → List ℕ → Bool
fits t B = leb (node_width * size_p t) (length B)

abbrev pub answer_of : Outcome → List ℕ → Answer
answer_of (refuse number expected found from to) B = Refused (refusal number expected found from to 0)
answer_of (tree t) B = pick_answer (fits t B) (Done (size_p t)) (Refused (refusal 38 0 0 0 0 (size_p t)))

abbrev pub rows_left : Outcome → List ℕ → List ℕ
rows_left (refuse number expected found from to) B = replicate (length B) 0
rows_left (tree t) B = pick_list (fits t B) (enc_p t 0 ++ drop (node_width * size_p t) B) (replicate (length B) 0)

-- ---- `parse` on the token words w, with the node words B lent
abbrev pub parse_answer : List ℕ → List ℕ → Answer
parse_answer w B = answer_of (parsed w) B

abbrev pub parse_rows : List ℕ → List ℕ → List ℕ
parse_rows w B = rows_left (parsed w) B
