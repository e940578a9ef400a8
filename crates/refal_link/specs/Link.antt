-- What `link` answers for the node words and the source of file one and of file two, and what it leaves in the words lent (02, cards 3 and 5). The rows of
-- both files stand in one list, file one's before file two's; names are equal when their canonical forms are (refal_ast specs/Names.antt).
use Rattle.std.specs.Prelude.{ℕ, Bool, false, not, ◌||◌, List, [], ◌∷◌, ◌++◌, length, replicate}
use Rattle.std.proofs.Math.Option.{Option, none, some}
use Rattle.refal_text.specs.Pick.{pick}
use Rattle.refal_ast.specs.Kinds.{node_name, node_function, node_call}
use Rattle.refal_ast.specs.Names.{names_equal}
use Rattle.refal_ast.specs.Answers.{refusal, Answer, Done, Refused}
use Rattle.refal_tree.specs.Lawful.{lawful}
use Rattle.refal_spelling.specs.Spellings.{all_spelled}
use Rattle.refal_files.specs.Files.{Placed, text_of, both_rows, of_kind}
use Rattle.refal_link.specs.Unbound.{both_bound}

-- the functions, the declared names and the calls of both files, each in order
abbrev pub functions : List Placed → List Placed
functions rows = of_kind node_function rows

abbrev pub declared : List Placed → List Placed
declared rows = of_kind node_name rows

abbrev pub calls : List Placed → List Placed
calls rows = of_kind node_call rows

-- one of the rows has an equal name
unfoldable pub among : List ℕ → List Placed → Bool
among name [] = false
among name (p ∷ ps) = names_equal name (text_of p) || among name ps

-- the first row whose name an earlier one has
unfoldable pub repeated : List Placed → List Placed → Option Placed
repeated earlier [] = none
repeated earlier (p ∷ ps) = pick (among (text_of p) earlier) (some p) (repeated (p ∷ earlier) ps)

-- the first row whose name no known one has
unfoldable pub missing : List Placed → List Placed → Option Placed
missing known [] = none
missing known (p ∷ ps) = pick (among (text_of p) known) (missing known ps) (some p)

-- a refusal that shows a row: its file is found, and its span
abbrev pub shown_at : ℕ → Placed → Answer
shown_at number p = Refused (refusal number 0 p.file p.node.from p.node.to 0)

abbrev pub shown : ℕ → Option Placed → Answer → Answer
shown number none rest = rest
shown number (some p) rest = shown_at number p

-- 61: a call's name is neither a function's nor declared; else the number of calls
unfoldable pub resolved : List Placed → Answer
resolved rows = shown 61 (missing (functions rows ++ declared rows) (calls rows)) (Done (length (calls rows)))

-- 60 before: two functions have equal names
unfoldable pub linked : List Placed → Answer
linked rows = shown 60 (repeated [] (functions rows)) (resolved rows)

-- writing's 40 and 41 come first
abbrev pub refuse : ℕ → Answer
refuse number = Refused (refusal number 0 0 0 0 0)

abbrev pub checked : List ℕ → List ℕ → Answer → Answer
checked w src rest = pick (not (lawful w)) (refuse 40) (pick (not (all_spelled src w)) (refuse 41) rest)

-- of file one, then of file two; 62 comes last
unfoldable pub link_answer : List ℕ → List ℕ → List ℕ → List ℕ → Answer
link_answer w₁ s₁ w₂ s₂ = checked w₁ s₁ (checked w₂ s₂ (both_bound w₁ s₁ w₂ s₂ (linked (both_rows w₁ s₁ w₂ s₂))))

-- what is left in the work words: zeros, whatever the answer
abbrev pub link_words : List ℕ → List ℕ
link_words old = replicate (length old) 0
