-- What the program `tree` prints on a source, as document 01's worked table says it: a line for each row, with row, kind, detail, span start, span
-- end, next and parent; or `refused`, number, span start, span end. Numbers are in decimal, parted by spaces.
use Rattle.std.specs.Prelude.{ℕ, suc, zero, ◌+◌, ◌*◌, ◌/◌, ◌%◌, List, [], ◌∷◌, ◌++◌, leb, length, take, replicate}
use Rattle.refal_rows.specs.Rows.{pick_list}
use Rattle.refal_ast.specs.Answers.{refusal, Refusal, Answer, Done, Refused}
use Rattle.refal_ast.specs.Nodes.{node_width}
use Rattle.refal_lexer.specs.Read.{read_answer, read_rows}
use Rattle.refal_parser.specs.Parse.{parse_answer, parse_rows}

-- the digits of n before l; each but the first is of what is left after a division by ten, and 20 are enough for 64 bits
unfoldable pub digits : ℕ → ℕ → List ℕ → List ℕ
digits zero n l = l
digits (suc k) n l = pick_list (leb n 9) ((48 + n) ∷ l) (digits k (n / 10) ((48 + n % 10) ∷ l))

abbrev pub decimal : ℕ → List ℕ
decimal n = digits 20 n []

-- a number and the byte after it
abbrev pub number : ℕ → ℕ → List ℕ
number n after = decimal n ++ (after ∷ [])

-- row i: row, kind, detail, span start, span end, next, parent, newline
abbrev pub row_line : ℕ → ℕ → ℕ → ℕ → ℕ → ℕ → ℕ → List ℕ
row_line i kind detail from to next parent =
    number i 32 ++ (number kind 32 ++ (number detail 32 ++ (number from 32 ++ (number to 32 ++ (number next 32 ++ number parent 10)))))

-- the lines of the rows that stand in a list of words, the first being row i
unfoldable pub row_lines : ℕ → List ℕ → List ℕ
row_lines i [] = []
row_lines i (k ∷ []) = []
row_lines i (k ∷ d ∷ []) = []
row_lines i (k ∷ d ∷ s ∷ []) = []
row_lines i (k ∷ d ∷ s ∷ l ∷ []) = []
row_lines i (k ∷ d ∷ s ∷ l ∷ a ∷ []) = []
row_lines i (k ∷ d ∷ s ∷ l ∷ a ∷ b ∷ []) = []
row_lines i (k ∷ d ∷ s ∷ l ∷ a ∷ b ∷ n ∷ []) = []
row_lines i (k ∷ d ∷ s ∷ l ∷ a ∷ b ∷ n ∷ q ∷ w) = row_line i k d a b n q ++ row_lines (i + 1) w

-- `refused`, the number, the span
abbrev pub refused_line : Refusal → List ℕ
refused_line r = 114 ∷ 101 ∷ 102 ∷ 117 ∷ 115 ∷ 101 ∷ 100 ∷ 32 ∷ number r.number 32 ++ (number r.start 32 ++ number r.end 10)

abbrev pub parsed_lines : Answer → List ℕ → List ℕ
parsed_lines (Refused r) T = refused_line r
parsed_lines (Done m) T = row_lines 0 (take (node_width * m) T)

-- with the token words M and the node words B lent
abbrev pub read_lines : Answer → List ℕ → List ℕ → List ℕ
read_lines (Refused r) M B = refused_line r
read_lines (Done n) M B = parsed_lines (parse_answer (take (6 * n) M) B) (parse_rows (take (6 * n) M) B)

-- on at most 2,048 bytes (longer: 1), with the token words M and the node words B lent
abbrev pub tree_lines_with : List ℕ → List ℕ → List ℕ → List ℕ
tree_lines_with M B s =
    pick_list (leb (length s) 2048) (read_lines (read_answer s (length M)) (read_rows s M) B) (refused_line (refusal 1 0 0 0 0 0))

-- the program's: 2,049 token rows and 2,048 node rows
abbrev pub tree_lines : List ℕ → List ℕ
tree_lines s = tree_lines_with (replicate (6 * 2049) 0) (replicate (node_width * 2048) 0) s
