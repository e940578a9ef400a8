-- Document 01's worked table, the rows marked m: what each call answers and leaves, as one table.
use Rattle.std.specs.Prelude.{◌≡◌, ℕ, ◌+◌, List, [], ◌∷◌, ◌++◌, length, replicate}
use Rattle.refal_ast.specs.Kinds.{tok_entry, tok_identifier, tok_variable, tok_number, tok_char, tok_l_brace, tok_r_brace, tok_comma, tok_colon, tok_equals, tok_semicolon, tok_eof}
use Rattle.refal_ast.specs.Kinds.{node_function, node_sentence, node_condition, node_terms, node_condition_block, node_identifier}
use Rattle.refal_ast.specs.Answers.{refusal, Answer, Done, Refused}
use Rattle.refal_ast.specs.Nodes.{no_parent, node}
use Rattle.refal_lexer.specs.Read.{read_answer, read_rows}
use Rattle.refal_parser.specs.Parse.{parse_answer, parse_rows}
use Rattle.refal_writer.specs.Write.{write_answer, write_bytes}
use Rattle.refal_demands.specs.TreeLines.{tree_lines}

-- a row of the table
pub data Case : Type 0 where
  -- reading: the source's bytes, the token words lent, the answer, the token words left
  reading : List ℕ → List ℕ → Answer → List ℕ → Case
  -- parsing: the token words, the node words lent, the answer, the node words left
  parsing : List ℕ → List ℕ → Answer → List ℕ → Case
  -- writing: the node words, the source's bytes, the bytes lent, the answer, the bytes left
  writing : List ℕ → List ℕ → List ℕ → Answer → List ℕ → Case
  -- the program `tree`: the source's bytes, the bytes that it prints
  printing : List ℕ → List ℕ → Case

-- what a call gives: its answer, and the words or bytes that it leaves in those lent; what the program gives: how many bytes, and the bytes
pub record Given : Type 0 where
  pub answer : Answer
  pub left : List ℕ

-- what the call of a row gives, by the definitions that its contract equates it with
abbrev pub gives : Case → Given
gives (reading s M a R) = record { answer = read_answer s (length M); left = read_rows s M }
gives (parsing w B a R) = record { answer = parse_answer w B; left = parse_rows w B }
gives (writing T s out a R) = record { answer = write_answer T s out; left = write_bytes T s out }
gives (printing s R) = record { answer = Done (length (tree_lines s)); left = tree_lines s }

-- what the row says that it gives
abbrev pub claims : Case → Given
claims (reading s M a R) = record { answer = a; left = R }
claims (parsing w B a R) = record { answer = a; left = R }
claims (writing T s out a R) = record { answer = a; left = R }
claims (printing s R) = record { answer = Done (length R); left = R }

abbrev pub each : (Case → Given) → List Case → List Given
each f [] = []
each f (c ∷ cs) = f c ∷ each f cs

-- each row holds
abbrev pub AllHold : List Case → Type 0
AllHold cs = each gives cs ≡ each claims cs

-- a token that is its kind alone, with its span
abbrev pub sign : ℕ → ℕ → ℕ → List ℕ
sign kind a b = kind ∷ 0 ∷ 0 ∷ 0 ∷ a ∷ b ∷ []

-- a name of so many bytes, with its span
abbrev pub name : ℕ → ℕ → ℕ → List ℕ
name len a b = tok_identifier ∷ 0 ∷ a ∷ len ∷ a ∷ b ∷ []

-- a variable of the letter s with an index of one byte behind it, with its span
abbrev pub variable : ℕ → ℕ → List ℕ
variable a b = tok_variable ∷ 115 ∷ (a + 1) ∷ 1 ∷ a ∷ b ∷ []

-- a Terms row, which has no span
abbrev pub terms : ℕ → ℕ → List ℕ
terms next parent = node node_terms 0 0 0 0 0 next parent

-- the words lent to each call: fourteen token rows, or twelve node rows, and three words, each word 9
abbrev pub lent : List ℕ
lent = replicate 87 9

-- all of them zeroed
abbrev pub zeroed : List ℕ
zeroed = replicate 87 0

-- a refusal of reading, with its span
abbrev pub refused : ℕ → ℕ → ℕ → Answer
refused number a b = Refused (refusal number 0 0 a b 0)

-- ---- sources of which the tokens are parsed, and the tokens' words
-- empty
abbrev pub tokens0 : List ℕ
tokens0 = sign tok_eof 0 0

-- `{}`
abbrev pub source1 : List ℕ
source1 = 123 ∷ 125 ∷ []

abbrev pub tokens1 : List ℕ
tokens1 = sign tok_l_brace 0 1 ++ (sign tok_r_brace 1 2 ++ sign tok_eof 2 2)

-- `F{=A}`
abbrev pub source2 : List ℕ
source2 = 70 ∷ 123 ∷ 61 ∷ 65 ∷ 125 ∷ []

abbrev pub tokens2 : List ℕ
tokens2 = name 1 0 1 ++ (sign tok_l_brace 1 2 ++ (sign tok_equals 2 3 ++ (name 1 3 4 ++ (sign tok_r_brace 4 5 ++ sign tok_eof 5 5))))

-- its five rows
abbrev pub nodes2 : List ℕ
nodes2 =
    node node_function 0 0 1 0 5 5 no_parent ++ (node node_sentence 1 0 0 2 4 5 0 ++ (terms 3 1 ++ (terms 5 1 ++ node node_identifier 0 3 1 3 4 5 3)))

-- `F { = A } `
abbrev pub written2 : List ℕ
written2 = 70 ∷ 32 ∷ 123 ∷ 32 ∷ 61 ∷ 32 ∷ 65 ∷ 32 ∷ 125 ∷ 32 ∷ []

-- `F{A,B:{=;}=;}`
abbrev pub source3 : List ℕ
source3 = 70 ∷ 123 ∷ 65 ∷ 44 ∷ 66 ∷ 58 ∷ 123 ∷ 61 ∷ 59 ∷ 125 ∷ 61 ∷ 59 ∷ 125 ∷ []

abbrev pub tokens3 : List ℕ
tokens3 =
    name 1 0 1 ++ (sign tok_l_brace 1 2 ++ (name 1 2 3 ++ (sign tok_comma 3 4 ++ (name 1 4 5 ++ (sign tok_colon 5 6 ++ (sign tok_l_brace 6 7
    ++ (sign tok_equals 7 8 ++ (sign tok_semicolon 8 9 ++ (sign tok_r_brace 9 10 ++ (sign tok_equals 10 11 ++ (sign tok_semicolon 11 12
    ++ (sign tok_r_brace 12 13 ++ sign tok_eof 13 13))))))))))))

-- `$ENTRY Go{=;}`
abbrev pub source4 : List ℕ
source4 = 36 ∷ 69 ∷ 78 ∷ 84 ∷ 82 ∷ 89 ∷ 32 ∷ 71 ∷ 111 ∷ 123 ∷ 61 ∷ 59 ∷ 125 ∷ []

abbrev pub tokens4 : List ℕ
tokens4 = sign tok_entry 0 6 ++ (name 2 7 9 ++ (sign tok_l_brace 9 10 ++ (sign tok_equals 10 11 ++ (sign tok_semicolon 11 12 ++ (sign tok_r_brace 12 13 ++ sign tok_eof 13 13)))))

-- its four rows
abbrev pub nodes4 : List ℕ
nodes4 = node node_function 1 7 2 0 13 4 no_parent ++ (node node_sentence 0 0 0 10 12 4 0 ++ (terms 3 1 ++ terms 4 1))

-- `0 3 1 0 13 4 4294967295`
abbrev pub line0 : List ℕ → List ℕ
line0 l = 48 ∷ 32 ∷ 51 ∷ 32 ∷ 49 ∷ 32 ∷ 48 ∷ 32 ∷ 49 ∷ 51 ∷ 32 ∷ 52 ∷ 32 ∷ 52 ∷ 50 ∷ 57 ∷ 52 ∷ 57 ∷ 54 ∷ 55 ∷ 50 ∷ 57 ∷ 53 ∷ 10 ∷ l

-- `1 4 0 10 12 4 0`
abbrev pub line1 : List ℕ → List ℕ
line1 l = 49 ∷ 32 ∷ 52 ∷ 32 ∷ 48 ∷ 32 ∷ 49 ∷ 48 ∷ 32 ∷ 49 ∷ 50 ∷ 32 ∷ 52 ∷ 32 ∷ 48 ∷ 10 ∷ l

-- `2 6 0 0 0 3 1`
abbrev pub line2 : List ℕ → List ℕ
line2 l = 50 ∷ 32 ∷ 54 ∷ 32 ∷ 48 ∷ 32 ∷ 48 ∷ 32 ∷ 48 ∷ 32 ∷ 51 ∷ 32 ∷ 49 ∷ 10 ∷ l

-- `3 6 0 0 0 4 1`
abbrev pub line3 : List ℕ → List ℕ
line3 l = 51 ∷ 32 ∷ 54 ∷ 32 ∷ 48 ∷ 32 ∷ 48 ∷ 32 ∷ 48 ∷ 32 ∷ 52 ∷ 32 ∷ 49 ∷ 10 ∷ l

-- `$ENTRY Go { = ; } `
abbrev pub written4 : List ℕ
written4 = 36 ∷ 69 ∷ 78 ∷ 84 ∷ 82 ∷ 89 ∷ 32 ∷ 71 ∷ 111 ∷ 32 ∷ 123 ∷ 32 ∷ 61 ∷ 32 ∷ 59 ∷ 32 ∷ 125 ∷ 32 ∷ []

unfoldable pub table : List Case
table =
    -- empty: Eof 0-0, no node
    reading [] lent (Done 1) (tokens0 ++ replicate 81 9)
    ∷ parsing tokens0 lent (Done 0) lent
    -- no token rows: 30
    ∷ parsing [] lent (Refused (refusal 30 0 0 0 0 0)) zeroed
    -- `s1s2s3`: three variables, 0-2, 2-4, 4-6
    ∷ reading (115 ∷ 49 ∷ 115 ∷ 50 ∷ 115 ∷ 51 ∷ []) lent (Done 4) (variable 0 2 ++ (variable 2 4 ++ (variable 4 6 ++ (sign tok_eof 6 6 ++ replicate 63 9))))
    -- `''`: 21 at 0-2; `'''`: 23 at 0-3; `''''`: Char 39 at 0-4
    ∷ reading (39 ∷ 39 ∷ []) lent (refused 21 0 2) zeroed
    ∷ reading (39 ∷ 39 ∷ 39 ∷ []) lent (refused 23 0 3) zeroed
    ∷ reading (39 ∷ 39 ∷ 39 ∷ 39 ∷ []) lent (Done 2) ((tok_char ∷ 39 ∷ 0 ∷ 0 ∷ 0 ∷ 4 ∷ []) ++ (sign tok_eof 4 4 ++ replicate 75 9))
    -- `0004294967295` read; `4294967296`: 19 at 0-10
    ∷ reading (48 ∷ 48 ∷ 48 ∷ 52 ∷ 50 ∷ 57 ∷ 52 ∷ 57 ∷ 54 ∷ 55 ∷ 50 ∷ 57 ∷ 53 ∷ []) lent (Done 2)
    ((tok_number ∷ 0 ∷ 0 ∷ 13 ∷ 0 ∷ 13 ∷ []) ++ (sign tok_eof 13 13 ++ replicate 75 9))
    ∷ reading (52 ∷ 50 ∷ 57 ∷ 52 ∷ 57 ∷ 54 ∷ 55 ∷ 50 ∷ 57 ∷ 54 ∷ []) lent (refused 19 0 10) zeroed
    -- `+1`: 18 at 0-2; `+1.`: 16 at 0-3; `1E5.2`: 10 at 3-4; `-`: 14 at 0-1
    ∷ reading (43 ∷ 49 ∷ []) lent (refused 18 0 2) zeroed
    ∷ reading (43 ∷ 49 ∷ 46 ∷ []) lent (refused 16 0 3) zeroed
    ∷ reading (49 ∷ 69 ∷ 53 ∷ 46 ∷ 50 ∷ []) lent (refused 10 3 4) zeroed
    ∷ reading (45 ∷ []) lent (refused 14 0 1) zeroed
    -- ` *a`: 10 at 1-2; newline then ` *a`: Eof 4-4
    ∷ reading (32 ∷ 42 ∷ 97 ∷ []) lent (refused 10 1 2) zeroed
    ∷ reading (10 ∷ 32 ∷ 42 ∷ 97 ∷ []) lent (Done 1) (sign tok_eof 4 4 ++ replicate 81 9)
    -- `/*/`: 24 at 0-3
    ∷ reading (47 ∷ 42 ∷ 47 ∷ []) lent (refused 24 0 3) zeroed
    -- `{}`: 32, found 7, span 1-2
    ∷ reading source1 lent (Done 3) (tokens1 ++ replicate 69 9)
    ∷ parsing tokens1 lent (Refused (refusal 32 tok_identifier 7 1 2 0)) zeroed
    -- `F{=A}`: its Sentence 2-4, the `;` left off; its written text is `F { = A } `
    ∷ reading source2 lent (Done 6) (tokens2 ++ replicate 51 9)
    ∷ parsing tokens2 lent (Done 5) (nodes2 ++ replicate 47 9)
    ∷ writing nodes2 source2 (replicate 12 9) (Done 10) (written2 ++ replicate 2 9)
    -- `F{A,B:{=;}=;}`: 12 nodes; Condition and block 4-10, outer Sentence 2-12
    ∷ reading source3 lent (Done 14) (tokens3 ++ replicate 3 9)
    ∷ parsing tokens3 (replicate 96 9) (Done 12)
    (node node_function 0 0 1 0 13 12 no_parent
    ++ (node node_sentence 0 0 0 2 12 12 0
    ++ (terms 4 1
    ++ (node node_identifier 0 2 1 2 3 4 2
    ++ (node node_condition 0 0 0 4 10 11 1
    ++ (terms 7 4
    ++ (node node_identifier 0 4 1 4 5 7 5
    ++ (node node_condition_block 0 0 0 4 10 11 4
    ++ (node node_sentence 0 0 0 7 9 11 7
    ++ (terms 10 8
    ++ (terms 11 8
    ++ terms 12 1)))))))))))
    -- `$ENTRY Go{=;}`: four rows
    ∷ reading source4 lent (Done 7) (tokens4 ++ replicate 45 9)
    ∷ parsing tokens4 lent (Done 4) (nodes4 ++ replicate 55 9)
    -- its written text is `$ENTRY Go { = ; } `, 18 bytes
    ∷ writing nodes4 source4 (replicate 20 9) (Done 18) (written4 ++ replicate 2 9)
    -- all that `tree` prints of it: four lines
    ∷ printing source4 (line0 (line1 (line2 (line3 []))))
    ∷ []
