-- The test for refusal 41: a text outside the source or not a spelling that reading gives for its kind (2, 3, 9 and 14: an Identifier; 10: a
-- Number; 12: an index), or a Char that is newline or no scalar value (document 01).
use Rattle.std.specs.Prelude.{ℕ, ◌+◌, Bool, true, not, ◌&&◌, List, [], ◌∷◌, eqb, leb, length}
use Rattle.refal_text.specs.Pick.{pick}
use Rattle.refal_ast.specs.Kinds.{tok_identifier, tok_number, node_number, node_char, node_variable}
use Rattle.refal_ast.specs.Check.{scalar}
use Rattle.refal_ast.specs.Limits.{most_bytes}
use Rattle.refal_ast.specs.Nodes.{Node, has_text, nodes_of}
use Rattle.refal_spelling.specs.Spell.{text_at}
use Rattle.refal_spelling.specs.Spells.{spells, spells_index}

-- a Char that can be written
abbrev pub char_ok : ℕ → Bool
char_ok x = not (eqb x 10) && scalar x

-- a text stands in the source
abbrev pub in_source : List ℕ → ℕ → ℕ → Bool
in_source src start len = leb (start + len) (length src)

-- a Number that reading gives: its text stands in a source, and no source of more bytes is read
abbrev pub number_ok : List ℕ → Bool
number_ok word = spells tok_number word && leb (length word) most_bytes

-- the word is a spelling that reading gives for the kind of a row that uses its text
abbrev pub word_ok : ℕ → List ℕ → Bool
word_ok kind word =
    pick (eqb kind node_number) (number_ok word) (pick (eqb kind node_variable) (spells_index word) (spells tok_identifier word))

abbrev pub text_spelled : List ℕ → ℕ → ℕ → ℕ → Bool
text_spelled src kind start len = in_source src start len && word_ok kind (text_at src start len)

-- one row: kind, detail, text start and length
unfoldable pub row_spelled : List ℕ → ℕ → ℕ → ℕ → ℕ → Bool
row_spelled src kind detail start len =
    pick (eqb kind node_char) (char_ok detail) (pick (has_text kind) (text_spelled src kind start len) true)

unfoldable pub nodes_spelled : List ℕ → List Node → Bool
nodes_spelled src [] = true
nodes_spelled src (x ∷ xs) = row_spelled src x.kind x.detail x.start x.len && nodes_spelled src xs

-- every row of the words w
unfoldable pub all_spelled : List ℕ → List ℕ → Bool
all_spelled src w = nodes_spelled src (nodes_of w)
