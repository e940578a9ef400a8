-- Where the tokens of a written text stand in it: the token rows that reading gives.
use Rattle.std.specs.Prelude.{ℕ, ◌+◌, Bool, false, ◌||◌, List, [], ◌∷◌, eqb, length}
use Rattle.refal_text.specs.Pick.{pick}
use Rattle.refal_ast.specs.Kinds.{tok_identifier, tok_variable, tok_number}
use Rattle.refal_ast.specs.Tokens.{Token, token}
use Rattle.refal_spelling.specs.Spell.{Spelled, spelling}

-- a word stands at its token's start, an index two bytes on; the other kinds have no text
abbrev pub word_start : ℕ → ℕ → ℕ
word_start kind at = pick (eqb kind tok_identifier || eqb kind tok_number) at (pick (eqb kind tok_variable) (at + 2) 0)

-- the token t, spelled at `at`
unfoldable pub token_at : ℕ → Spelled → Token
token_at at t = token t.kind t.detail (word_start t.kind at) (length t.word) at (at + length (spelling t))

-- the tokens ts of a text that starts at `at`, each with a space behind it
unfoldable pub tokens_at : ℕ → List Spelled → List Token
tokens_at at [] = []
tokens_at at (t ∷ ts) = token_at at t ∷ tokens_at (at + length (spelling t) + 1) ts

-- `line` behind a text of the tokens ts: false, but for the empty text
abbrev pub line_behind : List Spelled → Bool → Bool
line_behind [] line = line
line_behind (t ∷ ts) line = false
