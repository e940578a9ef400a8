-- The test that a word is a spelling that reading gives for its kind (document 01, refusal 41), by the lexer's own definition.
use Rattle.std.specs.Prelude.{ℕ, Bool, false, ◌&&◌, List, ◌∷◌, leb, eqb, length}
use Rattle.refal_text.specs.Span.{span}
use Rattle.refal_ast.specs.Kinds.{tok_variable}
use Rattle.refal_lexer.specs.Classes.{name_byte}
use Rattle.refal_lexer.specs.Tokens.{token_scan}
use Rattle.refal_lexer.specs.Scans.{Scan, Token, Bad}

-- what a scan finds is a token of that kind, which ends at `end`
abbrev pub token_to : ℕ → ℕ → Scan → Bool
token_to kind end (Token k d t n s e) = eqb k kind && eqb e end
token_to kind end (Bad n s e) = false

-- reading gives the word, standing alone, as one token of that kind
unfoldable pub spells : ℕ → List ℕ → Bool
spells kind word = token_to kind (length word) (token_scan 0 word)

-- reading gives the word as the index of a variable, after `s.`
abbrev pub spells_index : List ℕ → Bool
spells_index word = spells tok_variable (115 ∷ 46 ∷ word)

-- the same test, directly: one to 15 bytes of names
abbrev pub is_index : List ℕ → Bool
is_index word = (leb 1 (length word) && leb (length word) 15) && eqb (span name_byte word) (length word)
