-- A word of the token rows where a token begins.
use Rattle.std.specs.Prelude.{◌≡◌, ℕ, ◌+◌, ◌-◌, ◌≤◌, ◌<◌, List, true, length, get_or, drop}
use Rattle.refal_ast.specs.Tokens.{Token, token, tokens_of}
use Rattle.refal_ast.specs.Check.{ok_tokens}
use Rattle.refal_ast.specs.KindCodes.{token_code}
use Rattle.refal_ast.specs.declared.tokens.Token.{Token as TheToken}
use Rattle.refal_parser.specs.Begins.{Term}
use Rattle.refal_parser.specs.Machine.{next_from, next_to, term_of}

-- the tokens from word i on
abbrev pub rest : List ℕ → ℕ → List Token
rest w i = tokens_of (drop i w)

-- the token at word i
abbrev pub tok : List ℕ → ℕ → Token
tok w i = token (get_or w i 0) (get_or w (i + 1) 0) (get_or w (i + 2) 0) (get_or w (i + 3) 0) (get_or w (i + 4) 0) (get_or w (i + 5) 0)

-- what it begins where a term may stand
abbrev pub term_at : List ℕ → ℕ → Term
term_at w i = term_of (get_or w i 0) (get_or w (i + 1) 0) (get_or w (i + 2) 0) (get_or w (i + 3) 0)

-- the span of the token after the one at word i
abbrev pub after_from : List ℕ → ℕ → ℕ
after_from w i = next_from (tok w i) (rest w (i + 6))

abbrev pub after_to : List ℕ → ℕ → ℕ
after_to w i = next_to (tok w i) (rest w (i + 6))

-- the end of the token before word i
abbrev pub end_before : List ℕ → ℕ → ℕ
end_before w i = get_or w (i - 1) 0

-- at a word where a token begins, of tokens that check 30 passes
pub record Ready (w : List ℕ) (at : ℕ) : Type 0 where
  pub toks : ok_tokens (rest w at) ≡ true
  pub room : at + 5 < length w
  pub short : length w ≤ 100663302

-- the token at the word, as it was read
pub record TokenAt (w : List ℕ) (at : ℕ) (t : TheToken) : Type 0 where
  pub kind : token_code t.kind ≡ get_or w at 0
  pub detail : t.detail ≡ get_or w (at + 1) 0
  pub start : t.start ≡ get_or w (at + 2) 0
  pub len : t.len ≡ get_or w (at + 3) 0
  pub from : t.from ≡ get_or w (at + 4) 0
  pub to : t.to ≡ get_or w (at + 5) 0

-- The next row is `row` and the next token stands at word `at`: no more rows are put than words of tokens stand before it, and `more` more. With Ready
-- it bounds every row, so that sums and casts of rows are safe.
abbrev pub Few : ℕ → ℕ → ℕ → Type 0
Few row at more = row ≤ at + more
