-- Literals in quotes q: the quote doubled is one quote character; the quote alone closes.
use Rattle.std.specs.Prelude.{ℕ, zero, suc, ◌+◌, List, [], ◌∷◌, eqb, get_or}
use Rattle.refal_text.specs.Pick.{pick}
use Rattle.refal_text.specs.Utf8.{decode, char, ill}
use Rattle.refal_text.specs.declared.Char.{Char}
use Rattle.refal_ast.specs.Kinds.{tok_char}
use Rattle.refal_ast.specs.Tokens.{Token, token}

-- a byte that is no character counts as one, so that every list of bytes has a meaning; reading refuses such bytes before (2)
abbrev pub some : Char → Char
some c = pick (eqb c.len 0) (char 0 1) c

-- the character at the front of s; the closing quote has length 0
unfoldable pub lit_char : ℕ → List ℕ → Char
lit_char q s = pick (eqb (get_or s 0 0) q) (pick (eqb (get_or s 1 0) q) (char q 2) ill) (some (decode s))

-- how a literal ends, with the number of its bytes: closed, of n characters; at a newline; or not at all
pub data Lit : Type 0 where
  closed : ℕ → ℕ → Lit
  newline : ℕ → Lit
  unclosed : ℕ → Lit

-- what the byte b does, with i bytes and n characters behind, where the character there has k bytes: `go` goes on, k bytes past b
abbrev pub lit_step : ℕ → ℕ → ℕ → ℕ → (ℕ → Lit) → Lit
lit_step zero i n b go = closed n (i + 1)
lit_step (suc k) i n b go = pick (eqb b 10) (newline (i + 1)) (go k)

-- the literal of which i bytes and n characters are behind, after `skip` more bytes
unfoldable pub lit_from : ℕ → ℕ → ℕ → ℕ → List ℕ → Lit
lit_from q skip i n [] = unclosed i
lit_from q zero i n (b ∷ s) = lit_step (lit_char q (b ∷ s)).len i n b (λ k. lit_from q k (suc i) (suc n) s)
lit_from q (suc k) i n (b ∷ s) = lit_from q k (suc i) n s

-- a token for each character up to the close, each with the literal's span, after `skip` more bytes
abbrev pub char_step : ℕ → Token → (ℕ → List Token) → List Token
char_step zero t go = []
char_step (suc k) t go = t ∷ go k

unfoldable pub char_tokens : ℕ → ℕ → ℕ → ℕ → List ℕ → List Token
char_tokens q from to skip [] = []
char_tokens q from to zero (b ∷ s) = char_step (lit_char q (b ∷ s)).len (token tok_char (lit_char q (b ∷ s)).code 0 0 from to) (λ k. char_tokens q from to k s)
char_tokens q from to (suc k) (b ∷ s) = char_tokens q from to k s
