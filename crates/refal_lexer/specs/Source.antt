-- The tokens of a source, by 01's words: before each token repeat white space, star comment, block comment; then a token.
use Rattle.std.specs.Prelude.{ℕ, zero, suc, ◌+◌, ◌-◌, Bool, List, [], ◌∷◌, length, take}
use Rattle.refal_lexer.specs.Blanks.{white_len, comment_at, on_white, on_comment}
use Rattle.refal_lexer.specs.Lex.{Out, more_all, stop_bad, eof_at}
use Rattle.refal_lexer.specs.Stars.{line_start}
use Rattle.refal_lexer.specs.Tokens.{Found, found, refused, token_at}

-- what follows the tokens found at `at`: `go` goes on, so many bytes past the first
abbrev pub on_found : ℕ → Found → (ℕ → Out) → Out
on_found at (found ts end) go = more_all ts (go (end - suc at))
on_found at (refused number start end) go = stop_bad number start end

-- what stands at `at`, with the byte b before s, where a star `starts` a comment or not; each of the three goes on, so many bytes past b
abbrev pub turn : Bool → ℕ → ℕ → List ℕ → (ℕ → Out) → (ℕ → Out) → (ℕ → Out) → Out
turn starts at b s white comment token =
    on_white (white_len (b ∷ s)) white
    (on_comment (comment_at starts (b ∷ s)) (λ n. comment (n - 1)) (stop_bad 24 at (at + suc (length s)))
    (on_found at (token_at at (b ∷ s)) token))

-- the tokens of src from `at` on, where s stands, of which the first `skip` bytes are taken already: white space, comments and tokens lie within,
-- so no more are taken than stand there
unfoldable pub lex01 : List ℕ → ℕ → ℕ → List ℕ → Out
lex01 src skip at [] = eof_at at
lex01 src zero at (b ∷ s) =
    turn (line_start (take at src)) at b s (λ k. lex01 src k (suc at) s) (λ k. lex01 src k (suc at) s) (λ k. lex01 src k (suc at) s)
lex01 src (suc k) at (b ∷ s) = lex01 src k (suc at) s

abbrev pub source : List ℕ → Out
source s = lex01 s 0 0 s
