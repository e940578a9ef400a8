-- The form that the code follows: `line` is carried along, and says whether only white space has passed since the last newline, or, with none, that the offset is 0.
use Rattle.std.specs.Prelude.{ℕ, ◌+◌, zero, suc, ◌-◌, Bool, false, not, ◌&&◌, ◌||◌, List, [], ◌∷◌, eqb, length}
use Rattle.refal_text.specs.Pick.{pick}
use Rattle.refal_lexer.specs.Blanks.{white_len, comment_at, on_white}
use Rattle.refal_lexer.specs.Lex.{Out, eof_at}
use Rattle.refal_lexer.specs.Scans.{Comment, Long, Bare, Blank, Past, Open}
use Rattle.refal_lexer.specs.declared.blank.Place.{Place}
use Rattle.refal_lexer.specs.Source.{turn}

-- `line` after a white-space character at `at` whose first byte is b: a newline starts a line; other white space leaves `line` as it is, but at offset 0
abbrev pub line_after : ℕ → ℕ → Bool → Bool
line_after b at line = eqb b 10 || (line && not (eqb at 0))

abbrev pub place : ℕ → Bool → Place
place at line = record { at = at; line = line }

-- past the white space, after `skip` more bytes of a character
unfoldable pub whites : ℕ → ℕ → Bool → List ℕ → Place
whites skip at line [] = place at line
whites zero at line (b ∷ s) = on_white (white_len (b ∷ s)) (λ k. whites k (suc at) (line_after b at line) s) (place at line)
whites (suc k) at line (b ∷ s) = whites k (suc at) line s

-- no comment of known length stands at `at`: it is without its end, and the bytes end at `end`; or none is there
abbrev pub stop_at : Comment → ℕ → Bool → ℕ → Blank
stop_at (Long n) at line end = Past at line
stop_at (Bare o) at line end = pick o (Open at end) (Past at line)

abbrev pub go_on : Comment → (ℕ → Blank) → Blank → Blank
go_on (Long n) go other = go n
go_on (Bare o) go other = other

-- white space, a star comment, a block comment, over and over
unfoldable pub blanks_from : ℕ → ℕ → Bool → List ℕ → Blank
blanks_from skip at line [] = Past at line
blanks_from zero at line (b ∷ s) =
    on_white (white_len (b ∷ s)) (λ k. blanks_from k (suc at) (line_after b at line) s)
    (go_on (comment_at line (b ∷ s)) (λ n. blanks_from (n - 1) (suc at) false s) (stop_at (comment_at line (b ∷ s)) at line (at + suc (length s))))
blanks_from (suc k) at line (b ∷ s) = blanks_from k (suc at) line s

unfoldable pub lex_by : ℕ → ℕ → Bool → List ℕ → Out
lex_by skip at line [] = eof_at at
lex_by zero at line (b ∷ s) =
    turn line at b s (λ k. lex_by k (suc at) (line_after b at line) s) (λ k. lex_by k (suc at) false s) (λ k. lex_by k (suc at) false s)
lex_by (suc k) at line (b ∷ s) = lex_by k (suc at) line s
