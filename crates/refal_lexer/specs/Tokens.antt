-- What stands at offset `at`, at the front of s, where no white space and no comment does: the class of the first byte decides.
use Rattle.std.specs.Prelude.{ℕ, ◌+◌, List, [], ◌∷◌, ltb, eqb, drop, get_or}
use Rattle.refal_text.specs.Pick.{pick}
use Rattle.refal_text.specs.Utf8.{decode}
use Rattle.refal_text.specs.declared.Char.{Char}
use Rattle.refal_ast.specs.Tokens.{token, Token as Tok}
use Rattle.refal_lexer.specs.Classes.{class_of, digit, c_quote, c_dollar, c_plus, c_wide, c_minus, c_single, single_kind, c_upper, c_digit, c_variable, c_other}
use Rattle.refal_lexer.specs.Literals.{char_tokens, Lit, closed, newline, unclosed, lit_from}
use Rattle.refal_lexer.specs.Words.{name_scan, other_scan, variable_scan, directive_scan}
use Rattle.refal_lexer.specs.Numbers.{number_scan}
use Rattle.refal_lexer.specs.Scans.{Scan, Token, Bad}

-- a sign of class k starts a number before a digit; else `-` starts a name, and `+` nothing
abbrev pub sign_scan : ℕ → ℕ → List ℕ → Scan
sign_scan k at s = pick (digit (get_or s 1 0)) (number_scan at 1 s) (pick (eqb k c_minus) (other_scan at s) (Bad 10 at (at + 1)))

-- a character past U+007F, whole; bytes that are none have been refused before, and count as one here
abbrev pub wide_scan : ℕ → Char → Scan
wide_scan at c = pick (eqb c.len 0) (Bad 10 at (at + 1)) (Bad 10 at (at + c.len))

abbrev pub rare_scan : ℕ → ℕ → List ℕ → Scan
rare_scan k at s =
    pick (eqb k c_dollar) (directive_scan at s)
    (pick (eqb k c_plus) (sign_scan k at s)
    (pick (eqb k c_wide) (wide_scan at (decode s))
    (pick (eqb k c_minus) (sign_scan k at s)
    (pick (eqb k c_other) (other_scan at s)
    (Bad 10 at (at + 1))))))

abbrev pub class_scan : ℕ → ℕ → List ℕ → Scan
class_scan k at s =
    pick (eqb k c_single) (Token (single_kind (get_or s 0 0)) 0 0 0 at (at + 1))
    (pick (eqb k c_upper) (name_scan at s)
    (pick (eqb k c_digit) (number_scan at 0 s)
    (pick (eqb k c_variable) (variable_scan at s)
    (rare_scan k at s))))

-- one token, whose first byte is no quote, or a refusal: 10 for the classes that start none
abbrev pub token_scan : ℕ → List ℕ → Scan
token_scan at s = class_scan (class_of (get_or s 0 0)) at s

-- the tokens found, and where they end; or a refusal's number and span
pub data Found : Type 0 where
  found : List Tok → ℕ → Found
  refused : ℕ → ℕ → ℕ → Found

abbrev pub one : Scan → Found
one (Token kind detail text len start end) = found (token kind detail text len start end ∷ []) end
one (Bad number start end) = refused number start end

-- a literal in quotes q, with s behind the first: its length is tested at the close, 20 before 21
abbrev pub literal_of : ℕ → ℕ → List ℕ → Lit → Found
literal_of at q s (closed n end) =
    pick (ltb 255 n) (refused 20 at (at + end))
    (pick (eqb n 0) (refused 21 at (at + end))
    (found (char_tokens q at (at + end) 0 s) (at + end)))
literal_of at q s (newline end) = refused 22 at (at + end)
literal_of at q s (unclosed end) = refused 23 at (at + end)

abbrev pub literal_at : ℕ → List ℕ → Found
literal_at at s = literal_of at (get_or s 0 0) (drop 1 s) (lit_from (get_or s 0 0) 0 1 0 (drop 1 s))

abbrev pub token_at : ℕ → List ℕ → Found
token_at at s = pick (eqb (class_of (get_or s 0 0)) c_quote) (literal_at at s) (one (token_scan at s))
