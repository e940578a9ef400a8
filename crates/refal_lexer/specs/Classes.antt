-- The classes of bytes. The class of a token's first byte decides how it is scanned.
use Rattle.std.specs.Prelude.{ℕ, Bool, not, ◌&&◌, ◌||◌, leb, ltb, eqb}
use Rattle.refal_text.specs.Pick.{pick}
use Rattle.refal_ast.specs.Kinds.{tok_l_brace, tok_r_brace, tok_l_paren, tok_r_paren, tok_l_angle, tok_r_angle, tok_comma, tok_colon, tok_equals, tok_semicolon}
use Rattle.refal_text.specs.White.{white_space}

abbrev pub upper : ℕ → Bool
upper b = leb 65 b && leb b 90

abbrev pub digit : ℕ → Bool
digit b = leb 48 b && leb b 57

abbrev pub sign : ℕ → Bool
sign b = eqb b 43 || eqb b 45

abbrev pub letter : ℕ → Bool
letter b = (leb 65 b && leb b 90) || (leb 97 b && leb b 122)

-- what a name goes on over: ASCII letters, digits, `_`, `-`
abbrev pub name_byte : ℕ → Bool
name_byte b = ((letter b || digit b) || eqb b 95) || eqb b 45

abbrev pub not_newline : ℕ → Bool
not_newline b = not (eqb b 10)

-- white space of one byte
abbrev pub blank : ℕ → Bool
blank b = (leb 9 b && leb b 13) || eqb b 32

-- the letters of variables: s, t, e
abbrev pub variable : ℕ → Bool
variable b = (eqb b 115 || eqb b 116) || eqb b 101

-- ---- the classes' numbers
abbrev pub c_none : ℕ
c_none = 0

abbrev pub c_white : ℕ
c_white = 2

abbrev pub c_quote : ℕ
c_quote = 3

abbrev pub c_star : ℕ
c_star = 4

abbrev pub c_slash : ℕ
c_slash = 5

abbrev pub c_dollar : ℕ
c_dollar = 6

-- the tokens of one byte
abbrev pub c_single : ℕ
c_single = 7

abbrev pub c_plus : ℕ
c_plus = 17

abbrev pub c_wide : ℕ
c_wide = 18

abbrev pub c_minus : ℕ
c_minus = 20

abbrev pub c_upper : ℕ
c_upper = 21

abbrev pub c_digit : ℕ
c_digit = 22

abbrev pub c_variable : ℕ
c_variable = 23

abbrev pub c_other : ℕ
c_other = 24

-- the kinds of `{` `}` `(` `)` `<` `>` `,` `:` `=` `;`, and 0 of any other byte
abbrev pub single_kind : ℕ → ℕ
single_kind b =
    pick (eqb b 123) tok_l_brace
    (pick (eqb b 125) tok_r_brace
    (pick (eqb b 40) tok_l_paren
    (pick (eqb b 41) tok_r_paren
    (pick (eqb b 60) tok_l_angle
    (pick (eqb b 62) tok_r_angle
    (pick (eqb b 44) tok_comma
    (pick (eqb b 58) tok_colon
    (pick (eqb b 61) tok_equals
    (pick (eqb b 59) tok_semicolon
    0)))))))))

abbrev pub class_of : ℕ → ℕ
class_of b =
    pick (leb 128 b) c_wide
    (pick (white_space b) c_white
    (pick (eqb b 39 || eqb b 34) c_quote
    (pick (eqb b 42) c_star
    (pick (eqb b 47) c_slash
    (pick (eqb b 36) c_dollar
    (pick (eqb b 43) c_plus
    (pick (eqb b 45) c_minus
    (pick (upper b) c_upper
    (pick (digit b) c_digit
    (pick (variable b) c_variable
    (pick (letter b || eqb b 95) c_other
    (pick (ltb 0 (single_kind b)) c_single c_none))))))))))))
