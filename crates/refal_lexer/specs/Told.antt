-- What the code's results tell, in the words of the definitions.
use Rattle.std.specs.Prelude.{ℕ, true, false, Result, Ok, Err, Option, Some, None}
use Rattle.refal_ast.specs.KindCodes.{token_code}
use Rattle.refal_ast.specs.Told.{reason_code}
use Rattle.refal_ast.specs.Tokens.{Token as Tok}
use Rattle.refal_ast.specs.Rows.{token_told}
use Rattle.refal_ast.specs.declared.tokens.Token.{Token as TheToken}
use Rattle.refal_lexer.specs.Scans.{Scan, Token, Bad, Comment, Long, Bare, Blank, Past, Open, Step, On, Stop}
use Rattle.refal_lexer.specs.declared.Fault.{Fault}
use Rattle.refal_lexer.specs.declared.Cursor.{Cursor}
use Rattle.refal_lexer.specs.declared.blank.Place.{Place}
use Rattle.refal_lexer.specs.declared.blank.Unclosed.{Unclosed}
use Rattle.refal_lexer.specs.Classes.{c_none, c_white, c_quote, c_star, c_slash, c_dollar, c_single, c_plus, c_wide, c_minus, c_upper, c_digit, c_variable, c_other}
use Rattle.refal_lexer.specs.declared.class.Class.{Class}
use Rattle.refal_lexer.specs.declared.class.Class.TheVariants as class
use Rattle.refal_lexer.specs.Numbers.{ends, Part}
use Rattle.refal_lexer.specs.declared.number.Bare.{Bare as NoDigit}

-- where a part ends, bare if it has no digit
abbrev pub part_told : Result ℕ NoDigit → Part
part_told (Ok end) = ends end false
part_told (Err bare) = ends bare.end true

-- a class's number
abbrev pub class_code : Class → ℕ
class_code class.White = c_white
class_code class.Quote = c_quote
class_code class.Star = c_star
class_code class.Slash = c_slash
class_code class.Dollar = c_dollar
class_code (class.Single kind) = c_single
class_code class.Plus = c_plus
class_code class.Wide = c_wide
class_code class.Minus = c_minus
class_code class.Upper = c_upper
class_code class.Digit = c_digit
class_code class.Variable = c_variable
class_code class.Other = c_other
class_code class.Nothing = c_none

-- the kind of a token of one byte, 0 where there is none
abbrev pub single_code : Class → ℕ
single_code (class.Single kind) = token_code kind
single_code _ = 0

-- a token, and a fault by its number and span
abbrev pub of_token : Tok → Scan
of_token t = Token t.kind t.detail t.start t.len t.from t.to

abbrev pub fault_told : Fault → Scan
fault_told f = Bad (reason_code f.reason) f.span.start f.span.end

abbrev pub scan_told : Result TheToken Fault → Scan
scan_told (Ok t) = of_token (token_told t)
scan_told (Err f) = fault_told f

abbrev pub step_told : Result Cursor Fault → Step
step_told (Ok c) = On c
step_told (Err f) = Stop (reason_code f.reason) f.span.start f.span.end

-- the end of a block comment, if it has one
abbrev pub close_told : Option ℕ → Comment
close_told (Some n) = Long n
close_told None = Bare true

abbrev pub comment_told : Result (Option ℕ) Unclosed → Comment
comment_told (Ok (Some n)) = Long n
comment_told (Ok None) = Bare false
comment_told (Err comment) = Bare true

abbrev pub blank_told : Result Place Unclosed → Blank
blank_told (Ok p) = Past p.at p.line
blank_told (Err comment) = Open comment.0.start comment.0.end
