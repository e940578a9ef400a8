-- What a part of the parser answers: the tokens, the word and the row where it ends; or a refusal in numbers: number, expected, found, span.
use Rattle.std.specs.Prelude.{ℕ, List, Result, Ok, Err}
use Rattle.refal_ast.specs.KindCodes.{token_code}
use Rattle.refal_ast.specs.Told.{reason_code, kind_told}
use Rattle.refal_parser.specs.declared.place.Place.{Place}
use Rattle.refal_parser.specs.declared.answers.SyntaxError.{SyntaxError}

pub data Got : Type 0 where
  At : List ℕ → ℕ → ℕ → Got
  No : ℕ → ℕ → ℕ → ℕ → ℕ → Got

abbrev pub error_told : SyntaxError → Got
error_told e = No (reason_code e.reason) (kind_told e.expected) (token_code e.found) e.span.start e.span.end

abbrev pub got_told : Result Place SyntaxError → Got
got_told (Ok p) = At p.tokens.now p.at p.row
got_told (Err e) = error_told e

-- the same of a part that answers no place, since it ends at the place p where it begins
abbrev pub kept_told : Place → Result (Unit {0}) SyntaxError → Got
kept_told p (Ok _) = At p.tokens.now p.at p.row
kept_told p (Err e) = error_told e
