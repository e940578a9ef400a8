-- What the code's answers tell, in the numbers of documents 01 and 02.
use Rattle.std.specs.Prelude.{ℕ, Result, Ok, Err, Option, Some, None}
use Rattle.refal_ast.specs.KindCodes.{token_code}
use Rattle.refal_ast.specs.Answers.{refusal, Refusal, Answer, Done, Refused}
use Rattle.refal_ast.specs.declared.kinds.TokenKind.{TokenKind}
use Rattle.refal_ast.specs.declared.answers.Reason.{Reason}
use Rattle.refal_ast.specs.declared.answers.Reason.TheVariants as reason
use Rattle.refal_ast.specs.declared.answers.File.{File}
use Rattle.refal_ast.specs.declared.answers.File.TheVariants as file
use Rattle.refal_ast.specs.declared.answers.Found.{Found}
use Rattle.refal_ast.specs.declared.answers.Found.TheVariants as what
use Rattle.refal_ast.specs.declared.answers.Refusal.{Refusal as Told}

-- a reason's number
abbrev pub reason_code : Reason → ℕ
reason_code reason.SourceTooLong = 1
reason_code reason.IllFormed = 2
reason_code reason.UnexpectedCharacter = 10
reason_code reason.UnknownDirective = 11
reason_code reason.IndexMissing = 12
reason_code reason.IndexTooLong = 13
reason_code reason.NameStart = 14
reason_code reason.NameTooLong = 15
reason_code reason.FractionMissing = 16
reason_code reason.ExponentMissing = 17
reason_code reason.SignedWhole = 18
reason_code reason.MacrodigitTooLarge = 19
reason_code reason.LiteralTooLong = 20
reason_code reason.LiteralEmpty = 21
reason_code reason.LiteralNewline = 22
reason_code reason.LiteralUnclosed = 23
reason_code reason.CommentUnclosed = 24
reason_code reason.TokenRowsShort = 25
reason_code reason.NoTokenRows = 30
reason_code reason.DeclarationName = 31
reason_code reason.ItemName = 32
reason_code reason.CallName = 33
reason_code reason.NoTerm = 34
reason_code reason.OtherKind = 35
reason_code reason.VariableLetter = 36
reason_code reason.TooDeep = 37
reason_code reason.NodeRowsShort = 38
reason_code reason.NoTree = 40
reason_code reason.NotSpelled = 41
reason_code reason.TextTooLong = 42
reason_code reason.OutputShort = 50
reason_code reason.FunctionRepeated = 60
reason_code reason.FunctionMissing = 61
reason_code reason.VariableUnbound = 62
reason_code reason.NoReal = 64
reason_code reason.ExponentTooLong = 65
reason_code reason.DigitsShort = 66

-- a token kind's number, 0 where there is none
abbrev pub kind_told : Option TokenKind → ℕ
kind_told None = 0
kind_told (Some kind) = token_code kind

abbrev pub file_code : File → ℕ
file_code file.One = 1
file_code file.Two = 2

-- what was found: a token kind's number, or a file's
abbrev pub found_told : Option Found → ℕ
found_told None = 0
found_told (Some (what.Token kind)) = token_code kind
found_told (Some (what.File f)) = file_code f

abbrev pub refusal_told : Told → Refusal
refusal_told r = refusal (reason_code r.reason) (kind_told r.expected) (found_told r.found) r.span.start r.span.end r.need

-- the answer of a call
abbrev pub told : Result ℕ Told → Answer
told (Ok n) = Done n
told (Err r) = Refused (refusal_told r)
