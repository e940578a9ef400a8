-- `refal_parser::check::check`: the tests of the rows so far, and of those that are left with the last.
use Rattle.std.proofs.Common.{◌≡◌, ◌&&◌, ◌++◌, ◌∷◌, [], drop}
use Rattle.refal_ast.specs.Tokens.{tokens_of}
use Rattle.refal_ast.specs.Check.{ok_tokens}
use Rattle.refal_parser.proofs.CheckLaws.{rows_told}
use Rattle.refal_parser.proofs.check.check.Given as goal

abbrev pub invariant-loop-row : goal.invariant-loop-row
invariant-loop-row l = ok_tokens (tokens_of l.tokens) ≡ l.good && ok_tokens (rows_told (drop l.row-index l.before ++ l.last ∷ []))
