-- Reading gives at most one token more than there are bytes.
use Rattle.std.specs.Prelude.{ℕ, ◌+◌, ◌≤◌, true, List, length}
use Rattle.std.proofs.Common.{arith}
use Rattle.refal_lexer.specs.Carried.{lex_by}
use Rattle.refal_lexer.specs.TokenLaws.{lex_few}

pub few_tokens : (s : List ℕ) → length (lex_by 0 0 true s).tokens ≤ length s + 1
few_tokens s = let h = lex_few 0 0 true s in omega arith
