-- `refal_lexer::lex` meets its contract.
use Rattle.std.proofs.Common.{◌-◌, ◌≤◌, ◌≡◌, length, drop}
use Rattle.refal_lexer.specs.LexLaws.{Leads}
use Rattle.refal_lexer.specs.Carried.{lex_by}
use Rattle.refal_lexer.specs.Source.{source}
use Rattle.refal_lexer.proofs.lex.Given as goal

abbrev pub invariant-loop-place : goal.invariant-loop-place
invariant-loop-place l = (l.c.at ≤ length l.src) × (l.c.row ≤ l.c.at) × (length l.rows ≡ length l.initial.rows) × Leads (lex_by 0 l.c.at l.c.line (drop l.c.at l.src)) (source l.src) l.rows l.initial.rows l.c.row

abbrev pub decreases-loop-place : goal.decreases-loop-place
decreases-loop-place l = length l.src - l.c.at
