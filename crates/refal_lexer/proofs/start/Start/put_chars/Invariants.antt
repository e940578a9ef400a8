-- `refal_lexer::start::Start::put_chars` meets its contract.
use Rattle.std.proofs.Common.{◌+◌, ◌-◌, ◌≤◌, ◌<◌, ◌≡◌, length, drop}
use Rattle.refal_lexer.specs.Literals.{char_tokens}
use Rattle.refal_lexer.specs.LiteralLaws.{Fills}
use Rattle.refal_lexer.proofs.start.Start.put_chars.Given as goal

abbrev pub invariant-loop-i : goal.invariant-loop-i
invariant-loop-i l = (1 ≤ l.i) × (l.i ≤ length l.self.src.now) × (l.k < l.n + l.i) × (length l.rows ≡ length l.initial.rows) × Fills (char_tokens l.quote.byte l.self.at l.end 0 (drop l.i l.self.src.now)) (char_tokens l.quote.byte l.self.at l.end 0 (drop 1 l.self.src.now)) l.rows l.initial.rows l.k l.n

abbrev pub decreases-loop-i : goal.decreases-loop-i
decreases-loop-i l = length l.self.src.now - l.i
