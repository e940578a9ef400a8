-- `refal_lexer::start::Start::behind` meets its contract.
use Rattle.std.proofs.Common.{◌-◌, ◌≤◌, ◌<◌, ◌≡◌, length, drop}
use Rattle.refal_lexer.specs.Literals.{lit_from}
use Rattle.refal_lexer.proofs.start.Start.behind.Given as goal

abbrev pub invariant-loop-i : goal.invariant-loop-i
invariant-loop-i l = (1 ≤ l.i) × (l.i ≤ length l.self.src.now) × (l.n < l.i) × (lit_from l.quote.byte 0 l.i l.n (drop l.i l.self.src.now) ≡ lit_from l.quote.byte 0 1 0 (drop 1 l.self.src.now))

abbrev pub decreases-loop-i : goal.decreases-loop-i
decreases-loop-i l = length l.self.src.now - l.i
