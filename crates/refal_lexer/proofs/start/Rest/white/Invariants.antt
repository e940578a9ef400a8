-- `refal_lexer::start::Rest::white` meets its contract.
use Rattle.std.proofs.Common.{◌+◌, ◌-◌, ◌≤◌, ◌≡◌, length, drop}
use Rattle.refal_lexer.specs.Carried.{whites}
use Rattle.refal_lexer.proofs.start.Rest.white.Given as goal

abbrev pub invariant-loop-i : goal.invariant-loop-i
invariant-loop-i l = (l.i ≤ length l.self.src.now) × (whites 0 (l.self.at + l.i) l.line (drop l.i l.self.src.now) ≡ whites 0 l.self.at l.fn.line l.self.src.now)

abbrev pub decreases-loop-i : goal.decreases-loop-i
decreases-loop-i l = length l.self.src.now - l.i
