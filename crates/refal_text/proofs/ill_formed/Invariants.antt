-- `refal_text::ill_formed` meets its contract: characters and runs of ASCII up to the first ill-formed sequence.
use Rattle.std.proofs.Common.{◌+◌, ◌-◌, ◌≤◌, ◌≡◌, length, drop}
use Rattle.refal_text.specs.Utf8.{well_to}
use Rattle.refal_text.proofs.ill_formed.Given as goal

abbrev pub invariant-loop-at : goal.invariant-loop-at
invariant-loop-at l = (l.at ≤ length l.src) × (l.at + well_to 0 (drop l.at l.src) ≡ well_to 0 l.src)

abbrev pub decreases-loop-at : goal.decreases-loop-at
decreases-loop-at l = length l.src - l.at
