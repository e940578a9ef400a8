-- Levels: one less, and below a row no more than at it.
use Rattle.std.specs.Prelude.{ℕ, zero, suc, ◌≤◌, Bool, true, false}
use Rattle.std.proofs.Common.{arith}
use Rattle.refal_tree.specs.States.{pick_state, opens, lower, below}

-- levels never rise
pub below_le : (st k left : ℕ) → below st k left ≤ left
below_le st k left = go (opens st k) left
  where
    go : (b : Bool) (n : ℕ) → pick_state b (lower n) n ≤ n
    go true zero = omega arith
    go true (suc n) = omega arith
    go false n = omega arith
