-- `refal_parser::place::Place::argument` meets its contract: terms closed by `:`, with their row.
use Rattle.std.proofs.Common.{refl, ℕ, arith}
use Rattle.refal_ast.specs.Tree.{Terms}
use Rattle.refal_parser.specs.Machine.{asked}
use Rattle.refal_parser.proofs.Steps.{got, stays, not_got, is_at, passed, put_as}
use Rattle.refal_parser.proofs.place.Place.argument.Goals as goal

pub returns-in_err-end : goal.returns-in_err-end
returns-in_err-end c = passed _ _ c.from_residual.ensures.1 (λ x st asks p. not_got c.in_err-end.ensures x (λ (f : Terms) (a e : ℕ). st (asked f a e)) asks p)

pub invariant_of-spanless : goal.invariant_of-spanless
invariant_of-spanless c = let U = got c.in_ok-end.ensures in let R = c.in_ok-end.end.ready in let f = U.few in record { few = omega arith }

pub returns : goal.returns
returns c = let U = got c.in_ok-end.ensures in
    is_at refl (stays c.in_ok-end.ensures) (record {
      g = asked U.g U.closed.a U.closed.e;
      on = U.closed.on;
      few = U.few;
      rows = let p = put_as _ _ _ c.put.ensures c.bare.ensures in let h = U.rows in let k = U.count in cc;
      count = U.count;
      first = U.closed.first;
      last = U.closed.last;
      means = λ x st asks p. U.closed.means x (λ (f : Terms) (a e : ℕ). st (asked f a e)) asks p;
    })
