-- `refal_real::exponent::number` meets its contract.
use Rattle.std.proofs.Common.{arith, ◌<◌}
use Rattle.refal_real.specs.Loops.{makes_none, makes_next, makes_small, makes_all, digit_in}
use Rattle.refal_real.proofs.exponent.number.Goals as goal

pub loop-digit-init : goal.loop-digit-init
loop-digit-init c = makes_none c.args.digits.now

pub overflow_mul-value : goal.overflow_mul-value
overflow_mul-value c = let b : c.loop-digit.value < 100000000 = makes_small c.args.digits.now c.loop-digit.digit-index c.loop-digit.value (omega arith) c.loop-digit.invariant in omega arith

pub overflow_sub-digit : goal.overflow_sub-digit
overflow_sub-digit c = (digit_in c.args.digits.now c.loop-digit.digit-index c.requires.1 (omega arith)).0

pub overflow_add-value : goal.overflow_add-value
overflow_add-value c = let b : c.loop-digit.value < 100000000 = makes_small c.args.digits.now c.loop-digit.digit-index c.loop-digit.value (omega arith) c.loop-digit.invariant in omega (arith, c.type_inv.digits c.loop-digit.digit-index)

pub loop-digit-preserved : goal.loop-digit-preserved
loop-digit-preserved c = rw c.from.ensures (makes_next c.args.digits.now c.loop-digit.digit-index c.loop-digit.value (omega arith) c.requires.1 c.loop-digit.invariant)

pub returns : goal.returns
returns c = makes_all c.args.digits.now c.loop-digit.digit-index c.loop-digit.value (omega arith) c.loop-digit.invariant
