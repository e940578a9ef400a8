-- `refal_writer::bytes::RefArrayU8Put::put` meets its contract.
use Rattle.std.proofs.Common.{◌≡◌, arith, refl, ap, subst, ◌++◌, length, min, take, drop, take_all}
use Rattle.refal_writer.specs.Puts.{Puts, all_put, front_put}
use Rattle.refal_writer.proofs.bytes.RefArrayU8Put.put.Goals as goal

pub returns-after-loop-i : goal.returns-after-loop-i
returns-after-loop-i g c =
    let t = c.args.self.now in
    let n : c.loop-i.i ≡ g.row.N = omega arith in
    let long : length t ≡ g.row.N = omega arith in
    (rw (c.loop-i.invariant, n) (all_put t c.args.out.now (take g.row.N t) g.row.N long c.if-out.true (take_all g.row.N t (omega arith))), omega arith)

pub returns-after-loop-i-else-out : goal.returns-after-loop-i-else-out
returns-after-loop-i-else-out g c =
    let t = c.args.self.now in
    let o = c.args.out.now in
    let all : c.loop-i-else-out.i ≡ length t = omega arith in
    let long : length t ≡ g.row.N = omega arith in
    let n = min c.loop-i-else-out.i (length o) in
    (rw c.loop-i-else-out.invariant (subst (λ k. Puts t k o (take n t ++ drop n o)) long (front_put t o (take n t) n (ap (λ k. min k (length o)) all) refl)), omega arith)
