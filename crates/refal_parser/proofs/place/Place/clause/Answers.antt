-- `refal_parser::place::Place::clause` meets its contract: terms up to one of two kinds, with their row.
use Rattle.std.proofs.Common.{refl, arith}
use Rattle.refal_parser.proofs.Steps.{got, stays, not_got, is_at, passed, put_as}
use Rattle.refal_parser.proofs.TermLaws.{clause_of_terms, clause_no}
use Rattle.refal_parser.proofs.place.Place.clause.Goals as goal

pub returns-in_err-end : goal.returns-in_err-end
returns-in_err-end c = passed _ _ c.from_residual.ensures.1 (λ q st h. not_got c.in_err-end.ensures q)

pub invariant_of-spanless : goal.invariant_of-spanless
invariant_of-spanless c = let T = got c.in_ok-end.ensures in let R = c.in_ok-end.end.ready in let f = T.few in record { few = omega arith }

pub returns-in_err-follows : goal.returns-in_err-follows
returns-in_err-follows c = let s = stays c.in_ok-end.ensures in
    passed _ _ c.from_residual-in_err-follows.ensures.1 (clause_no _ (rw s at c.in_ok-end.end.ready) (got c.in_ok-end.ensures) ((not_got (rw s at c.in_err-follows.ensures)).of_terms refl))

pub returns : goal.returns
returns c = let T = got c.in_ok-end.ensures in
    let s = stays c.in_ok-end.ensures in
    is_at refl s (clause_of_terms _ (rw s at c.in_ok-end.end.ready) T (got (rw s at c.in_ok-follows.ensures)) (let p = put_as _ _ _ c.put.ensures c.bare.ensures in let h = T.rows in let k = T.count in cc))
