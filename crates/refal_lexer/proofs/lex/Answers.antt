-- `refal_lexer::lex` meets its contract.
use Rattle.std.proofs.Common.{ℕ, arith, refl, sym, ap, ◌∙◌}
use Rattle.std.proofs.lemmas.Result.{err_from_is_err_and}
use Rattle.refal_ast.specs.Answers.{Refused}
use Rattle.refal_ast.specs.Tokens.{Token, token, words}
use Rattle.refal_rows.specs.Rows.{put_row}
use Rattle.refal_lexer.specs.Source.{source}
use Rattle.refal_lexer.specs.LexLaws.{leads_start, leads_on, leads_bad, leads_done}
use Rattle.refal_lexer.specs.StarLaws.{source_is}
use Rattle.refal_lexer.specs.TurnLaws.{blanks_never, blanks_past, end_at, end_here, start_at, turn_on, turn_stop}
use Rattle.refal_lexer.proofs.lex.Goals as goal

pub loop-place-init : goal.loop-place-init
loop-place-init c = let s = c.args.src.now in (omega arith, omega arith, refl, leads_on (source s) _ _ _ _ _ (source_is s) (leads_start _ _))

pub returns-in_err-place : goal.returns-in_err-place
returns-in_err-place c = let s = c.args.src.now in let C = c.loop-place.c in
    let p = err_from_is_err_and c.from_residual.result c.from_residual.ensures.1 in
    let r = leads_bad _ _ _ _ _ _ _ _ _ (rw (p.1) (ap Refused p.2)) (blanks_never s C.at C.line _ c.loop-place.invariant.0 _ _ c.from.ensures c.in_err-place.ensures _ _ refl) c.loop-place.invariant.3 in
    record { value = r.0; rows_after = r.1 }

pub from-rest-requires : goal.from-rest-requires
from-rest-requires c = let B = blanks_past c.args.src.now c.loop-place.c.at c.loop-place.c.line _ c.loop-place.invariant.0 _ _ c.from.ensures c.in_ok-place.ensures _ _ refl in let hi = B.1 in (omega arith, omega arith)

pub returns-in_default : goal.returns-in_default
returns-in_default c = let s = c.args.src.now in let C = c.loop-place.c in let B = blanks_past s C.at C.line _ c.loop-place.invariant.0 _ _ c.from.ensures c.in_ok-place.ensures _ _ refl in
    let p = c.in_ok-place.place.at in
    let e = c.eof.ensures ∙ ap (λ (n : ℕ). token 17 0 0 0 n n) c.from-rest.ensures.0 in
    let r = leads_done _ _ _ _ _ _ _ (B.2 ∙ end_here s _ (end_at s p _ _ c.from-rest.ensures c.in_default.ensures.none)) (c.put.ensures ∙ ap (λ (t : Token). put_row 6 c.loop-place.rows C.row (words t)) e) c.loop-place.invariant.3 in
    record { value = r.0; rows_after = r.1 }

pub put_next-requires : goal.put_next-requires
put_next-requires c = let s = c.args.src.now in let C = c.loop-place.c in let B = blanks_past s C.at C.line _ c.loop-place.invariant.0 _ _ c.from.ensures c.in_ok-place.ensures _ _ refl in
    let lo = B.0 in let q = c.from-rest.ensures.0 in let m = c.in-Some.ensures.some.1 in omega arith

pub returns-in_err-c : goal.returns-in_err-c
returns-in_err-c c = let s = c.args.src.now in let C = c.loop-place.c in let p = c.in_ok-place.place.at in let B = blanks_past s C.at C.line _ c.loop-place.invariant.0 _ _ c.from.ensures c.in_ok-place.ensures _ _ refl in
    let q = start_at s p _ _ c.from-rest.ensures _ _ c.in-Some.ensures.some c.in-Some.start.some in
    let f = err_from_is_err_and c.from_residual-in_err-c.result c.from_residual-in_err-c.ensures.1 in
    let r = turn_stop s p C.row _ (q.0) (q.1) _ _ _ _ _ _ _ _ (rw (f.1) (ap Refused f.2)) (sym c.in_err-c.ensures.value) c.put_next.ensures.rows_after (leads_on _ _ _ _ _ _ B.2 c.loop-place.invariant.3) in
    record { value = r.0; rows_after = r.1 }

pub loop-place-smaller : goal.loop-place-smaller
loop-place-smaller c = let s = c.args.src.now in let C = c.loop-place.c in let p = c.in_ok-place.place.at in let B = blanks_past s C.at C.line _ c.loop-place.invariant.0 _ _ c.from.ensures c.in_ok-place.ensures _ _ refl in let lo = B.0 in
    let q = start_at s p _ _ c.from-rest.ensures _ _ c.in-Some.ensures.some c.in-Some.start.some in
    let t = turn_on s p C.row _ (q.0) (q.1) _ _ _ _ _ (sym c.in_ok-c.ensures.value) c.put_next.ensures.rows_after (leads_on _ _ _ _ _ _ B.2 c.loop-place.invariant.3) (omega arith) in
    let x = t.0 in let y = t.1 in omega arith

pub loop-place-preserved : goal.loop-place-preserved
loop-place-preserved c = let s = c.args.src.now in let C = c.loop-place.c in let p = c.in_ok-place.place.at in let B = blanks_past s C.at C.line _ c.loop-place.invariant.0 _ _ c.from.ensures c.in_ok-place.ensures _ _ refl in let lo = B.0 in
    let q = start_at s p _ _ c.from-rest.ensures _ _ c.in-Some.ensures.some c.in-Some.start.some in
    let t = turn_on s p C.row _ (q.0) (q.1) _ _ _ _ _ (sym c.in_ok-c.ensures.value) c.put_next.ensures.rows_after (leads_on _ _ _ _ _ _ B.2 c.loop-place.invariant.3) (omega arith) in
    (t.1, t.2, c.put_next.auto.rows ∙ c.loop-place.invariant.2, t.3)
