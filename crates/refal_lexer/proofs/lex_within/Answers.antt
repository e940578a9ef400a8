-- `refal_lexer::lex_within` meets its contract.
use Rattle.std.proofs.Common.{arith, refl, length}
use Rattle.refal_lexer.specs.ReadLaws.{read_done, answer_lexed}
use Rattle.refal_lexer.proofs.lex_within.Goals as goal

pub returns-clause-rows_after : goal.returns-clause-rows_after
returns-clause-rows_after c = let a = c.args in
    let e = answer_lexed a.src.now (length a.rows.now) _ _ _ (omega arith) c.in_default.ensures.told (omega arith) c.in_ok-count.ensures.value refl in
    (read_done a.src.now a.rows.now _ _ c.in_ok-count.ensures.value e (omega arith) c.in_ok-count.ensures.rows_after).1
