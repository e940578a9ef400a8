-- `refal_spelling::spellings` meets its contract: a row at a time.
use Rattle.std.proofs.Common.{arith, ◌∙◌, sym, refl}
use Rattle.refal_ast.specs.Nodes.{node_at}
use Rattle.refal_ast.specs.Rows.{node_told}
use Rattle.refal_spelling.specs.Spellings.{all_spelled}
use Rattle.refal_spelling.specs.SpellingLaws.{row_unknown, spelled_stop, spelled_on, spelled_short}
use Rattle.refal_spelling.proofs.spellings.Goals as goal

pub loop-row-init : goal.loop-row-init
unfolding all_spelled
loop-row-init c = record { size = (cc); rest = rw (c.into_iter-row-iterator.ensures.into_iter_gives, c.chunks_exact-row-items.ensures.rest) }

pub returns-then-not-row_spelled : goal.returns-then-not-row_spelled
returns-then-not-row_spelled c = let s = c.in-Some.ensures.steps.1 in
    sym (c.loop-row.invariant.rest
    ∙ spelled_stop c.args.src.now _ c.in-Some.row.now _ (node_told c.in-Ok.node) s.0 (s.1 ∙ c.loop-row.invariant.size) c.in-Ok.ensures (sym c.if-not-row_spelled.ensures))

pub loop-row-preserved-in_default : goal.loop-row-preserved-in_default
loop-row-preserved-in_default c = let s = c.in-Some.ensures.steps in record {
  size = s.0 ∙ c.loop-row.invariant.size;
  rest = c.loop-row.invariant.rest ∙ spelled_on c.args.src.now _ c.in-Some.row.now _ (node_at c.in-Some.row.now 0) s.1.0 (s.1.1 ∙ c.loop-row.invariant.size) refl (row_unknown _ _ _ _ _ c.in_default.ensures.1);
}

pub loop-row-preserved : goal.loop-row-preserved
loop-row-preserved c = let s = c.in-Some.ensures.steps in record {
  size = s.0 ∙ c.loop-row.invariant.size;
  rest = c.loop-row.invariant.rest ∙ spelled_on c.args.src.now _ c.in-Some.row.now _ (node_told c.in-Ok.node) s.1.0 (s.1.1 ∙ c.loop-row.invariant.size) c.in-Ok.ensures (sym c.if-not-row_spelled.ensures);
}

pub returns : goal.returns
returns c = let s = c.in-None.ensures.steps.1 in let i = c.loop-row.invariant in sym (i.rest ∙ spelled_short _ _ (omega (arith, s.0, i.size)))
