-- `refal_parser::check::check` meets its contract: one pass over the rows, each token good, an Eof last.
use Rattle.std.proofs.Common.{◌≡◌, ◌∙◌, ◌&&◌, Bool, false, [], leb, get_or, sym, ap, arith}
use Rattle.refal_ast.specs.Check.{ok_tokens, well_formed}
use Rattle.refal_parser.proofs.CheckLaws.{rows_told, by_rows, ok_on, ok_end, no_word, well, ragged, too_long}
use Rattle.refal_parser.proofs.check.check.Goals.{then-n-ne0-via-then-n-ne0, then-n-ne0-via-else-n-ne0+then-n-gt-MOST_WORDS}
use Rattle.refal_parser.proofs.check.check.Goals as goal

pub returns-then-n-ne0 : goal.returns-then-n-ne0
returns-then-n-ne0 c = let w₀ = c.args.tokens.now in
    let e : well_formed w₀ ≡ false = elim c.then-n-ne0.branch [
      | then-n-ne0-via-then-n-ne0 w ↦ ragged _ w.if-n-ne0.true
      | then-n-ne0-via-else-n-ne0+then-n-gt-MOST_WORDS w ↦ too_long _ w.if-n-ne0.false w.if-n-gt-MOST_WORDS.true
    ] in
    sym e

pub returns-in_default : goal.returns-in_default
returns-in_default c = sym (no_word c.args.tokens.now (omega (arith, c.if-n-ne0.false, c.as_chunks.ensures.front_len, c.in_default.ensures.cases)))

pub loop-row-init : goal.loop-row-init
loop-row-init c = ap ok_tokens (by_rows _ c.args.tokens.now (omega (arith, c.if-n-ne0.false)) ∙ ap rows_told (sym c.as_chunks.ensures.front ∙ c.in-Some.ensures.cases.0))

pub loop-row-preserved : goal.loop-row-preserved
loop-row-preserved c = let row = get_or c.in-Some.before.now c.loop-row.row-index [] in
    ok_on c.in-Some.before.now c.in-Some.last.now c.loop-row.row-index _ c.loop-row.good _ (omega (arith, c.loop-row-test.true))
    (ap (λ (b : Bool). (leb 1 (get_or row 0 0) && leb (get_or row 0 0) 16) && b) c.good_fields.ensures)
    c.loop-row.invariant

pub returns : goal.returns
returns c = sym (well c.args.tokens.now _ c.if-n-ne0.false c.if-n-gt-MOST_WORDS.false
    (ok_end c.in-Some.before.now c.in-Some.last.now c.loop-row.row-index _ c.loop-row.good _ (omega (arith, c.loop-row-test.false)) c.good_fields-2.ensures c.loop-row.invariant))
