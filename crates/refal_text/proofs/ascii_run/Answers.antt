-- `refal_text::ascii_run` meets its contract: whole blocks, then bytes.
use Rattle.std.proofs.Common.{arith, rules, tests, ◌≡◌, ◌∙◌, ◌*◌, ◌/◌, length, drop, length-drop, take_all}
use Rattle.std.specs.Bool.{MatchBool}
use Rattle.std.specs.Str.{IsAscii, IsNotAscii}
use Rattle.std.specs.List.{list_all, prefix_len}
use Rattle.std.specs.Simd.{first_chunks}
use Rattle.std.proofs.lemmas.Iterator.{YieldsList-from_slice}
use Rattle.std.proofs.lemmas.Iterator.Consumers.{count_from_yields_List, YieldsList-at}
use Rattle.std.proofs.lemmas.Iterator.Search.{YieldsList-from_take_while}
use Rattle.std.proofs.lemmas.List.Folds.{length-prefix_len}
use Rattle.refal_text.specs.Utf8.{ascii}
use Rattle.refal_text.specs.AsciiLaws.{ascii_cases, span_bytes, span_blocks}
use Rattle.refal_text.proofs.ascii_run.Goals as goal

pub returns-clause-run : goal.returns-clause-run
returns-clause-run c =
    let s = c.args.src.now in
    let blocks = first_chunks 32 (length s / 32) s in
    let n : c.count-whole.result ≡ prefix_len (list_all ascii) blocks =
    count_from_yields_List c.take_while.result _ c.count-whole.ensures.ran (YieldsList-from_take_while _ (list_all ascii) (YieldsList-from_slice blocks cc) c.take_while.ensures.closure c.take_while.ensures.done (λ x b q k. let m : MatchBool b (IsAscii x.now) (IsNotAscii x.now) = search rules in (search rules, ascii_cases x.now b m)))
    ∙ length-prefix_len (list_all ascii) blocks in
    let at = drop (32 * c.count-whole.result) s in
    let m : c.count.result ≡ prefix_len ascii at =
    count_from_yields_List c.take_while-2.result _ c.count.ensures.ran (YieldsList-from_take_while _ ascii (YieldsList-at c.take_while-2.ensures.source (YieldsList-from_slice at (c.iter-2.ensures.rest ∙ take_all _ at (omega (arith, length-drop (32 * c.count-whole.result) s))))) c.take_while-2.ensures.closure c.take_while-2.ensures.done (λ x b q k. search (rules, tests)))
    ∙ length-prefix_len ascii at in
    let r = span_blocks 32 (length s / 32) s (omega arith) in
    rw (m, span_bytes at, n) r
