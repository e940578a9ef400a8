-- `refal_lexer::runs::run_end` meets its contract: as many bytes as are taken while the test holds.
use Rattle.std.proofs.Common.{arith, rules, ℕ, Bool, true, false, List, [], ◌∷◌, ◌≡◌, ◌∙◌, ◌+◌, ap, suc, drop, length-drop, take_all, refl}
use Rattle.std.specs.Prelude.{cond}
use Rattle.std.specs.List.{prefix_len}
use Rattle.std.proofs.lemmas.Iterator.{YieldsList-from_slice}
use Rattle.std.proofs.lemmas.Iterator.Consumers.{count_from_yields_List, YieldsList-at}
use Rattle.std.proofs.lemmas.Iterator.Search.{YieldsList-from_take_while}
use Rattle.std.proofs.lemmas.List.Folds.{length-prefix_len}
use Rattle.refal_text.specs.Pick.{pick}
use Rattle.refal_text.specs.Span.{span}
use Rattle.refal_lexer.proofs.runs.run_end.Goals as goal

prefix_span : (p : ℕ → Bool) (s : List ℕ) → prefix_len p s ≡ span p s
prefix_span p [] = refl
prefix_span p (b ∷ s) = go (p b) (prefix_span p s)
  where
    go : (t : Bool) → prefix_len p s ≡ span p s → cond t (1 + prefix_len p s) 0 ≡ pick t (suc (span p s)) 0
    go true e = omega arith
    go false e = refl

pub returns-clause-run : goal.returns-clause-run
returns-clause-run g c =
    let rest = drop c.args.at c.args.src.now in
    let n : c.count.result ≡ prefix_len g.passes rest =
    count_from_yields_List c.take_while.result _ c.count.ensures.ran (YieldsList-from_take_while _ g.passes (YieldsList-at c.take_while.ensures.source (YieldsList-from_slice rest (c.iter.ensures.rest ∙ take_all _ rest (omega (arith, length-drop c.args.at c.args.src.now))))) c.take_while.ensures.closure c.take_while.ensures.done (λ x b q k. search rules))
    ∙ length-prefix_len g.passes rest in
    ap (λ (k : ℕ). c.args.at + k) (n ∙ prefix_span g.passes rest)
