-- `refal_ast::names::equal` meets its contract: the bytes are compared pair by pair.
use Rattle.std.proofs.Common.{arith, rules, tests, ◌≡◌, ◌∙◌, sym, ne_eqb, ℕ, eqb, zip}
use Rattle.std.specs.List.{list_all}
use Rattle.std.proofs.lemmas.Iterator.{YieldsList-from_slice, YieldsList-from_zip}
use Rattle.std.proofs.lemmas.Iterator.Consumers.{YieldsList-at}
use Rattle.std.proofs.lemmas.Iterator.Search.{all_from_yields_List}
use Rattle.refal_ast.specs.NamesCode.{all_equal, equal_long}
use Rattle.refal_ast.proofs.names.equal.Goals.{then-left-right, else-left-right}
use Rattle.refal_ast.proofs.names.equal.Goals as goal

pub returns : goal.returns
returns g c = elim c.if-left-right.branch [
  | then-left-right w ↦
      let a = c.args.left.now in
      let b = c.args.right.now in
      let same = λ (p : ℕ × ℕ). eqb (g.f p.0) (g.f p.1) in
      let pairs = YieldsList-from_zip (YieldsList-at w.zip.ensures.first (YieldsList-from_slice a w.iter.ensures.rest)) (YieldsList-from_slice b w.zip.ensures.second.0) in
      let e : w.all.result ≡ list_all same (zip a b) = all_from_yields_List same w.all.new.self _ w.all.result w.all.ensures.ran pairs (λ x t q k. search (rules, tests)) in
      w.result-is ∙ e ∙ all_equal g.f a b (omega arith)
  | else-left-right w ↦ w.result-is ∙ ne_eqb _ _ w.if-left-right.false ∙ sym (equal_long g.f _ _ w.if-left-right.false)
]
