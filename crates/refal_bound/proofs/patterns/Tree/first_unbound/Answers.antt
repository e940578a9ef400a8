-- `refal_bound::patterns::Tree::first_unbound` meets its contract: the first row that is unbound.
use Rattle.std.proofs.Common.{rules, tests, ◌≡◌, ◌-◌, refl, sym, ◌∙◌, option_map, Option, Some, None, ℕ}
use Rattle.std.proofs.lemmas.Iterator.{YieldsList-from_range}
use Rattle.std.proofs.lemmas.Iterator.Search.{find_from_yields_List}
use Rattle.refal_files.specs.FileLaws.{row_count}
use Rattle.refal_bound.specs.Bound.{is_unbound, first_unbound}
use Rattle.refal_bound.proofs.patterns.Tree.first_unbound.Goals as goal

same : (o : Option ℕ) → option_map (λ (x : ℕ). x) o ≡ o
same None = refl
same (Some x) = refl

pub returns : goal.returns
unfolding first_unbound
returns c =
    let w = c.args.self.tree.now in
    let s = c.args.self.source.now in
    let n = row_count w in
    sym (same c.find.result)
    ∙ find_from_yields_List (λ u. is_unbound w s u) _ _ c.find.result c.find.ensures.ran (YieldsList-from_range 0 n (n - 0) (cc) refl) (λ x b q k. search (rules, tests))
