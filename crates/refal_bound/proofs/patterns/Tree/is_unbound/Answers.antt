-- `refal_bound::patterns::Tree::is_unbound` meets its contract: the rows before are searched for a pattern that binds an equal variable.
use Rattle.std.proofs.Common.{rules, tests, ◌≡◌, ◌&&◌, ◌-◌, not, refl, ap, sym, ◌∙◌, Bool}
use Rattle.std.specs.List.{list_any, range_with_len}
use Rattle.std.proofs.lemmas.Iterator.{YieldsList-from_range}
use Rattle.std.proofs.lemmas.Iterator.Search.{any_from_yields_List}
use Rattle.refal_bound.specs.Bound.{bound_by, is_unbound}
use Rattle.refal_bound.specs.BoundLaws.{unbound_unknown}
use Rattle.refal_bound.proofs.patterns.Tree.is_unbound.Goals as goal

pub returns-in_default : goal.returns-in_default
returns-in_default c = sym (unbound_unknown _ _ _ c.in_default.ensures.1)

pub returns-then-is_use : goal.returns-then-is_use
unfolding is_unbound
returns-then-is_use c =
    let w = c.args.self.tree.now in
    let s = c.args.self.source.now in
    let u = c.args.u in
    let e : c.any.result ≡ list_any (λ t. bound_by w s u t) (range_with_len 0 (u - 0)) =
    any_from_yields_List (λ t. bound_by w s u t) _ _ c.any.result c.any.ensures.ran (YieldsList-from_range 0 u (u - 0) refl refl) (λ x b q k. search (rules, tests)) in
    ap not e ∙ sym (ap (λ (b : Bool). b && not (list_any (λ t. bound_by w s u t) (range_with_len 0 (u - 0)))) (sym c.is_use.ensures ∙ c.if-is_use.true))
