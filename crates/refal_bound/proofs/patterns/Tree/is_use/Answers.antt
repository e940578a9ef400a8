-- `refal_bound::patterns::Tree::is_use` meets its contract: the rows before are searched for a pattern.
use Rattle.std.proofs.Common.{rules, tests, ◌≡◌, ◌&&◌, ◌-◌, not, refl, ap, sym, ◌∙◌, Bool}
use Rattle.std.specs.List.{list_any, range_with_len}
use Rattle.std.proofs.lemmas.Iterator.{YieldsList-from_range}
use Rattle.std.proofs.lemmas.Iterator.Search.{any_from_yields_List}
use Rattle.refal_bound.specs.Bound.{binds_in, is_use}
use Rattle.refal_bound.proofs.patterns.Tree.is_use.Goals as goal

pub returns-then-is_kind : goal.returns-then-is_kind
unfolding is_use
returns-then-is_kind c =
    let w = c.args.self.tree.now in
    let u = c.args.u in
    let e : c.any.result ≡ list_any (λ t. binds_in w u t) (range_with_len 0 (u - 0)) =
    any_from_yields_List (λ t. binds_in w u t) _ _ c.any.result c.any.ensures.ran (YieldsList-from_range 0 u (u - 0) refl refl) (λ x b q k. search (rules, tests)) in
    ap not e ∙ sym (ap (λ (b : Bool). b && not (list_any (λ t. binds_in w u t) (range_with_len 0 (u - 0)))) (sym c.is_kind.ensures ∙ c.if-is_kind.true))
