-- `refal_bound::plain::Variable::bound_by` meets its contract: the pattern's rows before u are searched.
use Rattle.std.proofs.Common.{rules, tests, ◌≡◌, ◌+◌, ◌-◌, min, refl, ◌∙◌, lt-ltb}
use Rattle.std.specs.List.{list_any, range_with_len}
use Rattle.std.proofs.lemmas.Iterator.{YieldsList-from_range}
use Rattle.std.proofs.lemmas.Iterator.Search.{any_from_yields_List}
use Rattle.refal_bound.specs.Bound.{is_variable, bound_by}
use Rattle.refal_bound.proofs.plain.Variable.bound_by.Goals as goal

pub returns-in-Some : goal.returns-in-Some
unfolding bound_by
returns-in-Some c =
    let a = c.args in
    let w = a.self.of.tree.now in
    let s = a.self.of.source.now in
    let p = c.in-Some.p in
    let end = min p.end a.self.row in
    let e : c.any.result ≡ list_any (λ b. is_variable w s a.self.letter a.self.index.now b) (range_with_len (a.t + 1) (end - (a.t + 1))) =
    any_from_yields_List (λ b. is_variable w s a.self.letter a.self.index.now b) _ _ c.any.result c.any.ensures.ran (YieldsList-from_range (a.t + 1) end (end - (a.t + 1)) (cc) refl) (λ x b q k. search (rules, tests)) in
    e
    ∙ rw (c.args.self.lettered, c.args.self.indexed, c.in-Some.ensures.1, c.in-Some.ensures.0, lt-ltb _ _ c.if-row-p.true) refl
