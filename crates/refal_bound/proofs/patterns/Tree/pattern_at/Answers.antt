-- `refal_bound::patterns::Tree::pattern_at` meets its contract: each return by the law of what it has found.
use Rattle.std.proofs.Common.{◌≡◌, true, false, eqb}
use Rattle.refal_ast.specs.Kinds.{node_sentence, node_condition, node_terms}
use Rattle.refal_ast.specs.KindCodes.{node_code}
use Rattle.refal_bound.specs.BoundLaws.{scope_unknown, not_terms, parent_unknown, at_first, first_other, parent_other, outer_unknown, outer_other, at_second}
use Rattle.refal_bound.proofs.patterns.Tree.pattern_at.Goals as goal

pub returns-in_default : goal.returns-in_default
returns-in_default c = scope_unknown _ _ c.in_default.ensures

pub returns-then-not-is : goal.returns-then-not-is
returns-then-not-is c = not_terms _ _ _ c.in-Some.ensures (let e : eqb (node_code c.in-Some.terms.kind) node_terms ≡ false = cc in e)

pub returns-in_default-row : goal.returns-in_default-row
returns-in_default-row c = parent_unknown _ _ _ c.in-Some.ensures (let e : eqb (node_code c.in-Some.terms.kind) node_terms ≡ true = cc in e) c.in_default-row.ensures

pub returns-then-not-is-2 : goal.returns-then-not-is-2
returns-then-not-is-2 c =
    first_other _ _ _ c.in-Some.ensures _ c.in-Some-row.ensures
    (let e : eqb (node_code c.in-Some.terms.kind) node_terms ≡ true = cc in e) c.if-t-above.true (let e : eqb (node_code c.in-Some-row.parent.kind) node_sentence ≡ false = cc in e)

pub returns-then-t-above : goal.returns-then-t-above
returns-then-t-above c =
    at_first _ _ _ c.in-Some.ensures _ c.in-Some-row.ensures
    (let e : eqb (node_code c.in-Some.terms.kind) node_terms ≡ true = cc in e) c.if-t-above.true (let e : eqb (node_code c.in-Some-row.parent.kind) node_sentence ≡ true = cc in e)

pub returns-then-not-is-3 : goal.returns-then-not-is-3
returns-then-not-is-3 c =
    parent_other _ _ _ c.in-Some.ensures _ c.in-Some-row.ensures
    (let e : eqb (node_code c.in-Some.terms.kind) node_terms ≡ true = cc in e) c.if-t-above.false (let e : eqb (node_code c.in-Some-row.parent.kind) node_condition ≡ false = cc in e)

pub returns-in_default-row-2 : goal.returns-in_default-row-2
returns-in_default-row-2 c =
    outer_unknown _ _ _ c.in-Some.ensures _ c.in-Some-row.ensures
    (let e : eqb (node_code c.in-Some.terms.kind) node_terms ≡ true = cc in e) c.if-t-above.false c.in_default-row-2.ensures

pub returns-then-not-is-4 : goal.returns-then-not-is-4
returns-then-not-is-4 c =
    outer_other _ _ _ c.in-Some.ensures _ c.in-Some-row.ensures _ c.in-Some-row-2.ensures
    (let e : eqb (node_code c.in-Some.terms.kind) node_terms ≡ true = cc in e) c.if-t-above.false (let e : eqb (node_code c.in-Some-row-2.sentence.kind) node_sentence ≡ false = cc in e)

pub returns : goal.returns
returns c =
    at_second _ _ _ c.in-Some.ensures _ c.in-Some-row.ensures _ c.in-Some-row-2.ensures
    (let e : eqb (node_code c.in-Some.terms.kind) node_terms ≡ true = cc in e) c.if-t-above.false
    (let e : eqb (node_code c.in-Some-row.parent.kind) node_condition ≡ true = cc in e) (let e : eqb (node_code c.in-Some-row-2.sentence.kind) node_sentence ≡ true = cc in e)
