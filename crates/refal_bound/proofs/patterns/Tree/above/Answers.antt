-- `refal_bound::patterns::Tree::above` meets its contract.
use Rattle.std.proofs.Common.{◌≡◌, true, false, eqb, arith}
use Rattle.refal_ast.specs.Kinds.{node_terms}
use Rattle.refal_ast.specs.KindCodes.{node_code}
use Rattle.refal_bound.specs.View.{kind_in}
use Rattle.refal_bound.specs.Climb.{top_unknown, top_terms, top_last, top_not}
use Rattle.refal_bound.proofs.patterns.Tree.above.Goals as goal

pub returns-in_default : goal.returns-in_default
returns-in_default c = top_unknown c.args.self.tree.now c.args.i c.in_default.ensures

pub returns-then-is : goal.returns-then-is
returns-then-is c = top_terms c.args.self.tree.now c.args.i _ c.in-Some.ensures (let e : eqb (node_code c.in-Some.node.kind) node_terms ≡ true = cc in e)

pub returns-then-i-parent : goal.returns-then-i-parent
returns-then-i-parent c = top_last c.args.self.tree.now c.args.i _ c.in-Some.ensures c.if-i-parent.true

pub returns : goal.returns
returns c =
    let k = kind_in c.in-Some.node.kind in
    top_not c.args.self.tree.now c.args.i _ c.in-Some.ensures k.0 k.1 (let e : eqb (node_code c.in-Some.node.kind) node_terms ≡ false = cc in e) (λ h. omega arith)
