-- The code's rows and patterns as Bound.antt has them.
use Rattle.std.specs.Prelude.{ℕ, ◌≡◌, ◌≤◌, ◌<◌, List, Option, None, Some, MatchOption}
use Rattle.std.proofs.Common.{lit≤}
use Rattle.refal_ast.specs.Kinds.{node_call}
use Rattle.refal_ast.specs.KindCodes.{node_code}
use Rattle.refal_ast.specs.declared.kinds.NodeKind.{NodeKind}
use Rattle.refal_ast.specs.declared.kinds.NodeKind.TheVariants as node
use Rattle.refal_ast.specs.Nodes.{node_at}
use Rattle.refal_ast.specs.Rows.{node_told}
use Rattle.refal_tree.specs.Ranges.{kind_at, next_at}
use Rattle.refal_bound.specs.Bound.{scope, first_unbound}
use Rattle.refal_ast.specs.declared.nodes.Node.{Node}
use Rattle.refal_bound.specs.declared.patterns.Pattern.{Pattern}

-- the result is row i of the words, or None where there is none or its kind is unknown
abbrev pub RowAt : List ℕ → ℕ → Option Node → Type 0
RowAt w i r = MatchOption r (1 ≤ kind_at w i → node_call < kind_at w i) (λ x. node_told x ≡ node_at w i)

-- the result is the pattern that row t is: the row after it and the row after its scope
abbrev pub IsPattern : List ℕ → ℕ → Option Pattern → Type 0
IsPattern w t r = MatchOption r (scope w t ≡ None) (λ p. (scope w t ≡ Some p.scope) × (p.end ≡ next_at w t))

-- the result is the first variable that is used unbound
abbrev pub IsFirst : List ℕ → List ℕ → Option Node → Type 0
IsFirst w s r = MatchOption r (first_unbound w s ≡ None) (λ x. (u : ℕ) × (first_unbound w s ≡ Some u) × (node_told x ≡ node_at w u))

-- the number of a kind
pub kind_in : (k : NodeKind) → (1 ≤ node_code k) × (node_code k ≤ node_call)
kind_in node.Declaration = (lit≤ tt, lit≤ tt)
kind_in node.Name = (lit≤ tt, lit≤ tt)
kind_in node.Function = (lit≤ tt, lit≤ tt)
kind_in node.Sentence = (lit≤ tt, lit≤ tt)
kind_in node.Condition = (lit≤ tt, lit≤ tt)
kind_in node.Terms = (lit≤ tt, lit≤ tt)
kind_in node.EndingBlock = (lit≤ tt, lit≤ tt)
kind_in node.ConditionBlock = (lit≤ tt, lit≤ tt)
kind_in node.Identifier = (lit≤ tt, lit≤ tt)
kind_in node.Number = (lit≤ tt, lit≤ tt)
kind_in node.Char = (lit≤ tt, lit≤ tt)
kind_in node.Variable = (lit≤ tt, lit≤ tt)
kind_in node.Bracket = (lit≤ tt, lit≤ tt)
kind_in node.Call = (lit≤ tt, lit≤ tt)
