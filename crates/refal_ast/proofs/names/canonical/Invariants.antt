-- `refal_ast::names::canonical` meets its contract: the forms of the first i bytes stand before what the output had.
use Rattle.std.proofs.Common.{◌≡◌, ◌++◌, map, take, drop}
use Rattle.refal_ast.proofs.names.canonical.Given as goal

abbrev pub invariant-loop-i : goal.invariant-loop-i
invariant-loop-i g l = l.out ≡ take l.i (map g.f l.name) ++ drop l.i l.initial.out
