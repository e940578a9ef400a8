-- `refal_index::index::hash` meets its contract.
use Rattle.std.proofs.Common.{◌≡◌, drop}
use Rattle.refal_ast.specs.Names.{canonical_name}
use Rattle.refal_index.specs.Hash.{hash_of, hash_from}
use Rattle.refal_index.proofs.index.hash.Given as goal

abbrev pub invariant-loop-b : goal.invariant-loop-b
invariant-loop-b l = hash_from l.x (canonical_name (drop l.b-index l.name)) ≡ hash_of l.name
