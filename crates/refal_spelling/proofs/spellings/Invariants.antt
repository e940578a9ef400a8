-- `refal_spelling::spellings`: what is left decides.
use Rattle.std.proofs.Common.{◌≡◌}
use Rattle.std.specs.Slice.Iter.{chunks_exact_rest, chunks_exact_size}
use Rattle.refal_ast.specs.Nodes.{node_width, nodes_of}
use Rattle.refal_spelling.specs.Spellings.{all_spelled, nodes_spelled}
use Rattle.refal_spelling.proofs.spellings.Given as goal

abbrev pub invariant-loop-row : goal.invariant-loop-row
invariant-loop-row l = record {
  size : chunks_exact_size l.row-iterator ≡ node_width;
  rest : all_spelled l.src l.tree ≡ nodes_spelled l.src (nodes_of (chunks_exact_rest l.row-iterator));
}
