-- The form of each byte that `refal_ast::names::canonical_variable_index` asks for.
use Rattle.refal_ast.specs.Names.{upper_byte}
use Rattle.refal_ast.proofs.names.canonical_variable_index.Given as goal

abbrev pub ghost-canonical : goal.ghost-canonical
ghost-canonical a = upper_byte
