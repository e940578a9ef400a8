-- The form of each byte that `refal_ast::names::canonical_identifier` asks for.
use Rattle.refal_ast.specs.Names.{name_byte}
use Rattle.refal_ast.proofs.names.canonical_identifier.Given as goal

abbrev pub ghost-canonical : goal.ghost-canonical
ghost-canonical a = name_byte
