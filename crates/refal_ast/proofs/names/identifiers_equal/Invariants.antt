-- The form of each byte that `refal_ast::names::identifiers_equal` asks for.
use Rattle.refal_ast.specs.Names.{name_byte}
use Rattle.refal_ast.proofs.names.identifiers_equal.Given as goal

abbrev pub ghost-equal : goal.ghost-equal
ghost-equal a = name_byte
