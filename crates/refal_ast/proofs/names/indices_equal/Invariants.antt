-- The form of each byte that `refal_ast::names::indices_equal` asks for.
use Rattle.refal_ast.specs.Names.{upper_byte}
use Rattle.refal_ast.proofs.names.indices_equal.Given as goal

abbrev pub ghost-equal : goal.ghost-equal
ghost-equal a = upper_byte
