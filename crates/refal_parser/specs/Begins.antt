-- What a token begins where a term may stand: a symbol or a variable whole; a bracket or a call, whose parts follow; a variable whose letter is not
-- s, t, e; or no term.
use Rattle.std.specs.Prelude.{ℕ, Option, Some, None, Result, Ok, Err}
use Rattle.refal_ast.specs.declared.tree.Symbol.{Symbol as TheSymbol}
use Rattle.refal_ast.specs.declared.tree.VariableKind.{VariableKind}
use Rattle.refal_ast.specs.declared.tree.UnknownLetter.{UnknownLetter}
use Rattle.refal_ast.specs.declared.tree.Term.{Term as TheTerm}
use Rattle.refal_ast.specs.declared.tree.Term.TheVariants as the

pub data Term : Type 0 where
  Symbol : TheSymbol → Term
  Variable : VariableKind → ℕ → ℕ → Term
  Bracket : Term
  Call : Term
  UnknownVariable : Term
  NoTerm : Term

abbrev pub term_told : Result (Option TheTerm) UnknownLetter → Term
term_told (Ok (Some (the.Symbol s))) = Symbol s
term_told (Ok (Some (the.Variable kind start len))) = Variable kind start len
term_told (Ok (Some the.Bracket)) = Bracket
term_told (Ok (Some the.Call)) = Call
term_told (Ok None) = NoTerm
term_told (Err e) = UnknownVariable
