-- The rules that the rows of a lawful tree keep, row by row: children, fields, levels.
use Rattle.std.specs.Prelude.{ℕ, Bool, true, not, ◌&&◌, ◌||◌, eqb, leb}
use Rattle.refal_ast.specs.Kinds.{node_name, node_function, node_sentence, node_terms, node_char, node_variable}
use Rattle.refal_ast.specs.Nodes.{has_text}
use Rattle.refal_ast.specs.Check.{pick_bool}
use Rattle.refal_tree.specs.Forest.{Row, Forest, empty, tree}
use Rattle.refal_tree.specs.States.{may_stand, room, may_end, state_inside, state_next, below}

-- the kinds whose span is 0
abbrev pub spanless : ℕ → Bool
spanless k = eqb k node_name || eqb k node_terms

-- a variable's letter: s, t, e
abbrev pub variable_letter : ℕ → Bool
variable_letter d = (eqb d 115 || eqb d 116) || eqb d 101

-- the kinds whose detail is 0 or 1: a Function, 1 for an entry, and a Sentence, 1 where its `;` is left off
abbrev pub yes_or_no : ℕ → Bool
yes_or_no k = eqb k node_function || eqb k node_sentence

-- those details, a Char's any word, a Variable's a letter, all others 0
abbrev pub detail_ok : ℕ → ℕ → Bool
detail_ok k d =
    pick_bool (yes_or_no k) (leb d 1) (pick_bool (eqb k node_char) true (pick_bool (eqb k node_variable) (variable_letter d) (eqb d 0)))

abbrev pub text_ok : ℕ → ℕ → ℕ → Bool
text_ok k s l = has_text k || (eqb s 0 && eqb l 0)

abbrev pub span_ok : ℕ → ℕ → ℕ → Bool
span_ok k a b = not (spanless k) || (eqb a 0 && eqb b 0)

abbrev pub fields_ok : ℕ → ℕ → ℕ → ℕ → ℕ → ℕ → Bool
fields_ok k d s l a b = detail_ok k d && (text_ok k s l && span_ok k a b)

-- a row that may stand in the state st, so many levels being left
abbrev pub row_ok : ℕ → ℕ → Row → Bool
row_ok st left r =
    (may_stand st r.kind && room r.kind left) && fields_ok r.kind r.detail r.start r.len r.from r.to

-- every row may stand where it stands, and every node has all its children
unfoldable pub ok_g : ℕ → ℕ → Forest → Bool
ok_g st left empty = may_end st
ok_g st left (tree r f g) =
    row_ok st left r && (ok_g (state_inside r.kind) (below st r.kind left) f && ok_g (state_next st r.kind r.detail) left g)
