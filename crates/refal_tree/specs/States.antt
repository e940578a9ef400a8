-- Which rows may stand where. A state says what a node's children, from here on, may be; `after` reads one child.
use Rattle.std.specs.Prelude.{ℕ, zero, suc, Bool, true, false, not, ◌&&◌, ◌||◌, eqb, leb}
use Rattle.refal_ast.specs.Kinds.{node_declaration, node_name, node_function, node_sentence, node_condition, node_terms, node_ending_block, node_condition_block, node_identifier}
use Rattle.refal_ast.specs.Kinds.{node_number, node_char, node_variable, node_bracket, node_call}

-- no tree has come this far
abbrev pub wrong : ℕ
wrong = 0

-- at the top: declarations and functions
abbrev pub at_items : ℕ
at_items = 1

-- in a declaration, before its first name
abbrev pub at_name : ℕ
at_name = 2

-- after a name
abbrev pub at_names : ℕ
at_names = 3

-- in a function or a condition's block: sentences
abbrev pub at_sentences : ℕ
at_sentences = 4

-- in a sentence, before its pattern
abbrev pub at_pattern : ℕ
at_pattern = 5

-- after the pattern: conditions, then terms or an ending block
abbrev pub at_conditions : ℕ
at_conditions = 6

-- in a condition, before its first terms
abbrev pub at_condition : ℕ
at_condition = 7

-- after them: terms or a condition block
abbrev pub at_colon : ℕ
at_colon = 8

-- in terms, a bracket or a call: terms
abbrev pub at_terms : ℕ
at_terms = 9

-- in an ending block, before its argument
abbrev pub at_argument : ℕ
at_argument = 10

-- after the argument of an ending block: its sentences
abbrev pub at_ending : ℕ
at_ending = 11

-- no more rows
abbrev pub closed : ℕ
closed = 12

abbrev pub pick_state : Bool → ℕ → ℕ → ℕ
pick_state true x y = x
pick_state false x y = y

abbrev pub on_state : ℕ → ℕ → ℕ → ℕ → ℕ
on_state k n x y = pick_state (eqb k n) x y

-- the kinds of terms
abbrev pub term_kind : ℕ → Bool
term_kind k =
    ((((eqb k node_identifier || eqb k node_number) || eqb k node_char) || eqb k node_variable) || eqb k node_bracket) || eqb k node_call

-- the state after a child of the kind k
abbrev pub state_after : ℕ → ℕ → ℕ
state_after st k =
    on_state st at_items (on_state k node_declaration at_items (on_state k node_function at_items wrong))
    (on_state st at_name (on_state k node_name at_names wrong)
    (on_state st at_names (on_state k node_name at_names wrong)
    (on_state st at_sentences (on_state k node_sentence at_sentences wrong)
    (on_state st at_pattern (on_state k node_terms at_conditions wrong)
    (on_state st at_conditions (on_state k node_condition at_conditions (on_state k node_terms closed (on_state k node_ending_block closed wrong)))
    (on_state st at_condition (on_state k node_terms at_colon wrong)
    (on_state st at_colon (on_state k node_terms closed (on_state k node_condition_block closed wrong))
    (on_state st at_terms (pick_state (term_kind k) at_terms wrong)
    (on_state st at_argument (on_state k node_terms at_ending wrong)
    (on_state st at_ending (on_state k node_sentence at_ending wrong) wrong))))))))))

-- whether a row of the kind k and the detail d is a sentence whose `;` is left off
abbrev pub leaves_off : ℕ → ℕ → Bool
leaves_off k d = eqb k node_sentence && eqb d 1

-- the state after a row of the kind k and the detail d: a sentence whose `;` is left off is the last of its function or block
abbrev pub state_next : ℕ → ℕ → ℕ → ℕ
state_next st k d = pick_state (leaves_off k d) closed (state_after st k)

-- the state before the first child of a node of the kind k
abbrev pub state_inside : ℕ → ℕ
state_inside k =
    on_state k node_declaration at_name
    (on_state k node_function at_sentences
    (on_state k node_sentence at_pattern
    (on_state k node_condition at_condition
    (on_state k node_terms at_terms
    (on_state k node_ending_block at_argument
    (on_state k node_condition_block at_sentences
    (on_state k node_bracket at_terms
    (on_state k node_call at_terms closed))))))))

-- whether a node's children may end here
abbrev pub may_end : ℕ → Bool
may_end st = ((((eqb st at_items || eqb st at_names) || eqb st at_sentences) || eqb st at_terms) || eqb st at_ending) || eqb st closed

-- whether a row of the kind k may stand here
abbrev pub may_stand : ℕ → ℕ → Bool
may_stand st k = not (eqb (state_after st k) wrong)

-- the kinds that count for the depth: blocks, brackets, calls
abbrev pub counts : ℕ → Bool
counts k = ((eqb k node_ending_block || eqb k node_condition_block) || eqb k node_bracket) || eqb k node_call

-- whether a row of the kind k may stand where so many levels are left
abbrev pub room : ℕ → ℕ → Bool
room k left = not (counts k) || leb 1 left

abbrev pub lower : ℕ → ℕ
lower zero = zero
lower (suc n) = n

-- whether the levels fall by one below a row of the kind k in the state st; those of an ending block fall at its sentences, since the terms of
-- its argument stand outside it
abbrev pub opens : ℕ → ℕ → Bool
opens st k = ((eqb k node_condition_block || eqb k node_bracket) || eqb k node_call) || eqb st at_ending

-- the levels left below it
abbrev pub below : ℕ → ℕ → ℕ → ℕ
below st k left = pick_state (opens st k) (lower left) left
