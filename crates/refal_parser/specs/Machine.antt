-- Parsing, as document 01 "From tokens to the tree" has it: a machine that takes one token at a time. Its state is that of one item: it keeps a stack
-- of what is open, and nothing of the items before. The program stands beside it, and an item that ends is added to it.
-- It recurses on the list of tokens alone, so the first refusal from the left is the answer.
-- One letter for one thing: t a token, x and y the span of the token after it, L the most levels, d the levels left, b a block, s sentences, r the
-- sentence being read, o the start of the condition being read, g an argument, cs conditions, c what terms stand in, f terms, a the start of what is being read,
-- k a condition that has ended, q the end of a sentence's `=`, z what stands after it, ns names, h a function's heading, v the body of a block that has ended, e the end of what has ended,
-- p the items before.
use Rattle.std.specs.Prelude.{ℕ, zero, suc, List, [], ◌∷◌, Bool, true, false, eqb}
use Rattle.refal_ast.specs.Kinds.{tok_entry, tok_extern, tok_identifier, tok_variable, tok_number, tok_char, tok_l_brace, tok_r_brace, tok_l_paren, tok_r_paren, tok_l_angle, tok_r_angle, tok_comma}
use Rattle.refal_ast.specs.Kinds.{tok_colon, tok_equals, tok_semicolon, tok_eof}
use Rattle.refal_ast.specs.Tokens.{Token}
use Rattle.refal_ast.specs.Tree.{symbol, variable, Term as TreeTerm, leaf, bracket, call, Terms, t0, t_more, r_terms, r_block, Condition, condition, Conditions, c0, c_more}
use Rattle.refal_ast.specs.Tree.{End, e_terms, e_block, sentence, Sentences, s0, s_more, Sentence, Body, b_all, b_off, Names, n_one, n_more, Item, declaration, function, Program, p_more}
use Rattle.refal_ast.specs.declared.tree.Symbol.TheVariants.{Char, Identifier, Number}
use Rattle.refal_ast.specs.declared.tree.VariableKind.TheVariants.{Symbol as kind_s, Term as kind_t, Expression as kind_e}
use Rattle.refal_parser.specs.Begins.{Term, Symbol as the_symbol, Variable, Bracket, Call, UnknownVariable, NoTerm}

-- ---- what a token begins where a term may stand
abbrev pub pick_term : Bool → Term → Term → Term
pick_term true x y = x
pick_term false x y = y

-- a variable with the letter of this byte: s, t, e, or another
abbrev pub variable_of : ℕ → ℕ → ℕ → Term
variable_of letter start len =
    pick_term (eqb letter 115) (Variable kind_s start len)
    (pick_term (eqb letter 116) (Variable kind_t start len)
    (pick_term (eqb letter 101) (Variable kind_e start len)
    UnknownVariable))

-- kind, detail, text start, text length
abbrev pub term_of : ℕ → ℕ → ℕ → ℕ → Term
term_of kind detail start len =
    pick_term (eqb kind tok_identifier) (the_symbol (Identifier start len))
    (pick_term (eqb kind tok_variable) (variable_of detail start len)
    (pick_term (eqb kind tok_number) (the_symbol (Number start len))
    (pick_term (eqb kind tok_char) (the_symbol (Char detail))
    (pick_term (eqb kind tok_l_paren) Bracket
    (pick_term (eqb kind tok_l_angle) Call
    NoTerm)))))

-- ---- states
-- a function up to its name
pub record Heading : Type 0 where
  pub from : ℕ
  pub entry : Bool
  pub start : ℕ
  pub len : ℕ

-- a sentence up to some of its conditions, and the sentences before it
pub record Begun : Type 0 where
  pub before : Sentences
  pub from : ℕ
  pub pattern : Terms
  pub conditions : Conditions

-- an argument with its `:`: where a block of it starts, its terms, the end of the `:`
pub record Argument : Type 0 where
  pub from : ℕ
  pub terms : Terms
  pub to : ℕ

-- what sentences stand in: a function; a condition's block, which stands in another block, in a sentence, in a condition with its start and argument;
-- an ending block, which stands in another block, in a sentence, with its argument
pub data Block : Type 0 where
  body : Heading → Block
  in_condition : Block → Begun → ℕ → Argument → Block
  in_ending : Block → Begun → Argument → Block

-- what terms stand in
pub data Place : Type 0 where
  -- a sentence's pattern: the block, the sentences before, the sentence's start
  pattern : Block → Sentences → ℕ → Place
  -- a condition's first terms: the block, the sentence, the condition's start
  argument : Block → Begun → ℕ → Place
  -- a condition's terms after `:`: as above, with the argument
  matching : Block → Begun → ℕ → Argument → Place
  -- a sentence's result: the block, the sentence, the end of its `=`
  result : Block → Begun → ℕ → Place
  -- an ending block's argument
  ending : Block → Begun → Place
  -- a bracket: what it stands in, the terms before it, its start
  in_bracket : Place → Terms → ℕ → Place
  -- a call: what it stands in, the terms before it, its start, its name's text
  in_call : Place → Terms → ℕ → ℕ → ℕ → Place

-- where the machine is. A number of levels left comes first where something can be opened
pub data State : Type 0 where
  -- between items
  outside : State
  -- a declaration wants its first name; a next name; is after a name
  wants_name : ℕ → State
  wants_more : ℕ → Names → State
  named : ℕ → Names → State
  -- after Entry; after a function's name
  entered : ℕ → State
  headed : Heading → State
  -- between sentences
  between : ℕ → Block → Sentences → State
  -- in terms, with those read so far
  within : ℕ → Place → Terms → State
  -- a call wants its name: what it stands in, the terms before it, its start
  calling : ℕ → Place → Terms → ℕ → State
  -- after a condition's `:`: the condition's start and argument
  matched : ℕ → Block → Begun → ℕ → Argument → State
  -- after a condition's block
  conditioned : ℕ → Block → Begun → State
  -- after a sentence's `=`, with its end
  equated : ℕ → Block → Begun → ℕ → State
  -- after an ending block's `:`
  blocked : ℕ → Block → Begun → Argument → State
  -- after an ending block: what the sentence ends in, and its end
  ended : ℕ → Block → Begun → End → ℕ → State

-- what comes of it: a tree; or a refusal, with number, expected, found, span start and end
pub data Outcome : Type 0 where
  tree : Program → Outcome
  refuse : ℕ → ℕ → ℕ → ℕ → ℕ → Outcome

-- what a token does: go on in a state; end an item; end the program; stop with a refusal
pub data Step : Type 0 where
  go : State → Step
  made : Item → Step
  over : Step
  stop : ℕ → ℕ → ℕ → ℕ → ℕ → Step

abbrev pub pick_step : Bool → Step → Step → Step
pick_step true x y = x
pick_step false x y = y

-- x at a token of the kind n, else y
abbrev pub on_kind : ℕ → ℕ → Step → Step → Step
on_kind k n x y = pick_step (eqb k n) x y

-- ---- refusals. Those of 31 to 34 and 36 find the token taken and show the span x, y of the token after it, or of Eof, which isn't passed;
-- 35 and 37 find and show the present token
abbrev pub wants : ℕ → Token → ℕ → ℕ → Step
wants number t x y = stop number tok_identifier t.kind x y

abbrev pub no_term : Token → ℕ → ℕ → Step
no_term t x y = stop 34 0 t.kind x y

abbrev pub unknown_variable : Token → ℕ → ℕ → Step
unknown_variable t x y = stop 36 0 t.kind x y

abbrev pub expected : ℕ → Token → Step
expected kind t = stop 35 kind t.kind t.from t.to

-- a bracket, call or block opens where a level is left
abbrev pub opens : ℕ → Token → (ℕ → State) → Step
opens zero t f = stop 37 0 t.kind t.from t.to
opens (suc d) t f = go (f d)

-- ---- the kinds that may stand somewhere, each with its step
pub record Closer : Type 0 where
  pub kind : ℕ
  pub next : Step

abbrev pub closer : ℕ → Step → Closer
closer kind next = record { kind = kind; next = next }

-- the step of the one that has the token's kind, else another step
abbrev pub among : List Closer → Token → Step → Step
among [] t other = other
among (m ∷ ms) t other = on_kind t.kind m.kind m.next (among ms t other)

-- where terms end: at a kind that closes them; Eof there is 35, another kind 34
abbrev pub closing : ℕ → List Closer → Token → ℕ → ℕ → Step
closing want ms t x y = among ms t (on_kind t.kind tok_eof (expected want t) (no_term t x y))

-- the kind wanted, and no other
abbrev pub only : ℕ → State → List Closer
only want st = closer want (go st) ∷ []

-- one of two kinds
abbrev pub either : ℕ → Step → ℕ → Step → List Closer
either m u n v = closer m u ∷ closer n v ∷ []

-- ---- spans
abbrev pub start_term : TreeTerm → ℕ
start_term (leaf x a b) = a
start_term (bracket a f b) = a
start_term (call a s l f b) = a

abbrev pub end_term : TreeTerm → ℕ
end_term (leaf x a b) = b
end_term (bracket a f b) = b
end_term (call a s l f b) = b

-- the start of the first of some terms, or a where there are none
abbrev pub first_start : Terms → ℕ → ℕ
first_start t0 a = a
first_start (t_more f x) a = first_start f (start_term x)

-- the end of the last of some terms, or e where there are none
abbrev pub last_end : Terms → ℕ → ℕ
last_end t0 e = e
last_end (t_more f x) e = end_term x

-- "A block starts at its argument's first token, or at the `:` if that is empty": the argument f, with a `:` of the span a, e
abbrev pub asked : Terms → ℕ → ℕ → Argument
asked f a e = record { from = first_start f a; terms = f; to = e }

-- ---- the parts of a sentence
abbrev pub begun : Sentences → ℕ → Terms → Conditions → Begun
begun s a f cs = record { before = s; from = a; pattern = f; conditions = cs }

abbrev pub with_condition : Begun → Condition → Begun
with_condition r k = begun r.before r.from r.pattern (c_more r.conditions k)

-- a condition with terms, which end with the last of them or with the `:`
abbrev pub to_terms : ℕ → Argument → Terms → Condition
to_terms o g f = condition o g.terms (r_terms f) (last_end f g.to)

-- a condition with a block, which ends with the block
abbrev pub to_block : ℕ → Argument → Body → ℕ → Condition
to_block o g v e = condition o g.terms (r_block g.from v e) e

abbrev pub end_block : Argument → Body → ℕ → End
end_block g v e = e_block g.from g.terms v e

-- this sentence, which ends in z at e
abbrev pub sentence_of : Begun → End → ℕ → Sentence
sentence_of r z e = sentence r.from r.pattern r.conditions z e

-- the sentences with this one and its `;`
abbrev pub finished : Begun → End → ℕ → Sentences
finished r z e = s_more r.before (sentence_of r z e)

-- the body that this one ends without its `;`
abbrev pub left_off : Begun → End → ℕ → Body
left_off r z e = b_off r.before (sentence_of r z e)

abbrev pub function_of : Heading → Body → ℕ → Item
function_of h v e = function h.from h.entry h.start h.len v e

-- where the `}` of a block of the body v leads
abbrev pub leave : ℕ → Block → Body → ℕ → Step
leave d (body h) v e = made (function_of h v e)
leave d (in_condition b r o g) v e = go (conditioned (suc d) b (with_condition r (to_block o g v e)))
leave d (in_ending b r g) v e = go (ended (suc d) b r (end_block g v e) e)

-- ---- after a pattern and conditions: another condition, which "starts at the token after its comma"; or `=`
abbrev pub after_pattern : ℕ → Block → Begun → Token → ℕ → List Closer
after_pattern d b r t x = either tok_comma (go (within d (argument b r x) t0)) tok_equals (go (equated d b r t.to))

-- ---- after z, in which a sentence ends at e: "Before `}` a sentence may now do so", end without `;`, with its last token; or `;`
abbrev pub after_end : ℕ → Block → Begun → End → ℕ → Token → List Closer
after_end d b r z e t = either tok_r_brace (leave d b (left_off r z e) t.to) tok_semicolon (go (between d b (finished r z t.to)))

-- ---- at a token that begins no term, in terms f
abbrev pub end_of : ℕ → Place → Terms → Token → ℕ → ℕ → Step
end_of d (pattern b s a) f t x y = closing tok_equals (after_pattern d b (begun s a f c0) t x) t x y
end_of d (argument b r o) f t x y = closing tok_colon (only tok_colon (matched d b r o (asked f t.from t.to))) t x y
end_of d (matching b r o g) f t x y = closing tok_equals (after_pattern d b (with_condition r (to_terms o g f)) t x) t x y
end_of d (result b r q) f t x y = closing tok_semicolon (after_end d b r (e_terms f) (last_end f q) t) t x y
end_of d (ending b r) f t x y = closing tok_colon (only tok_colon (blocked d b r (asked f t.from t.to))) t x y
end_of d (in_bracket c g a) f t x y = closing tok_r_paren (only tok_r_paren (within (suc d) c (t_more g (bracket a f t.to)))) t x y
end_of d (in_call c g a s l) f t x y = closing tok_r_angle (only tok_r_angle (within (suc d) c (t_more g (call a s l f t.to)))) t x y

-- at a token, in terms f, by what the token begins
abbrev pub in_terms : ℕ → Place → Terms → Token → ℕ → ℕ → Term → Step
in_terms d c f t x y (the_symbol z) = go (within d c (t_more f (leaf (symbol z) t.from t.to)))
in_terms d c f t x y (Variable v s l) = go (within d c (t_more f (leaf (variable v s l) t.from t.to)))
in_terms d c f t x y Bracket = opens d t (λ d'. within d' (in_bracket c f t.from) t0)
in_terms d c f t x y Call = opens d t (λ d'. calling d' c f t.from)
in_terms d c f t x y UnknownVariable = unknown_variable t x y
in_terms d c f t x y NoTerm = end_of d c f t x y

abbrev pub at_terms : ℕ → Place → Terms → Token → ℕ → ℕ → Step
at_terms d c f t x y = in_terms d c f t x y (term_of t.kind t.detail t.start t.len)

-- ---- a token t, with the span x, y of the token after it; for each state the kinds in document 01's order
abbrev pub step : ℕ → State → Token → ℕ → ℕ → Step
step L outside t x y =
    on_kind t.kind tok_entry (go (entered t.from))
    (on_kind t.kind tok_extern (go (wants_name t.from))
    (on_kind t.kind tok_identifier (go (headed (record { from = t.from; entry = false; start = t.start; len = t.len })))
    (on_kind t.kind tok_semicolon (go outside)
    (on_kind t.kind tok_eof over
    (wants 32 t x y)))))
step L (wants_name a) t x y = on_kind t.kind tok_identifier (go (named a (n_one t.start t.len))) (wants 31 t x y)
step L (wants_more a ns) t x y = on_kind t.kind tok_identifier (go (named a (n_more ns t.start t.len))) (wants 31 t x y)
step L (named a ns) t x y =
    on_kind t.kind tok_comma (go (wants_more a ns))
    (on_kind t.kind tok_semicolon (made (declaration a ns t.to))
    (expected tok_semicolon t))
step L (entered a) t x y =
    on_kind t.kind tok_identifier (go (headed (record { from = a; entry = true; start = t.start; len = t.len }))) (wants 32 t x y)
step L (headed h) t x y = on_kind t.kind tok_l_brace (go (between L (body h) s0)) (expected tok_l_brace t)
step L (between d b s) t x y =
    on_kind t.kind tok_r_brace (leave d b (b_all s) t.to)
    (on_kind t.kind tok_eof (expected tok_r_brace t)
    (at_terms d (pattern b s t.from) t0 t x y))
step L (within d c f) t x y = at_terms d c f t x y
step L (calling d c f a) t x y =
    on_kind t.kind tok_identifier (go (within d (in_call c f a t.start t.len) t0)) (wants 33 t x y)
step L (matched d b r o g) t x y =
    on_kind t.kind tok_l_brace (opens d t (λ d'. between d' (in_condition b r o g) s0))
    (at_terms d (matching b r o g) t0 t x y)
step L (conditioned d b r) t x y = among (after_pattern d b r t x) t (expected tok_equals t)
step L (equated d b r q) t x y =
    on_kind t.kind tok_comma (go (within d (ending b r) t0))
    (at_terms d (result b r q) t0 t x y)
step L (blocked d b r g) t x y =
    on_kind t.kind tok_l_brace (opens d t (λ d'. between d' (in_ending b r g) s0)) (expected tok_l_brace t)
step L (ended d b r z e) t x y = among (after_end d b r z e t) t (expected tok_semicolon t)

-- what a step leads to, after the items p
abbrev pub follow : Program → Step → (Program → State → Outcome) → Outcome
follow p (go st) f = f p st
follow p (made z) f = f (p_more p z) outside
follow p over f = tree p
follow p (stop number want found from to) f = refuse number want found from to

-- the span of the token after t, or of t itself where it is the last
abbrev pub next_from : Token → List Token → ℕ
next_from t [] = t.from
next_from t (u ∷ ts) = u.from

abbrev pub next_to : Token → List Token → ℕ
next_to t [] = t.to
next_to t (u ∷ ts) = u.to

-- after the items p, in a state, with L levels
-- (a list that check 30 passes ends in an Eof, at which every state stops: its end is never met)
unfoldable pub run : ℕ → List Token → Program → State → Outcome
run L [] p st = refuse 30 0 0 0 0
run L (t ∷ ts) p st = follow p (step L st t (next_from t ts) (next_to t ts)) (λ p' st'. run L ts p' st')
