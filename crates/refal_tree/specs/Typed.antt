-- A tree as a forest of rows, and the tree that a forest of lawful rows is.
use Rattle.std.specs.Prelude.{ℕ, Bool, true, false, eqb}
use Rattle.refal_ast.specs.Kinds.{node_declaration, node_name, node_function, node_sentence, node_condition, node_terms, node_ending_block, node_condition_block, node_identifier}
use Rattle.refal_ast.specs.Kinds.{node_number, node_char, node_variable, node_bracket, node_call}
use Rattle.refal_ast.specs.Tree.{Leaf, symbol, variable, Term, leaf, bracket, call, Terms, t0, t_more, Right, r_terms, r_block, Condition, condition, Conditions, c0, c_more}
use Rattle.refal_ast.specs.Tree.{End, e_terms, e_block, Sentence, sentence, Sentences, s0, s_more, Body, b_all, b_off, Names, n_one, n_more, Item, declaration, function, Program, p0, p_more}
use Rattle.refal_ast.specs.Encode.{letter_of, entry_detail, off_detail}
use Rattle.refal_ast.specs.declared.tree.Symbol.TheVariants.{Char, Identifier, Number}
use Rattle.refal_ast.specs.declared.tree.VariableKind.{VariableKind}
use Rattle.refal_ast.specs.declared.tree.VariableKind.TheVariants.{Symbol as kind_s, Term as kind_t, Expression as kind_e}
use Rattle.refal_tree.specs.Forest.{Row, row, Forest, empty, tree}

-- ---- from trees to forests: each takes what stands after it

-- a leaf's row, with the span a, b
abbrev pub leaf_r : Leaf → ℕ → ℕ → Row
leaf_r (symbol (Char x)) a b = row node_char x 0 0 a b
leaf_r (symbol (Identifier s l)) a b = row node_identifier 0 s l a b
leaf_r (symbol (Number s l)) a b = row node_number 0 s l a b
leaf_r (variable v s l) a b = row node_variable (letter_of v) s l a b

-- a row of which only kind and span are used
abbrev pub plain : ℕ → ℕ → ℕ → Row
plain k a b = row k 0 0 0 a b

unfoldable mutual
  pub for_term : Term → Forest → Forest
  for_term (leaf x a b) g = tree (leaf_r x a b) empty g
  for_term (bracket a f b) g = tree (plain node_bracket a b) (for_t f empty) g
  for_term (call a s l f b) g = tree (row node_call 0 s l a b) (for_t f empty) g

  pub for_t : Terms → Forest → Forest
  for_t t0 g = g
  for_t (t_more f x) g = for_t f (for_term x g)

-- a Terms row and its terms
abbrev pub for_terms : Terms → Forest → Forest
for_terms f g = tree (plain node_terms 0 0) (for_t f empty) g

-- a sentence's row: whether its `;` is left off, the span
abbrev pub sentence_r : Bool → ℕ → ℕ → Row
sentence_r off a b = row node_sentence (off_detail off) 0 0 a b

unfoldable mutual
  pub for_right : Right → Forest → Forest
  for_right (r_terms f) g = for_terms f g
  for_right (r_block a v b) g = tree (plain node_condition_block a b) (for_b v empty) g

  pub for_condition : Condition → Forest → Forest
  for_condition (condition a f r b) g = tree (plain node_condition a b) (for_terms f (for_right r empty)) g

  pub for_c : Conditions → Forest → Forest
  for_c c0 g = g
  for_c (c_more cs x) g = for_c cs (for_condition x g)

  pub for_end : End → Forest → Forest
  for_end (e_terms f) g = for_terms f g
  for_end (e_block a f v b) g = tree (plain node_ending_block a b) (for_terms f (for_b v empty)) g

  pub for_sentence : Bool → Sentence → Forest → Forest
  for_sentence off (sentence a f cs x b) g = tree (sentence_r off a b) (for_terms f (for_c cs (for_end x empty))) g

  pub for_s : Sentences → Forest → Forest
  for_s s0 g = g
  for_s (s_more s x) g = for_s s (for_sentence false x g)

  pub for_b : Body → Forest → Forest
  for_b (b_all s) g = for_s s g
  for_b (b_off s x) g = for_s s (for_sentence true x g)

abbrev pub name_r : ℕ → ℕ → Row
name_r s l = row node_name 0 s l 0 0

unfoldable pub for_n : Names → Forest → Forest
for_n (n_one s l) g = tree (name_r s l) empty g
for_n (n_more ns s l) g = for_n ns (tree (name_r s l) empty g)

abbrev pub for_item : Item → Forest → Forest
for_item (declaration a ns b) g = tree (plain node_declaration a b) (for_n ns empty) g
for_item (function a x s l v b) g = tree (row node_function (entry_detail x) s l a b) (for_b v empty) g

unfoldable pub for_p : Program → Forest → Forest
for_p p0 g = g
for_p (p_more p x) g = for_p p (for_item x g)

abbrev pub to_forest : Program → Forest
to_forest p = for_p p empty

-- ---- from forests to trees: lists take what stands before them. Where the rows are not lawful, what comes out means nothing.

abbrev pub kind_of : ℕ → VariableKind
kind_of d = go (eqb d 115) (eqb d 116)
  where
    go : Bool → Bool → VariableKind
    go true y = kind_s
    go false true = kind_t
    go false false = kind_e

abbrev pub pick_leaf : Bool → Leaf → Leaf → Leaf
pick_leaf true x y = x
pick_leaf false x y = y

abbrev pub leaf_of : Row → Leaf
leaf_of r =
    pick_leaf (eqb r.kind node_char) (symbol (Char r.detail))
    (pick_leaf (eqb r.kind node_identifier) (symbol (Identifier r.start r.len))
    (pick_leaf (eqb r.kind node_number) (symbol (Number r.start r.len))
    (variable (kind_of r.detail) r.start r.len)))

abbrev pub pick_term : Bool → Term → Term → Term
pick_term true x y = x
pick_term false x y = y

-- a term, of its row and the terms inside it
abbrev pub term_of : Row → Terms → Term
term_of r f =
    pick_term (eqb r.kind node_bracket) (bracket r.from f r.to)
    (pick_term (eqb r.kind node_call) (call r.from r.start r.len f r.to)
    (leaf (leaf_of r) r.from r.to))

unfoldable pub get_t : Terms → Forest → Terms
get_t f empty = f
get_t f (tree r t g) = get_t (t_more f (term_of r (get_t t0 t))) g

abbrev pub pick_right : Bool → Right → Right → Right
pick_right true x y = x
pick_right false x y = y

abbrev pub pick_end : Bool → End → End → End
pick_end true x y = x
pick_end false x y = y

abbrev pub pick_sentence : Bool → Sentence → Sentence → Sentence
pick_sentence true x y = x
pick_sentence false x y = y

abbrev pub pick_body : Bool → Body → Body → Body
pick_body true x y = x
pick_body false x y = y

unfoldable mutual
  -- a body, after the sentences s; the sentence whose `;` is left off ends it
  pub get_b : Sentences → Forest → Body
  get_b s empty = b_all s
  get_b s (tree r f g) = pick_body (eqb r.detail 1) (b_off s (get_sentence r f)) (get_b (s_more s (get_sentence r f)) g)

  -- the sentence of the row r, from its pattern on
  pub get_sentence : Row → Forest → Sentence
  get_sentence r empty = sentence r.from t0 c0 (e_terms t0) r.to
  get_sentence r (tree q f g) = get_tail r (get_t t0 f) c0 g

  -- the same, from the place after some of its conditions on
  pub get_tail : Row → Terms → Conditions → Forest → Sentence
  get_tail r p cs empty = sentence r.from p cs (e_terms t0) r.to
  get_tail r p cs (tree q f g) =
      pick_sentence (eqb q.kind node_condition) (get_tail r p (c_more cs (get_condition q f)) g)
      (sentence r.from p cs (pick_end (eqb q.kind node_ending_block) (get_block q f) (e_terms (get_t t0 f))) r.to)

  -- the ending block of the row q
  pub get_block : Row → Forest → End
  get_block q empty = e_terms t0
  get_block q (tree z f g) = e_block q.from (get_t t0 f) (get_b s0 g) q.to

  -- the condition of the row r
  pub get_condition : Row → Forest → Condition
  get_condition r empty = condition r.from t0 (r_terms t0) r.to
  get_condition r (tree q f g) = condition r.from (get_t t0 f) (get_right g) r.to

  -- what stands after its first terms
  pub get_right : Forest → Right
  get_right empty = r_terms t0
  get_right (tree q f g) = pick_right (eqb q.kind node_condition_block) (r_block q.from (get_b s0 f) q.to) (r_terms (get_t t0 f))

-- names after others
unfoldable pub get_ns : Names → Forest → Names
get_ns ns empty = ns
get_ns ns (tree r f g) = get_ns (n_more ns r.start r.len) g

unfoldable pub get_n : Forest → Names
get_n empty = n_one 0 0
get_n (tree r f g) = get_ns (n_one r.start r.len) g

abbrev pub pick_item : Bool → Item → Item → Item
pick_item true x y = x
pick_item false x y = y

-- an item, of its row and what is inside it
abbrev pub item_of : Row → Forest → Item
item_of r f =
    pick_item (eqb r.kind node_declaration) (declaration r.from (get_n f) r.to)
    (function r.from (eqb r.detail 1) r.start r.len (get_b s0 f) r.to)

unfoldable pub get_p : Program → Forest → Program
get_p p empty = p
get_p p (tree r f g) = get_p (p_more p (item_of r f)) g

abbrev pub program_of : Forest → Program
program_of f = get_p p0 f
