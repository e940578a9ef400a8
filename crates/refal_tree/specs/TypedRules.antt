-- A tree's forest keeps the rules where the tree is no deeper than the levels, and is the tree again.
use Rattle.std.specs.Prelude.{ℕ, zero, suc, ◌≤◌, Bool, true, false, ◌&&◌, ◌≡◌, refl, eqb, leb}
use Rattle.std.proofs.Common.{ap, ◌∙◌, arith, le-leb, eqb-true}
use Rattle.refal_ast.specs.Kinds.{node_declaration, node_function, node_condition, node_terms, node_ending_block, node_condition_block, node_bracket, node_call}
use Rattle.refal_ast.specs.Kinds.{node_sentence}
use Rattle.refal_ast.specs.Tree.{Leaf, symbol, variable, Term, leaf, bracket, call, Terms, t0, t_more, Right, r_terms, r_block, Condition, condition, Conditions, c0, c_more}
use Rattle.refal_ast.specs.Tree.{End, e_terms, e_block, Sentence, sentence, Sentences, s0, s_more, Body, b_all, b_off, Names, n_one, n_more, Item, declaration, function, Program, p0, p_more}
use Rattle.refal_ast.specs.Tree.{depth_term, depth_t, depth_right, depth_condition, depth_c, depth_end, depth_sentence, depth_s, depth_b, depth_item, depth_p}
use Rattle.refal_ast.specs.Encode.{entry_detail, off_detail}
use Rattle.refal_ast.specs.declared.tree.Symbol.TheVariants.{Char, Identifier, Number}
use Rattle.refal_ast.specs.declared.tree.VariableKind.TheVariants.{Symbol as kind_s, Term as kind_t, Expression as kind_e}
use Rattle.refal_tree.specs.Forest.{Row, row, Forest, empty, tree}
use Rattle.refal_tree.specs.States.{at_items, at_name, at_names, at_sentences, at_pattern, at_conditions, at_condition, at_colon, at_terms, at_argument, at_ending, closed, pick_state, leaves_off, state_inside, state_next, below, lower}
use Rattle.refal_tree.specs.Rules.{row_ok, ok_g}
use Rattle.refal_tree.specs.Typed.{leaf_r, plain, for_term, for_t, for_terms, for_right, for_condition, for_c, for_end, sentence_r, for_sentence, for_s, for_b, name_r, for_n, for_item, for_p, to_forest, term_of, get_t}
use Rattle.refal_tree.specs.Typed.{pick_body, get_b, get_tail, get_right, get_ns, get_n, get_p, program_of}

-- a row that keeps the rules, over children that do
pub ok_tree : (st left : ℕ) (r : Row) (f g : Forest) → row_ok st left r ≡ true → ok_g (state_inside r.kind) (below st r.kind left) f ≡ true
    → ok_g st left (tree r f g) ≡ ok_g (state_next st r.kind r.detail) left g
unfolding ok_g
ok_tree st left r f g h i =
    ap (λ (x : Bool). x && (ok_g (state_inside r.kind) (below st r.kind left) f && ok_g (state_next st r.kind r.detail) left g)) h
    ∙ ap (λ (x : Bool). x && ok_g (state_next st r.kind r.detail) left g) i

lower_le : (d left : ℕ) → suc d ≤ left → d ≤ lower left
lower_le d zero h = absurd (omega arith)
lower_le d (suc n) h = omega arith

-- where no more rows may stand, the levels say nothing
closed_levels : (l m : ℕ) (g : Forest) → ok_g closed l g ≡ ok_g closed m g
unfolding ok_g
closed_levels l m empty = refl
closed_levels l m (tree r f g) = refl

-- the sentences of an ending block are sentences with one level less
pub ending_is : (left : ℕ) (g : Forest) → ok_g at_ending left g ≡ ok_g at_sentences (lower left) g
unfolding ok_g
ending_is left empty = refl
ending_is left (tree r f g) = go (ending_is left g) (eqb r.kind node_sentence) refl
  where
    next : ok_g at_ending left g ≡ ok_g at_sentences (lower left) g → (b : Bool) → ok_g (pick_state b closed at_ending) left g ≡ ok_g (pick_state b closed at_sentences) (lower left) g
    next ih true = closed_levels left (lower left) g
    next ih false = ih

    go : ok_g at_ending left g ≡ ok_g at_sentences (lower left) g → (b : Bool) → eqb r.kind node_sentence ≡ b → ok_g at_ending left (tree r f g) ≡ ok_g at_sentences (lower left) (tree r f g)
    go ih true e = rw (eqb-true r.kind node_sentence e, next ih (leaves_off node_sentence r.detail))
    go ih false e = rw e refl

-- a level is left
some_left : (d left : ℕ) → suc d ≤ left → leb 1 left && true ≡ true
some_left d left h = rw (le-leb 1 left (omega arith)) refl

ok_leaf : (x : Leaf) (a b left : ℕ) (g : Forest) → ok_g at_terms left (tree (leaf_r x a b) empty g) ≡ ok_g at_terms left g
unfolding ok_g
ok_leaf (symbol (Char x)) a b left g = refl
ok_leaf (symbol (Identifier s l)) a b left g = refl
ok_leaf (symbol (Number s l)) a b left g = refl
ok_leaf (variable kind_s s l) a b left g = refl
ok_leaf (variable kind_t s l) a b left g = refl
ok_leaf (variable kind_e s l) a b left g = refl

mutual
  unfolding for_t depth_t ok_g

  ok_term : (x : Term) (left : ℕ) (g : Forest) → depth_term x ≤ left → ok_g at_terms left (for_term x g) ≡ ok_g at_terms left g
  ok_term (leaf x a b) left g h = ok_leaf x a b left g
  ok_term (bracket a f b) left g h =
      ok_tree at_terms left (plain node_bracket a b) (for_t f empty) g (some_left (depth_t f) left h) (ok_t f (lower left) empty (lower_le (depth_t f) left h))
  ok_term (call a s l f b) left g h =
      ok_tree at_terms left (row node_call 0 s l a b) (for_t f empty) g (some_left (depth_t f) left h) (ok_t f (lower left) empty (lower_le (depth_t f) left h))

  ok_t : (f : Terms) (left : ℕ) (g : Forest) → depth_t f ≤ left → ok_g at_terms left (for_t f g) ≡ ok_g at_terms left g
  ok_t t0 left g h = refl
  ok_t (t_more f x) left g h = ok_t f left (for_term x g) (omega arith) ∙ ok_term x left g (omega arith)

-- the terms of a Terms row
ok_inner : (f : Terms) (left : ℕ) → depth_t f ≤ left → ok_g at_terms left (for_t f empty) ≡ true
unfolding ok_g
ok_inner f left h = ok_t f left empty h

-- a sentence's row, its `;` written or left off
ok_off : (off : Bool) (left a b : ℕ) → row_ok at_sentences left (sentence_r off a b) ≡ true
ok_off true left a b = refl
ok_off false left a b = refl

mutual
  unfolding for_c depth_c ok_g

  ok_right : (r : Right) (left : ℕ) → depth_right r ≤ left → ok_g at_colon left (for_right r empty) ≡ true
  ok_right (r_terms f) left h = ok_tree at_colon left (plain node_terms 0 0) (for_t f empty) empty refl (ok_inner f left h)
  ok_right (r_block a v b) left h =
      ok_tree at_colon left (plain node_condition_block a b) (for_b v empty) empty (some_left (depth_b v) left h) (ok_b v (lower left) (lower_le (depth_b v) left h))

  ok_condition : (x : Condition) (left : ℕ) (g : Forest) → depth_condition x ≤ left → ok_g at_conditions left (for_condition x g) ≡ ok_g at_conditions left g
  ok_condition (condition a f r b) left g h =
      ok_tree at_conditions left (plain node_condition a b) (for_terms f (for_right r empty)) g refl
      (ok_tree at_condition left (plain node_terms 0 0) (for_t f empty) (for_right r empty) refl (ok_inner f left (omega arith)) ∙ ok_right r left (omega arith))

  ok_c : (cs : Conditions) (left : ℕ) (g : Forest) → depth_c cs ≤ left → ok_g at_conditions left (for_c cs g) ≡ ok_g at_conditions left g
  ok_c c0 left g h = refl
  ok_c (c_more cs x) left g h = ok_c cs left (for_condition x g) (omega arith) ∙ ok_condition x left g (omega arith)

  ok_end : (x : End) (left : ℕ) → depth_end x ≤ left → ok_g at_conditions left (for_end x empty) ≡ true
  ok_end (e_terms f) left h = ok_tree at_conditions left (plain node_terms 0 0) (for_t f empty) empty refl (ok_inner f left h)
  ok_end (e_block a f v b) left h =
      let i : suc (depth_b v) ≤ left = omega arith in
      ok_tree at_conditions left (plain node_ending_block a b) (for_terms f (for_b v empty)) empty (some_left (depth_b v) left i)
      (ok_tree at_argument left (plain node_terms 0 0) (for_t f empty) (for_b v empty) refl (ok_inner f left (omega arith))
      ∙ ending_is left (for_b v empty)
      ∙ ok_b v (lower left) (lower_le (depth_b v) left i))

  ok_sentence : (off : Bool) (x : Sentence) (left : ℕ) (g : Forest) → depth_sentence x ≤ left
      → ok_g at_sentences left (for_sentence off x g) ≡ ok_g (state_next at_sentences node_sentence (off_detail off)) left g
  ok_sentence off (sentence a f cs x b) left g h =
      ok_tree at_sentences left (sentence_r off a b) (for_terms f (for_c cs (for_end x empty))) g (ok_off off left a b)
      (ok_tree at_pattern left (plain node_terms 0 0) (for_t f empty) (for_c cs (for_end x empty)) refl (ok_inner f left (omega arith))
      ∙ ok_c cs left (for_end x empty) (omega arith)
      ∙ ok_end x left (omega arith))

  ok_s : (s : Sentences) (left : ℕ) (g : Forest) → depth_s s ≤ left → ok_g at_sentences left (for_s s g) ≡ ok_g at_sentences left g
  ok_s s0 left g h = refl
  ok_s (s_more s x) left g h = ok_s s left (for_sentence false x g) (omega arith) ∙ ok_sentence false x left g (omega arith)

  ok_b : (v : Body) (left : ℕ) → depth_b v ≤ left → ok_g at_sentences left (for_b v empty) ≡ true
  ok_b (b_all s) left h = ok_s s left empty h
  ok_b (b_off s x) left h = ok_s s left (for_sentence true x empty) (omega arith) ∙ ok_sentence true x left empty (omega arith)

-- names after others, and names
ok_ns : (ns : Names) (left : ℕ) (g : Forest) → ok_g at_name left (for_n ns g) ≡ ok_g at_names left g
unfolding for_n ok_g
ok_ns (n_one s l) left g = refl
ok_ns (n_more ns s l) left g = ok_ns ns left (tree (name_r s l) empty g)

ok_function : (x : Bool) (left s l a b : ℕ) → row_ok at_items left (row node_function (entry_detail x) s l a b) ≡ true
ok_function true left s l a b = refl
ok_function false left s l a b = refl

ok_item : (x : Item) (left : ℕ) (g : Forest) → depth_item x ≤ left → ok_g at_items left (for_item x g) ≡ ok_g at_items left g
unfolding ok_g
ok_item (declaration a ns b) left g h = ok_tree at_items left (plain node_declaration a b) (for_n ns empty) g refl (ok_ns ns left empty)
ok_item (function a x s l v b) left g h =
    ok_tree at_items left (row node_function (entry_detail x) s l a b) (for_b v empty) g (ok_function x left s l a b) (ok_b v left h)

ok_p : (p : Program) (left : ℕ) (g : Forest) → depth_p p ≤ left → ok_g at_items left (for_p p g) ≡ ok_g at_items left g
unfolding for_p depth_p
ok_p p0 left g h = refl
ok_p (p_more p x) left g h = ok_p p left (for_item x g) (omega arith) ∙ ok_item x left g (omega arith)

-- ---- the tree of a tree's forest
pub leaf_back : (x : Leaf) (a b : ℕ) (f : Terms) → term_of (leaf_r x a b) f ≡ leaf x a b
leaf_back (symbol (Char x)) a b f = refl
leaf_back (symbol (Identifier s l)) a b f = refl
leaf_back (symbol (Number s l)) a b f = refl
leaf_back (variable kind_s s l) a b f = refl
leaf_back (variable kind_t s l) a b f = refl
leaf_back (variable kind_e s l) a b f = refl

mutual
  unfolding for_t get_t

  back_term : (x : Term) (f : Terms) (g : Forest) → get_t f (for_term x g) ≡ get_t (t_more f x) g
  back_term (leaf x a b) f g = ap (λ (y : Term). get_t (t_more f y) g) (leaf_back x a b t0)
  back_term (bracket a t b) f g = ap (λ (y : Terms). get_t (t_more f (bracket a y b)) g) (back_t t empty)
  back_term (call a s l t b) f g = ap (λ (y : Terms). get_t (t_more f (call a s l y b)) g) (back_t t empty)

  back_t : (f : Terms) (g : Forest) → get_t t0 (for_t f g) ≡ get_t f g
  back_t t0 g = refl
  back_t (t_more f x) g = back_t f (for_term x g) ∙ back_term x f g

inner_t : (f : Terms) → get_t t0 (for_t f empty) ≡ f
unfolding get_t
inner_t f = back_t f empty

-- a detail that is 1 for yes and 0 for no
pub flag_back : (of : Bool → ℕ) → of true ≡ 1 → of false ≡ 0 → (x : Bool) → eqb (of x) 1 ≡ x
flag_back of one nought true = ap (λ (d : ℕ). eqb d 1) one
flag_back of one nought false = ap (λ (d : ℕ). eqb d 1) nought

mutual
  unfolding for_c get_b

  back_right : (r : Right) → get_right (for_right r empty) ≡ r
  back_right (r_terms f) = ap r_terms (inner_t f)
  back_right (r_block a v b) = ap (λ (y : Body). r_block a y b) (back_b v)

  back_condition : (r : Row) (p : Terms) (cs : Conditions) (x : Condition) (g : Forest) → get_tail r p cs (for_condition x g) ≡ get_tail r p (c_more cs x) g
  back_condition r p cs (condition a f x b) g =
      ap (λ (y : Terms). get_tail r p (c_more cs (condition a y (get_right (for_right x empty)) b)) g) (inner_t f)
      ∙ ap (λ (y : Right). get_tail r p (c_more cs (condition a f y b)) g) (back_right x)

  back_c : (r : Row) (p : Terms) (cs : Conditions) (g : Forest) → get_tail r p c0 (for_c cs g) ≡ get_tail r p cs g
  back_c r p c0 g = refl
  back_c r p (c_more cs x) g = back_c r p cs (for_condition x g) ∙ back_condition r p cs x g

  back_end : (r : Row) (p : Terms) (cs : Conditions) (x : End) → get_tail r p cs (for_end x empty) ≡ sentence r.from p cs x r.to
  back_end r p cs (e_terms f) = ap (λ (y : Terms). sentence r.from p cs (e_terms y) r.to) (inner_t f)
  back_end r p cs (e_block a f v b) =
      ap (λ (y : Terms). sentence r.from p cs (e_block a y (get_b s0 (for_b v empty)) b) r.to) (inner_t f)
      ∙ ap (λ (y : Body). sentence r.from p cs (e_block a f y b) r.to) (back_b v)

  back_sentence : (off : Bool) (s : Sentences) (x : Sentence) (g : Forest) → get_b s (for_sentence off x g) ≡ pick_body off (b_off s x) (get_b (s_more s x) g)
  back_sentence off s (sentence a f cs x b) g =
      let r : Row = sentence_r off a b in
      let z : Sentence = sentence a f cs x b in
      ap (λ (y : Sentence). pick_body (eqb (off_detail off) 1) (b_off s y) (get_b (s_more s y) g))
      (ap (λ (y : Terms). get_tail r y c0 (for_c cs (for_end x empty))) (inner_t f) ∙ back_c r f cs (for_end x empty) ∙ back_end r f cs x)
      ∙ ap (λ (y : Bool). pick_body y (b_off s z) (get_b (s_more s z) g)) (flag_back off_detail refl refl off)

  back_s : (s : Sentences) (g : Forest) → get_b s0 (for_s s g) ≡ get_b s g
  back_s s0 g = refl
  back_s (s_more s x) g = back_s s (for_sentence false x g) ∙ back_sentence false s x g

  back_b : (v : Body) → get_b s0 (for_b v empty) ≡ v
  back_b (b_all s) = back_s s empty
  back_b (b_off s x) = back_s s (for_sentence true x empty) ∙ back_sentence true s x empty

back_n : (ns : Names) (g : Forest) → get_n (for_n ns g) ≡ get_ns ns g
unfolding for_n get_n get_ns
back_n (n_one s l) g = refl
back_n (n_more ns s l) g = back_n ns (tree (name_r s l) empty g)

back_item : (x : Item) → (p : Program) (g : Forest) → get_p p (for_item x g) ≡ get_p (p_more p x) g
unfolding get_p get_ns get_b
back_item (declaration a ns b) p g = ap (λ (y : Names). get_p (p_more p (declaration a y b)) g) (back_n ns empty)
back_item (function a x s l v b) p g =
    ap (λ (y : Bool). get_p (p_more p (function a y s l (get_b s0 (for_b v empty)) b)) g) (flag_back entry_detail refl refl x)
    ∙ ap (λ (y : Body). get_p (p_more p (function a x s l y b)) g) (back_b v)

back_p : (p : Program) (g : Forest) → get_p p0 (for_p p g) ≡ get_p p g
unfolding for_p
back_p p0 g = refl
back_p (p_more p x) g = back_p p (for_item x g) ∙ back_item x p g

-- ---- whole trees
pub ok_program : (p : Program) (left : ℕ) → depth_p p ≤ left → ok_g at_items left (to_forest p) ≡ true
unfolding ok_g
ok_program p left h = ok_p p left empty h

pub back_program : (p : Program) → program_of (to_forest p) ≡ p
unfolding get_p
back_program p = back_p p empty
