-- Flattening row by row: what a row puts before its children, and after them, by its own words and the state in which it stands.
-- For a tree this is the flattening of `refal_ast`.
use Rattle.std.specs.Prelude.{ℕ, Bool, true, false, List, [], ◌∷◌, ◌++◌, ◌≡◌, refl, eqb}
use Rattle.std.proofs.Common.{append_assoc, append-nil, sym, ap, ◌∙◌, eqb-true}
use Rattle.refal_ast.specs.Kinds.{tok_extern, tok_variable, tok_number, tok_char, tok_l_brace, tok_r_brace, tok_l_paren, tok_r_paren, tok_l_angle, tok_r_angle}
use Rattle.refal_ast.specs.Kinds.{tok_comma, tok_colon, tok_equals, tok_semicolon}
use Rattle.refal_ast.specs.Kinds.{node_declaration, node_name, node_function, node_sentence, node_condition, node_terms, node_ending_block, node_condition_block}
use Rattle.refal_ast.specs.Kinds.{node_identifier, node_number, node_char, node_variable, node_bracket, node_call}
use Rattle.refal_ast.specs.Tree.{Leaf, symbol, variable, Term, leaf, bracket, call, Terms, t0, t_more, Right, r_terms, r_block, Condition, condition, Conditions, c0, c_more}
use Rattle.refal_ast.specs.Tree.{End, e_terms, e_block, Sentence, sentence, Sentences, s0, s_more, Body, b_all, b_off, Names, n_one, n_more, Item, declaration, function, Program, p0, p_more}
use Rattle.refal_ast.specs.Flatten.{Flat, flat_token, mark, name_of, flat_leaf, flatten_term, flatten_t, flatten_right, flatten_condition, flatten_c, flatten_end, flatten_sentence, flatten_s, flatten_b, flatten_n}
use Rattle.refal_ast.specs.Flatten.{flat_off, flat_entry, flatten_item, flatten_p}
use Rattle.refal_ast.specs.Encode.{off_detail}
use Rattle.refal_ast.specs.declared.tree.Symbol.TheVariants.{Char, Identifier, Number}
use Rattle.refal_tree.specs.Forest.{Row, row, Forest, empty, tree}
use Rattle.refal_tree.specs.States.{term_kind, at_items, at_name, at_names, at_sentences, at_pattern, at_conditions, at_condition, at_colon, at_terms, at_argument, at_ending, closed, pick_state, leaves_off, state_inside, state_after, state_next}
use Rattle.refal_tree.specs.Typed.{leaf_r, plain, for_term, for_t, for_terms, for_right, for_condition, for_c, for_end, sentence_r, for_sentence, for_s, for_b, name_r, for_n, for_item, for_p, to_forest}
use Rattle.refal_tree.specs.TypedRules.{flag_back}

abbrev pub pick_f : Bool → List Flat → List Flat → List Flat
pick_f true x y = x
pick_f false x y = y

abbrev pub on_f : ℕ → ℕ → List Flat → List Flat → List Flat
on_f k n x y = pick_f (eqb k n) x y

-- before the children of a term
abbrev pub open_term : Row → List Flat
open_term r =
    on_f r.kind node_identifier (name_of r.start r.len ∷ [])
    (on_f r.kind node_number (flat_token tok_number 0 r.start r.len ∷ [])
    (on_f r.kind node_char (flat_token tok_char r.detail 0 0 ∷ [])
    (on_f r.kind node_variable (flat_token tok_variable r.detail r.start r.len ∷ [])
    (on_f r.kind node_bracket (mark tok_l_paren ∷ [])
    (on_f r.kind node_call (mark tok_l_angle ∷ name_of r.start r.len ∷ []) [])))))

-- before the children of any other row, in the state st
abbrev pub open_rest : ℕ → Row → List Flat
open_rest st r =
    on_f r.kind node_declaration (mark tok_extern ∷ [])
    (on_f r.kind node_name (on_f st at_names (mark tok_comma ∷ name_of r.start r.len ∷ []) (name_of r.start r.len ∷ []))
    (on_f r.kind node_function (flat_entry (eqb r.detail 1) ++ (name_of r.start r.len ∷ mark tok_l_brace ∷ []))
    (on_f r.kind node_condition (mark tok_comma ∷ [])
    (on_f r.kind node_terms (on_f st at_conditions (mark tok_equals ∷ []) [])
    (on_f r.kind node_ending_block (mark tok_equals ∷ mark tok_comma ∷ [])
    (on_f r.kind node_condition_block (mark tok_l_brace ∷ []) []))))))

-- before a row's children; here are all tokens that have a detail or a text
abbrev pub open_tokens : ℕ → Row → List Flat
open_tokens st r = pick_f (term_kind r.kind) (open_term r) (open_rest st r)

-- after the children of a row of the kind k and the detail d
abbrev pub close_tokens : ℕ → ℕ → ℕ → List Flat
close_tokens st k d =
    on_f k node_declaration (mark tok_semicolon ∷ [])
    (on_f k node_function (mark tok_r_brace ∷ [])
    (on_f k node_sentence (flat_off (eqb d 1))
    (on_f k node_terms (on_f st at_condition (mark tok_colon ∷ []) (on_f st at_argument (mark tok_colon ∷ mark tok_l_brace ∷ []) []))
    (on_f k node_ending_block (mark tok_r_brace ∷ [])
    (on_f k node_condition_block (mark tok_r_brace ∷ [])
    (on_f k node_bracket (mark tok_r_paren ∷ [])
    (on_f k node_call (mark tok_r_angle ∷ []) [])))))))

unfoldable pub flatten_g : ℕ → Forest → List Flat
flatten_g st empty = []
flatten_g st (tree r f g) =
    open_tokens st r ++ (flatten_g (state_inside r.kind) f ++ (close_tokens st r.kind r.detail ++ flatten_g (state_next st r.kind r.detail) g))

-- the sentences of an ending block flatten as those of a function
flat_ending : (f : Forest) → flatten_g at_ending f ≡ flatten_g at_sentences f
unfolding flatten_g
flat_ending empty = refl
flat_ending (tree r f g) = go (flat_ending g) (eqb r.kind node_sentence) refl
  where
    next : flatten_g at_ending g ≡ flatten_g at_sentences g → (b : Bool) → flatten_g (pick_state b closed at_ending) g ≡ flatten_g (pick_state b closed at_sentences) g
    next ih true = refl
    next ih false = ih

    go : flatten_g at_ending g ≡ flatten_g at_sentences g → (b : Bool) → eqb r.kind node_sentence ≡ b → flatten_g at_ending (tree r f g) ≡ flatten_g at_sentences (tree r f g)
    go ih true e = rw (eqb-true r.kind node_sentence e) (ap (λ (l : List Flat). flatten_g at_pattern f ++ (close_tokens at_sentences node_sentence r.detail ++ l)) (next ih (leaves_off node_sentence r.detail)))
    go ih false e = rw e refl

-- ---- a tree's flattening

-- what op puts before a forest flattens to E, between the states st and st'
pub record Flows (st st' : ℕ) (op : Forest → Forest) (E : List Flat) : Type 0 where
  pub flat : (g : Forest) → flatten_g st (op g) ≡ E ++ flatten_g st' g

flows_none : (st : ℕ) → Flows st st (λ (g : Forest). g) []
flows_none st = record { flat = λ g. refl }

flows_then : {st₁ st₂ st₃ : ℕ} {op₁ op₂ : Forest → Forest} {E₁ E₂ : List Flat} → Flows st₁ st₂ op₁ E₁ → Flows st₂ st₃ op₂ E₂ → Flows st₁ st₃ (λ (g : Forest). op₁ (op₂ g)) (E₁ ++ E₂)
flows_then {st₁} {st₂} {st₃} {op₁} {op₂} {E₁} {E₂} p q = record {
  flat = λ g. p.flat (op₂ g) ∙ ap (λ (l : List Flat). E₁ ++ l) (q.flat g) ∙ sym (append_assoc E₁ E₂ (flatten_g st₃ g));
}

-- all of it, where nothing stands after
flows_all : {st st' : ℕ} {op : Forest → Forest} {E : List Flat} → Flows st st' op E → flatten_g st (op empty) ≡ E
unfolding flatten_g
flows_all {st} {st'} {op} {E} p = p.flat empty ∙ append-nil E

-- a row and its children
flows_row : {f : Forest} {E : List Flat} (st : ℕ) (r : Row) → flatten_g (state_inside r.kind) f ≡ E
    → Flows st (state_next st r.kind r.detail) (λ (g : Forest). tree r f g) (open_tokens st r ++ (E ++ close_tokens st r.kind r.detail))
unfolding flatten_g
flows_row {f} {E} st r e = record {
  flat = λ g.
      let R : List Flat = flatten_g (state_next st r.kind r.detail) g in
      let Z : List Flat = close_tokens st r.kind r.detail in
      ap (λ (l : List Flat). open_tokens st r ++ (l ++ (Z ++ R))) e
      ∙ ap (λ (l : List Flat). open_tokens st r ++ l) (sym (append_assoc E Z R))
      ∙ sym (append_assoc (open_tokens st r) (E ++ Z) R);
}

flows_as : {st st' : ℕ} {op : Forest → Forest} {E E' : List Flat} → E ≡ E' → Flows st st' op E → Flows st st' op E'
flows_as {st} {st'} {op} {E} {E'} e p = record { flat = λ g. p.flat g ∙ ap (λ (l : List Flat). l ++ flatten_g st' g) e }

flows_leaf : (x : Leaf) (a b : ℕ) → Flows at_terms at_terms (λ (g : Forest). tree (leaf_r x a b) empty g) (flat_leaf x ∷ [])
unfolding flatten_g
flows_leaf (symbol (Char x)) a b = record { flat = λ g. refl }
flows_leaf (symbol (Identifier s l)) a b = record { flat = λ g. refl }
flows_leaf (symbol (Number s l)) a b = record { flat = λ g. refl }
flows_leaf (variable v s l) a b = record { flat = λ g. refl }

mutual
  unfolding flatten_t for_t

  flows_term : (x : Term) → Flows at_terms at_terms (for_term x) (flatten_term x)
  flows_term (leaf x a b) = flows_leaf x a b
  flows_term (bracket a f b) = flows_row at_terms (plain node_bracket a b) (flows_all (flows_t f))
  flows_term (call a s l f b) = flows_row at_terms (row node_call 0 s l a b) (flows_all (flows_t f))

  flows_t : (f : Terms) → Flows at_terms at_terms (for_t f) (flatten_t f)
  flows_t t0 = flows_none at_terms
  flows_t (t_more f x) = flows_then (flows_t f) (flows_term x)

-- a Terms row, in each place
flows_terms : (st : ℕ) (f : Terms) → Flows st (state_after st node_terms) (for_terms f) (open_tokens st (plain node_terms 0 0) ++ (flatten_t f ++ close_tokens st node_terms 0))
flows_terms st f = flows_row st (plain node_terms 0 0) (flows_all (flows_t f))

at_pattern_lem : (f : Terms) → Flows at_pattern at_conditions (for_terms f) (flatten_t f)
at_pattern_lem f = flows_as (append-nil (flatten_t f)) (flows_terms at_pattern f)

at_colon_lem : (f : Terms) → Flows at_colon closed (for_terms f) (flatten_t f)
at_colon_lem f = flows_as (append-nil (flatten_t f)) (flows_terms at_colon f)

at_result : (f : Terms) → Flows at_conditions closed (for_terms f) (mark tok_equals ∷ flatten_t f)
at_result f = flows_as (ap (λ (l : List Flat). mark tok_equals ∷ l) (append-nil (flatten_t f))) (flows_terms at_conditions f)

mutual
  unfolding flatten_c for_c

  flows_right : (r : Right) → Flows at_colon closed (for_right r) (flatten_right r)
  flows_right (r_terms f) = at_colon_lem f
  flows_right (r_block a v b) = flows_row at_colon (plain node_condition_block a b) (flat_b_lem v)

  flows_condition : (x : Condition) → Flows at_conditions at_conditions (for_condition x) (flatten_condition x)
  flows_condition (condition a f r b) =
      flows_as (simp (append_assoc, append-nil)) (flows_row at_conditions (plain node_condition a b) (flows_all (flows_then (flows_terms at_condition f) (flows_right r))))

  flows_c : (cs : Conditions) → Flows at_conditions at_conditions (for_c cs) (flatten_c cs)
  flows_c c0 = flows_none at_conditions
  flows_c (c_more cs x) = flows_then (flows_c cs) (flows_condition x)

  flows_end : (x : End) → Flows at_conditions closed (for_end x) (mark tok_equals ∷ flatten_end x)
  flows_end (e_terms f) = at_result f
  flows_end (e_block a f v b) =
      let E : List Flat = flatten_t f ++ (mark tok_colon ∷ mark tok_l_brace ∷ []) in
      flows_as (simp append_assoc)
      (flows_row at_conditions (plain node_ending_block a b)
      ((flows_terms at_argument f).flat (for_b v empty) ∙ ap (λ (l : List Flat). E ++ l) (flat_ending (for_b v empty) ∙ flat_b_lem v)))

  flows_sentence : (off : Bool) (x : Sentence) → Flows at_sentences (state_next at_sentences node_sentence (off_detail off)) (for_sentence off x) (flatten_sentence off x)
  flows_sentence off (sentence a f cs x b) =
      let e : eqb (off_detail off) 1 ≡ off = flag_back off_detail refl refl off in
      flows_as (simp (append_assoc, e))
      (flows_row at_sentences (sentence_r off a b) (flows_all (flows_then (at_pattern_lem f) (flows_then (flows_c cs) (flows_end x)))))

  flows_s : (s : Sentences) → Flows at_sentences at_sentences (for_s s) (flatten_s s)
  flows_s s0 = flows_none at_sentences
  flows_s (s_more s x) = flows_then (flows_s s) (flows_sentence false x)

  flat_b_lem : (v : Body) → flatten_g at_sentences (for_b v empty) ≡ flatten_b v
  flat_b_lem (b_all s) = flows_all (flows_s s)
  flat_b_lem (b_off s x) = flows_all (flows_then (flows_s s) (flows_sentence true x))

flows_name : (s l : ℕ) → Flows at_name at_names (λ (g : Forest). tree (name_r s l) empty g) (name_of s l ∷ [])
unfolding flatten_g
flows_name s l = record { flat = λ g. refl }

flows_more : (s l : ℕ) → Flows at_names at_names (λ (g : Forest). tree (name_r s l) empty g) (mark tok_comma ∷ name_of s l ∷ [])
unfolding flatten_g
flows_more s l = record { flat = λ g. refl }

flows_n : (ns : Names) → Flows at_name at_names (for_n ns) (flatten_n ns)
unfolding flatten_n for_n
flows_n (n_one s l) = flows_name s l
flows_n (n_more ns s l) = flows_then (flows_n ns) (flows_more s l)

flows_item : (x : Item) → Flows at_items at_items (for_item x) (flatten_item x)
flows_item (declaration a ns b) = flows_row at_items (plain node_declaration a b) (flows_all (flows_n ns))
flows_item (function a true s l v b) = flows_row at_items (row node_function 1 s l a b) (flat_b_lem v)
flows_item (function a false s l v b) = flows_row at_items (row node_function 0 s l a b) (flat_b_lem v)

flows_p : (p : Program) → Flows at_items at_items (for_p p) (flatten_p p)
unfolding flatten_p for_p
flows_p p0 = flows_none at_items
flows_p (p_more p x) = flows_then (flows_p p) (flows_item x)

pub flatten_tree : (p : Program) → flatten_g at_items (to_forest p) ≡ flatten_p p
flatten_tree p = flows_all (flows_p p)
