-- What trees put into the rows, in the order in which the code puts them: a parent's row after its children's. Each takes the first row's number n
-- and the row q of its parent.
use Rattle.std.specs.Prelude.{ℕ, ◌+◌, Bool, true, false, List}
use Rattle.refal_rows.specs.Rows.{put_row}
use Rattle.refal_ast.specs.Kinds.{node_declaration, node_name, node_function, node_sentence, node_condition, node_terms, node_ending_block, node_condition_block, node_bracket, node_call}
use Rattle.refal_ast.specs.Tree.{Term, leaf, bracket, call, Terms, t0, t_more, Right, r_terms, r_block, Condition, condition, Conditions, c0, c_more}
use Rattle.refal_ast.specs.Tree.{End, e_terms, e_block, Sentence, sentence, Sentences, s0, s_more, Body, b_all, b_off, Names, n_one, n_more, Item, declaration, function, Program, p0, p_more}
use Rattle.refal_ast.specs.Tree.{size_t, size_right, size_c, size_end, size_s, size_b, size_n, size_p}
use Rattle.refal_ast.specs.Nodes.{node_width, no_parent, node}
use Rattle.refal_ast.specs.Encode.{leaf_row, entry_detail, off_detail, end_terms}

-- row m put in, where it fits whole
abbrev pub put_node : List ℕ → ℕ → List ℕ → List ℕ
put_node B m row = put_row node_width B m row

-- the row of a node that has a span and no text
abbrev pub span_row : ℕ → ℕ → ℕ → ℕ → ℕ → List ℕ
span_row kind a b next q = node kind 0 0 0 a b next q

-- the row of a sentence
abbrev pub sentence_row : Bool → ℕ → ℕ → ℕ → ℕ → List ℕ
sentence_row off a b next q = node node_sentence (off_detail off) 0 0 a b next q

abbrev pub terms_row : ℕ → ℕ → List ℕ
terms_row next q = node node_terms 0 0 0 0 0 next q

unfoldable mutual
  pub w_term : Term → ℕ → ℕ → List ℕ → List ℕ
  w_term (leaf x a b) n q B = put_node B n (leaf_row x a b (n + 1) q)
  w_term (bracket a f b) n q B = put_node (w_t f (n + 1) n B) n (span_row node_bracket a b (n + 1 + size_t f) q)
  w_term (call a s l f b) n q B = put_node (w_t f (n + 1) n B) n (node node_call 0 s l a b (n + 1 + size_t f) q)

  pub w_t : Terms → ℕ → ℕ → List ℕ → List ℕ
  w_t t0 n q B = B
  w_t (t_more f x) n q B = w_term x (n + size_t f) q (w_t f n q B)

-- a Terms row and its terms
abbrev pub w_terms : Terms → ℕ → ℕ → List ℕ → List ℕ
w_terms f n q B = put_node (w_t f (n + 1) n B) n (terms_row (end_terms f n) q)

unfoldable mutual
  pub w_right : Right → ℕ → ℕ → List ℕ → List ℕ
  w_right (r_terms f) n q B = w_terms f n q B
  w_right (r_block a v b) n q B = put_node (w_b v (n + 1) n B) n (span_row node_condition_block a b (n + 1 + size_b v) q)

  pub w_condition : Condition → ℕ → ℕ → List ℕ → List ℕ
  w_condition (condition a f r b) n q B =
      put_node (w_right r (end_terms f (n + 1)) n (w_terms f (n + 1) n B)) n (span_row node_condition a b (end_terms f (n + 1) + size_right r) q)

  pub w_c : Conditions → ℕ → ℕ → List ℕ → List ℕ
  w_c c0 n q B = B
  w_c (c_more cs x) n q B = w_condition x (n + size_c cs) q (w_c cs n q B)

  pub w_end : End → ℕ → ℕ → List ℕ → List ℕ
  w_end (e_terms f) n q B = w_terms f n q B
  w_end (e_block a f v b) n q B =
      put_node (w_b v (end_terms f (n + 1)) n (w_terms f (n + 1) n B)) n (span_row node_ending_block a b (end_terms f (n + 1) + size_b v) q)

  -- a sentence, and whether its `;` is left off
  pub w_sentence : Bool → Sentence → ℕ → ℕ → List ℕ → List ℕ
  w_sentence off (sentence a f cs x b) n q B =
      put_node (w_end x (end_terms f (n + 1) + size_c cs) n (w_c cs (end_terms f (n + 1)) n (w_terms f (n + 1) n B))) n
      (sentence_row off a b (end_terms f (n + 1) + size_c cs + size_end x) q)

  pub w_s : Sentences → ℕ → ℕ → List ℕ → List ℕ
  w_s s0 n q B = B
  w_s (s_more s x) n q B = w_sentence false x (n + size_s s) q (w_s s n q B)

  pub w_b : Body → ℕ → ℕ → List ℕ → List ℕ
  w_b (b_all s) n q B = w_s s n q B
  w_b (b_off s x) n q B = w_sentence true x (n + size_s s) q (w_s s n q B)

-- ---- items
abbrev pub name_row : ℕ → ℕ → ℕ → ℕ → List ℕ
name_row s l next q = node node_name 0 s l 0 0 next q

unfoldable pub w_n : Names → ℕ → ℕ → List ℕ → List ℕ
w_n (n_one s l) n q B = put_node B n (name_row s l (n + 1) q)
w_n (n_more ns s l) n q B = put_node (w_n ns n q B) (n + size_n ns) (name_row s l (n + size_n ns + 1) q)

abbrev pub w_item : Item → ℕ → List ℕ → List ℕ
w_item (declaration a ns b) n B = put_node (w_n ns (n + 1) n B) n (span_row node_declaration a b (n + 1 + size_n ns) no_parent)
w_item (function a x s l v b) n B = put_node (w_b v (n + 1) n B) n (node node_function (entry_detail x) s l a b (n + 1 + size_b v) no_parent)

unfoldable pub w_p : Program → ℕ → List ℕ → List ℕ
w_p p0 n B = B
w_p (p_more p x) n B = w_item x (n + size_p p) (w_p p n B)
