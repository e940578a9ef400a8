-- A tree's words are those of its forest.
use Rattle.std.specs.Prelude.{ℕ, ◌+◌, Bool, true, false, List, [], ◌++◌, ◌≡◌, refl}
use Rattle.std.proofs.Common.{append_assoc, append-nil, sym, ap, subst, ◌∙◌, arith}
use Rattle.refal_ast.specs.Kinds.{node_declaration, node_function, node_condition, node_terms, node_ending_block, node_condition_block, node_bracket, node_call}
use Rattle.refal_ast.specs.Nodes.{no_parent}
use Rattle.refal_ast.specs.Tree.{Leaf, symbol, variable, Term, leaf, bracket, call, Terms, t0, t_more, Right, r_terms, r_block, Condition, condition, Conditions, c0, c_more}
use Rattle.refal_ast.specs.Tree.{End, e_terms, e_block, Sentence, sentence, Sentences, s0, s_more, Body, b_all, b_off, Names, n_one, n_more, Item, declaration, function, Program, p0, p_more}
use Rattle.refal_ast.specs.Tree.{size_term, size_t, size_right, size_condition, size_c, size_end, size_sentence, size_s, size_b, size_n, size_item, size_p}
use Rattle.refal_ast.specs.Encode.{entry_detail, leaf_row, end_terms, enc_term, enc_t, enc_terms, enc_right, enc_condition, enc_c, enc_end, enc_sentence, enc_s, enc_b, enc_n, enc_item, enc_p}
use Rattle.refal_ast.specs.declared.tree.Symbol.TheVariants.{Char, Identifier, Number}
use Rattle.refal_tree.specs.Forest.{Row, row, Forest, empty, tree, size_g, row_words, enc_g}
use Rattle.refal_tree.specs.Typed.{leaf_r, plain, for_term, for_t, for_terms, for_right, for_condition, for_c, for_end, sentence_r, for_sentence, for_s, for_b, name_r, for_n, for_item, for_p, to_forest}

-- op puts k rows, with the words E, before a forest under the parent q; the first is row n
pub record Part (op : Forest → Forest) (n q k : ℕ) (E : List ℕ) : Type 0 where
  pub size : (g : Forest) → size_g (op g) ≡ k + size_g g
  pub words : (g : Forest) → enc_g (op g) n q ≡ E ++ enc_g g (n + k) q

part_none : (n q : ℕ) → Part (λ (g : Forest). g) n q 0 []
part_none n q = record { size = λ g. omega arith; words = λ g. ap (λ (m : ℕ). enc_g g m q) (let e : n ≡ n + 0 = omega arith in e) }

part_then : {op₁ op₂ : Forest → Forest} {n q k₁ m k₂ : ℕ} {E₁ E₂ : List ℕ} → Part op₁ n q k₁ E₁ → m ≡ n + k₁ → Part op₂ m q k₂ E₂
    → Part (λ (g : Forest). op₁ (op₂ g)) n q (k₁ + k₂) (E₁ ++ E₂)
part_then {op₁} {op₂} {n} {q} {k₁} {m} {k₂} {E₁} {E₂} p e r = record {
  size = λ g. let a = p.size (op₂ g) in let b = r.size g in omega arith;
  words = λ g.
      p.words (op₂ g)
      ∙ ap (λ (x : ℕ). E₁ ++ enc_g (op₂ g) x q) (sym e)
      ∙ ap (λ (l : List ℕ). E₁ ++ l) (r.words g)
      ∙ ap (λ (x : ℕ). E₁ ++ (E₂ ++ enc_g g x q)) (let z : m + k₂ ≡ n + (k₁ + k₂) = omega arith in z)
      ∙ sym (append_assoc E₁ E₂ (enc_g g (n + (k₁ + k₂)) q));
}

-- a row above what op puts, which is under this row
part_row : {op : Forest → Forest} {n m k next : ℕ} {E : List ℕ} (r : Row) (q : ℕ) → m ≡ n + 1 → next ≡ m + k → Part op m n k E
    → Part (λ (g : Forest). tree r (op empty) g) n q (1 + k) (row_words r next q ++ E)
unfolding size_g enc_g
part_row {op} {n} {m} {k} {next} {E} r q e f p = record {
  size = λ g. let a = p.size empty in omega arith;
  words = λ g.
      let a = p.size empty in
      let u : n + 1 + size_g (op empty) ≡ next = omega arith in
      let v : n + 1 ≡ m = omega arith in
      let z : next ≡ n + (1 + k) = omega arith in
      ap (λ (x : ℕ). row_words r x q ++ (enc_g (op empty) (n + 1) n ++ enc_g g x q)) u
      ∙ ap (λ (x : ℕ). row_words r next q ++ (enc_g (op empty) x n ++ enc_g g next q)) v
      ∙ ap (λ (l : List ℕ). row_words r next q ++ (l ++ enc_g g next q)) (p.words empty ∙ append-nil E)
      ∙ ap (λ (x : ℕ). row_words r next q ++ (E ++ enc_g g x q)) z;
}

part_size : {op : Forest → Forest} {n q k k' : ℕ} {E : List ℕ} → k ≡ k' → Part op n q k E → Part op n q k' E
part_size {op} {n} {q} {k} {k'} {E} e p = subst (λ (x : ℕ). Part op n q x E) e p

-- a row with nothing below it
part_leaf : (r : Row) (n q next : ℕ) → next ≡ n + 1 → Part (λ (g : Forest). tree r empty g) n q 1 (row_words r next q)
part_leaf r n q next e = part_row r q refl (let z : next ≡ n + 1 + 0 = omega arith in z) (part_none (n + 1) n)

leaf_words : (x : Leaf) (a b next q : ℕ) → row_words (leaf_r x a b) next q ≡ leaf_row x a b next q
leaf_words (symbol (Char x)) a b next q = refl
leaf_words (symbol (Identifier s l)) a b next q = refl
leaf_words (symbol (Number s l)) a b next q = refl
leaf_words (variable v s l) a b next q = refl

mutual
  unfolding for_t size_t enc_t

  part_term : (x : Term) (n q : ℕ) → Part (for_term x) n q (size_term x) (enc_term x n q)
  part_term (leaf x a b) n q =
      subst (λ (l : List ℕ). Part (λ (g : Forest). tree (leaf_r x a b) empty g) n q 1 l) (leaf_words x a b (n + 1) q) (part_leaf (leaf_r x a b) n q (n + 1) refl)
  part_term (bracket a f b) n q = part_row (plain node_bracket a b) q refl refl (part_t f (n + 1) n)
  part_term (call a s l f b) n q = part_row (row node_call 0 s l a b) q refl refl (part_t f (n + 1) n)

  pub part_t : (f : Terms) (n q : ℕ) → Part (for_t f) n q (size_t f) (enc_t f n q)
  part_t t0 n q = part_none n q
  part_t (t_more f x) n q = part_then (part_t f n q) refl (part_term x (n + size_t f) q)

part_terms : (f : Terms) (n q : ℕ) → Part (for_terms f) n q (1 + size_t f) (enc_terms f n q)
part_terms f n q = part_row (plain node_terms 0 0) q refl refl (part_t f (n + 1) n)

mutual
  unfolding for_c size_c enc_c

  part_right : (r : Right) (n q : ℕ) → Part (for_right r) n q (size_right r) (enc_right r n q)
  part_right (r_terms f) n q = part_terms f n q
  part_right (r_block a v b) n q = part_row (plain node_condition_block a b) q refl refl (part_b v (n + 1) n)

  part_condition : (x : Condition) (n q : ℕ) → Part (for_condition x) n q (size_condition x) (enc_condition x n q)
  part_condition (condition a f r b) n q =
      part_size (omega arith)
      (part_row (plain node_condition a b) q refl (omega arith) (part_then (part_terms f (n + 1) n) (omega arith) (part_right r (end_terms f (n + 1)) n)))

  pub part_c : (cs : Conditions) (n q : ℕ) → Part (for_c cs) n q (size_c cs) (enc_c cs n q)
  part_c c0 n q = part_none n q
  part_c (c_more cs x) n q = part_then (part_c cs n q) refl (part_condition x (n + size_c cs) q)

  part_end : (x : End) (n q : ℕ) → Part (for_end x) n q (size_end x) (enc_end x n q)
  part_end (e_terms f) n q = part_terms f n q
  part_end (e_block a f v b) n q =
      part_size (omega arith)
      (part_row (plain node_ending_block a b) q refl (omega arith) (part_then (part_terms f (n + 1) n) (omega arith) (part_b v (end_terms f (n + 1)) n)))

  part_sentence : (off : Bool) (x : Sentence) (n q : ℕ) → Part (for_sentence off x) n q (size_sentence x) (enc_sentence off x n q)
  part_sentence off (sentence a f cs x b) n q =
      part_size (omega arith)
      (part_row (sentence_r off a b) q refl (omega arith)
      (part_then (part_terms f (n + 1) n) (omega arith)
      (part_then (part_c cs (end_terms f (n + 1)) n) refl (part_end x (end_terms f (n + 1) + size_c cs) n))))

  pub part_s : (s : Sentences) (n q : ℕ) → Part (for_s s) n q (size_s s) (enc_s s n q)
  part_s s0 n q = part_none n q
  part_s (s_more s x) n q = part_then (part_s s n q) refl (part_sentence false x (n + size_s s) q)

  pub part_b : (v : Body) (n q : ℕ) → Part (for_b v) n q (size_b v) (enc_b v n q)
  part_b (b_all s) n q = part_s s n q
  part_b (b_off s x) n q = part_then (part_s s n q) refl (part_sentence true x (n + size_s s) q)

part_n : (ns : Names) (n q : ℕ) → Part (for_n ns) n q (size_n ns) (enc_n ns n q)
unfolding for_n size_n enc_n
part_n (n_one s l) n q = part_leaf (name_r s l) n q (n + 1) refl
part_n (n_more ns s l) n q = part_then (part_n ns n q) refl (part_leaf (name_r s l) (n + size_n ns) q (n + size_n ns + 1) refl)

part_item : (x : Item) (n : ℕ) → Part (for_item x) n no_parent (size_item x) (enc_item x n)
part_item (declaration a ns b) n = part_row (plain node_declaration a b) no_parent refl refl (part_n ns (n + 1) n)
part_item (function a x s l v b) n = part_row (row node_function (entry_detail x) s l a b) no_parent refl refl (part_b v (n + 1) n)

pub part_p : (p : Program) (n : ℕ) → Part (for_p p) n no_parent (size_p p) (enc_p p n)
unfolding for_p size_p enc_p
part_p p0 n = part_none n no_parent
part_p (p_more p x) n = part_then (part_p p n) refl (part_item x (n + size_p p))

-- the words of a tree, and the count of its rows
pub enc_tree : (p : Program) (n : ℕ) → enc_g (to_forest p) n no_parent ≡ enc_p p n
unfolding enc_g
enc_tree p n = (part_p p n).words empty ∙ append-nil (enc_p p n)

pub size_tree : (p : Program) → size_g (to_forest p) ≡ size_p p
unfolding size_g
size_tree p = let a = (part_p p 0).size empty in omega arith
