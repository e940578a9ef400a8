-- What the trees' writers leave: the rows of the tree's encoding. And one part more: a condition, a sentence, an item.
use mathlib.Core.Path.{◌≡◌, refl}
use Prim.Native.Nat.{ℕ, ◌+◌}
use mathlib.Core.Bool.{Bool, true, false}
use mathlib.Core.List.{List}
use native.Mathlib.Omega.{arith}
use Rattle.refal_rows.specs.Writes.{Writes, none, sized, placed, then, row}
use Rattle.refal_ast.specs.Kinds.{node_declaration, node_function, node_condition, node_ending_block, node_condition_block, node_bracket, node_call}
use Rattle.refal_ast.specs.Tree.{Leaf, symbol, variable, Term, leaf, bracket, call, Terms, t0, t_more, Right, r_terms, r_block, Condition, condition, Conditions, c0, c_more}
use Rattle.refal_ast.specs.Tree.{End, e_terms, e_block, Sentence, sentence, Sentences, s0, s_more, Body, b_all, b_off, Names, n_one, n_more, Item, declaration, function, Program, p0, p_more}
use Rattle.refal_ast.specs.Tree.{size_term, size_t, size_right, size_condition, size_c, size_end, size_sentence, size_s, size_b, size_n, size_item, size_p}
use Rattle.refal_ast.specs.Nodes.{node_width, no_parent, node}
use Rattle.refal_ast.specs.Encode.{leaf_row, entry_detail, end_terms, enc_term, enc_t, enc_terms, enc_right, enc_condition, enc_c, enc_end, enc_sentence, enc_s, enc_b, enc_n, enc_item, enc_p}
use Rattle.refal_ast.specs.declared.tree.Symbol.TheVariants.{Char, Identifier, Number}
use Rattle.refal_parser.specs.Writers.{put_node, span_row, sentence_row, terms_row, w_term, w_t, w_terms, w_right, w_condition, w_c, w_end, w_sentence, w_s, w_b, w_n, w_item, w_p}
use Rattle.refal_parser.specs.PostBlock.{added}

-- a row that is written alone
alone : (n : ℕ) (kind detail start len a b next q : ℕ) → Writes node_width (λ B. put_node B n (node kind detail start len a b next q)) n 1 (node kind detail start len a b next q)
alone n kind detail start len a b next q = row (node kind detail start len a b next q) refl (none node_width (n + 1))

alone_leaf : (x : Leaf) (n a b next q : ℕ) → Writes node_width (λ B. put_node B n (leaf_row x a b next q)) n 1 (leaf_row x a b next q)
alone_leaf (symbol (Char x)) n a b next q = alone n 11 x 0 0 a b next q
alone_leaf (symbol (Identifier s l)) n a b next q = alone n 9 0 s l a b next q
alone_leaf (symbol (Number s l)) n a b next q = alone n 10 0 s l a b next q
alone_leaf (variable v s l) n a b next q = alone n 12 _ s l a b next q

mutual
  unfolding w_t enc_t size_t

  writes_term : (x : Term) (n q : ℕ) → Writes node_width (w_term x n q) n (size_term x) (enc_term x n q)
  writes_term (leaf x a b) n q = alone_leaf x n a b (n + 1) q
  writes_term (bracket a f b) n q = row (span_row node_bracket a b (n + 1 + size_t f) q) refl (writes_t f (n + 1) n)
  writes_term (call a s l f b) n q = row (node node_call 0 s l a b (n + 1 + size_t f) q) refl (writes_t f (n + 1) n)

  pub writes_t : (f : Terms) (n q : ℕ) → Writes node_width (w_t f n q) n (size_t f) (enc_t f n q)
  writes_t t0 n q = none node_width n
  writes_t (t_more f x) n q = then (writes_t f n q) (writes_term x (n + size_t f) q)

writes_terms : (f : Terms) (n q : ℕ) → Writes node_width (w_terms f n q) n (1 + size_t f) (enc_terms f n q)
writes_terms f n q = row (terms_row (end_terms f n) q) refl (writes_t f (n + 1) n)

mutual
  unfolding w_c enc_c size_c

  writes_right : (r : Right) (n q : ℕ) → Writes node_width (w_right r n q) n (size_right r) (enc_right r n q)
  writes_right (r_terms f) n q = writes_terms f n q
  writes_right (r_block a v b) n q = row (span_row node_condition_block a b (n + 1 + size_b v) q) refl (writes_b v (n + 1) n)

  writes_condition : (x : Condition) (n q : ℕ) → Writes node_width (w_condition x n q) n (size_condition x) (enc_condition x n q)
  writes_condition (condition a f r b) n q =
      sized (omega arith)
      (row (span_row node_condition a b (end_terms f (n + 1) + size_right r) q) refl
      (then (writes_terms f (n + 1) n) (placed (omega arith) (writes_right r (end_terms f (n + 1)) n))))

  pub writes_c : (cs : Conditions) (n q : ℕ) → Writes node_width (w_c cs n q) n (size_c cs) (enc_c cs n q)
  writes_c c0 n q = none node_width n
  writes_c (c_more cs x) n q = then (writes_c cs n q) (writes_condition x (n + size_c cs) q)

  writes_end : (x : End) (n q : ℕ) → Writes node_width (w_end x n q) n (size_end x) (enc_end x n q)
  writes_end (e_terms f) n q = writes_terms f n q
  writes_end (e_block a f v b) n q =
      sized (omega arith)
      (row (span_row node_ending_block a b (end_terms f (n + 1) + size_b v) q) refl
      (then (writes_terms f (n + 1) n) (placed (omega arith) (writes_b v (end_terms f (n + 1)) n))))

  writes_sentence : (off : Bool) (x : Sentence) (n q : ℕ) → Writes node_width (w_sentence off x n q) n (size_sentence x) (enc_sentence off x n q)
  writes_sentence off (sentence a f cs x b) n q =
      sized (omega arith)
      (row (sentence_row off a b (end_terms f (n + 1) + size_c cs + size_end x) q) refl
      (then (writes_terms f (n + 1) n)
      (placed (omega arith) (then (writes_c cs (end_terms f (n + 1)) n) (writes_end x (end_terms f (n + 1) + size_c cs) n)))))

  pub writes_s : (s : Sentences) (n q : ℕ) → Writes node_width (w_s s n q) n (size_s s) (enc_s s n q)
  writes_s s0 n q = none node_width n
  writes_s (s_more s x) n q = then (writes_s s n q) (writes_sentence false x (n + size_s s) q)

  pub writes_b : (v : Body) (n q : ℕ) → Writes node_width (w_b v n q) n (size_b v) (enc_b v n q)
  writes_b (b_all s) n q = writes_s s n q
  writes_b (b_off s x) n q = then (writes_s s n q) (writes_sentence true x (n + size_s s) q)

writes_n : (ns : Names) (n q : ℕ) → Writes node_width (w_n ns n q) n (size_n ns) (enc_n ns n q)
unfolding w_n enc_n size_n
writes_n (n_one s l) n q = alone n 2 0 s l 0 0 (n + 1) q
writes_n (n_more ns s l) n q = then (writes_n ns n q) (alone (n + size_n ns) 2 0 s l 0 0 (n + size_n ns + 1) q)

writes_item : (x : Item) (n : ℕ) → Writes node_width (w_item x n) n (size_item x) (enc_item x n)
writes_item (declaration a ns b) n = row (span_row node_declaration a b (n + 1 + size_n ns) no_parent) refl (writes_n ns (n + 1) n)
writes_item (function a x s l v b) n = row (node node_function (entry_detail x) s l a b (n + 1 + size_b v) no_parent) refl (writes_b v (n + 1) n)

pub writes_p : (p : Program) (n : ℕ) → Writes node_width (w_p p n) n (size_p p) (enc_p p n)
unfolding w_p enc_p size_p
writes_p p0 n = none node_width n
writes_p (p_more p x) n = then (writes_p p n) (writes_item x (n + size_p p))

-- ---- one more: its rows are put behind the rows B' that those before left
module _ (n : ℕ) (B : List ℕ) {k : ℕ} {B' B'' : List ℕ} where
  pub more_terms : (q : ℕ) (f : Terms) (x : Term) → k ≡ n + size_t f → B' ≡ w_t f n q B → B'' ≡ w_term x k q B' → B'' ≡ w_t (t_more f x) n q B
  unfolding w_t
  more_terms q f x e h h' = cc

  pub more_conditions : (q : ℕ) (cs : Conditions) (x : Condition) → k ≡ n + size_c cs → B' ≡ w_c cs n q B → B'' ≡ w_condition x k q B' → B'' ≡ w_c (c_more cs x) n q B
  unfolding w_c
  more_conditions q cs x e h h' = cc

  pub more_sentences : (q : ℕ) (off : Bool) (s : Sentences) (x : Sentence) → k ≡ n + size_s s → B' ≡ w_s s n q B → B'' ≡ w_sentence off x k q B' → B'' ≡ w_b (added off s x) n q B
  unfolding w_s
  more_sentences q true s x e h h' = cc
  more_sentences q false s x e h h' = cc

  pub more_items : (p : Program) (x : Item) → k ≡ n + size_p p → B' ≡ w_p p n B → B'' ≡ w_item x k B' → B'' ≡ w_p (p_more p x) n B
  unfolding w_p
  more_items p x e h h' = cc

module _ (n : ℕ) {k m : ℕ} where
  pub size_terms : (f : Terms) (x : Term) → k ≡ n + size_t f → m ≡ k + size_term x → m ≡ n + size_t (t_more f x)
  unfolding size_t
  size_terms f x e h = omega arith

  pub size_conditions : (cs : Conditions) (x : Condition) → k ≡ n + size_c cs → m ≡ k + size_condition x → m ≡ n + size_c (c_more cs x)
  unfolding size_c
  size_conditions cs x e h = omega arith

  pub size_sentences : (off : Bool) (s : Sentences) (x : Sentence) → k ≡ n + size_s s → m ≡ k + size_sentence x → m ≡ n + size_b (added off s x)
  unfolding size_s
  size_sentences true s x e h = omega arith
  size_sentences false s x e h = omega arith

  pub size_items : (p : Program) (x : Item) → k ≡ n + size_p p → m ≡ k + size_item x → m ≡ n + size_p (p_more p x)
  unfolding size_p
  size_items p x e h = omega arith

-- ---- rows put one after another: a bracket and a call; a condition; an ending block; a sentence
module _ (a b n : ℕ) {m : ℕ} (f : Terms) (c : m ≡ n + 1 + size_t f) where
  pub whole_bracket : (q : ℕ) (B : List ℕ) {B' : List ℕ} → B' ≡ put_node (w_t f (n + 1) n B) n (span_row node_bracket a b m q) → B' ≡ w_term (bracket a f b) n q B
  unfolding w_t
  whole_bracket q B r = cc

  pub size_bracket : m ≡ n + size_term (bracket a f b)
  unfolding size_t
  size_bracket = omega arith

  pub whole_call : (q s l : ℕ) (B : List ℕ) {B' : List ℕ} → B' ≡ put_node (w_t f (n + 1) n B) n (node node_call 0 s l a b m q) → B' ≡ w_term (call a s l f b) n q B
  unfolding w_t
  whole_call q s l B r = cc

  pub size_call : (s l : ℕ) → m ≡ n + size_term (call a s l f b)
  unfolding size_t
  size_call s l = omega arith

module _ (n q : ℕ) (B : List ℕ) {m k a b from to : ℕ} {B₁ B₂ B₃ : List ℕ} (f : Terms) (s : from ≡ a) (e : to ≡ b) (r₁ : B₁ ≡ w_terms f (n + 1) n B) (c₁ : m ≡ n + 1 + 1 + size_t f) where
  pub terms_condition : (g : Terms) → B₂ ≡ w_terms g m n B₁ → k ≡ m + 1 + size_t g → B₃ ≡ put_node B₂ n (span_row node_condition from to k q) →
      B₃ ≡ w_condition (condition a f (r_terms g) b) n q B
  unfolding w_c size_c
  terms_condition g r₂ c₂ r₃ = let c₃ : k ≡ m + (1 + size_t g) = omega arith in cc

  pub block_ending : (v : Body) → B₂ ≡ w_b v m n B₁ → k ≡ m + size_b v → B₃ ≡ put_node B₂ n (span_row node_ending_block from to k q) →
      B₃ ≡ w_end (e_block a f v b) n q B
  unfolding w_c
  block_ending v r₂ c₂ r₃ = cc

pub block_condition : (n q : ℕ) (B : List ℕ) {m k a o b from to : ℕ} {B₁ B₂ B₃ B₄ : List ℕ} (f : Terms) → from ≡ a → from ≡ o → to ≡ b → B₁ ≡ w_terms f (n + 1) n B → m ≡ n + 1 + 1 + size_t f →
    (v : Body) → B₂ ≡ w_b v (m + 1) m B₁ → k ≡ m + 1 + size_b v → B₃ ≡ put_node B₂ m (span_row node_condition_block from to k n) →
    B₄ ≡ put_node B₃ n (span_row node_condition from to k q) → B₄ ≡ w_condition (condition a f (r_block o v b) b) n q B
unfolding w_c size_c
block_condition n q B {m} {k} {a} {o} {b} {from} {to} {B₁} {B₂} {B₃} {B₄} f s s' e r₁ c₁ v r₂ c₂ r₃ r₄ = let c₃ : k ≡ m + (1 + size_b v) = omega arith in cc

module _ (a b n : ℕ) {m k : ℕ} (f : Terms) (c₁ : m ≡ n + 1 + 1 + size_t f) where
  pub size_block_condition : (o : ℕ) (v : Body) → k ≡ m + 1 + size_b v → k ≡ n + size_condition (condition a f (r_block o v b) b)
  unfolding size_c
  size_block_condition o v c₂ = omega arith

  pub size_terms_condition : (g : Terms) → k ≡ m + 1 + size_t g → k ≡ n + size_condition (condition a f (r_terms g) b)
  unfolding size_c
  size_terms_condition g c₂ = omega arith

  pub size_block_ending : (v : Body) → k ≡ m + size_b v → k ≡ n + size_end (e_block a f v b)
  unfolding size_c
  size_block_ending v c₂ = omega arith

  pub size_sentence_lem : {m₁ : ℕ} (cs : Conditions) (x : End) → m₁ ≡ m + size_c cs → k ≡ m₁ + size_end x → k ≡ n + size_sentence (sentence a f cs x b)
  unfolding size_c
  size_sentence_lem {m₁} cs x c₂ c₃ = omega arith

  pub whole_sentence : (off : Bool) (q : ℕ) (B : List ℕ) {m₁ : ℕ} {B' : List ℕ} (cs : Conditions) (x : End) → m₁ ≡ m + size_c cs → k ≡ m₁ + size_end x →
      B' ≡ put_node (w_end x m₁ n (w_c cs m n (w_terms f (n + 1) n B))) n (sentence_row off a b k q) → B' ≡ w_sentence off (sentence a f cs x b) n q B
  unfolding w_c
  whole_sentence off q B {m₁} {B'} cs x c₂ c₃ r = cc

pub terms_ending : (f : Terms) (n q : ℕ) (B : List ℕ) {B' : List ℕ} → B' ≡ w_terms f n q B → B' ≡ w_end (e_terms f) n q B
unfolding w_c
terms_ending f n q B r = r

pub size_terms_ending : (f : Terms) (n : ℕ) {m : ℕ} → m ≡ n + 1 + size_t f → m ≡ n + size_end (e_terms f)
unfolding size_c
size_terms_ending f n c = omega arith

-- ---- a function: its body, then its row
pub whole_function : (n m x : ℕ) (B : List ℕ) {start s len l from a to e : ℕ} {B₁ B₂ : List ℕ} (v : Body) → B₁ ≡ w_b v (n + 1) n B → start ≡ s → len ≡ l → from ≡ a → to ≡ e →
    B₂ ≡ put_node B₁ n (node node_function x start len from to m no_parent) → B₂ ≡ put_node (w_b v (n + 1) n B) n (node node_function x s l a e m no_parent)
whole_function n m x B v r e₁ e₂ e₃ e₄ put = cc
