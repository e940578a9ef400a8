-- A tree with a function put on every number of its spans. With the function that is 0 everywhere it forgets the spans: two trees agree
-- but for spans when these are equal.
use mathlib.Core.Path.{◌≡◌, refl}
use Prim.Native.Nat.{ℕ}
use native.Mathlib.Omega.{arith}
use Rattle.refal_ast.specs.Tree.{Term, leaf, bracket, call, Terms, t0, t_more, Right, r_terms, r_block, Condition, condition, Conditions, c0, c_more}
use Rattle.refal_ast.specs.Tree.{End, e_terms, e_block, Sentence, sentence, Sentences, s0, s_more, Body, b_all, b_off, Item, declaration, function, Program, p0, p_more}
use Rattle.refal_ast.specs.Tree.{size_term, size_t, size_right, size_condition, size_c, size_end, size_sentence, size_s, size_b, size_item, size_p}

unfoldable mutual
  pub respan_term : Term → (ℕ → ℕ) → Term
  respan_term (leaf x a b) h = leaf x (h a) (h b)
  respan_term (bracket a f b) h = bracket (h a) (respan_t f h) (h b)
  respan_term (call a s l f b) h = call (h a) s l (respan_t f h) (h b)

  pub respan_t : Terms → (ℕ → ℕ) → Terms
  respan_t t0 h = t0
  respan_t (t_more f x) h = t_more (respan_t f h) (respan_term x h)

unfoldable mutual
  pub respan_right : Right → (ℕ → ℕ) → Right
  respan_right (r_terms f) h = r_terms (respan_t f h)
  respan_right (r_block a v b) h = r_block (h a) (respan_b v h) (h b)

  pub respan_condition : Condition → (ℕ → ℕ) → Condition
  respan_condition (condition a f x b) h = condition (h a) (respan_t f h) (respan_right x h) (h b)

  pub respan_c : Conditions → (ℕ → ℕ) → Conditions
  respan_c c0 h = c0
  respan_c (c_more cs x) h = c_more (respan_c cs h) (respan_condition x h)

  pub respan_end : End → (ℕ → ℕ) → End
  respan_end (e_terms f) h = e_terms (respan_t f h)
  respan_end (e_block a f v b) h = e_block (h a) (respan_t f h) (respan_b v h) (h b)

  pub respan_sentence : Sentence → (ℕ → ℕ) → Sentence
  respan_sentence (sentence a f cs x b) h = sentence (h a) (respan_t f h) (respan_c cs h) (respan_end x h) (h b)

  pub respan_s : Sentences → (ℕ → ℕ) → Sentences
  respan_s s0 h = s0
  respan_s (s_more s x) h = s_more (respan_s s h) (respan_sentence x h)

  pub respan_b : Body → (ℕ → ℕ) → Body
  respan_b (b_all s) h = b_all (respan_s s h)
  respan_b (b_off s x) h = b_off (respan_s s h) (respan_sentence x h)

abbrev pub respan_item : Item → (ℕ → ℕ) → Item
respan_item (declaration a ns b) h = declaration (h a) ns (h b)
respan_item (function a x s l v b) h = function (h a) x s l (respan_b v h) (h b)

unfoldable pub respan_p : Program → (ℕ → ℕ) → Program
respan_p p0 h = p0
respan_p (p_more p x) h = p_more (respan_p p h) (respan_item x h)

-- ---- the spans forgotten
abbrev pub erase_term : Term → Term
erase_term x = respan_term x (λ (x : ℕ). 0)

abbrev pub erase_t : Terms → Terms
erase_t f = respan_t f (λ (x : ℕ). 0)

abbrev pub erase_c : Conditions → Conditions
erase_c cs = respan_c cs (λ (x : ℕ). 0)

abbrev pub erase_end : End → End
erase_end x = respan_end x (λ (x : ℕ). 0)

abbrev pub erase_s : Sentences → Sentences
erase_s s = respan_s s (λ (x : ℕ). 0)

abbrev pub erase_sentence : Sentence → Sentence
erase_sentence x = respan_sentence x (λ (x : ℕ). 0)

abbrev pub erase_b : Body → Body
erase_b v = respan_b v (λ (x : ℕ). 0)

abbrev pub erase_item : Item → Item
erase_item x = respan_item x (λ (x : ℕ). 0)

abbrev pub erase_p : Program → Program
erase_p p = respan_p p (λ (x : ℕ). 0)

-- ---- the spans kept
mutual
  unfolding respan_t

  same_term : (x : Term) → respan_term x (λ (x : ℕ). x) ≡ x
  same_term (leaf x a b) = refl
  same_term (bracket a f b) = let h = same_t f in cc
  same_term (call a s l f b) = let h = same_t f in cc

  same_t : (f : Terms) → respan_t f (λ (x : ℕ). x) ≡ f
  same_t t0 = refl
  same_t (t_more f x) = let h = same_t f in let i = same_term x in cc

mutual
  unfolding respan_c

  same_right : (x : Right) → respan_right x (λ (x : ℕ). x) ≡ x
  same_right (r_terms f) = let h = same_t f in cc
  same_right (r_block a v b) = let h = same_b v in cc

  same_condition : (x : Condition) → respan_condition x (λ (x : ℕ). x) ≡ x
  same_condition (condition a f x b) = let h = same_t f in let i = same_right x in cc

  same_c : (cs : Conditions) → respan_c cs (λ (x : ℕ). x) ≡ cs
  same_c c0 = refl
  same_c (c_more cs x) = let h = same_c cs in let i = same_condition x in cc

  same_end : (x : End) → respan_end x (λ (x : ℕ). x) ≡ x
  same_end (e_terms f) = let h = same_t f in cc
  same_end (e_block a f v b) = let h = same_t f in let i = same_b v in cc

  same_sentence : (x : Sentence) → respan_sentence x (λ (x : ℕ). x) ≡ x
  same_sentence (sentence a f cs x b) = let h = same_t f in let i = same_c cs in let j = same_end x in cc

  same_s : (s : Sentences) → respan_s s (λ (x : ℕ). x) ≡ s
  same_s s0 = refl
  same_s (s_more s x) = let h = same_s s in let i = same_sentence x in cc

  same_b : (v : Body) → respan_b v (λ (x : ℕ). x) ≡ v
  same_b (b_all s) = let h = same_s s in cc
  same_b (b_off s x) = let h = same_s s in let i = same_sentence x in cc

same_item : (x : Item) → respan_item x (λ (x : ℕ). x) ≡ x
same_item (declaration a ns b) = refl
same_item (function a x s l v b) = let h = same_b v in cc

pub same_p : (p : Program) → respan_p p (λ (x : ℕ). x) ≡ p
unfolding respan_p
same_p p0 = refl
same_p (p_more p x) = let h = same_p p in let i = same_item x in cc

-- ---- a tree has as many rows, whatever its spans
module _ (h : ℕ → ℕ) where
  mutual
    unfolding size_t respan_t

    size_respan_term : (x : Term) → size_term (respan_term x h) ≡ size_term x
    size_respan_term (leaf x a b) = refl
    size_respan_term (bracket a f b) = let i = size_respan_t f in omega arith
    size_respan_term (call a s l f b) = let i = size_respan_t f in omega arith

    pub size_respan_t : (f : Terms) → size_t (respan_t f h) ≡ size_t f
    size_respan_t t0 = refl
    size_respan_t (t_more f x) = let i = size_respan_t f in let j = size_respan_term x in omega arith

  mutual
    unfolding size_c respan_c

    pub size_respan_right : (x : Right) → size_right (respan_right x h) ≡ size_right x
    size_respan_right (r_terms f) = let i = size_respan_t f in omega arith
    size_respan_right (r_block a v b) = let i = size_respan_b v in omega arith

    size_respan_condition : (x : Condition) → size_condition (respan_condition x h) ≡ size_condition x
    size_respan_condition (condition a f x b) = let i = size_respan_t f in let j = size_respan_right x in omega arith

    pub size_respan_c : (cs : Conditions) → size_c (respan_c cs h) ≡ size_c cs
    size_respan_c c0 = refl
    size_respan_c (c_more cs x) = let i = size_respan_c cs in let j = size_respan_condition x in omega arith

    pub size_respan_end : (x : End) → size_end (respan_end x h) ≡ size_end x
    size_respan_end (e_terms f) = let i = size_respan_t f in omega arith
    size_respan_end (e_block a f v b) = let i = size_respan_t f in let j = size_respan_b v in omega arith

    size_respan_sentence : (x : Sentence) → size_sentence (respan_sentence x h) ≡ size_sentence x
    size_respan_sentence (sentence a f cs x b) = let i = size_respan_t f in let j = size_respan_c cs in let k = size_respan_end x in omega arith

    pub size_respan_s : (s : Sentences) → size_s (respan_s s h) ≡ size_s s
    size_respan_s s0 = refl
    size_respan_s (s_more s x) = let i = size_respan_s s in let j = size_respan_sentence x in omega arith

    pub size_respan_b : (v : Body) → size_b (respan_b v h) ≡ size_b v
    size_respan_b (b_all s) = size_respan_s s
    size_respan_b (b_off s x) = let i = size_respan_s s in let j = size_respan_sentence x in omega arith

  size_respan_item : (x : Item) → size_item (respan_item x h) ≡ size_item x
  size_respan_item (declaration a ns b) = refl
  size_respan_item (function a x s l v b) = let i = size_respan_b v in omega arith

  pub size_respan_p : (p : Program) → size_p (respan_p p h) ≡ size_p p
  unfolding size_p respan_p
  size_respan_p p0 = refl
  size_respan_p (p_more p x) = let i = size_respan_p p in let j = size_respan_item x in omega arith
