-- A tree's flattening has no spans, and is one of the lists that the tree flattens to but for semicolons outside items.
use mathlib.Core.Path.{◌≡◌, refl, sym, ap, ◌∙◌}
use Prim.Native.Nat.{ℕ}
use mathlib.Core.Bool.{Bool, true, false}
use Rattle.refal_ast.specs.Tree.{Term, leaf, bracket, call, Terms, t0, t_more, Right, r_terms, r_block, Condition, condition, Conditions, c0, c_more}
use Rattle.refal_ast.specs.Tree.{End, e_terms, e_block, Sentence, sentence, Sentences, s0, s_more, Body, b_all, b_off, Item, declaration, function, Program, p0, p_more}
use Rattle.refal_ast.specs.Flatten.{flatten_term, flatten_t, flatten_right, flatten_condition, flatten_c, flatten_end, flatten_sentence, flatten_s, flatten_b, flatten_item, flatten_p}
use Rattle.refal_ast.specs.Flatten.{Loose, loose_none, loose_item}
use Rattle.refal_demands.proofs.Respan.{respan_term, respan_t, respan_right, respan_condition, respan_c, respan_end, respan_sentence, respan_s, respan_b, respan_item, respan_p, erase_p}

module _ (h : ℕ → ℕ) where
  mutual
    unfolding flatten_t respan_t

    flat_respan_term : (x : Term) → flatten_term (respan_term x h) ≡ flatten_term x
    flat_respan_term (leaf x a b) = refl
    flat_respan_term (bracket a f b) = let i = flat_respan_t f in cc
    flat_respan_term (call a s l f b) = let i = flat_respan_t f in cc

    flat_respan_t : (f : Terms) → flatten_t (respan_t f h) ≡ flatten_t f
    flat_respan_t t0 = refl
    flat_respan_t (t_more f x) = let i = flat_respan_t f in let j = flat_respan_term x in cc

  mutual
    unfolding flatten_c respan_c

    flat_respan_right : (x : Right) → flatten_right (respan_right x h) ≡ flatten_right x
    flat_respan_right (r_terms f) = flat_respan_t f
    flat_respan_right (r_block a v b) = let i = flat_respan_b v in cc

    flat_respan_condition : (x : Condition) → flatten_condition (respan_condition x h) ≡ flatten_condition x
    flat_respan_condition (condition a f x b) = let i = flat_respan_t f in let j = flat_respan_right x in cc

    flat_respan_c : (cs : Conditions) → flatten_c (respan_c cs h) ≡ flatten_c cs
    flat_respan_c c0 = refl
    flat_respan_c (c_more cs x) = let i = flat_respan_c cs in let j = flat_respan_condition x in cc

    flat_respan_end : (x : End) → flatten_end (respan_end x h) ≡ flatten_end x
    flat_respan_end (e_terms f) = flat_respan_t f
    flat_respan_end (e_block a f v b) = let i = flat_respan_t f in let j = flat_respan_b v in cc

    flat_respan_sentence : (off : Bool) (x : Sentence) → flatten_sentence off (respan_sentence x h) ≡ flatten_sentence off x
    flat_respan_sentence off (sentence a f cs x b) = let i = flat_respan_t f in let j = flat_respan_c cs in let k = flat_respan_end x in cc

    flat_respan_s : (s : Sentences) → flatten_s (respan_s s h) ≡ flatten_s s
    flat_respan_s s0 = refl
    flat_respan_s (s_more s x) = let i = flat_respan_s s in let j = flat_respan_sentence false x in cc

    flat_respan_b : (v : Body) → flatten_b (respan_b v h) ≡ flatten_b v
    flat_respan_b (b_all s) = flat_respan_s s
    flat_respan_b (b_off s x) = let i = flat_respan_s s in let j = flat_respan_sentence true x in cc

  flat_respan_item : (x : Item) → flatten_item (respan_item x h) ≡ flatten_item x
  flat_respan_item (declaration a ns b) = refl
  flat_respan_item (function a x s l v b) = let i = flat_respan_b v in cc

  flat_respan_p : (p : Program) → flatten_p (respan_p p h) ≡ flatten_p p
  unfolding flatten_p respan_p
  flat_respan_p p0 = refl
  flat_respan_p (p_more p x) = let i = flat_respan_p p in let j = flat_respan_item x in cc

-- trees that are the same, spans aside, flatten to the same
pub same_flat : (p q : Program) → erase_p p ≡ erase_p q → flatten_p p ≡ flatten_p q
same_flat p q e = sym (flat_respan_p (λ (x : ℕ). 0) p) ∙ ap flatten_p e ∙ flat_respan_p (λ (x : ℕ). 0) q

pub loose_own : (p : Program) → Loose p (flatten_p p)
unfolding flatten_p
loose_own p0 = loose_none
loose_own (p_more p x) = loose_item (loose_own p)
