-- A tree's rows, moved k rows on and with a function put on the spans: all other words stay. So trees that agree but for spans have rows
-- that agree in every word but the two of the span, and a tree's rows from row k on are its rows from row 0 on, shifted.
use mathlib.Core.Path.{◌≡◌, refl, sym, ap, subst, ◌∙◌}
use Prim.Native.Nat.{ℕ, zero, suc, ◌+◌, ◌≤◌, ◌<◌}
use mathlib.Core.Bool.{Bool, true, false}
use mathlib.Core.List.{List, [], ◌∷◌, ◌++◌}
use native.Mathlib.Omega.{arith}
use lib.Dec.{eqb}
use lib.ListN.{length, get_or}
use borrow.Author.Tests.{ne_eqb}
use Rattle.refal_text.specs.Pick.{pick}
use Rattle.refal_ast.specs.Nodes.{no_parent}
use Rattle.refal_ast.specs.Tree.{Leaf, symbol, variable, Term, leaf, bracket, call, Terms, t0, t_more, Right, r_terms, r_block, Condition, condition, Conditions, c0, c_more}
use Rattle.refal_ast.specs.Tree.{End, e_terms, e_block, Sentence, sentence, Sentences, s0, s_more, Body, b_all, b_off, Names, n_one, n_more, Item, declaration, function, Program, p0, p_more}
use Rattle.refal_ast.specs.Tree.{size_term, size_t, size_right, size_condition, size_c, size_end, size_sentence, size_s, size_b, size_n, size_item, size_p}
use Rattle.refal_ast.specs.Encode.{leaf_row, end_terms, enc_term, enc_t, enc_terms, enc_right, enc_condition, enc_c, enc_end, enc_sentence, enc_s, enc_b, enc_n, enc_item, enc_p}
use Rattle.refal_ast.specs.declared.tree.Symbol.TheVariants.{Char, Identifier, Number}
use Rattle.refal_demands.specs.Spans.{OutsideSpan, SameButSpans}
use Rattle.refal_demands.specs.Edge.{shift_parent, shift}
use Rattle.refal_demands.proofs.Respan.{respan_term, respan_t, respan_right, respan_condition, respan_c, respan_end, respan_sentence, respan_s, respan_b, respan_item, respan_p, erase_p, same_p}
use Rattle.refal_demands.proofs.Respan.{size_respan_t, size_respan_right, size_respan_c, size_respan_end, size_respan_s, size_respan_b, size_respan_p}

-- row by row
data Moved (h : ℕ → ℕ) (k : ℕ) : List ℕ → List ℕ → Type 0 where
  moved_none : Moved h k [] []
  moved_row : {c d s l a b a' b' n n' q q' : ℕ} {T U : List ℕ} → a' ≡ h a → b' ≡ h b → n' ≡ k + n → q' ≡ shift_parent k q → Moved h k T U
      → Moved h k (c ∷ d ∷ s ∷ l ∷ a ∷ b ∷ n ∷ q ∷ T) (c ∷ d ∷ s ∷ l ∷ a' ∷ b' ∷ n' ∷ q' ∷ U)

-- M bounds the rows' numbers, where a row k rows on is a parent moved
module _ (h : ℕ → ℕ) (z : 0 ≡ h 0) (k M : ℕ) (up : (q : ℕ) → q < M → k + q ≡ shift_parent k q) where
  then_moved : {A B C D : List ℕ} → Moved h k A B → Moved h k C D → Moved h k (A ++ C) (B ++ D)
  then_moved moved_none m = m
  then_moved (moved_row p q e f g) m = moved_row p q e f (then_moved g m)

  -- the parent of a row's children is that row
  own : (n n' : ℕ) → n' ≡ k + n → n < M → n' ≡ shift_parent k n
  own n n' e l = e ∙ up n l

  moved_leaf : (x : Leaf) (a b n n' q q' : ℕ) → n' ≡ k + n → q' ≡ shift_parent k q → Moved h k (leaf_row x a b n q) (leaf_row x (h a) (h b) n' q')
  moved_leaf (symbol (Char c)) a b n n' q q' e f = moved_row refl refl e f moved_none
  moved_leaf (symbol (Identifier s l)) a b n n' q q' e f = moved_row refl refl e f moved_none
  moved_leaf (symbol (Number s l)) a b n n' q q' e f = moved_row refl refl e f moved_none
  moved_leaf (variable v s l) a b n n' q q' e f = moved_row refl refl e f moved_none

  mutual
    unfolding enc_t respan_t size_t

    moved_term : (x : Term) (n n' q q' : ℕ) → n' ≡ k + n → q' ≡ shift_parent k q → n + size_term x ≤ M → Moved h k (enc_term x n q) (enc_term (respan_term x h) n' q')
    moved_term (leaf x a b) n n' q q' e f u = moved_leaf x a b _ _ q q' (omega arith) f
    moved_term (bracket a f b) n n' q q' e f₀ u =
        let i = size_respan_t h f in let w : n' + 1 + size_t (respan_t f h) ≡ k + (n + 1 + size_t f) = omega arith in moved_row refl refl w f₀ (moved_t f (n + 1) (n' + 1) n n' (omega arith) (own n n' e (omega arith)) (omega arith))
    moved_term (call a s l f b) n n' q q' e f₀ u =
        let i = size_respan_t h f in let w : n' + 1 + size_t (respan_t f h) ≡ k + (n + 1 + size_t f) = omega arith in moved_row refl refl w f₀ (moved_t f (n + 1) (n' + 1) n n' (omega arith) (own n n' e (omega arith)) (omega arith))

    moved_t : (f : Terms) (n n' q q' : ℕ) → n' ≡ k + n → q' ≡ shift_parent k q → n + size_t f ≤ M → Moved h k (enc_t f n q) (enc_t (respan_t f h) n' q')
    moved_t t0 n n' q q' e f u = moved_none
    moved_t (t_more f x) n n' q q' e f₀ u = let i = size_respan_t h f in then_moved (moved_t f n n' q q' e f₀ (omega arith)) (moved_term x (n + size_t f) (n' + size_t (respan_t f h)) q q' (omega arith) f₀ (omega arith))

  moved_terms : (f : Terms) (n n' q q' : ℕ) → n' ≡ k + n → q' ≡ shift_parent k q → n + (1 + size_t f) ≤ M → Moved h k (enc_terms f n q) (enc_terms (respan_t f h) n' q')
  moved_terms f n n' q q' e f₀ u =
      let i = size_respan_t h f in
      let w : n' + 1 + size_t (respan_t f h) ≡ k + (n + 1 + size_t f) = omega arith in
      moved_row z z w f₀ (moved_t f (n + 1) (n' + 1) n n' (omega arith) (own n n' e (omega arith)) (omega arith))

  mutual
    unfolding enc_c respan_c size_c

    moved_right : (x : Right) (n n' q q' : ℕ) → n' ≡ k + n → q' ≡ shift_parent k q → n + size_right x ≤ M → Moved h k (enc_right x n q) (enc_right (respan_right x h) n' q')
    moved_right (r_terms f) n n' q q' e f₀ u = moved_terms f n n' q q' e f₀ u
    moved_right (r_block a v b) n n' q q' e f₀ u =
        let i = size_respan_b h v in let w : n' + 1 + size_b (respan_b v h) ≡ k + (n + 1 + size_b v) = omega arith in moved_row refl refl w f₀ (moved_b v (n + 1) (n' + 1) n n' (omega arith) (own n n' e (omega arith)) (omega arith))

    moved_condition : (x : Condition) (n n' q q' : ℕ) → n' ≡ k + n → q' ≡ shift_parent k q → n + size_condition x ≤ M → Moved h k (enc_condition x n q) (enc_condition (respan_condition x h) n' q')
    moved_condition (condition a f x b) n n' q q' e f₀ u =
        let i = size_respan_t h f in let j = size_respan_right h x in
        let w : end_terms (respan_t f h) (n' + 1) + size_right (respan_right x h) ≡ k + (end_terms f (n + 1) + size_right x) = omega arith in
        moved_row refl refl w f₀
        (then_moved (moved_terms f (n + 1) (n' + 1) n n' (omega arith) (own n n' e (omega arith)) (omega arith)) (moved_right x (end_terms f (n + 1)) (end_terms (respan_t f h) (n' + 1)) n n' (omega arith) (own n n' e (omega arith)) (omega arith)))

    moved_c : (cs : Conditions) (n n' q q' : ℕ) → n' ≡ k + n → q' ≡ shift_parent k q → n + size_c cs ≤ M → Moved h k (enc_c cs n q) (enc_c (respan_c cs h) n' q')
    moved_c c0 n n' q q' e f u = moved_none
    moved_c (c_more cs x) n n' q q' e f u = let i = size_respan_c h cs in then_moved (moved_c cs n n' q q' e f (omega arith)) (moved_condition x (n + size_c cs) (n' + size_c (respan_c cs h)) q q' (omega arith) f (omega arith))

    moved_end : (x : End) (n n' q q' : ℕ) → n' ≡ k + n → q' ≡ shift_parent k q → n + size_end x ≤ M → Moved h k (enc_end x n q) (enc_end (respan_end x h) n' q')
    moved_end (e_terms f) n n' q q' e f₀ u = moved_terms f n n' q q' e f₀ u
    moved_end (e_block a f v b) n n' q q' e f₀ u =
        let i = size_respan_t h f in let j = size_respan_b h v in
        let w : end_terms (respan_t f h) (n' + 1) + size_b (respan_b v h) ≡ k + (end_terms f (n + 1) + size_b v) = omega arith in
        moved_row refl refl w f₀
        (then_moved (moved_terms f (n + 1) (n' + 1) n n' (omega arith) (own n n' e (omega arith)) (omega arith)) (moved_b v (end_terms f (n + 1)) (end_terms (respan_t f h) (n' + 1)) n n' (omega arith) (own n n' e (omega arith)) (omega arith)))

    moved_sentence : (off : Bool) (x : Sentence) (n n' q q' : ℕ) → n' ≡ k + n → q' ≡ shift_parent k q → n + size_sentence x ≤ M → Moved h k (enc_sentence off x n q) (enc_sentence off (respan_sentence x h) n' q')
    moved_sentence off (sentence a f cs x b) n n' q q' e f₀ u =
        let i = size_respan_t h f in let j = size_respan_c h cs in let l = size_respan_end h x in
        let m = end_terms f (n + 1) in
        let m' = end_terms (respan_t f h) (n' + 1) in
        let w : m' + size_c (respan_c cs h) + size_end (respan_end x h) ≡ k + (m + size_c cs + size_end x) = omega arith in
        moved_row refl refl w f₀
        (then_moved (moved_terms f (n + 1) (n' + 1) n n' (omega arith) (own n n' e (omega arith)) (omega arith))
        (then_moved (moved_c cs m m' n n' (omega arith) (own n n' e (omega arith)) (omega arith)) (moved_end x (m + size_c cs) (m' + size_c (respan_c cs h)) n n' (omega arith) (own n n' e (omega arith)) (omega arith))))

    moved_s : (s : Sentences) (n n' q q' : ℕ) → n' ≡ k + n → q' ≡ shift_parent k q → n + size_s s ≤ M → Moved h k (enc_s s n q) (enc_s (respan_s s h) n' q')
    moved_s s0 n n' q q' e f u = moved_none
    moved_s (s_more s x) n n' q q' e f u = let i = size_respan_s h s in then_moved (moved_s s n n' q q' e f (omega arith)) (moved_sentence false x (n + size_s s) (n' + size_s (respan_s s h)) q q' (omega arith) f (omega arith))

    moved_b : (v : Body) (n n' q q' : ℕ) → n' ≡ k + n → q' ≡ shift_parent k q → n + size_b v ≤ M → Moved h k (enc_b v n q) (enc_b (respan_b v h) n' q')
    moved_b (b_all s) n n' q q' e f u = moved_s s n n' q q' e f u
    moved_b (b_off s x) n n' q q' e f u = let i = size_respan_s h s in then_moved (moved_s s n n' q q' e f (omega arith)) (moved_sentence true x (n + size_s s) (n' + size_s (respan_s s h)) q q' (omega arith) f (omega arith))

  moved_n : (ns : Names) (n n' q q' : ℕ) → n' ≡ k + n → q' ≡ shift_parent k q → n + size_n ns ≤ M → Moved h k (enc_n ns n q) (enc_n ns n' q')
  unfolding enc_n size_n
  moved_n (n_one s l) n n' q q' e f u = let w : n' + 1 ≡ k + (n + 1) = omega arith in moved_row z z w f moved_none
  moved_n (n_more ns s l) n n' q q' e f u =
      let w : n' + size_n ns + 1 ≡ k + (n + size_n ns + 1) = omega arith in then_moved (moved_n ns n n' q q' e f (omega arith)) (moved_row z z w f moved_none)

  moved_item : (x : Item) (n n' : ℕ) → n' ≡ k + n → n + size_item x ≤ M → Moved h k (enc_item x n) (enc_item (respan_item x h) n')
  moved_item (declaration a ns b) n n' e u =
      let w : n' + 1 + size_n ns ≡ k + (n + 1 + size_n ns) = omega arith in moved_row refl refl w refl (moved_n ns (n + 1) (n' + 1) n n' (omega arith) (own n n' e (omega arith)) (omega arith))
  moved_item (function a x s l v b) n n' e u =
      let i = size_respan_b h v in let w : n' + 1 + size_b (respan_b v h) ≡ k + (n + 1 + size_b v) = omega arith in moved_row refl refl w refl (moved_b v (n + 1) (n' + 1) n n' (omega arith) (own n n' e (omega arith)) (omega arith))

  moved_p : (p : Program) (n n' : ℕ) → n' ≡ k + n → n + size_p p ≤ M → Moved h k (enc_p p n) (enc_p (respan_p p h) n')
  unfolding enc_p respan_p size_p
  moved_p p0 n n' e u = moved_none
  moved_p (p_more p x) n n' e u = let i = size_respan_p h p in then_moved (moved_p p n n' e (omega arith)) (moved_item x (n + size_p p) (n' + size_p (respan_p p h)) (omega arith) (omega arith))

-- ---- the spans put to 0, no row moved
stays : (q : ℕ) → q ≡ shift_parent 0 q
stays q = by (eqb q no_parent)
  where
    by : (b : Bool) → q ≡ pick b q (0 + q)
    by true = refl
    by false = omega arith

kept : (q : ℕ) → 0 + q ≡ shift_parent 0 q
kept q = let h = stays q in omega arith

long : {h : ℕ → ℕ} {T U : List ℕ} → Moved h 0 T U → length T ≡ length U
long moved_none = refl
long (moved_row p q e f g) = let i = long g in omega arith

word : {h : ℕ → ℕ} {T U : List ℕ} → Moved h 0 T U → (i : ℕ) → OutsideSpan i → get_or T i 0 ≡ get_or U i 0
word moved_none i u = refl
word (moved_row p q e f g) zero u = refl
word (moved_row p q e f g) (suc zero) u = refl
word (moved_row p q e f g) (suc (suc zero)) u = refl
word (moved_row p q e f g) (suc (suc (suc zero))) u = refl
word (moved_row p q e f g) (suc (suc (suc (suc zero)))) u = absurd (u.0 refl)
word (moved_row p q e f g) (suc (suc (suc (suc (suc zero))))) u = absurd (u.1 refl)
word (moved_row p q e f g) (suc (suc (suc (suc (suc (suc zero)))))) u = omega arith
word (moved_row {q = r} p q e f g) (suc (suc (suc (suc (suc (suc (suc zero))))))) u = stays r ∙ sym f
word (moved_row p q e f g) (suc (suc (suc (suc (suc (suc (suc (suc i)))))))) u = word g i (let h = u.0 in let j = u.1 in omega arith)

same_of : {h : ℕ → ℕ} {T U E : List ℕ} → Moved h 0 T E → Moved h 0 U E → SameButSpans T U
same_of g m = record { rows = long g ∙ sym (long m); words = λ i u. word g i u ∙ sym (word m i u) }

erased : (t : Program) → Moved (λ (x : ℕ). 0) 0 (enc_p t 0) (enc_p (erase_p t) 0)
erased t = moved_p (λ (x : ℕ). 0) refl 0 (size_p t) (λ q l. kept q) t 0 0 refl (omega arith)

pub same_rows : (t u : Program) → erase_p t ≡ erase_p u → SameButSpans (enc_p t 0) (enc_p u 0)
same_rows t u e = same_of (erased t) (subst (λ (p : Program). Moved (λ (x : ℕ). 0) 0 (enc_p u 0) (enc_p p 0)) (sym e) (erased u))

-- ---- the spans kept, the rows moved k rows on
shift_of : {k : ℕ} {T U : List ℕ} → Moved (λ (x : ℕ). x) k T U → U ≡ shift k T
unfolding shift
shift_of moved_none = refl
shift_of (moved_row p q e f g) = let i = shift_of g in cc

raised : (k q : ℕ) → q < no_parent → k + q ≡ shift_parent k q
raised k q l = ap (λ (b : Bool). pick b q (k + q)) (sym (ne_eqb q no_parent (λ e. omega arith)))

pub rows_shifted : (p : Program) (n k : ℕ) → n + size_p p ≤ no_parent → enc_p p (k + n) ≡ shift k (enc_p p n)
rows_shifted p n k l =
    shift_of (subst (λ (q : Program). Moved (λ (x : ℕ). x) k (enc_p p n) (enc_p q (k + n))) (same_p p) (moved_p (λ (x : ℕ). x) refl k no_parent (raised k) p n (k + n) refl l))
