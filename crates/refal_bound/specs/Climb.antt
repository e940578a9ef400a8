-- The Terms row that a term stands in, found by going from row to parent.
use Rattle.std.specs.Prelude.{ℕ, zero, suc, ◌≤◌, ◌<◌, Bool, true, false, not, ◌&&◌, ◌||◌, List, ◌≡◌, refl, eqb, leb, ltb}
use Rattle.std.proofs.Common.{ap, ap₂, sym, ◌∙◌, arith, le_refl, le-leb, leb-true, lt-ltb, ltb-true, eqb-true}
use Rattle.std.proofs.lemmas.Bool.{lt-leb, le-ltb}
use Rattle.refal_ast.specs.Nodes.{Node, node_at}
use Rattle.refal_text.specs.Pick.{pick}
use Rattle.refal_ast.specs.Kinds.{node_terms, node_call}
use Rattle.refal_tree.specs.Ranges.{kind_at, parent_at}

-- a kind that is no Terms row's
abbrev pub goes_up : ℕ → Bool
goes_up k = (leb 1 k && leb k node_call) && not (eqb k node_terms)

module _ (w : List ℕ) where
  -- the way up ends at a Terms row, and where the kind is none or the parent does not stand before the row
  abbrev pub is_top : ℕ → Bool
  is_top i = not (goes_up (kind_at w i)) || not (ltb (parent_at w i) i)

  top_if : (i : ℕ) → goes_up (kind_at w i) ≡ false → is_top i ≡ true
  top_if i e = ap (λ (b : Bool). not b || not (ltb (parent_at w i) i)) e

  pub top_unknown : (i : ℕ) → (1 ≤ kind_at w i → node_call < kind_at w i) → is_top i ≡ true
  top_unknown i h = top_if i (go (leb 1 (kind_at w i)) refl)
    where
      go : (b : Bool) → leb 1 (kind_at w i) ≡ b → ((b && leb (kind_at w i) node_call) && not (eqb (kind_at w i) node_terms)) ≡ false
      go true e = ap (λ (b : Bool). b && not (eqb (kind_at w i) node_terms)) (lt-leb (kind_at w i) node_call (h (leb-true 1 (kind_at w i) e)))
      go false e = refl

  module _ (i : ℕ) (x : Node) (is : x ≡ node_at w i) where
    kind_is : x.kind ≡ kind_at w i
    kind_is = ap (λ (y : Node). y.kind) is

    parent_is : x.parent ≡ parent_at w i
    parent_is = ap (λ (y : Node). y.parent) is

    pub top_terms : eqb x.kind node_terms ≡ true → is_top i ≡ true
    top_terms e = top_if i (ap goes_up (sym kind_is ∙ eqb-true _ _ e))

    pub top_last : i ≤ x.parent → is_top i ≡ true
    top_last h =
        let z : parent_at w i ≡ x.parent = sym parent_is in
        ap (λ (b : Bool). not (goes_up (kind_at w i)) || not b) (le-ltb (parent_at w i) i (omega arith)) ∙ go (goes_up (kind_at w i))
      where
        go : (b : Bool) → (not b || true) ≡ true
        go true = refl
        go false = refl

    pub top_not : 1 ≤ x.kind → x.kind ≤ node_call → eqb x.kind node_terms ≡ false → (i ≤ x.parent → ⊥) → (is_top i ≡ false) × (x.parent ≡ parent_at w i)
    top_not lo hi e n = (
      ap₂ (λ (a b : Bool). not a || not b)
          (ap goes_up (sym kind_is) ∙ ap₂ (λ (a b : Bool). (a && b) && not (eqb x.kind node_terms)) (le-leb 1 x.kind lo) (le-leb x.kind node_call hi) ∙ ap not e)
          (ap (λ (y : ℕ). ltb y i) (sym parent_is) ∙ lt-ltb x.parent i (omega arith)),
      parent_is,
    )

  -- k only bounds the way
  unfoldable pub climb : ℕ → ℕ → ℕ
  climb zero i = i
  climb (suc k) i = pick (is_top i) i (climb k (parent_at w i))

  -- the first Terms row at or above row i, or the row at which the way up ends
  unfoldable pub terms_above : ℕ → ℕ
  terms_above i = climb i i

  top_false : (i : ℕ) → is_top i ≡ false → parent_at w i < i
  top_false i e = go (not (goes_up (kind_at w i))) (ltb (parent_at w i) i) refl e
    where
      go : (a b : Bool) → ltb (parent_at w i) i ≡ b → (a || not b) ≡ false → parent_at w i < i
      go false true q h = ltb-true _ _ q
      go false false q h = absurd (let z : ◌≡◌ {A = ℕ} 0 1 = cc in omega arith)
      go true b q h = absurd (let z : ◌≡◌ {A = ℕ} 0 1 = cc in omega arith)

  -- a bound no smaller than the row changes nothing
  enough : (k m i : ℕ) → i ≤ k → i ≤ m → climb k i ≡ climb m i
  unfolding climb
  enough zero zero i h l = refl
  enough zero (suc m) i h l = sym (stop m i (omega arith) (is_top i) refl)
    where
      stop : (m i : ℕ) → i ≤ 0 → (b : Bool) → is_top i ≡ b → pick b i (climb m (parent_at w i)) ≡ i
      stop m i h true e = refl
      stop m i h false e = let z = top_false i e in absurd (omega arith)
  enough (suc k) zero i h l = stop k i (omega arith) (is_top i) refl
    where
      stop : (m i : ℕ) → i ≤ 0 → (b : Bool) → is_top i ≡ b → pick b i (climb m (parent_at w i)) ≡ i
      stop m i h true e = refl
      stop m i h false e = let z = top_false i e in absurd (omega arith)
  enough (suc k) (suc m) i h l = go (is_top i) refl (λ z. enough k m (parent_at w i) (omega arith) (omega arith))
    where
      go : (b : Bool) → is_top i ≡ b → (parent_at w i < i → climb k (parent_at w i) ≡ climb m (parent_at w i)) → pick b i (climb k (parent_at w i)) ≡ pick b i (climb m (parent_at w i))
      go true e f = refl
      go false e f = f (top_false i e)

  -- a turn of the way up
  pub above_top : (i : ℕ) → is_top i ≡ true → terms_above i ≡ i
  unfolding climb terms_above
  above_top zero e = refl
  above_top (suc i) e = ap (λ (b : Bool). pick b (suc i) (climb i (parent_at w (suc i)))) e

  pub above_turn : (i : ℕ) → is_top i ≡ false → terms_above i ≡ terms_above (parent_at w i)
  unfolding climb terms_above
  above_turn zero e = let z = top_false zero e in absurd (omega arith)
  above_turn (suc i) e =
      let z = top_false (suc i) e in
      ap (λ (b : Bool). pick b (suc i) (climb i (parent_at w (suc i)))) e ∙ enough i (parent_at w (suc i)) (parent_at w (suc i)) (omega arith) (le_refl _)

  -- the way from row b leads up to row t
  pub data Climbs (t : ℕ) : ℕ → Type 0 where
    direct : (b : ℕ) → goes_up (kind_at w b) ≡ true → parent_at w b ≡ t → t < b → Climbs t b
    up : (b p : ℕ) → goes_up (kind_at w b) ≡ true → parent_at w b ≡ p → p < b → Climbs t p → Climbs t b

  pub lift : (t p b : ℕ) → goes_up (kind_at w p) ≡ true → parent_at w p ≡ t → t < p → Climbs p b → Climbs t b
  lift t p _ n e l (direct b m f k) = up b p m f k (direct p n e l)
  lift t p _ n e l (up b r m f k c) = up b r m f k (lift t p r n e l c)

  not_top : (b p : ℕ) → goes_up (kind_at w b) ≡ true → parent_at w b ≡ p → p < b → is_top b ≡ false
  not_top b p n e l = ap₂ (λ (x y : Bool). not x || not y) n (ap (λ (x : ℕ). ltb x b) e ∙ lt-ltb p b l)

  -- so it is the one found
  pub climbs_is : (t b : ℕ) → kind_at w t ≡ node_terms → Climbs t b → terms_above b ≡ t
  climbs_is t _ k (direct b n e l) =
      above_turn b (not_top b t n e l) ∙ ap terms_above e ∙ above_top t (ap (λ (x : ℕ). not (goes_up x) || not (ltb (parent_at w t) t)) k)
  climbs_is t _ k (up b p n e l c) = above_turn b (not_top b p n e l) ∙ ap terms_above e ∙ climbs_is t p k c
