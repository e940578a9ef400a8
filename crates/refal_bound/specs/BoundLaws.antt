-- Laws of Bound: what is known at each kind of row.
use Rattle.std.specs.Prelude.{ℕ, ◌+◌, ◌<◌, ◌≤◌, Bool, true, false, not, ◌&&◌, List, ◌≡◌, refl, eqb, None, Some}
use Rattle.std.proofs.Common.{ap, sym, subst, ◌∙◌, arith, eq-eqb, eqb-true, ne_eqb}
use Rattle.refal_ast.specs.Kinds.{node_sentence, node_condition, node_terms, node_variable, node_call}
use Rattle.refal_ast.specs.Nodes.{Node, node_at}
use Rattle.refal_tree.specs.Ranges.{kind_at, next_at, parent_at}
use Rattle.refal_bound.specs.Bound.{begins, behind_colon, scope, is_use, is_unbound}

module _ (w : List ℕ) (t : ℕ) where
  abbrev q : ℕ
  q = parent_at w t

  abbrev c : ℕ
  c = parent_at w q

  -- a word that is the number of no kind
  pub unknown : (i n : ℕ) → (1 ≤ kind_at w i → node_call < kind_at w i) → 1 ≤ n → n ≤ node_call → eqb (kind_at w i) n ≡ false
  unknown i n h lo hi = ne_eqb (kind_at w i) n (λ e. omega arith)

  pub scope_other : eqb (kind_at w t) node_terms ≡ false → scope w t ≡ None
  unfolding scope
  scope_other e = rw e refl

  pub scope_first : eqb (kind_at w t) node_terms ≡ true → eqb (kind_at w q) node_sentence ≡ true → eqb t (q + 1) ≡ true → scope w t ≡ Some (next_at w q)
  unfolding scope
  scope_first a b d = rw (a, b, d) refl

  pub scope_second : eqb (kind_at w t) node_terms ≡ true → eqb (kind_at w q) node_sentence ≡ false → eqb (kind_at w q) node_condition ≡ true → eqb t (q + 1) ≡ false → eqb (kind_at w c) node_sentence ≡ true → scope w t ≡ Some (next_at w c)
  unfolding scope
  scope_second a b d e f = rw (a, b, d, e, f) refl

  pub scope_none : eqb (kind_at w t) node_terms ≡ true → begins w q t ≡ false → behind_colon w c q t ≡ false → scope w t ≡ None
  unfolding scope
  scope_none a b d = rw (a, b, d) refl

  -- ---- at the row's node x, its parent's y, and that one's parent's z
  pub scope_unknown : (1 ≤ kind_at w t → node_call < kind_at w t) → scope w t ≡ None
  scope_unknown h = scope_other (unknown t node_terms h (omega arith) (omega arith))

  module _ (x : Node) (at_x : x ≡ node_at w t) where
    same_kind : (n : ℕ) (b : Bool) → eqb x.kind n ≡ b → eqb (kind_at w t) n ≡ b
    same_kind n b e = sym (ap (λ (y : Node). eqb y.kind n) at_x) ∙ e

    pub not_terms : eqb x.kind node_terms ≡ false → scope w t ≡ None
    not_terms e = scope_other (same_kind node_terms false e)

    abbrev Terms : Type 0
    Terms = eqb x.kind node_terms ≡ true

    parent_is : x.parent ≡ q
    parent_is = ap (λ (y : Node). y.parent) at_x

    pub parent_unknown : Terms → (1 ≤ kind_at w x.parent → node_call < kind_at w x.parent) → scope w t ≡ None
    parent_unknown e h =
        let k = subst (λ (i : ℕ). 1 ≤ kind_at w i → node_call < kind_at w i) parent_is h in
        let a = unknown q node_sentence k (omega arith) (omega arith) in
        let b = unknown q node_condition k (omega arith) (omega arith) in
        scope_none (same_kind node_terms true e) (ap (λ (o : Bool). o && eqb t (q + 1)) a) (ap (λ (o : Bool). (o && not (eqb t (q + 1))) && eqb (kind_at w c) node_sentence) b)

    module _ (y : Node) (at_y : y ≡ node_at w x.parent) where
      parent_kind : (n : ℕ) (b : Bool) → eqb y.kind n ≡ b → eqb (kind_at w q) n ≡ b
      parent_kind n b e = sym (ap (λ (z : Node). eqb z.kind n) at_y ∙ ap (λ (i : ℕ). eqb (kind_at w i) n) parent_is) ∙ e

      outer_is : y.parent ≡ c
      outer_is = ap (λ (z : Node). z.parent) at_y ∙ ap (parent_at w) parent_is

      end_is : x.next ≡ next_at w t
      end_is = ap (λ (z : Node). z.next) at_x

      is_first : t ≡ x.parent + 1 → eqb t (q + 1) ≡ true
      is_first e = eq-eqb t (q + 1) (e ∙ ap (λ (i : ℕ). i + 1) parent_is)

      pub at_first : Terms → t ≡ x.parent + 1 → eqb y.kind node_sentence ≡ true → (scope w t ≡ Some y.next) × (x.next ≡ next_at w t)
      at_first e f s = (
        scope_first (same_kind node_terms true e) (parent_kind node_sentence true s) (is_first f) ∙ ap Some (sym (ap (λ (z : Node). z.next) at_y ∙ ap (next_at w) parent_is)),
        end_is,
      )

      and_not : (b : Bool) → (b && false) ≡ false
      and_not true = refl
      and_not false = refl

      pub first_other : Terms → t ≡ x.parent + 1 → eqb y.kind node_sentence ≡ false → scope w t ≡ None
      first_other e f s =
          scope_none (same_kind node_terms true e) (ap (λ (o : Bool). o && eqb t (q + 1)) (parent_kind node_sentence false s))
          (ap (λ (o : Bool). o && eqb (kind_at w c) node_sentence) (ap (λ (o : Bool). eqb (kind_at w q) node_condition && not o) (is_first f) ∙ and_not (eqb (kind_at w q) node_condition)))

      abbrev Behind : Type 0
      Behind = t ≡ x.parent + 1 → ⊥

      not_first : Behind → eqb t (q + 1) ≡ false
      not_first f = ne_eqb t (q + 1) (λ e. f (e ∙ ap (λ (i : ℕ). i + 1) (sym parent_is)))

      pub parent_other : Terms → Behind → eqb y.kind node_condition ≡ false → scope w t ≡ None
      parent_other e f k =
          scope_none (same_kind node_terms true e) (ap (λ (o : Bool). eqb (kind_at w q) node_sentence && o) (not_first f) ∙ and_not (eqb (kind_at w q) node_sentence))
          (ap (λ (o : Bool). (o && not (eqb t (q + 1))) && eqb (kind_at w c) node_sentence) (parent_kind node_condition false k))

      outer_not : Terms → Behind → eqb (kind_at w c) node_sentence ≡ false → scope w t ≡ None
      outer_not e f s =
          scope_none (same_kind node_terms true e) (ap (λ (o : Bool). eqb (kind_at w q) node_sentence && o) (not_first f) ∙ and_not (eqb (kind_at w q) node_sentence))
          (ap (λ (o : Bool). (eqb (kind_at w q) node_condition && not (eqb t (q + 1))) && o) s ∙ and_not (eqb (kind_at w q) node_condition && not (eqb t (q + 1))))

      pub outer_unknown : Terms → Behind → (1 ≤ kind_at w y.parent → node_call < kind_at w y.parent) → scope w t ≡ None
      outer_unknown e f h = outer_not e f (unknown c node_sentence (subst (λ (i : ℕ). 1 ≤ kind_at w i → node_call < kind_at w i) outer_is h) (omega arith) (omega arith))

      condition_not : eqb y.kind node_condition ≡ true → eqb (kind_at w q) node_sentence ≡ false
      condition_not k = ne_eqb _ _ (λ e. let d = eqb-true (kind_at w q) node_condition (parent_kind node_condition true k) in omega arith)

      module _ (z : Node) (at_z : z ≡ node_at w y.parent) where
        outer_kind : (b : Bool) → eqb z.kind node_sentence ≡ b → eqb (kind_at w c) node_sentence ≡ b
        outer_kind b e = sym (ap (λ (v : Node). eqb v.kind node_sentence) at_z ∙ ap (λ (i : ℕ). eqb (kind_at w i) node_sentence) outer_is) ∙ e

        pub outer_other : Terms → Behind → eqb z.kind node_sentence ≡ false → scope w t ≡ None
        outer_other e f s = outer_not e f (outer_kind false s)

        pub at_second : Terms → Behind → eqb y.kind node_condition ≡ true → eqb z.kind node_sentence ≡ true → (scope w t ≡ Some z.next) × (x.next ≡ next_at w t)
        at_second e f k s = (
          scope_second (same_kind node_terms true e) (condition_not k) (parent_kind node_condition true k) (not_first f) (outer_kind true s)
              ∙ ap Some (sym (ap (λ (v : Node). v.next) at_z ∙ ap (next_at w) outer_is)),
          end_is,
        )

-- a row of an unknown kind is no use
pub unbound_unknown : (w s : List ℕ) (u : ℕ) → (1 ≤ kind_at w u → node_call < kind_at w u) → is_unbound w s u ≡ false
unfolding is_use is_unbound
unbound_unknown w s u h = rw (unknown w u u node_variable h (omega arith) (omega arith)) refl
