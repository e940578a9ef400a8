-- The theorems of Force.antt.
use Rattle.std.specs.Prelude.{ℕ, zero, suc, ◌+◌, ◌-◌, ◌≤◌, ◌<◌, Bool, true, false, not, ◌&&◌, ◌||◌, List, ◌≡◌, ◌↔◌, refl, eqb, min, cond, Option, None, Some}
use Rattle.std.specs.List.{list_any, range_with_len, find}
use Rattle.std.proofs.Common.{true≢false, ap, ap₂, sym, subst, ◌∙◌, arith, le_refl, eq-eqb, eqb-true, lt-ltb, ltb-true}
use Rattle.std.proofs.lemmas.Bool.{not-true}
use Rattle.std.proofs.Math.Decide.{dec_le}
use Rattle.refal_text.specs.Pick.{pick}
use Rattle.refal_rows.specs.Tests.{and_left, and_right}
use Rattle.refal_ast.specs.Kinds.{node_sentence, node_condition, node_terms, node_variable}
use Rattle.refal_ast.specs.Names.{indices_equal_lem, equal_indices}
use Rattle.refal_tree.specs.Ranges.{kind_at, detail_at, next_at, parent_at}
use Rattle.refal_files.specs.FileLaws.{row_count}
use Rattle.refal_bound.specs.Bound.{some_in, scope, within, inside, binds_in, is_use, index_at, is_variable, bound_by, is_unbound, first_unbound}
use Rattle.refal_bound.specs.BoundLaws.{scope_first, scope_second}
use Rattle.refal_bound.specs.Force.{Variable, PatternOf, first, behind, Binds, Use, Bound, Unbound, Passes, PassesExactly, FindsFirst}

-- ---- numbers of a range that pass a test
pub record Hit (test : ℕ → Bool) (a n : ℕ) : Type 0 where
  pub at : ℕ
  pub low : a ≤ at
  pub high : at < a + n
  pub passes : test at ≡ true

pub any_some : (test : ℕ → Bool) (a n : ℕ) → list_any test (range_with_len a n) ≡ true → Hit test a n
any_some test a zero e = absurd (true≢false (sym e))
any_some test a (suc n) e = go (test a) refl (any_some test (a + 1) n) e
  where
    go : (b : Bool) → test a ≡ b → (list_any test (range_with_len (a + 1) n) ≡ true → Hit test (a + 1) n) → (b || list_any test (range_with_len (a + 1) n)) ≡ true → Hit test a (suc n)
    go true q ih h = record { at = a; low = le_refl _; high = omega arith; passes = q }
    go false q ih h = let r = ih h in let lo = r.low in let hi = r.high in record { at = r.at; low = omega arith; high = omega arith; passes = r.passes }

pub any_hit : (test : ℕ → Bool) (a n i : ℕ) → a ≤ i → i < a + n → test i ≡ true → list_any test (range_with_len a n) ≡ true
any_hit test a zero i lo hi e = absurd (omega arith)
any_hit test a (suc n) i lo hi e = go (test a) refl (dec_le (a + 1) i) (λ l. any_hit test (a + 1) n i l (omega arith) e)
  where
    go : (b : Bool) → test a ≡ b → Dec (a + 1 ≤ i) → (a + 1 ≤ i → list_any test (range_with_len (a + 1) n) ≡ true) → (b || list_any test (range_with_len (a + 1) n)) ≡ true
    go true q d ih = refl
    go false q (yes l) ih = ih l
    go false q (no l) ih = let z : i ≡ a = omega arith in absurd (true≢false (sym e ∙ ap test z ∙ q))

find_none : (test : ℕ → Bool) (a n i : ℕ) → find test (range_with_len a n) ≡ None → a ≤ i → i < a + n → test i ≡ false
find_none test a zero i e lo hi = absurd (omega arith)
find_none test a (suc n) i e lo hi = go (test a) refl (dec_le (a + 1) i) (λ h l. find_none test (a + 1) n i h l (omega arith)) e
  where
    go : (b : Bool) → test a ≡ b → Dec (a + 1 ≤ i) → (find test (range_with_len (a + 1) n) ≡ None → a + 1 ≤ i → test i ≡ false) → cond b (Some a) (find test (range_with_len (a + 1) n)) ≡ None → test i ≡ false
    go true q d ih h = let z : ◌≡◌ {A = ℕ} 0 1 = cc in absurd (omega arith)
    go false q (yes l) ih h = ih h l
    go false q (no l) ih h = let z : i ≡ a = omega arith in ap test z ∙ q

pub none_find : (test : ℕ → Bool) (a n : ℕ) → ((i : ℕ) → a ≤ i → i < a + n → test i ≡ false) → find test (range_with_len a n) ≡ None
none_find test a zero h = refl
none_find test a (suc n) h =
    ap (λ (b : Bool). cond b (Some a) (find test (range_with_len (a + 1) n))) (h a (le_refl _) (omega arith))
    ∙ none_find test (a + 1) n (λ i lo hi. h i (omega arith) (omega arith))

pub record First (test : ℕ → Bool) (a n u : ℕ) : Type 0 where
  pub low : a ≤ u
  pub high : u < a + n
  pub passes : test u ≡ true
  pub least : (v : ℕ) → a ≤ v → v < u → test v ≡ false

find_some : (test : ℕ → Bool) (a n u : ℕ) → find test (range_with_len a n) ≡ Some u → First test a n u
find_some test a zero u e = let z : ◌≡◌ {A = ℕ} 0 1 = cc in absurd (omega arith)
find_some test a (suc n) u e = go (test a) refl (find_some test (a + 1) n u) e
  where
    go : (b : Bool) → test a ≡ b → (find test (range_with_len (a + 1) n) ≡ Some u → First test (a + 1) n u) → cond b (Some a) (find test (range_with_len (a + 1) n)) ≡ Some u → First test a (suc n) u
    go true q ih h = let z : a ≡ u = cc in record { low = omega arith; high = omega arith; passes = ap test (sym z) ∙ q; least = λ v lo hi. absurd (omega arith) }
    go false q ih h =
        let r = ih h in
        let lo = r.low in
        let hi = r.high in
        record {
          low = omega arith;
          high = omega arith;
          passes = r.passes;
          least = λ v lv hv. least v lv hv r.least (dec_le (a + 1) v);
        }
      where
        least : (v : ℕ) → a ≤ v → v < u → ((v : ℕ) → a + 1 ≤ v → v < u → test v ≡ false) → Dec (a + 1 ≤ v) → test v ≡ false
        least v lv hv f (yes l) = f v l hv
        least v lv hv f (no l) = let z : v ≡ a = omega arith in ap test z ∙ q

pub some_find : (test : ℕ → Bool) (a n u : ℕ) → First test a n u → find test (range_with_len a n) ≡ Some u
some_find test a n u F = go (find test (range_with_len a n)) refl
  where
    same : (v : ℕ) → First test a n v → Dec (u + 1 ≤ v) → Dec (v + 1 ≤ u) → Some v ≡ Some u
    same v G (yes l) d = absurd (true≢false (sym F.passes ∙ G.least u F.low (omega arith)))
    same v G (no l) (yes m) = absurd (true≢false (sym G.passes ∙ F.least v G.low (omega arith)))
    same v G (no l) (no m) = ap Some (let z : v ≡ u = omega arith in z)

    go : (o : Option ℕ) → find test (range_with_len a n) ≡ o → o ≡ Some u
    go None e = absurd (true≢false (sym F.passes ∙ find_none test a n u e F.low F.high))
    go (Some v) e = same v (find_some test a n v e) (dec_le (u + 1) v) (dec_le (v + 1) u)

-- ---- patterns
module _ (w : List ℕ) where
  pub record Scoped (t end : ℕ) : Type 0 where
    pub sentence : ℕ
    pub of : PatternOf w sentence t
    pub is : end ≡ next_at w sentence

  pub scope_pattern : (t end : ℕ) → scope w t ≡ Some end → Scoped t end
  unfolding scope
  scope_pattern t end e = go (eqb (kind_at w t) node_terms) (eqb (kind_at w q) node_sentence) (eqb t (q + 1)) (eqb (kind_at w q) node_condition) (eqb (kind_at w c) node_sentence) refl refl refl refl refl e
    where
      q : ℕ
      q = parent_at w t

      c : ℕ
      c = parent_at w q

      none : {A : Type 0} → ◌≡◌ {A = Option ℕ} None (Some end) → A
      none {A} h = let z : ◌≡◌ {A = ℕ} 0 1 = cc in absurd (omega arith)

      not_first : eqb t (q + 1) ≡ false → t ≡ q + 1 → ⊥
      not_first h z = true≢false (sym (eq-eqb t (q + 1) z) ∙ h)

      second : eqb (kind_at w t) node_terms ≡ true → eqb t (q + 1) ≡ false → eqb (kind_at w q) node_condition ≡ true → eqb (kind_at w c) node_sentence ≡ true → Some (next_at w c) ≡ Some end → Scoped t end
      second x b k d h = record { sentence = c; of = behind q (eqb-true _ _ x) refl (eqb-true _ _ k) (not_first b) refl (eqb-true _ _ d); is = cc }

      go : (x a b k d : Bool) → eqb (kind_at w t) node_terms ≡ x → eqb (kind_at w q) node_sentence ≡ a → eqb t (q + 1) ≡ b → eqb (kind_at w q) node_condition ≡ k → eqb (kind_at w c) node_sentence ≡ d
          → pick x (pick (a && b) (Some (next_at w q)) (pick ((k && not b) && d) (Some (next_at w c)) None)) None ≡ Some end → Scoped t end
      go false a b k d ex ea eb ek ed h = none h
      go true true true k d ex ea eb ek ed h = record { sentence = q; of = first (eqb-true _ _ ex) refl (eqb-true _ _ ea) (eqb-true _ _ eb); is = cc }
      go true true false true true ex ea eb ek ed h = second ex eb ek ed h
      go true true false true false ex ea eb ek ed h = none h
      go true true false false d ex ea eb ek ed h = none h
      go true false true true d ex ea eb ek ed h = none h
      go true false true false d ex ea eb ek ed h = none h
      go true false false true true ex ea eb ek ed h = second ex eb ek ed h
      go true false false true false ex ea eb ek ed h = none h
      go true false false false d ex ea eb ek ed h = none h

  pub pattern_scope : (q t : ℕ) → PatternOf w q t → scope w t ≡ Some (next_at w q)
  pattern_scope q t (first k p s n) =
      scope_first w t (eq-eqb _ _ k) (eq-eqb _ _ (ap (kind_at w) p ∙ s)) (eq-eqb _ _ (n ∙ ap (λ (x : ℕ). x + 1) (sym p)))
      ∙ ap (λ (x : ℕ). Some (next_at w x)) p
  pattern_scope q t (behind c k p s n r d) =
      let here : kind_at w (parent_at w t) ≡ node_condition = ap (kind_at w) p ∙ s in
      let up : parent_at w (parent_at w t) ≡ q = ap (parent_at w) p ∙ r in
      scope_second w t (eq-eqb _ _ k) (ap (λ (x : ℕ). eqb x node_sentence) here) (eq-eqb _ _ here) (not_there (λ z. n (z ∙ ap (λ (x : ℕ). x + 1) p))) (eq-eqb _ _ (ap (kind_at w) up ∙ d))
      ∙ ap (λ (x : ℕ). Some (next_at w x)) up
    where
      not_there : (t ≡ parent_at w t + 1 → ⊥) → eqb t (parent_at w t + 1) ≡ false
      not_there m = go (eqb t (parent_at w t + 1)) refl
        where
          go : (b : Bool) → eqb t (parent_at w t + 1) ≡ b → b ≡ false
          go true e = absurd (m (eqb-true _ _ e))
          go false e = refl

  -- ---- uses
  pub binds_some : (u : ℕ) → kind_at w u ≡ node_variable → some_in 0 u (binds_in w u) ≡ true → (q : ℕ) × Binds w q u
  binds_some u k e = let r = any_some (binds_in w u) 0 (u - 0) e in let hi = r.high in at r.at (omega arith) (scope w r.at) refl r.passes
    where
      at : (t : ℕ) → t < u → (o : Option ℕ) → scope w t ≡ o → inside w o t u ≡ true → (q : ℕ) × Binds w q u
      at t l None s h = absurd (true≢false (sym h))
      at t l (Some end) s h =
          let S = scope_pattern t end s in
          (S.sentence, record { pattern = t; of = S.of; behind = l; within = ltb-true _ _ h; variable = k })

  pub some_binds : (q u : ℕ) → Binds w q u → some_in 0 u (binds_in w u) ≡ true
  some_binds q u B =
      let b = B.behind in
      any_hit (binds_in w u) 0 (u - 0) B.pattern (omega arith) (omega arith)
      (ap (λ (o : Option ℕ). inside w o B.pattern u) (pattern_scope q B.pattern B.of) ∙ lt-ltb _ _ B.within)

  pub use_is : (u : ℕ) → u < row_count w → is_use w u ≡ true → Use w u
  unfolding is_use
  use_is u l e =
      let x : Bool = eqb (kind_at w u) node_variable in
      let y : Bool = some_in 0 u (binds_in w u) in
      record {
        there = l;
        variable = eqb-true _ _ (and_left x (not y) e);
        free = λ q B. true≢false (sym (some_binds q u B) ∙ not-true y (and_right x (not y) e));
      }

  pub is_use_lem : (u : ℕ) → Use w u → is_use w u ≡ true
  unfolding is_use
  is_use_lem u U = go (some_in 0 u (binds_in w u)) refl
    where
      go : (y : Bool) → some_in 0 u (binds_in w u) ≡ y → eqb (kind_at w u) node_variable && not (some_in 0 u (binds_in w u)) ≡ true
      go true e = let r = binds_some u U.variable e in absurd (U.free r.0 r.1)
      go false e = ap₂ (λ (a b : Bool). a && not b) (eq-eqb _ _ U.variable) e

module _ (w s : List ℕ) where
  -- ---- bindings in force
  pub bound_some : (u : ℕ) → some_in 0 u (bound_by w s u) ≡ true → Bound w s u
  unfolding bound_by is_variable
  bound_some u e = let r = any_some (bound_by w s u) 0 (u - 0) e in at r.at (scope w r.at) refl (and_left _ _ r.passes) (any_some _ _ _ (and_right _ _ r.passes))
    where
      at : (t : ℕ) → (o : Option ℕ) → scope w t ≡ o → within w o u ≡ true → Hit (is_variable w s (detail_at w u) (index_at w s u)) (t + 1) (min (next_at w t) u - (t + 1)) → Bound w s u
      at t None q h b = absurd (true≢false (sym h))
      at t (Some end) q h b =
          let S = scope_pattern w t end q in
          let lo = b.low in
          let hi = b.high in
          let l = ltb-true _ _ h in
          let k = and_left (eqb (kind_at w b.at) node_variable) _ b.passes in
          let v = and_right (eqb (kind_at w b.at) node_variable) _ b.passes in
          let d = eqb-true _ _ (and_left (eqb (detail_at w b.at) (detail_at w u)) _ v) in
          let i = indices_equal_lem _ _ (and_right (eqb (detail_at w b.at) (detail_at w u)) _ v) in
          record {
            binding = b.at;
            force = record {
              sentence = S.sentence;
              binds = record { pattern = t; of = S.of; behind = omega arith; within = omega arith; variable = eqb-true _ _ k };
              before = omega arith;
              encloses = subst (λ (n : ℕ). u < n) S.is l;
            };
            equal = λ j. record { letter = d j; index = i j };
          }

  pub some_bound : (u : ℕ) → Bound w s u → some_in 0 u (bound_by w s u) ≡ true
  unfolding bound_by is_variable
  some_bound u B =
      let F = B.force in
      let K = F.binds in
      let t : ℕ = K.pattern in
      let b : ℕ = B.binding in
      let x = K.behind in
      let y = K.within in
      let z = F.before in
      let same : is_variable w s (detail_at w u) (index_at w s u) b ≡ true =
      ap₂ (λ (a c : Bool). a && c) (eq-eqb _ _ K.variable)
      (ap₂ (λ (a c : Bool). a && c) (eq-eqb _ _ (ap (λ (v : Variable). v.letter) B.equal)) (equal_indices _ _ (ap (λ (v : Variable). v.index) B.equal))) in
      any_hit (bound_by w s u) 0 (u - 0) t (omega arith) (omega arith)
      (ap₂ (λ (a c : Bool). a && c)
      (ap (λ (o : Option ℕ). within w o u) (pattern_scope w F.sentence t K.of) ∙ lt-ltb _ _ F.encloses)
      (any_hit (is_variable w s (detail_at w u) (index_at w s u)) (t + 1) (min (next_at w t) u - (t + 1)) b (omega arith) (omega arith) same))

  -- ---- unbound variables
  unbound_is : (u : ℕ) → u < row_count w → is_unbound w s u ≡ true → Unbound w s u
  unfolding is_unbound
  unbound_is u l e =
      let y : Bool = some_in 0 u (bound_by w s u) in
      record {
        used = use_is w u l (and_left (is_use w u) (not y) e);
        no_binding = λ B. true≢false (sym (some_bound u B) ∙ not-true y (and_right (is_use w u) (not y) e));
      }

  is_unbound_lem : (u : ℕ) → Unbound w s u → is_unbound w s u ≡ true
  unfolding is_unbound
  is_unbound_lem u U = go (some_in 0 u (bound_by w s u)) refl
    where
      go : (y : Bool) → some_in 0 u (bound_by w s u) ≡ y → is_use w u && not (some_in 0 u (bound_by w s u)) ≡ true
      go true e = absurd (U.no_binding (bound_some u e))
      go false e = ap₂ (λ (a b : Bool). a && not b) (is_use_lem w u U.used) e

  -- a row that is not unbound
  bound_else : (u : ℕ) → Use w u → is_unbound w s u ≡ false → Bound w s u
  unfolding is_unbound
  bound_else u U e = go (some_in 0 u (bound_by w s u)) refl
    where
      go : (y : Bool) → some_in 0 u (bound_by w s u) ≡ y → Bound w s u
      go true h = bound_some u h
      go false h = absurd (true≢false (sym (ap₂ (λ (a b : Bool). a && not b) (is_use_lem w u U) h) ∙ e))

  not_unbound : (u : ℕ) → (Unbound w s u → ⊥) → u < row_count w → is_unbound w s u ≡ false
  not_unbound u n l = go (is_unbound w s u) refl
    where
      go : (y : Bool) → is_unbound w s u ≡ y → y ≡ false
      go true e = absurd (n (unbound_is u l e))
      go false e = refl

  passes_lem : (first_unbound w s ≡ None) ↔ Passes w s
  unfolding first_unbound
  passes_lem = (
    λ e. λ u U. bound_else u U (find_none (is_unbound w s) 0 (row_count w - 0) u e (omega arith) (omega (arith, U.there))),
    λ P. none_find (is_unbound w s) 0 (row_count w - 0) (λ i lo hi. not_unbound i (λ U. U.no_binding (P i U.used)) (omega arith)),
  )

  finds_lem : (u : ℕ) → (first_unbound w s ≡ Some u) ↔ (Unbound w s u × ((v : ℕ) → v < u → Unbound w s v → ⊥))
  unfolding first_unbound
  finds_lem u = (to, from)
    where
      to : find (is_unbound w s) (range_with_len 0 (row_count w - 0)) ≡ Some u → Unbound w s u × ((v : ℕ) → v < u → Unbound w s v → ⊥)
      to e =
          let F = find_some (is_unbound w s) 0 (row_count w - 0) u e in
          let hi = F.high in
          (unbound_is u (omega arith) F.passes, λ v l U. true≢false (sym (is_unbound_lem v U) ∙ F.least v (omega arith) l))

      from : Unbound w s u × ((v : ℕ) → v < u → Unbound w s v → ⊥) → find (is_unbound w s) (range_with_len 0 (row_count w - 0)) ≡ Some u
      from h =
          let l = h.0.used.there in
          some_find (is_unbound w s) 0 (row_count w - 0) u
          (record {
            low = omega arith;
            high = omega arith;
            passes = is_unbound_lem u h.0;
            least = λ v lo hi. not_unbound v (h.1 v hi) (omega arith);
          })

pub passes_exactly : PassesExactly
passes_exactly w s = passes_lem w s

pub finds_first : FindsFirst
finds_first w s u = finds_lem w s u

-- the row that is found is a variable
pub found_variable : (w s : List ℕ) (u : ℕ) → first_unbound w s ≡ Some u → kind_at w u ≡ node_variable
found_variable w s u e = ((finds_lem w s u).0 e).0.used.variable
