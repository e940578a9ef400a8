-- Parts of a tree's rows, by what is bound before and behind them.
use Rattle.std.specs.Prelude.{ℕ, ◌+◌, ◌≤◌, ◌<◌, Bool, true, false, ◌&&◌, ◌||◌, List, [], ◌∷◌, ◌++◌, ◌≡◌, refl, eqb, Some}
use Rattle.std.proofs.Common.{true≢false, ap, sym, subst, ◌∙◌, arith, le_refl, eq-eqb, eqb-true}
use Rattle.std.proofs.Math.Decide.{dec_le}
use Rattle.refal_rows.specs.Tests.{and_left, and_right}
use Rattle.refal_ast.specs.Kinds.{node_sentence, node_condition, node_terms, node_variable}
use Rattle.refal_ast.specs.Names.{same_list, same_true, same_refl}
use Rattle.refal_tree.specs.Ranges.{kind_at, next_at, parent_at}
use Rattle.refal_files.specs.FileLaws.{row_count}
use Rattle.refal_bound.specs.Force.{Variable, PatternOf, first, behind, Binds, Use, variable_at, Bound}
use Rattle.refal_bound.specs.ForceTheorems.{pattern_scope}
use Rattle.refal_bound.specs.Walks.{same_variable, is_bound, all_bound}
use Rattle.refal_bound.specs.Climb.{goes_up, Climbs, direct, lift}

-- ---- lists of variables
same_is : (x y : Variable) → same_variable x y ≡ true → x ≡ y
same_is x y e =
    let l = eqb-true x.letter y.letter (and_left (eqb x.letter y.letter) (same_list x.index y.index) e) in
    let i = same_true x.index y.index (and_right (eqb x.letter y.letter) (same_list x.index y.index) e) in
    λ t. record { letter = l t; index = i t }

is_same : (x : Variable) → same_variable x x ≡ true
is_same x = ap (λ (b : Bool). b && same_list x.index x.index) (eq-eqb x.letter x.letter refl) ∙ same_refl x.index

or_left : (x y : Bool) → x ≡ true → (x || y) ≡ true
or_left x y e = ap (λ (b : Bool). b || y) e

or_right : (x y : Bool) → y ≡ true → (x || y) ≡ true
or_right true y e = refl
or_right false y e = e

or_cases : {A : Type 0} (x y : Bool) → (x || y) ≡ true → (x ≡ true → A) → (y ≡ true → A) → A
or_cases true y e f g = f refl
or_cases false y e f g = g e

bound_append : (xs ys : List Variable) (x : Variable) → is_bound (xs ++ ys) x ≡ (is_bound xs x || is_bound ys x)
unfolding is_bound
bound_append [] ys x = refl
bound_append (y ∷ xs) ys x = go (same_variable y x) (bound_append xs ys x)
  where
    go : (t : Bool) → is_bound (xs ++ ys) x ≡ (is_bound xs x || is_bound ys x) → (t || is_bound (xs ++ ys) x) ≡ ((t || is_bound xs x) || is_bound ys x)
    go true e = refl
    go false e = e

pub bound_left : (xs ys : List Variable) (x : Variable) → is_bound xs x ≡ true → is_bound (xs ++ ys) x ≡ true
bound_left xs ys x e = bound_append xs ys x ∙ or_left (is_bound xs x) (is_bound ys x) e

pub bound_right : (xs ys : List Variable) (x : Variable) → is_bound ys x ≡ true → is_bound (xs ++ ys) x ≡ true
bound_right xs ys x e = bound_append xs ys x ∙ or_right (is_bound xs x) (is_bound ys x) e

pub bound_cases : {A : Type 0} (xs ys : List Variable) (x : Variable) → is_bound (xs ++ ys) x ≡ true → (is_bound xs x ≡ true → A) → (is_bound ys x ≡ true → A) → A
bound_cases {A} xs ys x e f g = or_cases (is_bound xs x) (is_bound ys x) (sym (bound_append xs ys x) ∙ e) f g

pub none_bound : {A : Type 0} (x : Variable) → is_bound [] x ≡ true → A
unfolding is_bound
none_bound {A} x e = absurd (true≢false (sym e))

pub one_bound : (y x : Variable) → is_bound (y ∷ []) x ≡ true → y ≡ x
unfolding is_bound
one_bound y x e = same_is y x (or_cases (same_variable y x) false e (λ h. h) (λ h. absurd (true≢false (sym h))))

pub bound_one : (x : Variable) → is_bound (x ∷ []) x ≡ true
unfolding is_bound
bound_one x = or_left (same_variable x x) false (is_same x)

all_each : (bound xs : List Variable) (x : Variable) → all_bound bound xs ≡ true → is_bound xs x ≡ true → is_bound bound x ≡ true
unfolding is_bound all_bound
all_each bound [] x a e = absurd (true≢false (sym e))
all_each bound (y ∷ xs) x a e =
    or_cases (same_variable y x) (is_bound xs x) e
    (λ h. subst (λ (z : Variable). is_bound bound z ≡ true) (same_is y x h) (and_left (is_bound bound y) (all_bound bound xs) a))
    (λ h. all_each bound xs x (and_right (is_bound bound y) (all_bound bound xs) a) h)

each_all : (bound xs : List Variable) → ((x : Variable) → is_bound xs x ≡ true → is_bound bound x ≡ true) → all_bound bound xs ≡ true
unfolding is_bound all_bound
each_all bound [] h = refl
each_all bound (y ∷ xs) h =
    ap (λ (b : Bool). b && all_bound bound xs) (h y (or_left (same_variable y y) (is_bound xs y) (is_same y)))
    ∙ each_all bound xs (λ x e. h x (or_right (same_variable y x) (is_bound xs x) e))

-- ---- patterns
module _ (w : List ℕ) where
  pub pattern_kind : (q t : ℕ) → PatternOf w q t → kind_at w t ≡ node_terms
  pattern_kind q t (first k p s n) = k
  pattern_kind q t (behind c k p s n r d) = k

  -- one pattern has one sentence's end
  pub one_scope : (q p t : ℕ) → PatternOf w q t → PatternOf w p t → next_at w p ≡ next_at w q
  one_scope q p t a b = let e : Some (next_at w p) ≡ Some (next_at w q) = sym (pattern_scope w p t b) ∙ pattern_scope w q t a in cc

  pub not_pattern : (t q : ℕ) → parent_at w t ≡ q → (kind_at w q ≡ node_sentence → t ≡ q + 1 → ⊥) → (kind_at w q ≡ node_condition → (t ≡ q + 1 → ⊥) → ⊥) → (p : ℕ) → PatternOf w p t → ⊥
  not_pattern t q e f g p (first k h s n) =
      let z : q ≡ p = sym e ∙ h in
      f (ap (kind_at w) z ∙ s) (n ∙ ap (λ (x : ℕ). x + 1) (sym z))
  not_pattern t q e f g p (behind c k h s n r d) =
      let z : q ≡ c = sym e ∙ h in
      g (ap (kind_at w) z ∙ s) (λ m. n (m ∙ ap (λ (x : ℕ). x + 1) z))

module _ (w s : List ℕ) where
  abbrev pub V : ℕ → Variable
  V i = variable_at w s i

  -- an equal variable that a sentence binds before row i, whose sentence reaches to J at least
  pub record Known (J i : ℕ) (x : Variable) : Type 0 where
    pub sentence : ℕ
    pub binding : ℕ
    pub binds : Binds w sentence binding
    pub before : binding < i
    pub reaches : J ≤ next_at w sentence
    pub is : V binding ≡ x

  -- `bound` is what is bound at row i: what is in force there; and no pattern reaches over row i
  pub record Open (J : ℕ) (bound : List Variable) (i : ℕ) : Type 0 where
    pub clear : (q t : ℕ) → PatternOf w q t → t < i → next_at w t ≤ i
    pub known : (x : Variable) → is_bound bound x ≡ true → Known J i x
    pub all : (q b : ℕ) → Binds w q b → b < i → i < next_at w q → is_bound bound (V b) ≡ true

  -- every use among the rows is bound
  abbrev pub Fine : ℕ → ℕ → Type 0
  Fine i k = (u : ℕ) → i ≤ u → u < k → Use w u → Bound w s u

  -- rows i to k lead from what is bound before them to what is bound behind, and `ok` says whether every use is bound; what they bind is
  -- in force to J at most
  pub record Part (J : ℕ) (bound bound' : List Variable) (ok : Bool) (i k : ℕ) : Type 0 where
    pub le : i ≤ k
    pub inner : (q t : ℕ) → PatternOf w q t → i ≤ t → t < k → next_at w q ≤ J
    pub leads : Open J bound i → Open J bound' k
    pub fine : Open J bound i → ok ≡ true → Fine i k
    pub ok_if : Open J bound i → Fine i k → ok ≡ true
    pub climbs : (t b : ℕ) → i ≤ t → t < k → kind_at w t ≡ node_terms → t < b → b < next_at w t → Climbs w t b

  known_up : (J i k : ℕ) (x : Variable) → i ≤ k → Known J i x → Known J k x
  known_up J i k x l K =
      let b = K.before in
      record { sentence = K.sentence; binding = K.binding; binds = K.binds; before = omega arith; reaches = K.reaches; is = K.is }

  pub part_none : (J : ℕ) (bound : List Variable) (i : ℕ) → Part J bound bound true i i
  part_none J bound i = record {
    le = le_refl _;
    inner = λ q t P lo hi. absurd (omega arith);
    leads = λ O. O;
    fine = λ O e. λ u lo hi U. absurd (omega arith);
    ok_if = λ O F. refl;
    climbs = λ t b lo hi z l h. absurd (omega arith);
  }

  pub part_then : {J : ℕ} {b₁ b₂ b₃ : List Variable} {x y : Bool} {i k l : ℕ} → Part J b₁ b₂ x i k → Part J b₂ b₃ y k l → Part J b₁ b₃ (x && y) i l
  part_then {J} {b₁} {b₂} {b₃} {x} {y} {i} {k} {l} P Q =
      let p = P.le in
      let q = Q.le in
      record {
        le = omega arith;
        inner = λ a t A lo hi. split (λ m. P.inner a t A lo m) (λ m. Q.inner a t A m hi) (dec_le (t + 1) k);
        leads = λ O. Q.leads (P.leads O);
        fine = λ O e. λ u lo hi U. split (λ m. P.fine O (and_left x y e) u lo m U) (λ m. Q.fine (P.leads O) (and_right x y e) u m hi U) (dec_le (u + 1) k);
        climbs = λ t c lo hi z m h. split (λ n. P.climbs t c lo n z m h) (λ n. Q.climbs t c n hi z m h) (dec_le (t + 1) k);
        ok_if = λ O F. both (P.ok_if O (λ u lo hi U. F u lo (omega arith) U)) (Q.ok_if (P.leads O) (λ u lo hi U. F u (omega arith) hi U));
      }
    where
      split : {A : Type 0} {t : ℕ} → (t < k → A) → (k ≤ t → A) → Dec (t + 1 ≤ k) → A
      split {A} {t} f g (yes m) = f (omega arith)
      split {A} {t} f g (no m) = g (omega arith)

      both : x ≡ true → y ≡ true → x && y ≡ true
      both e f = ap (λ (b : Bool). b && y) e ∙ f

  -- a row that is neither Terms nor a variable
  pub part_row : (J : ℕ) (bound : List Variable) (i : ℕ) → (kind_at w i ≡ node_terms → ⊥) → (kind_at w i ≡ node_variable → ⊥) → Part J bound bound true i (i + 1)
  part_row J bound i n m = record {
    le = omega arith;
    inner = λ q t P lo hi. let z : t ≡ i = omega arith in absurd (n (ap (kind_at w) (sym z) ∙ pattern_kind w q t P));
    leads = λ O. record {
      clear = λ q t P l. clear O q t P l (dec_le (t + 1) i);
      known = λ x e. known_up J i (i + 1) x (omega arith) (O.known x e);
      all = λ q b B l h. all O q b B l h (dec_le (b + 1) i);
    };
    fine = λ O e. λ u lo hi U. let z : u ≡ i = omega arith in absurd (m (ap (kind_at w) (sym z) ∙ U.variable));
    ok_if = λ O F. refl;
    climbs = λ t b lo hi k l h. let z : t ≡ i = omega arith in absurd (n (ap (kind_at w) (sym z) ∙ k));
  }
    where
      clear : Open J bound i → (q t : ℕ) → PatternOf w q t → t < i + 1 → Dec (t + 1 ≤ i) → next_at w t ≤ i + 1
      clear O q t P l (yes h) = let c = O.clear q t P (omega arith) in omega arith
      clear O q t P l (no h) = let z : t ≡ i = omega arith in absurd (n (ap (kind_at w) (sym z) ∙ pattern_kind w q t P))

      all : Open J bound i → (q b : ℕ) → Binds w q b → b < i + 1 → i + 1 < next_at w q → Dec (b + 1 ≤ i) → is_bound bound (V b) ≡ true
      all O q b B l h (yes d) = O.all q b B (omega arith) (omega arith)
      all O q b B l h (no d) = let z : b ≡ i = omega arith in absurd (m (ap (kind_at w) (sym z) ∙ B.variable))

  -- at a sentence's end what it binds ends with it
  pub close : {b' : List Variable} {ok : Bool} (J : ℕ) (bound : List Variable) (i x : ℕ) → x ≤ J → Part x bound b' ok i x → Part J bound bound ok i x
  close {b'} {ok} J bound i x h P =
      let l = P.le in
      record {
        le = l;
        inner = λ q t A lo hi. let m = P.inner q t A lo hi in omega arith;
        leads = λ O. record {
          clear = (P.leads (within O)).clear;
          known = λ y e. known_up J i x y l (O.known y e);
          all = λ q b B lo hi. all O q b B lo hi (dec_le (b + 1) i) (dec_le (B.pattern + 1) i);
        };
        fine = λ O e. P.fine (within O) e;
        ok_if = λ O F. P.ok_if (within O) F;
        climbs = P.climbs;
      }
    where
      within : Open J bound i → Open x bound i
      within O = record {
        clear = O.clear;
        known = λ y e. let K = O.known y e in let r = K.reaches in record { sentence = K.sentence; binding = K.binding; binds = K.binds; before = K.before; reaches = omega arith; is = K.is };
        all = O.all;
      }

      all : Open J bound i → (q b : ℕ) → (B : Binds w q b) → b < x → x < next_at w q → Dec (b + 1 ≤ i) → Dec (B.pattern + 1 ≤ i) → is_bound bound (V b) ≡ true
      all O q b B lo hi (yes d) e = let l = P.le in O.all q b B (omega arith) (omega arith)
      all O q b B lo hi (no d) (yes e) = let c = O.clear q B.pattern B.of (omega arith) in let m = B.within in absurd (omega arith)
      all O q b B lo hi (no d) (no e) = let m = B.behind in let n = P.inner q B.pattern B.of (omega arith) (omega arith) in absurd (omega arith)

  -- a variable's row among rows i to k
  pub record Among (i k : ℕ) (x : Variable) : Type 0 where
    pub row : ℕ
    pub lo : i ≤ row
    pub hi : row < k
    pub variable : kind_at w row ≡ node_variable
    pub is : V row ≡ x

  -- ---- terms: rows i to k hold no Terms row, stand below row q, and their variables are these
  pub record InTerms (q : ℕ) (xs : List Variable) (i k : ℕ) : Type 0 where
    pub le : i ≤ k
    pub no_terms : (t : ℕ) → i ≤ t → t < k → kind_at w t ≡ node_terms → ⊥
    pub here : (b : ℕ) → i ≤ b → b < k → kind_at w b ≡ node_variable → is_bound xs (V b) ≡ true
    pub there : (x : Variable) → is_bound xs x ≡ true → Among i k x
    pub climbs : (b : ℕ) → i ≤ b → b < k → Climbs w q b

  among_in : (i k j l : ℕ) (x : Variable) → j ≤ i → k ≤ l → Among i k x → Among j l x
  among_in i k j l x m n A = let lo = A.lo in let hi = A.hi in record { row = A.row; lo = omega arith; hi = omega arith; variable = A.variable; is = A.is }

  pub in_none : (q i : ℕ) → InTerms q [] i i
  in_none q i = record {
    le = le_refl _;
    no_terms = λ t lo hi e. absurd (omega arith);
    here = λ b lo hi e. absurd (omega arith);
    there = λ x e. none_bound x e;
    climbs = λ b lo hi. absurd (omega arith);
  }

  pub in_then : {q : ℕ} {xs ys : List Variable} {i k l : ℕ} → InTerms q xs i k → InTerms q ys k l → InTerms q (xs ++ ys) i l
  in_then {q} {xs} {ys} {i} {k} {l} A B =
      let a = A.le in
      let b = B.le in
      record {
        le = omega arith;
        no_terms = λ t lo hi e. split (λ m. A.no_terms t lo m e) (λ m. B.no_terms t m hi e) (dec_le (t + 1) k);
        here = λ v lo hi e. split (λ m. bound_left xs ys (V v) (A.here v lo m e)) (λ m. bound_right xs ys (V v) (B.here v m hi e)) (dec_le (v + 1) k);
        climbs = λ v lo hi. split (λ m. A.climbs v lo m) (λ m. B.climbs v m hi) (dec_le (v + 1) k);
        there = λ x e. bound_cases xs ys x e (λ h. among_in i k i l x (le_refl _) b (A.there x h)) (λ h. among_in k l i l x a (le_refl _) (B.there x h));
      }
    where
      split : {C : Type 0} {t : ℕ} → (t < k → C) → (k ≤ t → C) → Dec (t + 1 ≤ k) → C
      split {C} {t} f g (yes m) = f (omega arith)
      split {C} {t} f g (no m) = g (omega arith)

  -- a row that is neither Terms nor a variable, before terms
  pub in_row : {q : ℕ} {xs : List Variable} (i k : ℕ) → (kind_at w i ≡ node_terms → ⊥) → (kind_at w i ≡ node_variable → ⊥) → goes_up (kind_at w i) ≡ true → parent_at w i ≡ q → q < i → InTerms i xs (i + 1) k → InTerms q xs i k
  in_row {q} {xs} i k n m g f l A =
      let p = A.le in
      record {
        le = omega arith;
        no_terms = λ t lo hi e. terms t lo hi e (dec_le (i + 1) t);
        here = λ b lo hi e. here b lo hi e (dec_le (i + 1) b);
        there = λ x e. among_in (i + 1) k i k x (omega arith) (le_refl _) (A.there x e);
        climbs = λ b lo hi. climbs b lo hi (dec_le (i + 1) b);
      }
    where
      climbs : (b : ℕ) → i ≤ b → b < k → Dec (i + 1 ≤ b) → Climbs w q b
      climbs b lo hi (yes h) = lift w q i b g f l (A.climbs b h hi)
      climbs b lo hi (no h) = let z : i ≡ b = omega arith in subst (Climbs w q) z (direct i g f l)

      terms : (t : ℕ) → i ≤ t → t < k → kind_at w t ≡ node_terms → Dec (i + 1 ≤ t) → ⊥
      terms t lo hi e (yes h) = A.no_terms t h hi e
      terms t lo hi e (no h) = let z : i ≡ t = omega arith in n (ap (kind_at w) z ∙ e)

      here : (b : ℕ) → i ≤ b → b < k → kind_at w b ≡ node_variable → Dec (i + 1 ≤ b) → is_bound xs (V b) ≡ true
      here b lo hi e (yes h) = A.here b h hi e
      here b lo hi e (no h) = let z : i ≡ b = omega arith in absurd (m (ap (kind_at w) z ∙ e))

  -- a variable's row
  pub in_variable : {q : ℕ} (x : Variable) (i : ℕ) → kind_at w i ≡ node_variable → parent_at w i ≡ q → q < i → V i ≡ x → InTerms q (x ∷ []) i (i + 1)
  in_variable {q} x i k f l e = record {
    climbs = λ b lo hi. let z : i ≡ b = omega arith in subst (Climbs w q) z (direct i (ap goes_up k) f l);
    le = omega arith;
    no_terms = λ t lo hi h. let z : i ≡ t = omega arith in let y = ap (kind_at w) z ∙ h in absurd (omega arith);
    here = λ b lo hi h. let z : b ≡ i = omega arith in subst (λ (y : Variable). is_bound (x ∷ []) y ≡ true) (sym (ap V z ∙ e)) (bound_one x);
    there = λ y h. record { row = i; lo = le_refl _; hi = omega arith; variable = k; is = e ∙ one_bound x y h };
  }

  -- ---- a Terms row and its terms
  module _ (J : ℕ) (bound xs : List Variable) (i x : ℕ) (A : InTerms i xs (i + 1) x) (kind : kind_at w i ≡ node_terms) (next : x ≡ next_at w i) where
    not_variable : (b : ℕ) → kind_at w b ≡ node_variable → i ≤ b → i + 1 ≤ b
    not_variable b e lo = go (dec_le (i + 1) b)
      where
        go : Dec (i + 1 ≤ b) → i + 1 ≤ b
        go (yes h) = h
        go (no h) = let z : i ≡ b = omega arith in let y = ap (kind_at w) z ∙ e in absurd (omega arith)

    -- whatever they are
    its_climbs : (t b : ℕ) → i ≤ t → t < x → kind_at w t ≡ node_terms → t < b → b < next_at w t → Climbs w t b
    its_climbs t b lo hi k l h = go (dec_le (i + 1) t)
      where
        go : Dec (i + 1 ≤ t) → Climbs w t b
        go (yes m) = absurd (A.no_terms t m hi k)
        go (no m) =
            let z : i ≡ t = omega arith in
            let n = ap (next_at w) z in
            subst (λ (y : ℕ). Climbs w y b) z (A.climbs b (omega arith) (omega arith))

    -- a pattern binds
    module _ (q : ℕ) (P : PatternOf w q i) (end : next_at w q ≡ J) where
      its : (p t : ℕ) → PatternOf w p t → i ≤ t → t < x → t ≡ i
      its p t T lo hi = go (dec_le (i + 1) t)
        where
          go : Dec (i + 1 ≤ t) → t ≡ i
          go (yes h) = absurd (A.no_terms t h hi (pattern_kind w p t T))
          go (no h) = omega arith

      binds_here : (b : ℕ) → i + 1 ≤ b → b < x → kind_at w b ≡ node_variable → Binds w q b
      binds_here b lo hi v = record { pattern = i; of = P; behind = omega arith; within = omega arith; variable = v }

      pub part_pattern : Part J bound (bound ++ xs) true i x
      part_pattern =
          let l = A.le in
          record {
            le = omega arith;
            inner = λ p t T lo hi. let z = its p t T lo hi in let e = one_scope w q p i P (subst (PatternOf w p) z T) in omega arith;
            leads = λ O. record {
              clear = λ p t T h. clear O p t T h (dec_le (t + 1) i);
              known = λ y e. bound_cases bound xs y e (λ h. known_up J i x y (omega arith) (O.known y h)) (λ h. new y (A.there y h));
              all = λ p b B h m. all O p b B h m (dec_le (b + 1) i);
            };
            climbs = its_climbs;
            fine = λ O e. λ u lo hi U. absurd (U.free q (binds_here u (not_variable u U.variable lo) hi U.variable));
            ok_if = λ O F. refl;
          }
        where
          clear : Open J bound i → (p t : ℕ) → PatternOf w p t → t < x → Dec (t + 1 ≤ i) → next_at w t ≤ x
          clear O p t T h (yes d) = let c = O.clear p t T (omega arith) in let l = A.le in omega arith
          clear O p t T h (no d) = let z = its p t T (omega arith) h in let n = ap (next_at w) z in omega arith

          new : (y : Variable) → Among (i + 1) x y → Known J x y
          new y M = record { sentence = q; binding = M.row; binds = binds_here M.row M.lo M.hi M.variable; before = M.hi; reaches = omega arith; is = M.is }

          all : Open J bound i → (p b : ℕ) → Binds w p b → b < x → x < next_at w p → Dec (b + 1 ≤ i) → is_bound (bound ++ xs) (V b) ≡ true
          all O p b B h m (yes d) = let l = A.le in bound_left bound xs (V b) (O.all p b B (omega arith) (omega arith))
          all O p b B h m (no d) = bound_right bound xs (V b) (A.here b (not_variable b B.variable (omega arith)) h B.variable)

    -- other terms use
    module _ (not : (p : ℕ) → PatternOf w p i → ⊥) (inside : x ≤ J) (rows : J ≤ row_count w) where
      no_pattern : (p t : ℕ) → PatternOf w p t → i ≤ t → t < x → ⊥
      no_pattern p t T lo hi = go (dec_le (i + 1) t)
        where
          go : Dec (i + 1 ≤ t) → ⊥
          go (yes h) = A.no_terms t h hi (pattern_kind w p t T)
          go (no h) = let z : t ≡ i = omega arith in not p (subst (PatternOf w p) z T)

      no_binding : Open J bound i → (p b : ℕ) → Binds w p b → i ≤ b → b < x → ⊥
      no_binding O p b B lo hi = go (dec_le (B.pattern + 1) i)
        where
          go : Dec (B.pattern + 1 ≤ i) → ⊥
          go (yes h) = let c = O.clear p B.pattern B.of (omega arith) in let m = B.within in absurd (omega arith)
          go (no h) = let m = B.behind in no_pattern p B.pattern B.of (omega arith) (omega arith)

      pub part_use : Part J bound bound (all_bound bound xs) i x
      part_use =
          let l = A.le in
          record {
            le = omega arith;
            inner = λ p t T lo hi. absurd (no_pattern p t T lo hi);
            climbs = its_climbs;
            leads = λ O. record {
              clear = λ p t T h. clear O p t T h (dec_le (t + 1) i);
              known = λ y e. known_up J i x y (omega arith) (O.known y e);
              all = λ p b B h m. all O p b B h m (dec_le (b + 1) i);
            };
            fine = λ O e. λ u lo hi U. bound_at u lo hi (O.known (V u) (all_each bound xs (V u) e (A.here u (not_variable u U.variable lo) hi U.variable)));
            ok_if = λ O F. each_all bound xs (λ y e. each O F y (A.there y e));
          }
        where
          clear : Open J bound i → (p t : ℕ) → PatternOf w p t → t < x → Dec (t + 1 ≤ i) → next_at w t ≤ x
          clear O p t T h (yes d) = let c = O.clear p t T (omega arith) in let l = A.le in omega arith
          clear O p t T h (no d) = absurd (no_pattern p t T (omega arith) h)

          all : Open J bound i → (p b : ℕ) → Binds w p b → b < x → x < next_at w p → Dec (b + 1 ≤ i) → is_bound bound (V b) ≡ true
          all O p b B h m (yes d) = let l = A.le in O.all p b B (omega arith) (omega arith)
          all O p b B h m (no d) = absurd (no_binding O p b B (omega arith) h)

          bound_at : (u : ℕ) → i ≤ u → u < x → Known J i (V u) → Bound w s u
          bound_at u lo hi K =
              let b = K.before in
              let r = K.reaches in
              record { binding = K.binding; force = record { sentence = K.sentence; binds = K.binds; before = omega arith; encloses = omega arith }; equal = K.is }

          found : Open J bound i → (y : Variable) (u : ℕ) → i ≤ u → u < x → V u ≡ y → (B : Bound w s u) → Dec (B.binding + 1 ≤ i) → is_bound bound y ≡ true
          found O y u lo hi e B (yes h) =
              let F = B.force in
              let m = F.encloses in
              subst (λ (z : Variable). is_bound bound z ≡ true) (B.equal ∙ e) (O.all F.sentence B.binding F.binds (omega arith) (omega arith))
          found O y u lo hi e B (no h) = let F = B.force in let m = F.before in absurd (no_binding O F.sentence B.binding F.binds (omega arith) (omega arith))

          each : Open J bound i → Fine i x → (y : Variable) → Among (i + 1) x y → is_bound bound y ≡ true
          each O F y M =
              let lo = M.lo in
              let hi = M.hi in
              let U : Use w M.row = record { there = omega arith; variable = M.variable; free = λ p B. no_binding O p M.row B (omega arith) hi } in
              let B = F M.row (omega arith) hi U in
              found O y M.row (omega arith) hi M.is B (dec_le (B.binding + 1) i)
