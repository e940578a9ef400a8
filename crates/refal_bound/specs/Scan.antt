-- What a scan over the rows keeps: how far the patterns before a row reach, and, in lent words, the bindings before it that are still in force.
use Rattle.std.specs.Prelude.{ℕ, zero, suc, ◌+◌, ◌-◌, ◌*◌, ◌%◌, ◌≤◌, ◌<◌, Bool, true, false, not, ◌&&◌, ◌||◌, List, [], ◌∷◌, ◌≡◌, refl, eqb, leb, ltb, max, get_or, set, length, Option, None, Some}
use Rattle.std.proofs.Common.{true≢false, ap, ap₂, sym, subst, ◌∙◌, arith, add-one, mod-lt, le_refl, eq-eqb, eqb-true, leb-true, lt-ltb, ltb-true, ne_eqb, get_or-set_same, get_or-set_other}
use Rattle.std.proofs.lemmas.Bool.{lt-leb}
use Rattle.std.proofs.Math.Decide.{dec_le}
use Rattle.std.proofs.Math.Option.{some}
use Rattle.refal_rows.specs.Rows.{pick_list}
use Rattle.refal_rows.specs.Tests.{and_left, and_right, range_lo, range_hi}
use Rattle.refal_ast.specs.Kinds.{node_terms, node_variable}
use Rattle.refal_ast.specs.Limits.{most_levels, most_rows}
use Rattle.refal_ast.specs.Names.{pick_byte, upper_byte, name_byte, canonical_name, canonical_index, indices_equal, indices_equal_lem, equal_indices, equal_names}
use Rattle.refal_ast.specs.Nodes.{node_width, node_at, whole_rows}
use Rattle.refal_tree.specs.Lawful.{lawful, lawful_is, tree_of, tree_of_lem, found}
use Rattle.refal_tree.specs.Ranges.{kind_at, detail_at, next_at}
use Rattle.refal_files.specs.Files.{Placed, placed}
use Rattle.refal_files.specs.FileLaws.{row_count}
use Rattle.refal_index.specs.Hash.{bucket_of, equal_buckets}
use Rattle.refal_index.specs.Chain.{only, any_of, Falls, Chain, Chained, falls_up, falls_only, chain_low, chain_keep, pushed, index_push, Walk, walk_start, walk_hit, walk_end}
use Rattle.refal_index.specs.Named.{Holds, entered}
use Rattle.refal_bound.specs.Bound.{some_in, scope, within, inside, binds_in, is_use, index_at, is_variable, bound_by, is_unbound, first_unbound}
use Rattle.refal_bound.specs.Force.{Variable, Binds}
use Rattle.refal_bound.specs.ForceTheorems.{any_some, any_hit, some_find, none_find, pattern_scope, binds_some, some_binds, bound_some, some_bound}
use Rattle.refal_bound.specs.Climb.{terms_above, climbs_is}
use Rattle.refal_bound.specs.Parts.{pattern_kind}
use Rattle.refal_bound.specs.WalkTheorems.{all_climb}

-- ---- lawful words
pub lawful_whole : (w : List ℕ) → lawful w ≡ true → whole_rows w ≡ true
unfolding lawful
lawful_whole w h = and_left (whole_rows w) (leb (length w) (node_width * most_rows)) (and_left (whole_rows w && leb (length w) (node_width * most_rows)) (found (tree_of most_levels w)) h)

pub lawful_few : (w : List ℕ) → lawful w ≡ true → length w ≤ node_width * most_rows
unfolding lawful
lawful_few w h =
    leb-true (length w) (node_width * most_rows)
    (and_right (whole_rows w) (leb (length w) (node_width * most_rows)) (and_left (whole_rows w && leb (length w) (node_width * most_rows)) (found (tree_of most_levels w)) h))

-- ---- how far patterns reach
abbrev pub end_of : Option ℕ → ℕ → ℕ
end_of None next = 0
end_of (Some scope) next = next

module _ (w : List ℕ) where
  -- the row after the pattern t, 0 where it is none
  abbrev pub pattern_end : ℕ → ℕ
  pattern_end t = end_of (scope w t) (next_at w t)

  -- the furthest row that a pattern before row u reaches
  unfoldable pub reach : ℕ → ℕ
  reach zero = 0
  reach (suc u) = max (reach u) (pattern_end u)

  pub reach_start : reach 0 ≡ 0
  unfolding reach
  reach_start = refl

  pub reach_next : (u : ℕ) → reach (u + 1) ≡ max (reach u) (pattern_end u)
  unfolding reach
  reach_next u = rw (add-one u) refl

  reach_some : (u v : ℕ) → v < reach u → (t : ℕ) × (t < u) × (binds_in w v t ≡ true)
  unfolding reach
  reach_some zero v h = absurd (omega arith)
  reach_some (suc u) v h = go (dec_le (v + 1) (reach u)) (reach_some u v)
    where
      here : (o : Option ℕ) → scope w u ≡ o → v < end_of o (next_at w u) → inside w o u v ≡ true
      here None e l = absurd (omega arith)
      here (Some x) e l = lt-ltb _ _ l

      go : Dec (v + 1 ≤ reach u) → (v < reach u → (t : ℕ) × (t < u) × (binds_in w v t ≡ true)) → (t : ℕ) × (t < suc u) × (binds_in w v t ≡ true)
      go (yes l) ih = let r = ih (omega arith) in (r.0, omega (arith, r.1), r.2)
      go (no l) ih = (u, omega arith, here (scope w u) refl (omega arith))

  some_reach : (u v t : ℕ) → t < u → binds_in w v t ≡ true → v < reach u
  unfolding reach
  some_reach zero v t l e = absurd (omega arith)
  some_reach (suc u) v t l e = go (dec_le (t + 1) u) (λ m. some_reach u v t m e)
    where
      here : (o : Option ℕ) → scope w t ≡ o → inside w o t v ≡ true → v < end_of o (next_at w t)
      here None q h = absurd (true≢false (sym h))
      here (Some x) q h = ltb-true _ _ h

      go : Dec (t + 1 ≤ u) → (t < u → v < reach u) → v < max (reach u) (pattern_end u)
      go (yes m) ih = let i = ih (omega arith) in omega arith
      go (no m) ih =
          let z : t ≡ u = omega arith in
          let h = here (scope w t) refl e in
          let y : pattern_end t ≡ pattern_end u = ap pattern_end z in
          omega arith

  -- the test of the scan
  pub in_reach : (u : ℕ) → u < reach u → some_in 0 u (binds_in w u) ≡ true
  in_reach u h = let r = reach_some u u h in any_hit (binds_in w u) 0 (u - 0) r.0 (omega arith) (omega (arith, r.1)) r.2

  pub past_reach : (u : ℕ) → reach u ≤ u → some_in 0 u (binds_in w u) ≡ false
  past_reach u h = go (some_in 0 u (binds_in w u)) refl
    where
      go : (b : Bool) → some_in 0 u (binds_in w u) ≡ b → b ≡ false
      go true e = let r = any_some (binds_in w u) 0 (u - 0) e in let hi = r.high in let l = some_reach u u r.at (omega arith) r.passes in absurd (omega arith)
      go false e = refl

-- ---- equal indices are in one bucket
fold : (b : ℕ) → name_byte (upper_byte b) ≡ name_byte b
fold b = go (leb 97 b && leb b 122) refl
  where
    go : (t : Bool) → leb 97 b && leb b 122 ≡ t → name_byte (pick_byte t (b - 32) b) ≡ name_byte b
    go false e = refl
    go true e =
        let lo : 97 ≤ b = range_lo 97 b 122 e in
        let hi : b ≤ 122 = range_hi 97 b 122 e in
        ap₂ (λ (x y : Bool). pick_byte x 45 (pick_byte (y && leb (b - 32) 122) (b - 32 - 32) (b - 32))) (ne_eqb (b - 32) 95 (λ z. let y : b - 32 ≡ 95 = z in omega arith)) (lt-leb 97 (b - 32) (let z : b - 32 < 97 = omega arith in z))
        ∙ sym (ap₂ (λ (x y : Bool). pick_byte x 45 (pick_byte y (b - 32) b)) (ne_eqb b 95 (λ z. let y : b ≡ 95 = z in omega arith)) e)

name_of_index : (s : List ℕ) → canonical_name (canonical_index s) ≡ canonical_name s
unfolding canonical_name canonical_index
name_of_index [] = refl
name_of_index (b ∷ s) = ap₂ (λ (x : ℕ) (l : List ℕ). x ∷ l) (fold b) (name_of_index s)

pub one_bucket : (b : ℕ) (x y : List ℕ) → indices_equal x y ≡ true → bucket_of b x ≡ bucket_of b y
one_bucket b x y e = equal_buckets b y x (equal_names y x (sym (name_of_index y) ∙ ap canonical_name (sym (indices_equal_lem x y e)) ∙ name_of_index x))

-- ---- lists of rows
or_right : (x y : Bool) → y ≡ true → (x || y) ≡ true
or_right true y e = refl
or_right false y e = e

any_member : (f : ℕ → Bool) (g : ℕ) (l : List ℕ) → f g ≡ true → any_of (eqb g) l ≡ true → any_of f l ≡ true
unfolding any_of
any_member f g [] e h = h
any_member f g (x ∷ l) e h = go (eqb g x) refl (λ m. any_member f g l e m) h
  where
    go : (b : Bool) → eqb g x ≡ b → (any_of (eqb g) l ≡ true → any_of f l ≡ true) → (b || any_of (eqb g) l) ≡ true → (f x || any_of f l) ≡ true
    go true q ih m = ap (λ (t : Bool). t || any_of f l) (ap f (sym (eqb-true g x q)) ∙ e)
    go false q ih m = or_right (f x) (any_of f l) (ih m)

record Member (f : ℕ → Bool) (l : List ℕ) : Type 0 where
  row : ℕ
  listed : any_of (eqb row) l ≡ true
  passes : f row ≡ true

member_any : (f : ℕ → Bool) (l : List ℕ) → any_of f l ≡ true → Member f l
unfolding any_of
member_any f [] e = absurd (true≢false (sym e))
member_any f (x ∷ l) e = go (f x) refl (member_any f l) e
  where
    go : (b : Bool) → f x ≡ b → (any_of f l ≡ true → Member f l) → (b || any_of f l) ≡ true → Member f (x ∷ l)
    go true q ih h = record { row = x; listed = ap (λ (t : Bool). t || any_of (eqb x) l) (eq-eqb x x refl); passes = q }
    go false q ih h = let r = ih h in record { row = r.row; listed = or_right (eqb r.row x) (any_of (eqb r.row) l) r.listed; passes = r.passes }

member_below : (n g : ℕ) (l : List ℕ) → Falls n l → any_of (eqb g) l ≡ true → g < n
unfolding any_of
member_below n g [] f e = absurd (true≢false (sym e))
member_below n g (x ∷ l) f e = go (eqb g x) refl (λ h. member_below x g l f.1 h) e
  where
    go : (b : Bool) → eqb g x ≡ b → (any_of (eqb g) l ≡ true → g < x) → (b || any_of (eqb g) l) ≡ true → g < n
    go true q ih h = let z = eqb-true g x q in omega (arith, f.0)
    go false q ih h = let z = ih h in omega (arith, f.0)

-- the list without row g
unfoldable without : ℕ → List ℕ → List ℕ
without g [] = []
without g (x ∷ l) = pick_list (eqb x g) (without g l) (x ∷ without g l)

falls_without : (g n : ℕ) (l : List ℕ) → Falls n l → Falls n (without g l)
unfolding without
falls_without g n [] f = tt
falls_without g n (x ∷ l) f = go (eqb x g) (falls_without g x l f.1)
  where
    go : (b : Bool) → Falls x (without g l) → Falls n (pick_list b (without g l) (x ∷ without g l))
    go true r = falls_up x n (without g l) (omega (arith, f.0)) r
    go false r = (f.0, r)

without_none : (g n : ℕ) (l : List ℕ) → n ≤ g → Falls n l → without g l ≡ l
unfolding without
without_none g n [] h f = refl
without_none g n (x ∷ l) h f =
    ap (λ (b : Bool). pick_list b (without g l) (x ∷ without g l)) (ne_eqb x g (λ e. omega (arith, f.0)))
    ∙ ap (λ (y : List ℕ). x ∷ y) (without_none g x l (omega (arith, f.0)) f.1)

only_without : (k : ℕ → ℕ) (h g : ℕ) (l : List ℕ) → only k h (without g l) ≡ without g (only k h l)
unfolding without only
only_without k h g [] = refl
only_without k h g (x ∷ l) = go (eqb x g) refl (eqb (k x) h) refl (only_without k h g l)
  where
    go : (b : Bool) → eqb x g ≡ b → (d : Bool) → eqb (k x) h ≡ d → only k h (without g l) ≡ without g (only k h l)
        → only k h (pick_list b (without g l) (x ∷ without g l)) ≡ without g (pick_list d (x ∷ only k h l) (only k h l))
    go true p true q ih = ih ∙ sym (ap (λ (t : Bool). pick_list t (without g (only k h l)) (x ∷ without g (only k h l))) p)
    go true p false q ih = ih
    go false p true q ih =
        ap (λ (t : Bool). pick_list t (x ∷ only k h (without g l)) (only k h (without g l))) q
        ∙ ap (λ (y : List ℕ). x ∷ y) ih
        ∙ sym (ap (λ (t : Bool). pick_list t (without g (only k h l)) (x ∷ without g (only k h l))) p)
    go false p false q ih = ap (λ (t : Bool). pick_list t (x ∷ only k h (without g l)) (only k h (without g l))) q ∙ ih

-- in another bucket nothing is left out
only_other : (k : ℕ → ℕ) (h g : ℕ) (l : List ℕ) → (k g ≡ h → ⊥) → without g (only k h l) ≡ only k h l
unfolding without only
only_other k h g [] n = refl
only_other k h g (x ∷ l) n = go (eqb (k x) h) refl (eqb x g) refl (only_other k h g l n)
  where
    go : (d : Bool) → eqb (k x) h ≡ d → (b : Bool) → eqb x g ≡ b → without g (only k h l) ≡ only k h l → without g (pick_list d (x ∷ only k h l) (only k h l)) ≡ pick_list d (x ∷ only k h l) (only k h l)
    go true q true p ih = absurd (n (ap k (sym (eqb-true x g p)) ∙ eqb-true (k x) h q))
    go true q false p ih = ap (λ (t : Bool). pick_list t (without g (only k h l)) (x ∷ without g (only k h l))) p ∙ ap (λ (y : List ℕ). x ∷ y) ih
    go false q b p ih = ih

any_without : (g x : ℕ) (l : List ℕ) → (x ≡ g → ⊥) → any_of (eqb x) (without g l) ≡ any_of (eqb x) l
unfolding without any_of
any_without g x [] n = refl
any_without g x (y ∷ l) n = go (eqb y g) refl (any_without g x l n)
  where
    go : (b : Bool) → eqb y g ≡ b → any_of (eqb x) (without g l) ≡ any_of (eqb x) l → any_of (eqb x) (pick_list b (without g l) (y ∷ without g l)) ≡ (eqb x y || any_of (eqb x) l)
    go true p ih = ih ∙ sym (ap (λ (t : Bool). t || any_of (eqb x) l) (ne_eqb x y (λ e. n (e ∙ eqb-true y g p))))
    go false p ih = ap (λ (t : Bool). eqb x y || t) ih

not_without : (g : ℕ) (l : List ℕ) → any_of (eqb g) (without g l) ≡ false
unfolding without any_of
not_without g [] = refl
not_without g (y ∷ l) = go (eqb y g) refl (not_without g l)
  where
    go : (b : Bool) → eqb y g ≡ b → any_of (eqb g) (without g l) ≡ false → any_of (eqb g) (pick_list b (without g l) (y ∷ without g l)) ≡ false
    go true p ih = ih
    go false p ih = ap (λ (t : Bool). t || any_of (eqb g) (without g l)) (ne_eqb g y (λ e. true≢false (sym (eq-eqb y g (sym e)) ∙ p))) ∙ ih

-- the first row of a bucket
record Front (w : List ℕ) (n : ℕ) (c : List ℕ) (g : ℕ) : Type 0 where
  rest : List ℕ
  is : c ≡ g ∷ rest
  falls : Falls g rest
  chain : Chain w (get_or w g 0) rest
  below : g < n

front : (w : List ℕ) (n p : ℕ) (c : List ℕ) (g : ℕ) → Falls n c → Chain w p c → p ≡ g + 1 → Front w n c g
front w n p [] g f C e = absurd (omega arith)
front w n p (x ∷ c) g f C e =
    let z : x ≡ g = omega (arith, C.0) in
    record { rest = c; is = ap (λ (y : ℕ). y ∷ c) z; falls = subst (λ (y : ℕ). Falls y c) z f.1; chain = subst (λ (y : ℕ). Chain w (get_or w y 0) c) z C.1; below = omega (arith, f.0) }

key_of : (k : ℕ → ℕ) (h g : ℕ) (m r : List ℕ) → only k h m ≡ g ∷ r → k g ≡ h
unfolding only
key_of k h g [] r e = let z : ◌≡◌ {A = ℕ} 0 1 = cc in absurd (omega arith)
key_of k h g (x ∷ m) r e = go (eqb (k x) h) refl (key_of k h g m r) e
  where
    go : (b : Bool) → eqb (k x) h ≡ b → (only k h m ≡ g ∷ r → k g ≡ h) → pick_list b (x ∷ only k h m) (only k h m) ≡ g ∷ r → k g ≡ h
    go true q ih e = let z : x ≡ g = cc in ap k (sym z) ∙ eqb-true (k x) h q
    go false q ih e = ih e

module _ (W : List ℕ) (n b : ℕ) (k : ℕ → ℕ) (l : List ℕ) (h g : ℕ) (hb : h < b) (room : n + b ≤ length W) (C : Chained W n b k l) (at : get_or W (n + h) 0 ≡ g + 1) where
  pop_front : Front W n (only k h l) g
  pop_front = front W n (get_or W (n + h) 0) (only k h l) g (falls_only k h n l C.falls) (C.chains h hb) at

  pub pop_low : (get_or W g 0 ≤ g) × (g < n)
  pop_low = (chain_low W g (get_or W g 0) pop_front.rest pop_front.falls pop_front.chain, pop_front.below)

  -- the row is of the bucket
  pop_key : k g ≡ h
  pop_key = key_of k h g l pop_front.rest pop_front.is

  popped : Chained (set W (n + h) (get_or W g 0)) n b k (without g l)
  unfolding without pop_front
  popped = record { falls = falls_without g n l C.falls; chains = λ j jb. go j jb (eqb j h) refl }
    where
      W' : List ℕ
      W' = set W (n + h) (get_or W g 0)

      links : (i : ℕ) → i < n → get_or W' i 0 ≡ get_or W i 0
      links i m = get_or-set_other W (n + h) i (get_or W g 0) 0 (λ e. omega arith)

      own : Chain W' (get_or W' (n + h) 0) (only k h (without g l))
      own =
          let F = pop_front in
          let e : only k h (without g l) ≡ F.rest =
          only_without k h g l ∙ ap (without g) F.is ∙ ap (λ (t : Bool). pick_list t (without g F.rest) (g ∷ without g F.rest)) (eq-eqb g g refl) ∙ without_none g g F.rest (le_refl _) F.falls in
          rw (get_or-set_same W (n + h) (get_or W g 0) 0 (omega arith), e) (chain_keep W W' n (get_or W g 0) F.rest links (falls_up g n F.rest (let z = F.below in omega arith) F.falls) F.chain)

      go : (j : ℕ) → j < b → (t : Bool) → eqb j h ≡ t → Chain W' (get_or W' (n + j) 0) (only k j (without g l))
      go j jb true e = subst (λ (i : ℕ). Chain W' (get_or W' (n + i) 0) (only k i (without g l))) (sym (eqb-true j h e)) own
      go j jb false e =
          let d : j ≡ h → ⊥ = λ z. true≢false (sym (eq-eqb j h z) ∙ e) in
          rw (get_or-set_other W (n + h) (n + j) (get_or W g 0) 0 (λ z. d (omega arith)), only_without k j g l, only_other k j g l (λ z. d (sym z ∙ pop_key)))
          (chain_keep W W' n (get_or W (n + j) 0) (only k j l) links (falls_only k j n l C.falls) (C.chains j jb))

module _ (w s : List ℕ) where
  -- a variable's bucket: that of its index, moved on by its letter
  abbrev pub bucket : ℕ → ℕ → ℕ
  bucket b g = (bucket_of b (index_at w s g) + detail_at w g) % b

  in_buckets : (b g : ℕ) → 0 < b → bucket b g < b
  in_buckets b g h = mod-lt (bucket_of b (index_at w s g) + detail_at w g) h

  -- over n links and b buckets the words hold bindings that stand before row u, newest first: all that are in force at u
  pub record Keeps (W : List ℕ) (n b u : ℕ) : Type 0 where
    pub rows : List ℕ
    pub chained : Chained W n b (bucket b) rows
    pub falls : Falls u rows
    pub sound : (g : ℕ) → any_of (eqb g) rows ≡ true → (q : ℕ) × Binds w q g
    pub all : (q g : ℕ) → Binds w q g → g < u → u < next_at w q → any_of (eqb g) rows ≡ true

  -- words that hold no row
  pub keeps_start : (W : List ℕ) (n b : ℕ) → 0 < b → ((R : ℕ → Placed) → Holds W n b R 0) → Keeps W n b 0
  unfolding only entered any_of
  keeps_start W n b h H =
      let C = (H (λ g. placed 0 s (node_at w g))).chained h in
      record {
        rows = [];
        chained = record { falls = tt; chains = C.chains };
        falls = tt;
        sound = λ g e. absurd (true≢false (sym e));
        all = λ q g B l m. absurd (omega arith);
      }

  -- row u binds nothing
  pub keeps_skip : (W : List ℕ) (n b u : ℕ) → ((q : ℕ) → Binds w q u → ⊥) → Keeps W n b u → Keeps W n b (u + 1)
  keeps_skip W n b u none K = record {
    rows = K.rows;
    chained = K.chained;
    falls = falls_up u (u + 1) K.rows (omega arith) K.falls;
    sound = K.sound;
    all = λ q g B l m. all q g B l m (dec_le (g + 1) u);
  }
    where
      all : (q g : ℕ) → Binds w q g → g < u + 1 → u + 1 < next_at w q → Dec (g + 1 ≤ u) → any_of (eqb g) K.rows ≡ true
      all q g B l m (yes h) = K.all q g B (omega arith) (omega arith)
      all q g B l m (no h) = let z : g ≡ u = omega arith in absurd (none q (subst (Binds w q) z B))

  -- row u binds
  pub keeps_push : (W : List ℕ) (n b u q : ℕ) → u < n → 0 < b → n + b ≤ length W → Binds w q u → Keeps W n b u → Keeps (pushed W n (bucket b u) u) n b (u + 1)
  unfolding any_of
  keeps_push W n b u q l h room B K = record {
    rows = u ∷ K.rows;
    chained = index_push W n b (bucket b) u K.rows l room (in_buckets b u h) K.falls K.chained;
    falls = (omega arith, K.falls);
    sound = λ g e. sound g (eqb g u) refl e;
    all = λ p g C m k. all p g C m k (dec_le (g + 1) u);
  }
    where
      sound : (g : ℕ) (t : Bool) → eqb g u ≡ t → (t || any_of (eqb g) K.rows) ≡ true → (p : ℕ) × Binds w p g
      sound g true e m = (q, subst (Binds w q) (sym (eqb-true g u e)) B)
      sound g false e m = K.sound g m

      all : (p g : ℕ) → Binds w p g → g < u + 1 → u + 1 < next_at w p → Dec (g + 1 ≤ u) → (eqb g u || any_of (eqb g) K.rows) ≡ true
      all p g C m k (yes d) = or_right (eqb g u) (any_of (eqb g) K.rows) (K.all p g C (omega arith) (omega arith))
      all p g C m k (no d) = ap (λ (t : Bool). t || any_of (eqb g) K.rows) (eq-eqb g u (let z : g ≡ u = omega arith in z))

  -- a row that is looked at: an equal variable, of a pattern whose scope holds row u
  unfoldable pub serves : ℕ → ℕ → Bool
  serves u g = is_variable w s (detail_at w u) (index_at w s u) g && within w (scope w (terms_above w g)) u

  serves_bucket : (b u g : ℕ) → serves u g ≡ true → bucket b g ≡ bucket b u
  unfolding serves is_variable
  serves_bucket b u g e =
      let v = and_left _ _ e in
      let x = and_right (eqb (kind_at w g) node_variable) _ v in
      ap₂ (λ (h d : ℕ). (h + d) % b) (one_bucket b (index_at w s g) (index_at w s u) (and_right (eqb (detail_at w g) (detail_at w u)) _ x))
      (eqb-true _ _ (and_left (eqb (detail_at w g) (detail_at w u)) _ x))

  pub serve_start : (W : List ℕ) (n b u : ℕ) → 0 < b → Keeps W n b u → Walk W n b (bucket b) (serves u) (get_or W (n + bucket b u) 0)
  serve_start W n b u h K = walk_start W n b (bucket b) (serves u) K.rows (bucket b u) (in_buckets b u h) (λ g e. serves_bucket b u g e) K.chained

  -- ---- what the look-up tells, in a lawful tree
  module _ (ok : lawful w ≡ true) where
    above_is : (t g : ℕ) → t < row_count w → kind_at w t ≡ node_terms → t < g → g < next_at w t → terms_above w g ≡ t
    above_is t g l k lo hi =
        let L = (lawful_is w).0 ok in
        let e : tree_of most_levels w ≡ some L.tree = ap (tree_of most_levels) L.words ∙ tree_of_lem most_levels L.tree L.deep in
        climbs_is w t g k (all_climb w s L.tree e t g l k lo hi)

    -- the newest binding of a bucket goes, which is no longer in force
    pub keeps_pop : (W : List ℕ) (n b u h g : ℕ) → u < row_count w → h < b → n + b ≤ length W → get_or W (n + h) 0 ≡ g + 1 → within w (scope w (terms_above w g)) u ≡ false → Keeps W n b u → Keeps (set W (n + h) (get_or W g 0)) n b u
    keeps_pop W n b u h g below hb room at out K = record {
      rows = without g K.rows;
      chained = popped W n b (bucket b) K.rows h g hb room K.chained at;
      falls = falls_without g u K.rows K.falls;
      sound = λ x e. sound x (eqb x g) refl e;
      all = λ q x B l m. all q x B l m (eqb x g) refl;
    }
      where
        sound : (x : ℕ) (t : Bool) → eqb x g ≡ t → any_of (eqb x) (without g K.rows) ≡ true → (q : ℕ) × Binds w q x
        sound x true p e = absurd (true≢false (sym e ∙ ap (λ (y : ℕ). any_of (eqb y) (without g K.rows)) (eqb-true x g p) ∙ not_without g K.rows))
        sound x false p e = K.sound x (sym (any_without g x K.rows (λ z. true≢false (sym (eq-eqb x g z) ∙ p))) ∙ e)

        gone : (q : ℕ) → Binds w q g → g < u → u < next_at w q → ⊥
        gone q B l m =
            let x = B.behind in
            let t : ℕ = B.pattern in
            let z = above_is t g (omega arith) (pattern_kind w q t B.of) x B.within in
            let v : within w (scope w (terms_above w g)) u ≡ true = ap (λ (o : Option ℕ). within w o u) (ap (scope w) z ∙ pattern_scope w q t B.of) ∙ lt-ltb _ _ m in
            true≢false (sym v ∙ out)

        all : (q x : ℕ) → Binds w q x → x < u → u < next_at w q → (t : Bool) → eqb x g ≡ t → any_of (eqb x) (without g K.rows) ≡ true
        all q x B l m true p = let z = eqb-true x g p in absurd (gone q (subst (Binds w q) z B) (omega arith) m)
        all q x B l m false p = any_without g x K.rows (λ z. true≢false (sym (eq-eqb x g z) ∙ p)) ∙ K.all q x B l m

    -- and the one below it is lower
    pub pop_falls : (W : List ℕ) (n b u h g : ℕ) → h < b → n + b ≤ length W → get_or W (n + h) 0 ≡ g + 1 → Keeps W n b u → (get_or W g 0 ≤ g) × (g < n)
    pop_falls W n b u h g hb room at K = pop_low W n b (bucket b) K.rows h g hb room K.chained at

    module _ (W : List ℕ) (n b u : ℕ) (below : u < row_count w) (K : Keeps W n b u) where
      serves_bound : any_of (serves u) K.rows ≡ true → some_in 0 u (bound_by w s u) ≡ true
      unfolding serves is_variable
      serves_bound e =
          let M = member_any (serves u) K.rows e in
          let g : ℕ = M.row in
          let l : g < u = member_below u g K.rows K.falls M.listed in
          let r = K.sound g M.listed in
          let B = r.1 in
          let x = B.behind in
          let t : ℕ = B.pattern in
          let z = above_is t g (omega arith) (pattern_kind w r.0 t B.of) x B.within in
          let v = and_left _ _ M.passes in
          let i = and_right _ _ M.passes in
          let m : ltb u (next_at w r.0) ≡ true = sym (ap (λ (o : Option ℕ). within w o u) (ap (scope w) z ∙ pattern_scope w r.0 t B.of)) ∙ i in
          let y = and_right (eqb (kind_at w g) node_variable) _ v in
          let d = eqb-true _ _ (and_left (eqb (detail_at w g) (detail_at w u)) _ y) in
          let j = indices_equal_lem _ _ (and_right (eqb (detail_at w g) (detail_at w u)) _ y) in
          some_bound w s u (record {
            binding = g;
            force = record { sentence = r.0; binds = B; before = l; encloses = ltb-true _ _ m };
            equal = λ k. record { letter = d k; index = j k };
          })

      bound_serves : some_in 0 u (bound_by w s u) ≡ true → any_of (serves u) K.rows ≡ true
      unfolding serves is_variable
      bound_serves e =
          let D = bound_some w s u e in
          let F = D.force in
          let B = F.binds in
          let g : ℕ = D.binding in
          let x = B.behind in
          let l = F.before in
          let t : ℕ = B.pattern in
          let z = above_is t g (omega arith) (pattern_kind w F.sentence t B.of) x B.within in
          let same : is_variable w s (detail_at w u) (index_at w s u) g ≡ true =
          ap₂ (λ (a c : Bool). a && c) (eq-eqb _ _ B.variable)
          (ap₂ (λ (a c : Bool). a && c) (eq-eqb _ _ (ap (λ (v : Variable). v.letter) D.equal)) (equal_indices _ _ (ap (λ (v : Variable). v.index) D.equal))) in
          let m : within w (scope w (terms_above w g)) u ≡ true = ap (λ (o : Option ℕ). within w o u) (ap (scope w) z ∙ pattern_scope w F.sentence t B.of) ∙ lt-ltb _ _ F.encloses in
          any_member (serves u) g K.rows (ap₂ (λ (a c : Bool). a && c) same m) (K.all F.sentence g B l F.encloses)

      serves_is : any_of (serves u) K.rows ≡ some_in 0 u (bound_by w s u)
      serves_is = go (any_of (serves u) K.rows) refl (some_in 0 u (bound_by w s u)) refl
        where
          go : (x : Bool) → any_of (serves u) K.rows ≡ x → (y : Bool) → some_in 0 u (bound_by w s u) ≡ y → x ≡ y
          go true e true f = refl
          go true e false f = sym (serves_bound e) ∙ f
          go false e true f = sym e ∙ bound_serves f
          go false e false f = refl

      pub serve_hit : (g p : ℕ) → p ≡ g + 1 → serves u g ≡ true → Walk W n b (bucket b) (serves u) p → true ≡ some_in 0 u (bound_by w s u)
      serve_hit g p e q T = walk_hit W n b (bucket b) (serves u) g p e q T K.rows K.chained ∙ serves_is

      pub serve_end : (p : ℕ) → p ≡ 0 → Walk W n b (bucket b) (serves u) p → false ≡ some_in 0 u (bound_by w s u)
      serve_end p e T = walk_end W n b (bucket b) (serves u) p e T K.rows K.chained ∙ serves_is

  -- ---- a turn of the scan
  pub no_variable : (u : ℕ) → eqb (kind_at w u) node_variable ≡ false → is_unbound w s u ≡ false
  unfolding is_unbound is_use
  no_variable u e = ap (λ (b : Bool). (b && not (some_in 0 u (binds_in w u))) && not (some_in 0 u (bound_by w s u))) e

  pub in_pattern : (u : ℕ) → u < reach w u → is_unbound w s u ≡ false
  unfolding is_unbound is_use
  in_pattern u h =
      ap (λ (b : Bool). (eqb (kind_at w u) node_variable && not b) && not (some_in 0 u (bound_by w s u))) (in_reach w u h)
      ∙ ap (λ (b : Bool). b && not (some_in 0 u (bound_by w s u))) (go (eqb (kind_at w u) node_variable))
    where
      go : (b : Bool) → (b && false) ≡ false
      go true = refl
      go false = refl

  pub used_here : (u : ℕ) → eqb (kind_at w u) node_variable ≡ true → reach w u ≤ u → is_unbound w s u ≡ not (some_in 0 u (bound_by w s u))
  unfolding is_unbound is_use
  used_here u e h = ap₂ (λ (a b : Bool). (a && not b) && not (some_in 0 u (bound_by w s u))) e (past_reach w u h)

  pub binding_here : (u : ℕ) → eqb (kind_at w u) node_variable ≡ true → u < reach w u → (q : ℕ) × Binds w q u
  binding_here u e h = binds_some w u (eqb-true _ _ e) (in_reach w u h)

  pub no_binding_here : (u : ℕ) → reach w u ≤ u → (q : ℕ) → Binds w q u → ⊥
  no_binding_here u h q B = true≢false (sym (some_binds w q u B) ∙ past_reach w u h)

  pub other_binds_nothing : (u : ℕ) → eqb (kind_at w u) node_variable ≡ false → (q : ℕ) → Binds w q u → ⊥
  other_binds_nothing u e q B = true≢false (sym (eq-eqb _ _ B.variable) ∙ e)

  -- ---- the whole scan
  pub scan_found : (u : ℕ) → u < row_count w → is_unbound w s u ≡ true → ((v : ℕ) → v < u → is_unbound w s v ≡ false) → Some u ≡ first_unbound w s
  unfolding first_unbound
  scan_found u l e h = sym (some_find (is_unbound w s) 0 (row_count w - 0) u (record { low = omega arith; high = omega arith; passes = e; least = λ v lo hi. h v hi }))

  pub scan_none : ((v : ℕ) → v < row_count w → is_unbound w s v ≡ false) → None ≡ first_unbound w s
  unfolding first_unbound
  scan_none h = sym (none_find (is_unbound w s) 0 (row_count w - 0) (λ v lo hi. h v (omega arith)))
