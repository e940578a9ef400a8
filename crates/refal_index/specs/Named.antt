-- Rows that bear names, Functions and declared Names: which of them answers to a name, and what it is that the words index them.
use Prim.Native.Nat.{ℕ, zero, suc, ◌+◌, ◌-◌, ◌≤◌, ◌<◌, min}
use Rattle.std.specs.Prelude.{Bool, not, ◌&&◌, ◌||◌, List, [], ◌∷◌, ◌++◌, ◌≡◌, eqb, leb, length, get_or, set, take, drop, replicate}
use Rattle.std.proofs.Math.Bool.{true, false}
use Rattle.std.proofs.Common.{true≢false, ap, ap₂, sym, ◌∙◌, le_refl, add-one, leb-false, le-leb, length-append, length-take, length-drop, length-set, length-take-le, get_or-append-add}
use Rattle.std.proofs.Math.Path.{refl}
use native.Mathlib.Omega.{arith}
use Rattle.std.proofs.Math.Decide.{dec_le}
use Rattle.std.proofs.lemmas.List.{length-replicate, get_or-replicate}
use Rattle.std.proofs.Math.ListN.{get_or-append}
use Rattle.refal_rows.specs.Rows.{pick_list}
use Rattle.refal_rows.specs.Tests.{and_left, and_right}
use Rattle.refal_ast.specs.Kinds.{node_name, node_function}
use Rattle.refal_ast.specs.Names.{names_equal}
use Rattle.refal_files.specs.Files.{Placed, text_of}
use Rattle.refal_files.specs.FileLaws.{both_count}
use Rattle.refal_index.specs.Hash.{bucket_of, equal_buckets, bucket_below}
use Rattle.refal_index.specs.Chain.{any_of, Falls, Chained, falls_up, pushed, index_none, index_push, Walk, walk_start, walk_hit, walk_end}

-- a Function, or, where not only functions are asked for, a declared Name
abbrev pub bears : Bool → ℕ → Bool
bears functions kind = eqb kind node_function || (not functions && eqb kind node_name)

-- a row bears the name `key`
unfoldable pub answers_to : Bool → List ℕ → Placed → Bool
answers_to functions key p = bears functions p.node.kind && names_equal key (text_of p)

-- a row before g passes the test
unfoldable pub seen : (ℕ → Bool) → ℕ → Bool
seen t zero = false
seen t (suc g) = t g || seen t g

-- the rows before g that bear names, newest first
unfoldable pub entered : (ℕ → Placed) → ℕ → List ℕ
entered R zero = []
entered R (suc g) = pick_list (bears false (R g).node.kind) (g ∷ entered R g) (entered R g)

-- a row's bucket
abbrev pub row_bucket : (ℕ → Placed) → ℕ → ℕ → ℕ
row_bucket R b g = bucket_of b (text_of (R g))

-- n is the number of rows of both trees; it and the number of buckets are words
pub record Sized (n b : ℕ) (w₁ w₂ : List ℕ) : Type 0 where
  pub total : n ≡ both_count w₁ w₂
  pub few : n < 4294967296
  pub cut : b < 4294967296

-- over n links and b buckets, if any, the words index the rows before g that bear names
pub record Holds (W : List ℕ) (n b : ℕ) (R : ℕ → Placed) (g : ℕ) : Type 0 where
  pub room : 0 < b → n + b ≤ length W
  pub chained : 0 < b → Chained W n b (row_bucket R b) (entered R g)

-- the words with row g entered
unfoldable pub with_row : List ℕ → ℕ → ℕ → (ℕ → Placed) → ℕ → List ℕ
with_row W n b R g = pick_list (leb 1 b && bears false (R g).node.kind) (pushed W n (row_bucket R b g) g) W

pub seen_hit : (t : ℕ → Bool) (i g : ℕ) → i < g → t i ≡ true → seen t g ≡ true
unfolding seen
seen_hit t i zero l e = absurd (omega arith)
seen_hit t i (suc g) l e = go (dec_le (suc i) g) (seen_hit t i g) (t g) refl
  where
    go : Dec (suc i ≤ g) → (i < g → t i ≡ true → seen t g ≡ true) → (x : Bool) → t g ≡ x → (x || seen t g) ≡ true
    go d ih true q = refl
    go (yes h) ih false q = ih h e
    go (no h) ih false q =
        let z : g ≡ i = omega arith in
        absurd (true≢false (sym e ∙ ap t (sym z) ∙ q))

pub seen_some : (t : ℕ → Bool) (g : ℕ) → seen t g ≡ true → (i : ℕ) × (i < g) × (t i ≡ true)
unfolding seen
seen_some t zero e = absurd (true≢false (sym e))
seen_some t (suc g) e = go (t g) refl (seen_some t g) e
  where
    go : (x : Bool) → t g ≡ x → (seen t g ≡ true → (i : ℕ) × (i < g) × (t i ≡ true)) → (x || seen t g) ≡ true → (i : ℕ) × (i < suc g) × (t i ≡ true)
    go true q ih h = (g, le_refl _, q)
    go false q ih h = let r = ih h in (r.0, omega (arith, r.1), r.2)

-- ---- the entered rows
pub falls_entered : (R : ℕ → Placed) (g : ℕ) → Falls g (entered R g)
unfolding entered
falls_entered R zero = tt
falls_entered R (suc g) = go (bears false (R g).node.kind) (falls_entered R g)
  where
    go : (t : Bool) → Falls g (entered R g) → Falls (suc g) (pick_list t (g ∷ entered R g) (entered R g))
    go true f = (le_refl _, f)
    go false f = falls_up g (suc g) (entered R g) (let z : g ≤ suc g = omega arith in z) f

-- a test that only rows pass which bear names
pub any_entered : (R : ℕ → Placed) (t : ℕ → Bool) (g : ℕ) → ((i : ℕ) → t i ≡ true → bears false (R i).node.kind ≡ true) → any_of t (entered R g) ≡ seen t g
unfolding entered seen any_of
any_entered R t zero h = refl
any_entered R t (suc g) h = go (bears false (R g).node.kind) refl (t g) refl (any_entered R t g h)
  where
    go : (x : Bool) → bears false (R g).node.kind ≡ x → (y : Bool) → t g ≡ y → any_of t (entered R g) ≡ seen t g → any_of t (pick_list x (g ∷ entered R g) (entered R g)) ≡ (y || seen t g)
    go true p y q ih = ap₂ (λ (a b : Bool). a || b) q ih
    go false p true q ih = absurd (true≢false (sym (h g q) ∙ p))
    go false p false q ih = ih

-- ---- which rows answer
pub answers_both : (functions : Bool) (key : List ℕ) (p : Placed) → answers_to functions key p ≡ true → (bears functions p.node.kind ≡ true) × (names_equal key (text_of p) ≡ true)
unfolding answers_to
answers_both functions key p e = (and_left (bears functions p.node.kind) (names_equal key (text_of p)) e, and_right (bears functions p.node.kind) (names_equal key (text_of p)) e)

pub answers_bears : (functions : Bool) (key : List ℕ) (p : Placed) → answers_to functions key p ≡ true → bears false p.node.kind ≡ true
answers_bears functions key p e = go functions (eqb p.node.kind node_function) (eqb p.node.kind node_name) (answers_both functions key p e).0
  where
    go : (f x y : Bool) → (x || (not f && y)) ≡ true → (x || y) ≡ true
    go f true y h = refl
    go true false y h = absurd (true≢false (sym h))
    go false false y h = h

pub answers_bucket : (functions : Bool) (b : ℕ) (key : List ℕ) (p : Placed) → answers_to functions key p ≡ true → bucket_of b (text_of p) ≡ bucket_of b key
answers_bucket functions b key p e = equal_buckets b key (text_of p) (answers_both functions key p e).1

pub answers_is : (functions : Bool) (key : List ℕ) (p : Placed) → bears functions p.node.kind ≡ true → answers_to functions key p ≡ names_equal key (text_of p)
unfolding answers_to
answers_is functions key p e = rw e refl

-- ---- no row entered
zeros_at : (W rest : List ℕ) (n b h : ℕ) → n ≤ length W → h < b → get_or (take n W ++ (replicate b 0 ++ rest)) (n + h) 0 ≡ 0
zeros_at W rest n b h l k =
    let e : length (take n W) ≡ n = length-take-le n W l in
    ap (λ (i : ℕ). get_or (take n W ++ (replicate b 0 ++ rest)) (i + h) 0) (sym e)
    ∙ get_or-append-add (take n W) (replicate b 0 ++ rest) h 0
    ∙ get_or-append (replicate b 0) rest 0 h (let z : h < length (replicate b 0) = omega (arith, length-replicate {A = ℕ} b 0) in z)
    ∙ get_or-replicate b h 0 0 k

-- the heads are 0: b words from a on, where a is n if there are so many words
pub holds_cleared : (W ys : List ℕ) (n b a k : ℕ) (R : ℕ → Placed) → a ≡ min n (length W) → k ≡ b → b ≤ length W - n → ys ≡ replicate (length (take k (drop a W))) 0 → Holds (take a W ++ (ys ++ drop k (drop a W))) n b R 0
unfolding entered
holds_cleared W ys n b a k R p q l e = record {
  room = λ h. let c = cleared h in omega (arith, length-append (take n W) (replicate b 0 ++ drop k (drop a W)), length-append (replicate b 0) (drop k (drop a W)), length-replicate {A = ℕ} b 0, length-take n W, ap length c);
  chained = λ h. index_none _ n b (row_bucket R b) (λ i m. ap (λ (w : List ℕ). get_or w (n + i) 0) (cleared h) ∙ zeros_at W (drop k (drop a W)) n b i (let z : n ≤ length W = omega arith in z) m);
}
  where
    cleared : 0 < b → take a W ++ (ys ++ drop k (drop a W)) ≡ take n W ++ (replicate b 0 ++ drop k (drop a W))
    cleared h =
        let f : a ≡ n = omega arith in
        let m : length (take k (drop a W)) ≡ b = length-take k (drop a W) ∙ (let z : min k (length (drop a W)) ≡ b = omega (arith, length-drop a W) in z) in
        ap₂ (λ (i : ℕ) (y : List ℕ). take i W ++ (y ++ drop k (drop a W))) f (e ∙ ap (λ (i : ℕ). replicate i 0) m)

-- ---- a row entered
entered_in : (R : ℕ → Placed) (g : ℕ) → bears false (R g).node.kind ≡ true → entered R (g + 1) ≡ g ∷ entered R g
unfolding entered
entered_in R g e = rw (add-one g, e) refl

entered_out : (R : ℕ → Placed) (g : ℕ) → bears false (R g).node.kind ≡ false → entered R (g + 1) ≡ entered R g
unfolding entered
entered_out R g e = rw (add-one g, e) refl

pub enters : (W : List ℕ) (n b : ℕ) (R : ℕ → Placed) (g : ℕ) → g < n → Holds W n b R g → Holds (with_row W n b R g) n b R (g + 1)
unfolding with_row
enters W n b R g l H = go (leb 1 b) refl (bears false (R g).node.kind) refl
  where
    go : (x : Bool) → leb 1 b ≡ x → (y : Bool) → bears false (R g).node.kind ≡ y → Holds (pick_list (x && y) (pushed W n (row_bucket R b g) g) W) n b R (g + 1)
    go false p y q = record { room = λ h. absurd (let z : b < 1 = leb-false 1 b p in omega arith); chained = λ h. absurd (let z : b < 1 = leb-false 1 b p in omega arith) }
    go true p true q = record {
      room = λ h. let r = H.room h in omega (arith, length-set (set W g (get_or W (n + row_bucket R b g) 0)) (n + row_bucket R b g) (g + 1), length-set W g (get_or W (n + row_bucket R b g) 0));
      chained = λ h. rw (entered_in R g q) (index_push W n b (row_bucket R b) g (entered R g) l (H.room h) (bucket_below b (text_of (R g)) h) (falls_entered R g) (H.chained h));
    }
    go true p false q = record { room = H.room; chained = λ h. rw (entered_out R g q) (H.chained h) }

-- ---- the walk over a name's bucket
module _ (W : List ℕ) (n b : ℕ) (R : ℕ → Placed) (functions : Bool) (key : List ℕ) where
  pub find_start : (g : ℕ) → 0 < b → bucket_of b key < b → Holds W n b R g → Walk W n b (row_bucket R b) (λ i. answers_to functions key (R i)) (get_or W (n + bucket_of b key) 0)
  find_start g h l H = walk_start W n b (row_bucket R b) (λ i. answers_to functions key (R i)) (entered R g) (bucket_of b key) l (λ i e. answers_bucket functions b key (R i) e) (H.chained h)

  means : (g : ℕ) → any_of (λ i. answers_to functions key (R i)) (entered R g) ≡ seen (λ i. answers_to functions key (R i)) g
  means g = any_entered R (λ i. answers_to functions key (R i)) g (λ i e. answers_bears functions key (R i) e)

  pub find_hit : (i p g : ℕ) → p ≡ i + 1 → answers_to functions key (R i) ≡ true → Walk W n b (row_bucket R b) (λ i. answers_to functions key (R i)) p → 0 < b → Holds W n b R g → true ≡ seen (λ i. answers_to functions key (R i)) g
  find_hit i p g e q w h H = walk_hit W n b (row_bucket R b) (λ i. answers_to functions key (R i)) i p e q w (entered R g) (H.chained h) ∙ means g

  pub find_end : (p g : ℕ) → p ≡ 0 → Walk W n b (row_bucket R b) (λ i. answers_to functions key (R i)) p → 0 < b → Holds W n b R g → false ≡ seen (λ i. answers_to functions key (R i)) g
  find_end p g e w h H = walk_end W n b (row_bucket R b) (λ i. answers_to functions key (R i)) p e w (entered R g) (H.chained h) ∙ means g

-- ---- the ways of entering a row
module _ (W : List ℕ) (n b : ℕ) (R : ℕ → Placed) (g : ℕ) where
  pub no_name : bears false (R g).node.kind ≡ false → W ≡ with_row W n b R g
  unfolding with_row
  no_name e = go (leb 1 b)
    where
      go : (x : Bool) → W ≡ pick_list (x && bears false (R g).node.kind) (pushed W n (row_bucket R b g) g) W
      go true = rw e refl
      go false = refl

  pub named : (b ≡ 0 → ⊥) → bears false (R g).node.kind ≡ true → pushed W n (row_bucket R b g) g ≡ with_row W n b R g
  unfolding with_row
  named h e = rw (le-leb 1 b (let z : 1 ≤ b = positive b h in z), e) refl
    where
      positive : (b : ℕ) → (b ≡ 0 → ⊥) → 1 ≤ b
      positive zero h = absurd (h refl)
      positive (suc b) h = omega arith
