-- Chains of rows in lent words: n links (row g's at g), then b heads of buckets; 0 ends a chain, g + 1 goes on at row g. What the words hold is a list of
-- rows, newest first, and a row is put in above all that are in.
use Rattle.std.specs.Prelude.{ℕ, ◌+◌, ◌≤◌, ◌<◌, Bool, ◌||◌, ◌≡◌, eqb, length, get_or, set}
use Rattle.std.proofs.Math.Bool.{true, false}
use mathlib.Core.List.{List, [], ◌∷◌}
use Rattle.std.proofs.Math.Path.{refl, sym}
use Rattle.std.proofs.Common.{ap, subst, ◌∙◌, eqb-true, eq-eqb, ne_eqb, length-set, get_or-set_same, get_or-set_other}
use native.Mathlib.Omega.{arith}
use Rattle.std.proofs.lemmas.Bool.{eqb-false}
use Rattle.refal_rows.specs.Rows.{pick_list}

-- the rows of bucket h, where k is a row's bucket
unfoldable pub only : (ℕ → ℕ) → ℕ → List ℕ → List ℕ
only k h [] = []
only k h (g ∷ l) = pick_list (eqb (k g) h) (g ∷ only k h l) (only k h l)

-- a row of the list passes the test
unfoldable pub any_of : (ℕ → Bool) → List ℕ → Bool
any_of f [] = false
any_of f (g ∷ l) = f g || any_of f l

-- the rows fall, and are below n
abbrev pub Falls : ℕ → List ℕ → Type 0
Falls n [] = Unit
Falls n (g ∷ l) = (g < n) × Falls g l

-- from p on the words chain these rows
abbrev pub Chain : List ℕ → ℕ → List ℕ → Type 0
Chain w p [] = p ≡ 0
Chain w p (g ∷ c) = (p ≡ g + 1) × Chain w (get_or w g 0) c

-- the words hold the rows l
pub record Chained (w : List ℕ) (n b : ℕ) (k : ℕ → ℕ) (l : List ℕ) : Type 0 where
  pub falls : Falls n l
  pub chains : (h : ℕ) → h < b → Chain w (get_or w (n + h) 0) (only k h l)

-- the words with row g put in, of bucket h
abbrev pub pushed : List ℕ → ℕ → ℕ → ℕ → List ℕ
pushed w n h g = set (set w g (get_or w (n + h) 0)) (n + h) (g + 1)

-- ---- what `only` keeps
pub only_in : (k : ℕ → ℕ) (h g : ℕ) (l : List ℕ) → k g ≡ h → only k h (g ∷ l) ≡ g ∷ only k h l
unfolding only
only_in k h g l e = rw (eq-eqb (k g) h e) refl

pub only_out : (k : ℕ → ℕ) (h g : ℕ) (l : List ℕ) → (k g ≡ h → ⊥) → only k h (g ∷ l) ≡ only k h l
unfolding only
only_out k h g l e = rw (ne_eqb (k g) h e) refl

pub falls_up : (m n : ℕ) (l : List ℕ) → m ≤ n → Falls m l → Falls n l
falls_up m n [] h f = tt
falls_up m n (g ∷ l) h f = (omega arith, f.1)

pub falls_only : (k : ℕ → ℕ) (h n : ℕ) (l : List ℕ) → Falls n l → Falls n (only k h l)
unfolding only
falls_only k h n [] f = tt
falls_only k h n (g ∷ l) f = go (eqb (k g) h) (falls_only k h g l f.1)
  where
    go : (t : Bool) → Falls g (only k h l) → Falls n (pick_list t (g ∷ only k h l) (only k h l))
    go true r = (f.0, r)
    go false r = falls_up g n (only k h l) (omega (arith, f.0)) r

-- a test that only rows of bucket h pass
pub any_only : (k : ℕ → ℕ) (h : ℕ) (f : ℕ → Bool) (l : List ℕ) → ((g : ℕ) → f g ≡ true → k g ≡ h) → any_of f (only k h l) ≡ any_of f l
unfolding only any_of
any_only k h f [] e = refl
any_only k h f (g ∷ l) e = go (eqb (k g) h) refl (f g) refl (any_only k h f l e)
  where
    go : (t : Bool) → eqb (k g) h ≡ t → (u : Bool) → f g ≡ u → any_of f (only k h l) ≡ any_of f l → any_of f (pick_list t (g ∷ only k h l) (only k h l)) ≡ (u || any_of f l)
    go true p true q ih = rw q refl
    go true p false q ih = rw q ih
    go false p true q ih = absurd (eqb-false (k g) h p (e g q))
    go false p false q ih = ih

-- ---- chains: where one stands, that it is the only one, and that stores elsewhere keep it
pub chain_low : (w : List ℕ) (m p : ℕ) (c : List ℕ) → Falls m c → Chain w p c → p ≤ m
chain_low w m p [] f c = omega arith
chain_low w m p (g ∷ l) f c = omega arith

pub chain_same : (w : List ℕ) (p : ℕ) (c d : List ℕ) → Chain w p c → Chain w p d → c ≡ d
chain_same w p [] [] u v = refl
chain_same w p [] (h ∷ d) u v = absurd (omega arith)
chain_same w p (g ∷ c) [] u v = absurd (omega arith)
chain_same w p (g ∷ c) (h ∷ d) u v =
    let e : g ≡ h = omega arith in
    let r : c ≡ d = chain_same w (get_or w g 0) c d u.1 (rw e v.1) in
    cc

pub chain_keep : (w w' : List ℕ) (m p : ℕ) (c : List ℕ) → ((i : ℕ) → i < m → get_or w' i 0 ≡ get_or w i 0) → Falls m c → Chain w p c → Chain w' p c
chain_keep w w' m p [] e f c = c
chain_keep w w' m p (g ∷ l) e f c =
    (c.0, rw (e g f.0) (chain_keep w w' g (get_or w g 0) l (λ i h. e i (let z : i < m = omega arith in z)) f.1 c.1))

-- ---- no row; one more
pub index_none : (w : List ℕ) (n b : ℕ) (k : ℕ → ℕ) → ((h : ℕ) → h < b → get_or w (n + h) 0 ≡ 0) → Chained w n b k []
unfolding only
index_none w n b k e = record { falls = tt; chains = e }

module _ (w : List ℕ) (n b : ℕ) (k : ℕ → ℕ) (g : ℕ) (l : List ℕ) (lt : g < n) (room : n + b ≤ length w) (kb : k g < b) where
  pub index_push : Falls g l → Chained w n b k l → Chained (pushed w n (k g) g) n b k (g ∷ l)
  index_push f I = record { falls = (lt, f); chains = λ h hb. go h hb (eqb (k g) h) refl }
    where
      other : (i : ℕ) → (i ≡ g → ⊥) → (i ≡ n + k g → ⊥) → get_or (pushed w n (k g) g) i 0 ≡ get_or w i 0
      other i a z = get_or-set_other (set w g _) (n + k g) i (g + 1) 0 z ∙ get_or-set_other w g i _ 0 a

      link : get_or (pushed w n (k g) g) g 0 ≡ get_or w (n + k g) 0
      link = get_or-set_other (set w g _) (n + k g) g (g + 1) 0 (λ e. omega arith) ∙ get_or-set_same w g _ 0 (omega arith)

      chain : (h : ℕ) → h < b → Chain (pushed w n (k g) g) (get_or w (n + h) 0) (only k h l)
      chain h hb = chain_keep w (pushed w n (k g) g) g _ (only k h l) (λ i a. other i (λ e. omega arith) (λ e. omega arith)) (falls_only k h g l f) (I.chains h hb)

      own : Chain (pushed w n (k g) g) (get_or (pushed w n (k g) g) (n + k g) 0) (only k (k g) (g ∷ l))
      own = rw (only_in k (k g) g l refl) (get_or-set_same (set w g _) (n + k g) (g + 1) 0 (omega (arith, length-set w g (get_or w (n + k g) 0))), rw link (chain (k g) kb))

      go : (h : ℕ) → h < b → (t : Bool) → eqb (k g) h ≡ t → Chain (pushed w n (k g) g) (get_or (pushed w n (k g) g) (n + h) 0) (only k h (g ∷ l))
      go h hb true p = subst (λ (j : ℕ). Chain (pushed w n (k g) g) (get_or (pushed w n (k g) g) (n + j) 0) (only k j (g ∷ l))) (eqb-true (k g) h p) own
      go h hb false p =
          rw (only_out k h g l (eqb-false (k g) h p), other (n + h) (λ e. omega arith) (λ e. eqb-false (k g) h p (omega arith))) (chain h hb)

-- ---- walking a chain from p on: what is left of it decides
pub record Walk (w : List ℕ) (n b : ℕ) (k : ℕ → ℕ) (f : ℕ → Bool) (p : ℕ) : Type 0 where
  pub rows : List ℕ
  pub falls : Falls n rows
  pub chain : Chain w p rows
  pub means : (l : List ℕ) → Chained w n b k l → any_of f l ≡ any_of f rows

module _ (w : List ℕ) (n b : ℕ) (k : ℕ → ℕ) (f : ℕ → Bool) where
  pub walk_start : (l : List ℕ) (h : ℕ) → h < b → ((g : ℕ) → f g ≡ true → k g ≡ h) → Chained w n b k l → Walk w n b k f (get_or w (n + h) 0)
  walk_start l h hb e I = record {
    rows = only k h l;
    falls = falls_only k h n l I.falls;
    chain = I.chains h hb;
    means = λ m J. sym (any_only k h f m e) ∙ ap (any_of f) (chain_same w _ (only k h m) (only k h l) (J.chains h hb) (I.chains h hb));
  }

  pub walk_low : (p : ℕ) → Walk w n b k f p → p ≤ n
  walk_low p W = chain_low w n p W.rows W.falls W.chain

  -- a row g that does not pass the test is left for the next
  pub walk_next : (g p : ℕ) → p ≡ g + 1 → f g ≡ false → Walk w n b k f p → Walk w n b k f (get_or w g 0) × (get_or w g 0 ≤ g)
  unfolding any_of
  walk_next g p e q W = go W.rows W.falls W.chain W.means
    where
      go : (c : List ℕ) → Falls n c → Chain w p c → ((l : List ℕ) → Chained w n b k l → any_of f l ≡ any_of f c) → Walk w n b k f (get_or w g 0) × (get_or w g 0 ≤ g)
      go [] F C M = absurd (omega arith)
      go (x ∷ c) F C M =
          let y : x ≡ g = omega arith in
          let C' : Chain w (get_or w g 0) c = rw y at C.1 in
          let F' : Falls g c = rw y at F.1 in
          let q' : f x ≡ false = rw y q in
          (record { rows = c; falls = falls_up x n c (omega (arith, F.0)) F.1; chain = C'; means = λ l I. M l I ∙ rw q' refl }, chain_low w g _ c F' C')

  pub walk_hit : (g p : ℕ) → p ≡ g + 1 → f g ≡ true → Walk w n b k f p → (l : List ℕ) → Chained w n b k l → true ≡ any_of f l
  unfolding any_of
  walk_hit g p e q W l I = go W.rows W.chain (W.means l I)
    where
      go : (c : List ℕ) → Chain w p c → any_of f l ≡ any_of f c → true ≡ any_of f l
      go [] C M = absurd (omega arith)
      go (x ∷ c) C M = let y : x ≡ g = omega arith in let q' : f x ≡ true = rw y q in sym (M ∙ rw q' refl)

  pub walk_end : (p : ℕ) → p ≡ 0 → Walk w n b k f p → (l : List ℕ) → Chained w n b k l → false ≡ any_of f l
  unfolding any_of
  walk_end p e W l I = go W.rows W.chain (W.means l I)
    where
      go : (c : List ℕ) → Chain w p c → any_of f l ≡ any_of f c → false ≡ any_of f l
      go [] C M = sym M
      go (x ∷ c) C M = absurd (omega arith)
