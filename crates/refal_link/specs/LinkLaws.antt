-- Laws of linking's loops over the rows' numbers: what is left from g on decides.
use Prim.Native.Nat.{ℕ, zero, suc, ◌+◌, ◌-◌, ◌/◌, ◌≤◌, ◌<◌, min}
use Rattle.std.proofs.Math.Bool.{Bool, true, false, not}
use Rattle.std.specs.Prelude.{◌&&◌, ◌||◌, ◌≡◌, leb, drop}
use Rattle.std.proofs.Common.{◌∙◌, le_refl, add-one}
use mathlib.Core.List.{List, [], ◌∷◌, ◌++◌}
use Rattle.std.proofs.Math.Option.{Option, none, some}
use Rattle.std.proofs.Math.Path.{refl, ap, sym}
use native.Mathlib.Omega.{arith}
use Rattle.std.proofs.Math.Dec.{eqb}
use Rattle.std.proofs.Math.ListN.{length}
use borrow.Author.Tests.{le-leb, lt-leb, eqb-true, eqb-false, eq-eqb, ne_eqb, not-true, not-false}
use Rattle.refal_text.specs.Pick.{pick}
use Rattle.refal_rows.specs.Tests.{and_left, and_right}
use Rattle.refal_ast.specs.Kinds.{node_name, node_function, node_call}
use Rattle.refal_ast.specs.Names.{names_equal}
use Rattle.refal_ast.specs.Answers.{Answer, Done}
use Rattle.refal_tree.specs.Lawful.{lawful, found}
use Rattle.refal_spelling.specs.Spellings.{all_spelled}
use Rattle.refal_files.specs.Files.{Placed, text_of, both_rows, of_kind}
use Rattle.refal_files.specs.FileLaws.{both_count, row_at, rows_from, rows_end, kind_in, kind_out, kind_end}
use Rattle.refal_index.specs.Named.{answers_to, seen}
use Rattle.refal_link.specs.Unbound.{both_bound}
use Rattle.refal_link.specs.Link.{functions, declared, calls, among, repeated, missing, shown, shown_at, resolved, linked, checked, link_answer}

-- ---- the functions before g, newest first
unfoldable pub earlier : (ℕ → Placed) → ℕ → List Placed
earlier R zero = []
earlier R (suc g) = pick (eqb (R g).node.kind node_function) (R g ∷ earlier R g) (earlier R g)

earlier_in : (R : ℕ → Placed) (g : ℕ) → eqb (R g).node.kind node_function ≡ true → earlier R (g + 1) ≡ R g ∷ earlier R g
unfolding earlier
earlier_in R g e = rw (add-one g, e) refl

earlier_out : (R : ℕ → Placed) (g : ℕ) → eqb (R g).node.kind node_function ≡ false → earlier R (g + 1) ≡ earlier R g
unfolding earlier
earlier_out R g e = rw (add-one g, e) refl

seen_earlier : (R : ℕ → Placed) (key : List ℕ) (g : ℕ) → seen (λ i. answers_to true key (R i)) g ≡ among key (earlier R g)
unfolding seen earlier among answers_to
seen_earlier R key zero = refl
seen_earlier R key (suc g) = go (eqb (R g).node.kind node_function) (seen_earlier R key g)
  where
    go : (t : Bool) → seen (λ i. answers_to true key (R i)) g ≡ among key (earlier R g) → (((t || false) && names_equal key (text_of (R g))) || seen (λ i. answers_to true key (R i)) g) ≡ among key (pick t (R g ∷ earlier R g) (earlier R g))
    go true e = ap (λ (x : Bool). names_equal key (text_of (R g)) || x) e
    go false e = e

-- ---- a row that passes a test
any : (Placed → Bool) → List Placed → Bool
any t [] = false
any t (p ∷ ps) = t p || any t ps

or_turn : (x y z : Bool) → ((x || y) || z) ≡ (y || (x || z))
or_turn true true z = refl
or_turn true false z = refl
or_turn false true z = refl
or_turn false false z = refl

or_true : (x : Bool) → (x || true) ≡ true
or_true true = refl
or_true false = refl

or_none : (x : Bool) → (x || false) ≡ x
or_none true = refl
or_none false = refl

among_append : (key : List ℕ) (xs ys : List Placed) → among key (xs ++ ys) ≡ (among key xs || among key ys)
unfolding among
among_append key [] ys = refl
among_append key (p ∷ xs) ys = go (names_equal key (text_of p)) (among_append key xs ys)
  where
    go : (t : Bool) → among key (xs ++ ys) ≡ (among key xs || among key ys) → (t || among key (xs ++ ys)) ≡ ((t || among key xs) || among key ys)
    go true e = refl
    go false e = e

any_among : (key : List ℕ) (ps : List Placed) → any (answers_to false key) ps ≡ (among key (functions ps) || among key (declared ps))
unfolding any answers_to among of_kind
any_among key [] = refl
any_among key (p ∷ ps) = go (eqb p.node.kind node_function) (eqb p.node.kind node_name) (names_equal key (text_of p)) refl (any_among key ps)
  where
    go : (x y t : Bool) → names_equal key (text_of p) ≡ t → any (answers_to false key) ps ≡ (among key (functions ps) || among key (declared ps))
        → (((x || y) && t) || any (answers_to false key) ps) ≡ (among key (pick x (p ∷ functions ps) (functions ps)) || among key (pick y (p ∷ declared ps) (declared ps)))
    go true true true q e = rw q refl
    go true true false q e = rw q e
    go true false true q e = rw q refl
    go true false false q e = rw q e
    go false true true q e = rw q (sym (or_true (among key (functions ps))))
    go false true false q e = rw q e
    go false false t q e = e

-- row g is a function whose name an earlier one has
abbrev pub repeats : (ℕ → Placed) → ℕ → Bool
repeats R g = eqb (R g).node.kind node_function && seen (λ i. answers_to true (text_of (R g)) (R i)) g

pub repeats_is : (R : ℕ → Placed) (g : ℕ) → (R g).node.kind ≡ node_function → repeats R g ≡ seen (λ i. answers_to true (text_of (R g)) (R i)) g
repeats_is R g e = rw (eq-eqb (R g).node.kind node_function e) refl

-- the row that a loop stopped at, if it is one of n
abbrev pub at_row : (ℕ → Placed) → ℕ → ℕ → Option Placed
at_row R n r = pick (leb n r) none (some (R r))

module _ (w₁ s₁ w₂ s₂ : List ℕ) where
  abbrev R : ℕ → Placed
  R g = row_at w₁ s₁ w₂ s₂ g

  abbrev rows : List Placed
  rows = both_rows w₁ s₁ w₂ s₂

  -- from g on it is still open which function is the first whose name an earlier one has
  abbrev pub OpenAt : ℕ → Type 0
  OpenAt g = repeated (earlier R g) (functions (drop g rows)) ≡ repeated [] (functions rows)

  pub open_start : OpenAt 0
  unfolding earlier
  open_start = refl

  pub open_hit : (g : ℕ) → g < both_count w₁ w₂ → OpenAt g → repeats R g ≡ true → at_row R (both_count w₁ w₂) g ≡ repeated [] (functions rows)
  unfolding repeated
  open_hit g l h e =
      let f = eqb-true (R g).node.kind node_function (and_left (eqb (R g).node.kind node_function) (seen (λ i. answers_to true (text_of (R g)) (R i)) g) e) in
      let a : among (text_of (R g)) (earlier R g) ≡ true = sym (seen_earlier R (text_of (R g)) g) ∙ and_right (eqb (R g).node.kind node_function) (seen (λ i. answers_to true (text_of (R g)) (R i)) g) e in
      rw (lt-leb (both_count w₁ w₂) g l) (sym (ap (repeated (earlier R g)) (kind_in w₁ s₁ w₂ s₂ node_function g l f) ∙ rw a refl) ∙ h)

  pub open_next : (g : ℕ) → g < both_count w₁ w₂ → OpenAt g → repeats R g ≡ false → OpenAt (g + 1)
  unfolding repeated
  open_next g l h e = go (eqb (R g).node.kind node_function) refl
    where
      go : (t : Bool) → eqb (R g).node.kind node_function ≡ t → OpenAt (g + 1)
      go true q =
          let a : among (text_of (R g)) (earlier R g) ≡ false = sym (seen_earlier R (text_of (R g)) g) ∙ sym (ap (λ (t : Bool). t && seen (λ i. answers_to true (text_of (R g)) (R i)) g) q) ∙ e in
          rw (earlier_in R g q) (sym (ap (repeated (earlier R g)) (kind_in w₁ s₁ w₂ s₂ node_function g l (eqb-true (R g).node.kind node_function q)) ∙ rw a refl) ∙ h)
      go false q =
          rw (earlier_out R g q) (sym (ap (repeated (earlier R g)) (kind_out w₁ s₁ w₂ s₂ node_function g l (eqb-false (R g).node.kind node_function q))) ∙ h)

  pub open_end : (g : ℕ) → both_count w₁ w₂ ≤ g → OpenAt g → at_row R (both_count w₁ w₂) g ≡ repeated [] (functions rows)
  unfolding repeated
  open_end g l h = rw (le-leb (both_count w₁ w₂) g l) (sym (ap (repeated (earlier R g)) (kind_end w₁ s₁ w₂ s₂ node_function g l)) ∙ h)

  -- before the rest: the first function whose name an earlier one has is shown, or none is
  pub open_shown : (g : ℕ) → g < both_count w₁ w₂ → OpenAt g → repeats R g ≡ true → (rest : Answer) → shown_at 60 (R g) ≡ shown 60 (repeated [] (functions rows)) rest
  open_shown g l h e rest = ap (λ (o : Option Placed). shown 60 o rest) (rw (lt-leb (both_count w₁ w₂) g l) at (open_hit g l h e))

  pub open_passed : (g : ℕ) → both_count w₁ w₂ ≤ g → OpenAt g → (rest : Answer) → rest ≡ shown 60 (repeated [] (functions rows)) rest
  open_passed g l h rest = ap (λ (o : Option Placed). shown 60 o rest) (rw (le-leb (both_count w₁ w₂) g l) at (open_end g l h))

  -- ---- the calls: the names that are known are those of all rows that bear one
  abbrev pub Known : List Placed
  Known = functions rows ++ declared rows

  seen_any : (t : Placed → Bool) (g : ℕ) → g ≤ both_count w₁ w₂ → (seen (λ i. t (R i)) g || any t (drop g rows)) ≡ any t rows
  unfolding seen any
  seen_any t zero l = refl
  seen_any t (suc g) l =
      or_turn (t (R g)) (seen (λ i. t (R i)) g) (any t (drop (suc g) rows))
      ∙ sym (ap (λ (x : List Placed). seen (λ i. t (R i)) g || any t x) (rows_from w₁ s₁ w₂ s₂ g l))
      ∙ seen_any t g (let z : g ≤ both_count w₁ w₂ = omega arith in z)

  seen_all : (t : Placed → Bool) → seen (λ i. t (R i)) (both_count w₁ w₂) ≡ any t rows
  unfolding any
  seen_all t =
      sym (ap (λ (x : List Placed). seen (λ i. t (R i)) (both_count w₁ w₂) || any t x) (rows_end w₁ s₁ w₂ s₂ (both_count w₁ w₂) (le_refl _)) ∙ or_none (seen (λ i. t (R i)) (both_count w₁ w₂)))
      ∙ seen_any t (both_count w₁ w₂) (le_refl _)

  known_is : (key : List ℕ) → seen (λ i. answers_to false key (R i)) (both_count w₁ w₂) ≡ among key Known
  known_is key = seen_all (answers_to false key) ∙ any_among key rows ∙ sym (among_append key (functions rows) (declared rows))

  -- from g on it is still open which call is the first whose name is not known; so many calls stood before g
  pub record Counting (g found : ℕ) : Type 0 where
    pub first : missing Known (calls (drop g rows)) ≡ missing Known (calls rows)
    pub count : found + length (calls (drop g rows)) ≡ length (calls rows)

  pub calls_start : Counting 0 0
  calls_start = record { first = refl; count = let z : 0 + length (calls rows) ≡ length (calls rows) = omega arith in z }

  -- row g is a call whose name is not known
  abbrev pub lost : ℕ → Bool
  lost g = eqb (R g).node.kind node_call && not (seen (λ i. answers_to false (text_of (R g)) (R i)) (both_count w₁ w₂))

  pub lost_not : (g : ℕ) → ((R g).node.kind ≡ node_call → ⊥) → lost g ≡ false
  lost_not g e = rw (ne_eqb (R g).node.kind node_call e) refl

  pub lost_is : (g : ℕ) → (R g).node.kind ≡ node_call → lost g ≡ not (seen (λ i. answers_to false (text_of (R g)) (R i)) (both_count w₁ w₂))
  lost_is g e = rw (eq-eqb (R g).node.kind node_call e) refl

  module _ (g found : ℕ) (l : g < both_count w₁ w₂) (C : Counting g found) where
    pub calls_hit : lost g ≡ true → shown_at 61 (R g) ≡ resolved rows
    unfolding missing resolved
    calls_hit e =
        let s : Bool = seen (λ i. answers_to false (text_of (R g)) (R i)) (both_count w₁ w₂) in
        let k = eqb-true (R g).node.kind node_call (and_left (eqb (R g).node.kind node_call) (not s) e) in
        let a : among (text_of (R g)) Known ≡ false = sym (known_is (text_of (R g))) ∙ not-true s (and_right (eqb (R g).node.kind node_call) (not s) e) in
        let m : missing Known (calls rows) ≡ some (R g) = sym C.first ∙ ap (missing Known) (kind_in w₁ s₁ w₂ s₂ node_call g l k) ∙ rw a refl in
        sym (ap (λ (o : Option Placed). shown 61 o (Done (length (calls rows)))) m)

    pub calls_next : lost g ≡ false → Counting (g + 1) (found + pick (eqb (R g).node.kind node_call) 1 0)
    unfolding missing
    calls_next e = go (eqb (R g).node.kind node_call) refl
      where
        go : (t : Bool) → eqb (R g).node.kind node_call ≡ t → Counting (g + 1) (found + pick t 1 0)
        go true k =
            let s : Bool = seen (λ i. answers_to false (text_of (R g)) (R i)) (both_count w₁ w₂) in
            let a : among (text_of (R g)) Known ≡ true = sym (known_is (text_of (R g))) ∙ not-false s (sym (ap (λ (x : Bool). x && not s) k) ∙ e) in
            let q = kind_in w₁ s₁ w₂ s₂ node_call g l (eqb-true (R g).node.kind node_call k) in
            record {
              first = sym (ap (missing Known) q ∙ rw a refl) ∙ C.first;
              count = let h = C.count in let n : length (calls (drop g rows)) ≡ suc (length (calls (drop (g + 1) rows))) = ap length q in omega arith;
            }
        go false k =
            let q = kind_out w₁ s₁ w₂ s₂ node_call g l (eqb-false (R g).node.kind node_call k) in
            record {
              first = sym (ap (missing Known) q) ∙ C.first;
              count = let h = C.count in let n : length (calls (drop g rows)) ≡ length (calls (drop (g + 1) rows)) = ap length q in omega arith;
            }

  pub calls_end : (g found : ℕ) → both_count w₁ w₂ ≤ g → Counting g found → Done found ≡ resolved rows
  unfolding missing resolved
  calls_end g found l C =
      let q = kind_end w₁ s₁ w₂ s₂ node_call g l in
      let m : missing Known (calls rows) ≡ none = sym C.first ∙ ap (missing Known) q in
      let n : found ≡ length (calls rows) = let h = C.count in let z : length (calls (drop g rows)) ≡ 0 = ap length q in omega arith in
      ap Done n ∙ sym (ap (λ (o : Option Placed). shown 61 o (Done (length (calls rows)))) m)

-- ---- how many buckets there are for n rows in so many words: one for eight rows, or fewer where the words end
abbrev pub bucket_count : ℕ → ℕ → ℕ
bucket_count n words = min (words - n) (n / 8 + 1)

-- ---- both together
module _ (w₁ s₁ w₂ s₂ : List ℕ) (n g : ℕ) (e : at_row (row_at w₁ s₁ w₂ s₂) n g ≡ repeated [] (functions (both_rows w₁ s₁ w₂ s₂))) where
  pub linked_60 : g < n → shown_at 60 (row_at w₁ s₁ w₂ s₂ g) ≡ linked (both_rows w₁ s₁ w₂ s₂)
  unfolding linked
  linked_60 l = ap (λ (o : Option Placed). shown 60 o (resolved (both_rows w₁ s₁ w₂ s₂))) (rw (lt-leb n g l) at e)

  pub linked_none : n ≤ g → resolved (both_rows w₁ s₁ w₂ s₂) ≡ linked (both_rows w₁ s₁ w₂ s₂)
  unfolding linked
  linked_none l = ap (λ (o : Option Placed). shown 60 o (resolved (both_rows w₁ s₁ w₂ s₂))) (rw (le-leb n g l) at e)

-- ---- the ways out
pub passed : (w s : List ℕ) (rest : Answer) → lawful w ≡ true → all_spelled s w ≡ true → checked w s rest ≡ rest
passed w s rest a b = rw (a, b) refl

module _ (w₁ s₁ w₂ s₂ : List ℕ) (a : lawful w₁ ≡ true) (b : all_spelled s₁ w₁ ≡ true) where
  pub both_checked : lawful w₂ ≡ true → all_spelled s₂ w₂ ≡ true → both_bound w₁ s₁ w₂ s₂ (linked (both_rows w₁ s₁ w₂ s₂)) ≡ link_answer w₁ s₁ w₂ s₂
  unfolding link_answer
  both_checked c d = sym (passed w₁ s₁ _ a b ∙ passed w₂ s₂ _ c d)
