-- The theorems of Accepts.antt.
use Rattle.std.specs.Prelude.{ℕ, zero, suc, ◌+◌, ◌-◌, ◌≤◌, ◌<◌, Bool, true, false, not, ◌||◌, List, [], ◌∷◌, map, ◌≡◌, refl, eqb, length, drop}
use Rattle.std.proofs.Common.{true≢false, ap, ap₂, sym, subst, ◌∙◌, arith, le_refl, add_comm, add-one, length-append, eqb-true, eq-eqb}
use Rattle.std.proofs.Math.Option.{Option, none, some}
use Rattle.std.proofs.Math.Decide.{dec_le}
use Rattle.std.proofs.lemmas.Bool.{lt-leb, eqb-false, not-false}
use Rattle.refal_text.specs.Pick.{pick}
use Rattle.refal_rows.specs.Tests.{and_left, and_right}
use Rattle.refal_ast.specs.Kinds.{node_name, node_function, node_call}
use Rattle.refal_ast.specs.Names.{names_equal, same_sym, canonical_name}
use Rattle.refal_ast.specs.Nodes.{Node, node_at, nodes_of}
use Rattle.refal_ast.specs.Answers.{Answer, Done, Refused}
use Rattle.refal_tree.specs.Lawful.{lawful}
use Rattle.refal_spelling.specs.Spellings.{all_spelled}
use Rattle.refal_files.specs.Files.{Placed, placed, text_of, file_rows, both_rows, of_kind}
use Rattle.refal_files.specs.FileLaws.{row_count, both_count, row_at, row_one, row_two, kind_end, of_append}
use Rattle.refal_index.specs.Named.{bears, answers_to, seen, seen_hit, seen_some, answers_is, answers_both}
use Rattle.refal_bound.specs.Bound.{first_unbound}
use Rattle.refal_bound.specs.Force.{Passes}
use Rattle.refal_bound.specs.ForceTheorems.{passes_exactly}
use Rattle.refal_link.specs.Unbound.{Found, shown_unbound, both_bound}
use Rattle.std.specs.Prelude.{None, Some}
use Rattle.refal_link.specs.Link.{functions, calls, repeated, shown, shown_at, resolved, linked, refuse, checked, link_answer}
use Rattle.refal_link.specs.LinkLaws.{repeats, repeats_is, at_row, OpenAt, open_start, open_hit, open_next, open_end, Counting, calls_start, lost, lost_is, lost_not, calls_hit, calls_next, calls_end, linked_none, both_checked}
use Rattle.refal_link.specs.Accepts.{Place, one, two, Stands, name_at, Met, by_function, by_declared, Links, calls_among, calls_in, AcceptsExactly, EitherWay}

module _ (w₁ s₁ w₂ s₂ : List ℕ) where
  abbrev R : ℕ → Placed
  R g = row_at w₁ s₁ w₂ s₂ g

  abbrev N : ℕ
  N = both_count w₁ w₂

  -- ---- places and numbers
  abbrev number : Place → ℕ
  number (one i) = i
  number (two i) = row_count w₁ + i

  record At (k : ℕ) (p : Place) : Type 0 where
    below : number p < N
    kind : (R (number p)).node.kind ≡ k
    name : text_of (R (number p)) ≡ name_at w₁ s₁ w₂ s₂ p

  numbered : (k : ℕ) (p : Place) → Stands w₁ s₁ w₂ s₂ k p → At k p
  numbered k (one i) h =
      let e : R i ≡ placed 1 s₁ (node_at w₁ i) = row_one w₁ s₁ w₂ s₂ i h.0 in
      record { below = omega (arith, h.0); kind = ap (λ (p : Placed). p.node.kind) e ∙ h.1; name = ap text_of e }
  numbered k (two i) h =
      let e : R (row_count w₁ + i) ≡ placed 2 s₂ (node_at w₂ i) = row_two w₁ s₁ w₂ s₂ (row_count w₁ + i) i refl in
      record { below = omega (arith, h.0); kind = ap (λ (p : Placed). p.node.kind) e ∙ h.1; name = ap text_of e }

  -- the place of a number
  record Of (k g : ℕ) : Type 0 where
    place : Place
    is : number place ≡ g
    stands : Stands w₁ s₁ w₂ s₂ k place
    name : text_of (R g) ≡ name_at w₁ s₁ w₂ s₂ place

  placed_at : (k g : ℕ) → g < N → (R g).node.kind ≡ k → Of k g
  placed_at k g l h = go (dec_le (row_count w₁) g)
    where
      go : Dec (row_count w₁ ≤ g) → Of k g
      go (yes m) =
          let d : g ≡ row_count w₁ + (g - row_count w₁) = omega arith in
          let e : R g ≡ placed 2 s₂ (node_at w₂ (g - row_count w₁)) = row_two w₁ s₁ w₂ s₂ g (g - row_count w₁) d in
          record { place = two (g - row_count w₁); is = sym d; stands = (omega arith, sym (ap (λ (p : Placed). p.node.kind) e) ∙ h); name = ap text_of e }
      go (no m) =
          let e : R g ≡ placed 1 s₁ (node_at w₁ g) = row_one w₁ s₁ w₂ s₂ g (let z : g < row_count w₁ = omega arith in z) in
          record { place = one g; is = refl; stands = (omega arith, sym (ap (λ (p : Placed). p.node.kind) e) ∙ h); name = ap text_of e }

  number_one : (k : ℕ) (p q : Place) → Stands w₁ s₁ w₂ s₂ k p → Stands w₁ s₁ w₂ s₂ k q → number p ≡ number q → p ≡ q
  number_one k (one i) (one j) a b e = ap one e
  number_one k (one i) (two j) a b e = absurd (omega (arith, a.0))
  number_one k (two i) (one j) a b e = absurd (omega (arith, b.0))
  number_one k (two i) (two j) a b e = ap two (let z : i ≡ j = omega arith in z)

  -- ---- rows that bear names
  is_function_lem : (f : Bool) (k : ℕ) → k ≡ node_function → bears f k ≡ true
  is_function_lem f k e = rw (eq-eqb k node_function e) refl

  is_declared : (k : ℕ) → k ≡ node_name → bears false k ≡ true
  is_declared k e = go (eqb k node_function) (eq-eqb k node_name e)
    where
      go : (t : Bool) → eqb k node_name ≡ true → (t || eqb k node_name) ≡ true
      go true h = refl
      go false h = h

  only_function : (k : ℕ) → bears true k ≡ true → k ≡ node_function
  only_function k e = eqb-true k node_function (go (eqb k node_function) e)
    where
      go : (t : Bool) → (t || false) ≡ true → t ≡ true
      go true h = refl
      go false h = h

  names_turn : (a b : List ℕ) → names_equal a b ≡ true → names_equal b a ≡ true
  names_turn a b e = same_sym (canonical_name a) (canonical_name b) e

  -- equal names of rows and of their places
  names_as : (a b c d : List ℕ) → a ≡ c → b ≡ d → names_equal a b ≡ true → names_equal c d ≡ true
  names_as a b c d e f h = sym (ap₂ names_equal e f) ∙ h

  -- ---- 60: no function has an earlier equal
  opens : ((g : ℕ) → g < N → OpenAt w₁ s₁ w₂ s₂ g → repeats R g ≡ false) → (g : ℕ) → g ≤ N → OpenAt w₁ s₁ w₂ s₂ g
  opens h zero l = open_start w₁ s₁ w₂ s₂
  opens h (suc g) l =
      let m : g < N = l in
      let o = opens h g (let z : g ≤ N = omega arith in z) in
      subst (OpenAt w₁ s₁ w₂ s₂) (add-one g) (open_next w₁ s₁ w₂ s₂ g m o (h g m o))

  fresh : repeated [] (functions (both_rows w₁ s₁ w₂ s₂)) ≡ none → (g : ℕ) → g < N → OpenAt w₁ s₁ w₂ s₂ g → repeats R g ≡ false
  fresh h g l o = go (repeats R g) refl
    where
      go : (t : Bool) → repeats R g ≡ t → repeats R g ≡ false
      go true q =
          let e : some (R g) ≡ none = (rw (lt-leb N g l) at (open_hit w₁ s₁ w₂ s₂ g l o q)) ∙ h in
          let z : ◌≡◌ {A = ℕ} 0 1 = cc in
          absurd (omega arith)
      go false q = q

  all_fresh : repeated [] (functions (both_rows w₁ s₁ w₂ s₂)) ≡ none → (g : ℕ) → g < N → repeats R g ≡ false
  all_fresh h g l = fresh h g l (opens (fresh h) g (let z : g ≤ N = omega arith in z))

  fresh_all : ((g : ℕ) → g < N → repeats R g ≡ false) → at_row R N N ≡ repeated [] (functions (both_rows w₁ s₁ w₂ s₂))
  fresh_all h = open_end w₁ s₁ w₂ s₂ N (le_refl _) (opens (λ g l o. h g l) N (le_refl _))

  clash : (p q : Place) → Stands w₁ s₁ w₂ s₂ node_function p → Stands w₁ s₁ w₂ s₂ node_function q → names_equal (name_at w₁ s₁ w₂ s₂ q) (name_at w₁ s₁ w₂ s₂ p) ≡ true → number p < number q → repeats R (number q) ≡ true
  clash p q a b e l =
      let A = numbered node_function p a in
      let B = numbered node_function q b in
      repeats_is R (number q) B.kind
      ∙ seen_hit (λ i. answers_to true (text_of (R (number q))) (R i)) (number p) (number q) l
      (answers_is true (text_of (R (number q))) (R (number p)) (is_function_lem true _ A.kind) ∙ names_as _ _ _ _ (sym B.name) (sym A.name) e)

  fresh_apart : ((g : ℕ) → g < N → repeats R g ≡ false) → (p q : Place) → Stands w₁ s₁ w₂ s₂ node_function p → Stands w₁ s₁ w₂ s₂ node_function q → names_equal (name_at w₁ s₁ w₂ s₂ p) (name_at w₁ s₁ w₂ s₂ q) ≡ true → p ≡ q
  fresh_apart h p q a b e = go (dec_le (suc (number p)) (number q)) (dec_le (suc (number q)) (number p))
    where
      go : Dec (suc (number p) ≤ number q) → Dec (suc (number q) ≤ number p) → p ≡ q
      go (yes l) d = absurd (true≢false (sym (clash p q a b (names_turn _ _ e) l) ∙ h (number q) (numbered node_function q b).below))
      go (no l) (yes m) = absurd (true≢false (sym (clash q p b a e m) ∙ h (number p) (numbered node_function p a).below))
      go (no l) (no m) = number_one node_function p q a b (let z : number p ≡ number q = omega arith in z)

  apart_fresh : ((p q : Place) → Stands w₁ s₁ w₂ s₂ node_function p → Stands w₁ s₁ w₂ s₂ node_function q → names_equal (name_at w₁ s₁ w₂ s₂ p) (name_at w₁ s₁ w₂ s₂ q) ≡ true → p ≡ q) → (g : ℕ) → g < N → repeats R g ≡ false
  apart_fresh h g l = go (repeats R g) refl
    where
      go : (t : Bool) → repeats R g ≡ t → repeats R g ≡ false
      go true q =
          let s : Bool = seen (λ i. answers_to true (text_of (R g)) (R i)) g in
          let r = seen_some (λ i. answers_to true (text_of (R g)) (R i)) g (and_right (eqb (R g).node.kind node_function) s q) in
          let i : ℕ = r.0 in
          let m : i < g = r.1 in
          let b = answers_both true (text_of (R g)) (R i) r.2 in
          let P = placed_at node_function g l (eqb-true _ _ (and_left (eqb (R g).node.kind node_function) s q)) in
          let Q = placed_at node_function i (let z : i < N = omega arith in z) (only_function _ b.0) in
          let e : P.place ≡ Q.place = h P.place Q.place P.stands Q.stands (names_as _ _ _ _ P.name Q.name b.1) in
          let f : g ≡ i = sym P.is ∙ ap number e ∙ Q.is in
          absurd (omega arith)
      go false q = q

  -- ---- 61: every call is met
  counting : ((g found : ℕ) → g < N → Counting w₁ s₁ w₂ s₂ g found → lost w₁ s₁ w₂ s₂ g ≡ false) → (g : ℕ) → g ≤ N → (found : ℕ) × Counting w₁ s₁ w₂ s₂ g found
  counting h zero l = (0, calls_start w₁ s₁ w₂ s₂)
  counting h (suc g) l =
      let m : g < N = l in
      let r = counting h g (let z : g ≤ N = omega arith in z) in
      (r.0 + pick (eqb (R g).node.kind node_call) 1 0, subst (λ (k : ℕ). Counting w₁ s₁ w₂ s₂ k (r.0 + pick (eqb (R g).node.kind node_call) 1 0)) (add-one g) (calls_next w₁ s₁ w₂ s₂ g r.0 m r.1 (h g r.0 m r.1)))

  counted : (found : ℕ) → Counting w₁ s₁ w₂ s₂ N found → found ≡ length (calls (both_rows w₁ s₁ w₂ s₂))
  counted found C = let h = C.count in let z : length (calls (drop N (both_rows w₁ s₁ w₂ s₂))) ≡ 0 = ap length (kind_end w₁ s₁ w₂ s₂ node_call N (le_refl _)) in omega arith

  module _ (n : ℕ) (e : resolved (both_rows w₁ s₁ w₂ s₂) ≡ Done n) where
    kept : (g found : ℕ) → g < N → Counting w₁ s₁ w₂ s₂ g found → lost w₁ s₁ w₂ s₂ g ≡ false
    kept g found l C = go (lost w₁ s₁ w₂ s₂ g) refl
      where
        go : (t : Bool) → lost w₁ s₁ w₂ s₂ g ≡ t → lost w₁ s₁ w₂ s₂ g ≡ false
        go true q =
            let d : shown_at 61 (R g) ≡ Done n = calls_hit w₁ s₁ w₂ s₂ g found l C q ∙ e in
            let z : ◌≡◌ {A = ℕ} 0 1 = cc in
            absurd (omega arith)
        go false q = q

    all_kept : (g : ℕ) → g < N → lost w₁ s₁ w₂ s₂ g ≡ false
    all_kept g l = let r = counting kept g (let z : g ≤ N = omega arith in z) in kept g r.0 l r.1

    all_counted : n ≡ length (calls (both_rows w₁ s₁ w₂ s₂))
    all_counted =
        let r = counting kept N (le_refl _) in
        let d : Done r.0 ≡ Done n = calls_end w₁ s₁ w₂ s₂ N r.0 (le_refl _) r.1 ∙ e in
        let f : n ≡ r.0 = cc in
        f ∙ counted r.0 r.1

  kept_all : ((g : ℕ) → g < N → lost w₁ s₁ w₂ s₂ g ≡ false) → resolved (both_rows w₁ s₁ w₂ s₂) ≡ Done (length (calls (both_rows w₁ s₁ w₂ s₂)))
  kept_all h =
      let r = counting (λ g found l C. h g l) N (le_refl _) in
      sym (calls_end w₁ s₁ w₂ s₂ N r.0 (le_refl _) r.1) ∙ ap Done (counted r.0 r.1)

  kept_met : ((g : ℕ) → g < N → lost w₁ s₁ w₂ s₂ g ≡ false) → (c : Place) → Stands w₁ s₁ w₂ s₂ node_call c → Met w₁ s₁ w₂ s₂ c
  kept_met h c a = go (eqb (R i).node.kind node_function) refl r.2
    where
      A : At node_call c
      A = numbered node_call c a

      r : (i : ℕ) × (i < N) × (answers_to false (text_of (R (number c))) (R i) ≡ true)
      r = seen_some (λ i. answers_to false (text_of (R (number c))) (R i)) N (not-false _ (sym (lost_is w₁ s₁ w₂ s₂ (number c) A.kind) ∙ h (number c) A.below))

      i : ℕ
      i = r.0

      go : (t : Bool) → eqb (R i).node.kind node_function ≡ t → answers_to false (text_of (R (number c))) (R i) ≡ true → Met w₁ s₁ w₂ s₂ c
      go true q e =
          let P = placed_at node_function i r.1 (eqb-true _ _ q) in
          by_function P.place P.stands (names_as _ _ _ _ A.name P.name (answers_both false _ (R i) e).1)
      go false q e =
          let b : eqb (R i).node.kind node_name ≡ true = sym (ap (λ (x : Bool). x || eqb (R i).node.kind node_name) q) ∙ (answers_both false _ (R i) e).0 in
          let P = placed_at node_name i r.1 (eqb-true _ _ b) in
          by_declared P.place P.stands (names_as _ _ _ _ A.name P.name (answers_both false _ (R i) e).1)

  met_kept : ((c : Place) → Stands w₁ s₁ w₂ s₂ node_call c → Met w₁ s₁ w₂ s₂ c) → (g : ℕ) → g < N → lost w₁ s₁ w₂ s₂ g ≡ false
  met_kept h g l = go (eqb (R g).node.kind node_call) refl
    where
      known : (C : Of node_call g) (k : ℕ) (p : Place) → At k p → bears false (R (number p)).node.kind ≡ true → names_equal (name_at w₁ s₁ w₂ s₂ C.place) (name_at w₁ s₁ w₂ s₂ p) ≡ true → seen (λ i. answers_to false (text_of (R g)) (R i)) N ≡ true
      known C k p A b e =
          seen_hit (λ i. answers_to false (text_of (R g)) (R i)) (number p) N A.below
          (answers_is false (text_of (R g)) (R (number p)) b ∙ names_as _ _ _ _ (sym C.name) (sym A.name) e)

      met : (C : Of node_call g) → Met w₁ s₁ w₂ s₂ C.place → seen (λ i. answers_to false (text_of (R g)) (R i)) N ≡ true
      met C (by_function p a e) = let A = numbered node_function p a in known C node_function p A (is_function_lem false _ A.kind) e
      met C (by_declared p a e) = let A = numbered node_name p a in known C node_name p A (is_declared _ A.kind) e

      go : (t : Bool) → eqb (R g).node.kind node_call ≡ t → lost w₁ s₁ w₂ s₂ g ≡ false
      go true q =
          let k = eqb-true (R g).node.kind node_call q in
          let C = placed_at node_call g l k in
          lost_is w₁ s₁ w₂ s₂ g k ∙ ap not (met C (h C.place C.stands))
      go false q = lost_not w₁ s₁ w₂ s₂ g (eqb-false (R g).node.kind node_call q)

-- ---- the calls are counted file by file
calls_nodes : (f : ℕ) (s : List ℕ) (xs : List Node) → length (calls (map (placed f s) xs)) ≡ calls_among xs
unfolding of_kind
calls_nodes f s [] = refl
calls_nodes f s (x ∷ xs) = go (eqb x.kind node_call) (calls_nodes f s xs)
  where
    go : (t : Bool) → length (calls (map (placed f s) xs)) ≡ calls_among xs → length (pick t (placed f s x ∷ calls (map (placed f s) xs)) (calls (map (placed f s) xs))) ≡ pick t 1 0 + calls_among xs
    go true e = let z : suc (length (calls (map (placed f s) xs))) ≡ 1 + calls_among xs = omega arith in z
    go false e = let z : length (calls (map (placed f s) xs)) ≡ 0 + calls_among xs = omega arith in z

calls_both : (w₁ s₁ w₂ s₂ : List ℕ) → length (calls (both_rows w₁ s₁ w₂ s₂)) ≡ calls_in w₁ + calls_in w₂
unfolding both_rows file_rows
calls_both w₁ s₁ w₂ s₂ =
    let a = calls_nodes 1 s₁ (nodes_of w₁) in
    let b = calls_nodes 2 s₂ (nodes_of w₂) in
    ap length (of_append node_call (map (placed 1 s₁) (nodes_of w₁)) (map (placed 2 s₂) (nodes_of w₂)))
    ∙ length-append (calls (map (placed 1 s₁) (nodes_of w₁))) (calls (map (placed 2 s₂) (nodes_of w₂)))
    ∙ (let z : length (calls (map (placed 1 s₁) (nodes_of w₁))) + length (calls (map (placed 2 s₂) (nodes_of w₂))) ≡ calls_in w₁ + calls_in w₂ = omega arith in z)

-- ---- what an accepting answer says of its parts
record Passed (w s : List ℕ) (rest : Answer) (n : ℕ) : Type 0 where
  keeps : lawful w ≡ true
  spells : all_spelled s w ≡ true
  goes : rest ≡ Done n

checked_done : (w s : List ℕ) (rest : Answer) (n : ℕ) → checked w s rest ≡ Done n → Passed w s rest n
checked_done w s rest n e = go (lawful w) refl (all_spelled s w) refl e
  where
    go : (x : Bool) → lawful w ≡ x → (y : Bool) → all_spelled s w ≡ y → pick (not x) (refuse 40) (pick (not y) (refuse 41) rest) ≡ Done n → Passed w s rest n
    go true p true q h = record { keeps = p; spells = q; goes = h }
    go true p false q h = let z : ◌≡◌ {A = ℕ} 0 1 = cc in absurd (omega arith)
    go false p y q h = let z : ◌≡◌ {A = ℕ} 0 1 = cc in absurd (omega arith)

linked_done : (rows : List Placed) (n : ℕ) → linked rows ≡ Done n → (repeated [] (functions rows) ≡ none) × (resolved rows ≡ Done n)
unfolding linked
linked_done rows n e = go (repeated [] (functions rows)) refl e
  where
    go : (o : Option Placed) → repeated [] (functions rows) ≡ o → shown 60 o (resolved rows) ≡ Done n → (repeated [] (functions rows) ≡ none) × (resolved rows ≡ Done n)
    go none q h = (q, h)
    go (some p) q h = let z : ◌≡◌ {A = ℕ} 0 1 = cc in absurd (omega arith)

record Bound (w₁ s₁ w₂ s₂ : List ℕ) (a : Answer) (n : ℕ) : Type 0 where
  goes : a ≡ Done n
  one_bound : Passes w₁ s₁
  two_bound : Passes w₂ s₂

bound_done : (w₁ s₁ w₂ s₂ : List ℕ) (a : Answer) (n : ℕ) → both_bound w₁ s₁ w₂ s₂ a ≡ Done n → Bound w₁ s₁ w₂ s₂ a n
bound_done w₁ s₁ w₂ s₂ (Refused r) n e = let z : ◌≡◌ {A = ℕ} 0 1 = cc in absurd (omega arith)
bound_done w₁ s₁ w₂ s₂ (Done m) n e = go (first_unbound w₁ s₁) refl (first_unbound w₂ s₂) refl e
  where
    go : (o : Found) → first_unbound w₁ s₁ ≡ o → (p : Found) → first_unbound w₂ s₂ ≡ p → shown_unbound 1 w₁ o (shown_unbound 2 w₂ p (Done m)) ≡ Done n → Bound w₁ s₁ w₂ s₂ (Done m) n
    go None q None r h = record { goes = h; one_bound = (passes_exactly w₁ s₁).0 q; two_bound = (passes_exactly w₂ s₂).0 r }
    go None q (Some u) r h = let z : ◌≡◌ {A = ℕ} 0 1 = cc in absurd (omega arith)
    go (Some u) q p r h = let z : ◌≡◌ {A = ℕ} 0 1 = cc in absurd (omega arith)

done_bound : (w₁ s₁ w₂ s₂ : List ℕ) (n : ℕ) → Passes w₁ s₁ → Passes w₂ s₂ → both_bound w₁ s₁ w₂ s₂ (Done n) ≡ Done n
done_bound w₁ s₁ w₂ s₂ n p q =
    ap₂ (λ (a b : Found). shown_unbound 1 w₁ a (shown_unbound 2 w₂ b (Done n))) ((passes_exactly w₁ s₁).1 p) ((passes_exactly w₂ s₂).1 q)

-- ---- the theorems
pub accepts_exactly : AcceptsExactly
unfolding link_answer
accepts_exactly w₁ s₁ w₂ s₂ n = (to, from)
  where
    to : link_answer w₁ s₁ w₂ s₂ ≡ Done n → Links w₁ s₁ w₂ s₂ × (n ≡ calls_in w₁ + calls_in w₂)
    to e =
        let p = checked_done w₁ s₁ (checked w₂ s₂ (both_bound w₁ s₁ w₂ s₂ (linked (both_rows w₁ s₁ w₂ s₂)))) n e in
        let q = checked_done w₂ s₂ (both_bound w₁ s₁ w₂ s₂ (linked (both_rows w₁ s₁ w₂ s₂))) n p.goes in
        let b = bound_done w₁ s₁ w₂ s₂ (linked (both_rows w₁ s₁ w₂ s₂)) n q.goes in
        let r = linked_done (both_rows w₁ s₁ w₂ s₂) n b.goes in (
          record {
            lawful_one = p.keeps;
            spelled_one = p.spells;
            lawful_two = q.keeps;
            spelled_two = q.spells;
            apart = fresh_apart w₁ s₁ w₂ s₂ (all_fresh w₁ s₁ w₂ s₂ r.0);
            met = kept_met w₁ s₁ w₂ s₂ (all_kept w₁ s₁ w₂ s₂ n r.1);
            bound_one = b.one_bound;
            bound_two = b.two_bound;
          },
          all_counted w₁ s₁ w₂ s₂ n r.1 ∙ calls_both w₁ s₁ w₂ s₂,
        )

    from : Links w₁ s₁ w₂ s₂ × (n ≡ calls_in w₁ + calls_in w₂) → link_answer w₁ s₁ w₂ s₂ ≡ Done n
    from h =
        let L = h.0 in
        let f = fresh_all w₁ s₁ w₂ s₂ (apart_fresh w₁ s₁ w₂ s₂ L.apart) in
        sym (both_checked w₁ s₁ w₂ s₂ L.lawful_one L.spelled_one L.lawful_two L.spelled_two)
        ∙ ap (both_bound w₁ s₁ w₂ s₂)
        (sym (linked_none w₁ s₁ w₂ s₂ (both_count w₁ w₂) (both_count w₁ w₂) f (le_refl _))
        ∙ kept_all w₁ s₁ w₂ s₂ (met_kept w₁ s₁ w₂ s₂ L.met)
        ∙ ap Done (calls_both w₁ s₁ w₂ s₂ ∙ sym h.1))
        ∙ done_bound w₁ s₁ w₂ s₂ n L.bound_one L.bound_two

-- the places of the files in the other order
abbrev swap : Place → Place
swap (one i) = two i
swap (two i) = one i

swap_swap : (p : Place) → swap (swap p) ≡ p
swap_swap (one i) = refl
swap_swap (two i) = refl

module _ (w₁ s₁ w₂ s₂ : List ℕ) where
  stands_swap : (k : ℕ) (p : Place) → Stands w₂ s₂ w₁ s₁ k p → Stands w₁ s₁ w₂ s₂ k (swap p)
  stands_swap k (one i) h = h
  stands_swap k (two i) h = h

  name_swap : (p : Place) → name_at w₁ s₁ w₂ s₂ (swap p) ≡ name_at w₂ s₂ w₁ s₁ p
  name_swap (one i) = refl
  name_swap (two i) = refl

same_names : (a b c d : List ℕ) → a ≡ c → b ≡ d → names_equal a b ≡ true → names_equal c d ≡ true
same_names a b c d e f h = sym (ap₂ names_equal e f) ∙ h

links_swap : (w₁ s₁ w₂ s₂ : List ℕ) → Links w₁ s₁ w₂ s₂ → Links w₂ s₂ w₁ s₁
links_swap w₁ s₁ w₂ s₂ L = record {
  lawful_one = L.lawful_two;
  spelled_one = L.spelled_two;
  lawful_two = L.lawful_one;
  spelled_two = L.spelled_one;
  apart = λ p q a b e. sym (swap_swap p)
      ∙ ap swap (L.apart (swap p) (swap q) (stands_swap w₁ s₁ w₂ s₂ node_function p a) (stands_swap w₁ s₁ w₂ s₂ node_function q b) (same_names _ _ _ _ (sym (name_swap w₁ s₁ w₂ s₂ p)) (sym (name_swap w₁ s₁ w₂ s₂ q)) e))
      ∙ swap_swap q;
  bound_one = L.bound_two;
  bound_two = L.bound_one;
  met = λ c a. met c (L.met (swap c) (stands_swap w₁ s₁ w₂ s₂ node_call c a));
}
  where
    met : (c : Place) → Met w₁ s₁ w₂ s₂ (swap c) → Met w₂ s₂ w₁ s₁ c
    met c (by_function p a e) = by_function (swap p) (stands_swap w₂ s₂ w₁ s₁ node_function p a) (same_names _ _ _ _ (name_swap w₁ s₁ w₂ s₂ c) (sym (name_swap w₂ s₂ w₁ s₁ p)) e)
    met c (by_declared p a e) = by_declared (swap p) (stands_swap w₂ s₂ w₁ s₁ node_name p a) (same_names _ _ _ _ (name_swap w₁ s₁ w₂ s₂ c) (sym (name_swap w₂ s₂ w₁ s₁ p)) e)

pub either_way : EitherWay
either_way w₁ s₁ w₂ s₂ n e =
    let h = (accepts_exactly w₁ s₁ w₂ s₂ n).0 e in
    let m : n ≡ calls_in w₂ + calls_in w₁ = h.1 ∙ add_comm (calls_in w₁) (calls_in w₂) in
    (accepts_exactly w₂ s₂ w₁ s₁ n).1 (links_swap w₁ s₁ w₂ s₂ h.0, m)
