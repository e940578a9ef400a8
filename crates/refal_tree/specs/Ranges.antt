-- Ranges of rows in a list of words: rows i to j as a forest, all of them under one parent. A walk reads row i, goes into its children, rows i + 1 to
-- its `next`, and goes on at `next`.
use Rattle.std.specs.Prelude.{ℕ, zero, suc, ◌+◌, ◌*◌, ◌-◌, ◌/◌, ◌%◌, ◌≤◌, ◌<◌, Bool, true, false, ◌&&◌, List, ◌++◌, ◌≡◌, refl, eqb, leb, ltb, length, replicate}
use Rattle.std.proofs.Math.Bool.{and-false, and_assoc}
use Rattle.std.proofs.Math.Option.{Option, none, some}
use Rattle.std.proofs.Common.{sym, ap, subst, ◌∙◌, arith, eq-eqb, ne_eqb, eqb-true, lt-ltb, ltb-true, le-leb, leb-true}
use Rattle.std.proofs.Math.Nat.{mul-mod_right}
use Rattle.refal_rows.specs.Tests.{and_left, and_right}
use Rattle.std.proofs.Math.Decide.{dec_le}
use Rattle.refal_ast.specs.Nodes.{Node, node_width, no_parent, col_kind, col_detail, col_next, col_parent, word_at, node_at, whole_rows}
use Rattle.refal_tree.specs.Forest.{Row, Forest, empty, tree, own}
use Rattle.refal_tree.specs.States.{may_end, state_inside, state_next, below}
use Rattle.refal_tree.specs.Rules.{row_ok, ok_g}

-- ---- definitions

-- the own words of row i, its kind, its detail, its next row, and its parent
abbrev pub row_at : List ℕ → ℕ → Row
row_at w i = own (node_at w i)

abbrev pub kind_at : List ℕ → ℕ → ℕ
kind_at w i = word_at w i col_kind

abbrev pub detail_at : List ℕ → ℕ → ℕ
detail_at w i = word_at w i col_detail

abbrev pub next_at : List ℕ → ℕ → ℕ
next_at w i = word_at w i col_next

abbrev pub parent_at : List ℕ → ℕ → ℕ
parent_at w i = word_at w i col_parent

-- a row, its children and what follows
abbrev pub joined : Row → Option Forest → Option Forest → Option Forest
joined r none h = none
joined r (some f) none = none
joined r (some f) (some g) = some (tree r f g)

-- row i, of the rows to j under the parent q: its next row is behind it and not past j, and its parent is q
abbrev pub linked : List ℕ → ℕ → ℕ → ℕ → Bool
linked w i j q = (ltb i (next_at w i) && leb (next_at w i) j) && eqb (parent_at w i) q

-- what gives the forest of rows i to j under the parent q
abbrev pub Finds : Type 0
Finds = ℕ → ℕ → ℕ → Option Forest

-- row i, if it is linked: its children are the rows after it up to its `next`, under row i
abbrev pub forest_row : Bool → List ℕ → Finds → ℕ → ℕ → ℕ → Option Forest
forest_row true w find i j q = joined (row_at w i) (find (i + 1) (next_at w i) i) (find (next_at w i) j q)
forest_row false w find i j q = none

-- no rows, or those from row i on
abbrev pub forest_from : Bool → List ℕ → Finds → ℕ → ℕ → ℕ → Option Forest
forest_from true w find i j q = some empty
forest_from false w find i j q = forest_row (linked w i j q) w find i j q

-- the forest of rows i to j under the parent q, if they are one; k only bounds the search, and as many as there are rows is enough
unfoldable pub forest_in : ℕ → List ℕ → Finds
forest_in zero w i j q = forest_from (eqb i j) w (λ (a b p : ℕ). none) i j q
forest_in (suc k) w i j q = forest_from (eqb i j) w (λ (a b p : ℕ). forest_in k w a b p) i j q

-- the forest that rows i to j are under the parent q
unfoldable pub forest_at : List ℕ → ℕ → ℕ → ℕ → Option Forest
forest_at w i j q = forest_in (j - i) w i j q

abbrev pub pick_forest : Bool → Option Forest → Option Forest
pick_forest true o = o
pick_forest false o = none

-- the forest that all words are: whole rows, under no parent
unfoldable pub forest_of : List ℕ → Option Forest
forest_of w = pick_forest (whole_rows w) (forest_at w 0 (length w / node_width) no_parent)

-- the forest that words are whose first row is row n, under the parent q: whole rows, behind the n rows before them, whose words tell nothing
unfoldable pub forest_rows : List ℕ → ℕ → ℕ → Option Forest
forest_rows w n q = pick_forest (whole_rows w) (forest_at (replicate (node_width * n) 0 ++ w) n (n + length w / node_width) q)

-- rows i to j are a forest under the parent q and keep the rules
abbrev pub ok_in : ℕ → ℕ → Option Forest → Bool
ok_in st left none = false
ok_in st left (some f) = ok_g st left f

abbrev pub ok_at : List ℕ → ℕ → ℕ → ℕ → ℕ → ℕ → Bool
ok_at w i j st left q = ok_in st left (forest_at w i j q)

-- row i may stand in the state st, so many levels being left, and its parent is q
abbrev pub fits_at : List ℕ → ℕ → ℕ → ℕ → ℕ → Bool
fits_at w i st left q = eqb (parent_at w i) q && row_ok st left (row_at w i)

-- ---- a linked row
pub record Linked (w : List ℕ) (i j q : ℕ) : Type 0 where
  pub lo : i < next_at w i
  pub hi : next_at w i ≤ j
  pub parent : parent_at w i ≡ q

pub linked_true : (w : List ℕ) (i j q : ℕ) → linked w i j q ≡ true → Linked w i j q
linked_true w i j q h =
    let x : Bool = ltb i (next_at w i) in
    let y : Bool = leb (next_at w i) j in
    let z : Bool = eqb (parent_at w i) q in
    record {
      lo = ltb-true i (next_at w i) (and_left x y (and_left (x && y) z h));
      hi = leb-true (next_at w i) j (and_right x y (and_left (x && y) z h));
      parent = eqb-true (parent_at w i) q (and_right (x && y) z h);
    }

-- whose next row is in the range
linked_in : (w : List ℕ) (i j q : ℕ) → i < next_at w i → next_at w i ≤ j → linked w i j q ≡ eqb (parent_at w i) q
linked_in w i j q lo hi =
    ap (λ (b : Bool). (b && leb (next_at w i) j) && eqb (parent_at w i) q) (lt-ltb i (next_at w i) lo)
    ∙ ap (λ (b : Bool). b && eqb (parent_at w i) q) (le-leb (next_at w i) j hi)

-- whose next row is not
linked_out : (w : List ℕ) (i j q : ℕ) → (i < next_at w i → next_at w i ≤ j → ⊥) → linked w i j q ≡ false
linked_out w i j q bad = go (ltb i (next_at w i)) (leb (next_at w i) j) refl refl
  where
    go : (a b : Bool) → ltb i (next_at w i) ≡ a → leb (next_at w i) j ≡ b → (a && b) && eqb (parent_at w i) q ≡ false
    go true true e f = absurd (bad (ltb-true i (next_at w i) e) (leb-true (next_at w i) j f))
    go true false e f = refl
    go false b e f = refl

-- ---- ranges

-- what is found where the children of row i and what follows it are found alike
found_alike : (w : List ℕ) (find find' : Finds) (i j q : ℕ)
    → (Linked w i j q → find (i + 1) (next_at w i) i ≡ find' (i + 1) (next_at w i) i) → (Linked w i j q → find (next_at w i) j q ≡ find' (next_at w i) j q)
    → forest_from (eqb i j) w find i j q ≡ forest_from (eqb i j) w find' i j q
found_alike w find find' i j q kids rest = go (eqb i j)
  where
    at_row : (b : Bool) → linked w i j q ≡ b → forest_row b w find i j q ≡ forest_row b w find' i j q
    at_row true e =
        let L = linked_true w i j q e in
        ap (λ (o : Option Forest). joined (row_at w i) o (find (next_at w i) j q)) (kids L)
        ∙ ap (joined (row_at w i) (find' (i + 1) (next_at w i) i)) (rest L)
    at_row false e = refl

    go : (b : Bool) → forest_from b w find i j q ≡ forest_from b w find' i j q
    go true = refl
    go false = at_row (linked w i j q) refl

-- a bound no smaller than the rows changes nothing
enough : (k m : ℕ) (w : List ℕ) (i j q : ℕ) → j - i ≤ k → j - i ≤ m → forest_in k w i j q ≡ forest_in m w i j q
unfolding forest_in
enough zero zero w i j q h l = refl
enough zero (suc m) w i j q h l =
    found_alike w (λ (a b p : ℕ). none) (λ (a b p : ℕ). forest_in m w a b p) i j q
    (λ (L : Linked w i j q). let lo = L.lo in let hi = L.hi in absurd (omega arith)) (λ (L : Linked w i j q). let lo = L.lo in let hi = L.hi in absurd (omega arith))
enough (suc k) zero w i j q h l =
    found_alike w (λ (a b p : ℕ). forest_in k w a b p) (λ (a b p : ℕ). none) i j q
    (λ (L : Linked w i j q). let lo = L.lo in let hi = L.hi in absurd (omega arith)) (λ (L : Linked w i j q). let lo = L.lo in let hi = L.hi in absurd (omega arith))
enough (suc k) (suc m) w i j q h l =
    found_alike w (λ (a b p : ℕ). forest_in k w a b p) (λ (a b p : ℕ). forest_in m w a b p) i j q
    (λ (L : Linked w i j q). let lo = L.lo in let hi = L.hi in enough k m w (i + 1) (next_at w i) i (omega arith) (omega arith))
    (λ (L : Linked w i j q). let lo = L.lo in let hi = L.hi in enough k m w (next_at w i) j q (omega arith) (omega arith))

row_is : (b : Bool) (w : List ℕ) (find : Finds) (i j q : ℕ)
    → forest_row b w find i j q ≡ pick_forest b (joined (row_at w i) (find (i + 1) (next_at w i) i) (find (next_at w i) j q))
row_is true w find i j q = refl
row_is false w find i j q = refl

-- rows i to j, where there is row i
from_row : (w : List ℕ) (i j q : ℕ) → i < j → forest_at w i j q ≡ forest_row (linked w i j q) w (forest_in (j - (i + 1)) w) i j q
unfolding forest_at forest_in
from_row w i j q h =
    ap (λ (k : ℕ). forest_in k w i j q) (let e : j - i ≡ suc (j - (i + 1)) = omega arith in e)
    ∙ ap (λ (b : Bool). forest_from b w (forest_in (j - (i + 1)) w) i j q) (ne_eqb i j (λ (z : i ≡ j). omega arith))

-- where its next row is not past j
pub forest_turn : (w : List ℕ) (i j q : ℕ) → i < next_at w i → next_at w i ≤ j
    → forest_at w i j q ≡ pick_forest (eqb (parent_at w i) q) (joined (row_at w i) (forest_at w (i + 1) (next_at w i) i) (forest_at w (next_at w i) j q))
unfolding forest_at
forest_turn w i j q lo hi =
    let k : ℕ = j - (i + 1) in
    let x : ℕ = next_at w i in
    let b : Bool = eqb (parent_at w i) q in
    from_row w i j q (omega arith)
    ∙ ap (λ (y : Bool). forest_row y w (forest_in k w) i j q) (linked_in w i j q lo hi)
    ∙ row_is b w (forest_in k w) i j q
    ∙ ap (λ (o : Option Forest). pick_forest b (joined (row_at w i) o (forest_in k w x j q))) (enough k (x - (i + 1)) w (i + 1) x i (omega arith) (omega arith))
    ∙ ap (λ (o : Option Forest). pick_forest b (joined (row_at w i) (forest_in (x - (i + 1)) w (i + 1) x i) o)) (enough k (j - x) w x j q (omega arith) (omega arith))

-- a next row that is not behind its row, or is past the end
pub forest_bad : (w : List ℕ) (i j q : ℕ) → i < j → (i < next_at w i → next_at w i ≤ j → ⊥) → forest_at w i j q ≡ none
forest_bad w i j q h bad = from_row w i j q h ∙ ap (λ (b : Bool). forest_row b w (forest_in (j - (i + 1)) w) i j q) (linked_out w i j q bad)

-- no rows
none_left : (k : ℕ) (w : List ℕ) (i j q : ℕ) → i ≡ j → forest_in k w i j q ≡ some empty
unfolding forest_in
none_left zero w i j q e = ap (λ (b : Bool). forest_from b w (λ (a b p : ℕ). none) i j q) (eq-eqb i j e)
none_left (suc k) w i j q e = ap (λ (b : Bool). forest_from b w (λ (a b p : ℕ). forest_in k w a b p) i j q) (eq-eqb i j e)

pub forest_end : (w : List ℕ) (i j q : ℕ) → i ≡ j → forest_at w i j q ≡ some empty
unfolding forest_at
forest_end w i j q e = none_left (j - i) w i j q e

-- all rows
pub forest_all : (w : List ℕ) (n : ℕ) → length w ≡ node_width * n → forest_at w 0 n no_parent ≡ forest_of w
unfolding forest_of
forest_all w n e =
    let z : length w % node_width ≡ 0 = ap (λ (k : ℕ). k % node_width) e ∙ mul-mod_right node_width n in
    ap (λ (k : ℕ). forest_at w 0 k no_parent) (let d : n ≡ length w / node_width = omega arith in d)
    ∙ sym (ap (λ (b : Bool). pick_forest b (forest_at w 0 (length w / node_width) no_parent)) (eq-eqb _ _ z))

-- ---- the rules, along a walk

ok_picked : (st left : ℕ) (b : Bool) (o : Option Forest) → ok_in st left (pick_forest b o) ≡ b && ok_in st left o
ok_picked st left true o = refl
ok_picked st left false o = refl

ok_joined : (st left : ℕ) (r : Row) (o p : Option Forest)
    → ok_in st left (joined r o p) ≡ row_ok st left r && (ok_in (state_inside r.kind) (below st r.kind left) o && ok_in (state_next st r.kind r.detail) left p)
unfolding ok_g
ok_joined st left r none p = sym (and-false (row_ok st left r))
ok_joined st left r (some f) none =
    sym (ap (λ (b : Bool). row_ok st left r && b) (and-false (ok_g (state_inside r.kind) (below st r.kind left) f)) ∙ and-false (row_ok st left r))
ok_joined st left r (some f) (some g) = refl

pub ok_turn : (w : List ℕ) (i j st left q : ℕ) → i < next_at w i → next_at w i ≤ j
    → ok_at w i j st left q ≡ fits_at w i st left q && (ok_at w (i + 1) (next_at w i) (state_inside (kind_at w i)) (below st (kind_at w i) left) i && ok_at w (next_at w i) j (state_next st (kind_at w i) (detail_at w i)) left q)
ok_turn w i j st left q lo hi =
    let b : Bool = eqb (parent_at w i) q in
    let o : Option Forest = forest_at w (i + 1) (next_at w i) i in
    let p : Option Forest = forest_at w (next_at w i) j q in
    let y : Bool = ok_at w (i + 1) (next_at w i) (state_inside (kind_at w i)) (below st (kind_at w i) left) i in
    let z : Bool = ok_at w (next_at w i) j (state_next st (kind_at w i) (detail_at w i)) left q in
    ap (ok_in st left) (forest_turn w i j q lo hi)
    ∙ ok_picked st left b (joined (row_at w i) o p)
    ∙ ap (λ (x : Bool). b && x) (ok_joined st left (row_at w i) o p)
    ∙ sym (and_assoc b (row_ok st left (row_at w i)) (y && z))

pub ok_end : (w : List ℕ) (i j st left q : ℕ) → i ≡ j → ok_at w i j st left q ≡ may_end st
unfolding ok_g
ok_end w i j st left q e = ap (ok_in st left) (forest_end w i j q e)

pub ok_bad : (w : List ℕ) (i j st left q : ℕ) → i < j → (i < next_at w i → next_at w i ≤ j → ⊥) → ok_at w i j st left q ≡ false
ok_bad w i j st left q h bad = ap (ok_in st left) (forest_bad w i j q h bad)

-- a turn of the check at row i, which is the node x
module _ (w : List ℕ) (i j st left q : ℕ) (x : Node) (is : x ≡ node_at w i) where
  abbrev here : Bool
  here = eqb x.parent q && row_ok st left (own x)

  abbrev kids : Bool
  kids = ok_at w (i + 1) x.next (state_inside x.kind) (below st x.kind left) i

  abbrev rest : Bool
  rest = ok_at w x.next j (state_next st x.kind x.detail) left q

  turn : i < x.next → x.next ≤ j → ok_at w i j st left q ≡ here && (kids && rest)
  turn =
      let P : Node → Type 0 = λ y. i < y.next → y.next ≤ j
      → ok_at w i j st left q ≡ (eqb y.parent q && row_ok st left (own y)) && (ok_at w (i + 1) y.next (state_inside y.kind) (below st y.kind left) i && ok_at w y.next j (state_next st y.kind y.detail) left q) in
      subst P (sym is) (ok_turn w i j st left q)

  -- its next row is not behind it, or is past the end
  pub stop_next : i < j → (i < x.next → x.next ≤ j → ⊥) → ok_at w i j st left q ≡ false
  stop_next h bad = let P : Node → Type 0 = λ y. i < y.next → y.next ≤ j → ⊥ in ok_bad w i j st left q h (subst P is bad)

  stop_here : i < j → here ≡ false → ok_at w i j st left q ≡ false
  stop_here h r = go (dec_le (i + 1) x.next) (dec_le x.next j)
    where
      go : Dec (i + 1 ≤ x.next) → Dec (x.next ≤ j) → ok_at w i j st left q ≡ false
      go (no a) d = stop_next h (λ lo hi. a (omega arith))
      go (yes a) (no b) = stop_next h (λ lo hi. b hi)
      go (yes a) (yes b) = turn (omega arith) b ∙ ap (λ (t : Bool). t && (kids && rest)) r

  -- its parent is another
  pub stop_parent : i < j → (x.parent ≡ q → ⊥) → ok_at w i j st left q ≡ false
  stop_parent h n = stop_here h (ap (λ (t : Bool). t && row_ok st left (own x)) (ne_eqb x.parent q n))

  -- it may not stand here
  pub stop_row : i < j → row_ok st left (own x) ≡ false → ok_at w i j st left q ≡ false
  stop_row h r = stop_here h (ap (λ (t : Bool). eqb x.parent q && t) r ∙ and-false (eqb x.parent q))

  pub stop_kids : i < x.next → x.next ≤ j → kids ≡ false → ok_at w i j st left q ≡ false
  stop_kids lo hi k = turn lo hi ∙ ap (λ (t : Bool). here && (t && rest)) k ∙ and-false here

  pub go_on : i < x.next → x.next ≤ j → x.parent ≡ q → row_ok st left (own x) ≡ true → kids ≡ true → ok_at w i j st left q ≡ rest
  go_on lo hi p r k =
      turn lo hi
      ∙ ap (λ (t : Bool). (t && row_ok st left (own x)) && (kids && rest)) (eq-eqb x.parent q p)
      ∙ ap (λ (t : Bool). t && (kids && rest)) r
      ∙ ap (λ (t : Bool). t && rest) k
