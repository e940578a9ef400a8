-- A walk of lawful rows: what is known at row i of the rows i to j, of its children and of the rows after it, and how it flattens.
use Rattle.std.specs.Prelude.{ℕ, ◌+◌, ◌*◌, ◌≤◌, ◌<◌, Bool, true, ◌&&◌, List, [], ◌++◌, ◌≡◌, refl, eqb, length}
use Rattle.std.proofs.Math.Option.{Option, none, some}
use Rattle.std.proofs.Common.{sym, ap, ◌∙◌, arith, eq-eqb, eqb-true}
use Rattle.std.proofs.Math.Decide.{dec_le}
use Rattle.refal_rows.specs.Tests.{and_left, and_right}
use Rattle.refal_ast.specs.Nodes.{node_width, no_parent}
use Rattle.refal_ast.specs.Tree.{Program}
use Rattle.refal_ast.specs.Flatten.{Flat, flatten_p}
use Rattle.refal_tree.specs.Forest.{Row, Forest}
use Rattle.refal_tree.specs.ForestLaws.{forest_enc}
use Rattle.refal_tree.specs.States.{at_items, state_inside, state_next, below}
use Rattle.refal_tree.specs.Rules.{row_ok}
use Rattle.refal_tree.specs.Typed.{to_forest}
use Rattle.refal_tree.specs.TypedWords.{enc_tree}
use Rattle.refal_tree.specs.TypedRules.{ok_program}
use Rattle.refal_tree.specs.Views.{never}
use Rattle.refal_tree.specs.Lawful.{tree_of, of_tree}
use Rattle.refal_tree.specs.FlattenRows.{open_tokens, close_tokens, flatten_g, flatten_tree}
use Rattle.refal_tree.specs.Ranges.{row_at, kind_at, detail_at, next_at, parent_at, joined, forest_at, pick_forest, forest_of, ok_in, ok_at, forest_turn, forest_end, forest_all, ok_turn, ok_bad}

-- the tokens of rows i to j, from the state st on; all of them are under one parent, that of row i
abbrev pub flat_in : ℕ → Option Forest → List Flat
flat_in st none = []
flat_in st (some f) = flatten_g st f

abbrev pub flat_at : List ℕ → ℕ → ℕ → ℕ → List Flat
flat_at w i j st = flat_in st (forest_at w i j (parent_at w i))

-- row i of lawful rows i to j under the parent q: its next row is behind it and not past j, its parent is q, it keeps the rules, and so do its
-- children and what follows
pub record Step (w : List ℕ) (i j st left q : ℕ) : Type 0 where
  pub lo : i < next_at w i
  pub hi : next_at w i ≤ j
  pub parent : parent_at w i ≡ q
  pub here : row_ok st left (row_at w i) ≡ true
  pub kids : ok_at w (i + 1) (next_at w i) (state_inside (kind_at w i)) (below st (kind_at w i) left) i ≡ true
  pub rest : ok_at w (next_at w i) j (state_next st (kind_at w i) (detail_at w i)) left q ≡ true

pub step : (w : List ℕ) (i j st left q : ℕ) → i < j → ok_at w i j st left q ≡ true → Step w i j st left q
step w i j st left q h ok = go (dec_le (i + 1) (next_at w i)) (dec_le (next_at w i) j)
  where
    bad : (i < next_at w i → next_at w i ≤ j → ⊥) → Step w i j st left q
    bad n = never (sym (ok_bad w i j st left q h n) ∙ ok)

    go : Dec (i + 1 ≤ next_at w i) → Dec (next_at w i ≤ j) → Step w i j st left q
    go (no a) d = bad (λ lo hi. a (omega arith))
    go (yes a) (no b) = bad (λ lo hi. b hi)
    go (yes a) (yes b) =
        let k : ℕ = kind_at w i in
        let p : Bool = eqb (parent_at w i) q in
        let r : Bool = row_ok st left (row_at w i) in
        let x : Bool = p && r in
        let y : Bool = ok_at w (i + 1) (next_at w i) (state_inside k) (below st k left) i in
        let z : Bool = ok_at w (next_at w i) j (state_next st k (detail_at w i)) left q in
        let e : x && (y && z) ≡ true = sym (ok_turn w i j st left q (omega arith) b) ∙ ok in
        record {
          lo = omega arith;
          hi = b;
          parent = eqb-true (parent_at w i) q (and_left p r (and_left x (y && z) e));
          here = and_right p r (and_left x (y && z) e);
          kids = and_left y z (and_right x (y && z) e);
          rest = and_right y z (and_right x (y && z) e);
        }

-- rows that keep the rules under the parent q are under that of their first row
own_parent : (w : List ℕ) (i j st left q : ℕ) → i ≤ j → ok_at w i j st left q ≡ true → forest_at w i j q ≡ forest_at w i j (parent_at w i)
own_parent w i j st left q h ok = go (dec_le (i + 1) j)
  where
    go : Dec (i + 1 ≤ j) → forest_at w i j q ≡ forest_at w i j (parent_at w i)
    go (yes l) = ap (forest_at w i j) (sym (step w i j st left q (omega arith) ok).parent)
    go (no l) = let e : i ≡ j = omega arith in forest_end w i j q e ∙ sym (forest_end w i j (parent_at w i) e)

flat_joined : (st s₁ l₁ s₂ l₂ : ℕ) (r : Row) (o p : Option Forest) → ok_in s₁ l₁ o ≡ true → ok_in s₂ l₂ p ≡ true
    → flat_in st (joined r o p) ≡ open_tokens st r ++ (flat_in (state_inside r.kind) o ++ (close_tokens st r.kind r.detail ++ flat_in (state_next st r.kind r.detail) p))
unfolding flatten_g
flat_joined st s₁ l₁ s₂ l₂ r none p h h' = never h
flat_joined st s₁ l₁ s₂ l₂ r (some f) none h h' = never h'
flat_joined st s₁ l₁ s₂ l₂ r (some f) (some g) h h' = refl

-- its tokens: the row's opening ones, its children's, its closing ones, and those of what follows
pub flat_step : (w : List ℕ) (i j st left q : ℕ) → Step w i j st left q
    → flat_at w i j st ≡ open_tokens st (row_at w i) ++ (flat_at w (i + 1) (next_at w i) (state_inside (kind_at w i)) ++ (close_tokens st (kind_at w i) (detail_at w i) ++ flat_at w (next_at w i) j (state_next st (kind_at w i) (detail_at w i))))
flat_step w i j st left q S =
    let lo = S.lo in
    let x : ℕ = next_at w i in
    let k : ℕ = kind_at w i in
    let s : ℕ = state_next st k (detail_at w i) in
    let O : List Flat = open_tokens st (row_at w i) in
    let C : List Flat = close_tokens st k (detail_at w i) in
    let o : Option Forest = forest_at w (i + 1) x i in
    let p : Option Forest = forest_at w x j q in
    ap (λ (y : ℕ). flat_in st (forest_at w i j y)) S.parent
    ∙ ap (flat_in st) (forest_turn w i j q S.lo S.hi ∙ ap (λ (b : Bool). pick_forest b (joined (row_at w i) o p)) (eq-eqb (parent_at w i) q S.parent))
    ∙ flat_joined st _ _ _ _ (row_at w i) o p S.kids S.rest
    ∙ ap (λ (y : Option Forest). O ++ (flat_in (state_inside k) y ++ (C ++ flat_in s p))) (own_parent w (i + 1) x (state_inside k) (below st k left) i (omega arith) S.kids)
    ∙ ap (λ (y : Option Forest). O ++ (flat_at w (i + 1) x (state_inside k) ++ (C ++ flat_in s y))) (own_parent w x j s left q S.hi S.rest)

pub flat_end_lem : (w : List ℕ) (i j st : ℕ) → i ≡ j → flat_at w i j st ≡ []
unfolding flatten_g
flat_end_lem w i j st e = ap (flat_in st) (forest_end w i j (parent_at w i) e)

-- ---- all rows of a lawful tree
pub forest_tree : (left : ℕ) (w : List ℕ) (t : Program) → tree_of left w ≡ some t → forest_of w ≡ some (to_forest t)
forest_tree left w t e =
    ap forest_of ((of_tree left w t e).words ∙ sym (enc_tree t 0)) ∙ forest_enc (to_forest t)

pub flat_tree_rows : (left : ℕ) (w : List ℕ) (t : Program) (n : ℕ) → tree_of left w ≡ some t → length w ≡ node_width * n → flat_at w 0 n at_items ≡ flatten_p t
flat_tree_rows left w t n e l =
    let is : forest_at w 0 n no_parent ≡ some (to_forest t) = forest_all w n l ∙ forest_tree left w t e in
    let ok : ok_at w 0 n at_items left no_parent ≡ true = ap (ok_in at_items left) is ∙ ok_program t left (of_tree left w t e).deep in
    ap (flat_in at_items) (sym (own_parent w 0 n at_items left no_parent (omega arith) ok) ∙ is) ∙ flatten_tree t
