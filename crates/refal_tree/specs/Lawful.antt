-- Lawful trees of rows: the tree that a list of words is, if it is one, and the test for refusal 40. A list of words is lawful exactly
-- when it is the rows of a tree, nexts and parents included, that is no deeper than 64 and has at most 33,554,432 rows.
use Rattle.std.specs.Prelude.{ℕ, ◌*◌, ◌%◌, ◌≤◌, Bool, true, false, ◌&&◌, List, ◌↔◌, ◌≡◌, refl, leb, length}
use Rattle.std.proofs.Math.Option.{Option, none, some}
use Rattle.std.proofs.Common.{sym, ap, subst, ◌∙◌, arith, leb-true, le-leb, eq-eqb}
use Rattle.std.proofs.Math.Nat.{mul-mod_right}
use Rattle.refal_rows.specs.Tests.{and_left, and_right}
use Rattle.refal_ast.specs.Tree.{Program, size_p, depth_p}
use Rattle.refal_ast.specs.Limits.{most_rows, most_levels}
use Rattle.refal_ast.specs.Nodes.{node_width, no_parent, whole_rows}
use Rattle.refal_ast.specs.Encode.{enc_p}
use Rattle.refal_tree.specs.Forest.{Forest, enc_g}
use Rattle.refal_tree.specs.Ranges.{forest_of}
use Rattle.refal_tree.specs.ForestLaws.{forest_enc, enc_forest, length_enc}
use Rattle.refal_tree.specs.States.{at_items}
use Rattle.refal_tree.specs.Rules.{ok_g}
use Rattle.refal_tree.specs.Typed.{to_forest, program_of}
use Rattle.refal_tree.specs.TypedWords.{enc_tree, size_tree}
use Rattle.refal_tree.specs.TypedRules.{ok_program, back_program}
use Rattle.refal_tree.specs.Sound.{sound_forest, sound_deep}
use Rattle.refal_tree.specs.Views.{never}

abbrev pub pick_tree : Bool → Program → Option Program
pick_tree true t = some t
pick_tree false t = none

-- a forest whose rows keep the rules, as a tree
abbrev pub tree_in : ℕ → Option Forest → Option Program
tree_in left none = none
tree_in left (some f) = pick_tree (ok_g at_items left f) (program_of f)

-- the tree, no deeper than `left`, that a list of words is
unfoldable pub tree_of : ℕ → List ℕ → Option Program
tree_of left w = tree_in left (forest_of w)

abbrev pub found : Option Program → Bool
found none = false
found (some t) = true

-- the test for refusal 40: whole rows, not too many, and a lawful tree of depth 64 or less
unfoldable pub lawful : List ℕ → Bool
lawful w = (whole_rows w && leb (length w) (node_width * most_rows)) && found (tree_of most_levels w)

-- ---- the rows of a tree, and nothing else
pub tree_of_lem : (left : ℕ) (t : Program) → depth_p t ≤ left → tree_of left (enc_p t 0) ≡ some t
unfolding tree_of
tree_of_lem left t d =
    ap (λ (l : List ℕ). tree_in left (forest_of l)) (sym (enc_tree t 0))
    ∙ ap (tree_in left) (forest_enc (to_forest t))
    ∙ ap (λ (b : Bool). pick_tree b (program_of (to_forest t))) (ok_program t left d)
    ∙ ap some (back_program t)

-- t is the tree of the words w, and no deeper than `left`
pub record IsTree (left : ℕ) (w : List ℕ) (t : Program) : Type 0 where
  pub words : w ≡ enc_p t 0
  pub deep : depth_p t ≤ left

pub of_tree : (left : ℕ) (w : List ℕ) (t : Program) → tree_of left w ≡ some t → IsTree left w t
unfolding tree_of
of_tree left w t e = go (forest_of w) refl e
  where
    ok : (f : Forest) → forest_of w ≡ some f → (b : Bool) → ok_g at_items left f ≡ b → pick_tree b (program_of f) ≡ some t → IsTree left w t
    ok f q true h e =
        let u : program_of f ≡ t = cc in
        subst (IsTree left w) u
        (record { words = enc_forest w f q ∙ ap (λ (g : Forest). enc_g g 0 no_parent) (sym (sound_forest f left h)) ∙ enc_tree (program_of f) 0; deep = sound_deep f left h })
    ok f q false h e = let z : ◌≡◌ {A = ℕ} 0 1 = cc in absurd (omega arith)

    go : (o : Option Forest) → forest_of w ≡ o → tree_in left o ≡ some t → IsTree left w t
    go none q e = let z : ◌≡◌ {A = ℕ} 0 1 = cc in absurd (omega arith)
    go (some f) q e = ok f q (ok_g at_items left f) refl e

-- ---- what the test says
pub record LawfulRows (w : List ℕ) : Type 0 where
  pub tree : Program
  pub words : w ≡ enc_p tree 0
  pub deep : depth_p tree ≤ most_levels
  pub few : size_p tree ≤ most_rows

-- how many words a tree has
pub length_tree : (t : Program) → length (enc_p t 0) ≡ node_width * size_p t
length_tree t = ap length (sym (enc_tree t 0)) ∙ length_enc (to_forest t) 0 no_parent ∙ ap (λ (n : ℕ). node_width * n) (size_tree t)

pub lawful_is : (w : List ℕ) → (lawful w ≡ true) ↔ LawfulRows w
unfolding lawful
lawful_is w = (λ h. yes h (tree_of most_levels w) refl, no)
  where
    whole : Bool
    whole = whole_rows w && leb (length w) (node_width * most_rows)

    yes : lawful w ≡ true → (o : Option Program) → tree_of most_levels w ≡ o → LawfulRows w
    yes h none q = let e : found none ≡ true = ap found (sym q) ∙ and_right whole (found (tree_of most_levels w)) h in never e
    yes h (some t) q =
        let T = of_tree most_levels w t q in
        let l = leb-true (length w) (node_width * most_rows) (and_right (whole_rows w) (leb (length w) (node_width * most_rows)) (and_left whole (found (tree_of most_levels w)) h)) in
        let m : length w ≡ node_width * size_p t = ap length T.words ∙ length_tree t in
        record { tree = t; words = T.words; deep = T.deep; few = omega arith }

    no : LawfulRows w → lawful w ≡ true
    no x =
        let m : length w ≡ node_width * size_p x.tree = ap length x.words ∙ length_tree x.tree in
        let f = x.few in
        let z : length w % node_width ≡ 0 = ap (λ (n : ℕ). n % node_width) m ∙ mul-mod_right node_width (size_p x.tree) in
        let o : found (tree_of most_levels w) ≡ true = ap (λ (l : List ℕ). found (tree_of most_levels l)) x.words ∙ ap found (tree_of_lem most_levels x.tree x.deep) in
        rw (eq-eqb (length w % node_width) 0 z, le-leb (length w) (node_width * most_rows) (omega arith)) o
