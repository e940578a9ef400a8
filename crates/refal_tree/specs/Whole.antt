-- The test for refusal 40 as a check of all rows.
use Rattle.std.specs.Prelude.{ℕ, ◌*◌, ◌%◌, ◌≤◌, ◌<◌, Bool, true, false, ◌&&◌, List, ◌≡◌, refl, eqb, leb, length}
use Rattle.std.proofs.Math.Bool.{and-false}
use Rattle.std.proofs.Math.Option.{Option, none, some}
use Rattle.std.proofs.Common.{sym, ap, ◌∙◌, arith, eq-eqb, ne_eqb, le-leb}
use Rattle.std.proofs.lemmas.Bool.{lt-leb}
use Rattle.refal_ast.specs.Limits.{most_rows, most_levels}
use Rattle.refal_ast.specs.Nodes.{node_width, no_parent}
use Rattle.refal_tree.specs.Forest.{Forest}
use Rattle.refal_tree.specs.States.{at_items}
use Rattle.refal_tree.specs.Rules.{ok_g}
use Rattle.refal_tree.specs.Typed.{program_of}
use Rattle.refal_tree.specs.Lawful.{pick_tree, tree_in, tree_of, found, lawful}
use Rattle.refal_tree.specs.Ranges.{forest_of, forest_all, ok_in, ok_at}

pub not_whole : (w : List ℕ) → (length w % node_width ≡ 0 → ⊥) → lawful w ≡ false
unfolding lawful
not_whole w h = rw (ne_eqb (length w % node_width) 0 h)

pub too_many : (w : List ℕ) → node_width * most_rows < length w → lawful w ≡ false
unfolding lawful
too_many w h =
    ap (λ (b : Bool). (eqb (length w % node_width) 0 && b) && found (tree_of most_levels w)) (lt-leb (length w) (node_width * most_rows) h)
    ∙ ap (λ (b : Bool). b && found (tree_of most_levels w)) (and-false (eqb (length w % node_width) 0))

found_is : (left : ℕ) (o : Option Forest) → found (tree_in left o) ≡ ok_in at_items left o
found_is left none = refl
found_is left (some f) = go (ok_g at_items left f)
  where
    go : (b : Bool) → found (pick_tree b (program_of f)) ≡ b
    go true = refl
    go false = refl

pub all_rows : (w : List ℕ) (n : ℕ) → length w ≡ node_width * n → n ≤ most_rows → lawful w ≡ ok_at w 0 n at_items most_levels no_parent
unfolding lawful tree_of
all_rows w n e h =
    ap (λ (b : Bool). (b && leb (length w) (node_width * most_rows)) && found (tree_in most_levels (forest_of w))) (eq-eqb (length w % node_width) 0 (omega arith))
    ∙ ap (λ (b : Bool). b && found (tree_in most_levels (forest_of w))) (le-leb (length w) (node_width * most_rows) (omega arith))
    ∙ found_is most_levels (forest_of w)
    ∙ ap (ok_in at_items most_levels) (sym (forest_all w n e))
