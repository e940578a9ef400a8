-- Laws of `write`: what it answers and leaves at each of its ways out, and that the walk writes the tree's text.
use Rattle.std.specs.Prelude.{Result, Ok, Err, ℕ, ◌*◌, ◌/◌, ◌%◌, ◌≤◌, Bool, true, false, ◌&&◌, List, ◌++◌, ◌≡◌, refl, eqb, leb, replicate}
use Rattle.std.proofs.Common.{arith, true≢false, ◌∙◌, eqb-true, leb-true}
use Rattle.std.proofs.Math.Option.{Option, none, some}
use Rattle.std.proofs.Math.Path.{ap, sym, subst}
use Rattle.std.proofs.Math.ListN.{length, drop}
use Rattle.refal_rows.specs.Tests.{and_left, and_right}
use Rattle.refal_ast.specs.Tree.{Program}
use Rattle.refal_ast.specs.Nodes.{node_width, no_parent}
use Rattle.std.specs.Result.{is_err}
use Rattle.refal_ast.specs.Told.{told}
use Rattle.refal_ast.specs.declared.answers.Refusal.{Refusal as Told}
use Rattle.refal_ast.specs.Answers.{Answer, Done}
use Rattle.refal_tree.specs.States.{at_items}
use Rattle.refal_ast.specs.Limits.{most_bytes, most_rows, most_levels}
use Rattle.refal_tree.specs.Lawful.{tree_of, found, lawful}
use Rattle.refal_tree.specs.Whole.{all_rows}
use Rattle.refal_tree.specs.Walk.{flat_at, flat_tree_rows}
use Rattle.refal_spelling.specs.Spellings.{all_spelled}
use Rattle.refal_writer.specs.Write.{written, tree_text, refuse, write_answer, write_bytes, left}
use Rattle.refal_writer.specs.Puts.{poured, poured_fits}
use Rattle.refal_writer.specs.Token.{text_of}
use Rattle.refal_writer.specs.Walk.{Walks}

-- what is known of lawful words: whole rows, not too many, and their tree
record Known (w : List ℕ) : Type 0 where
  tree : Program
  is : tree_of most_levels w ≡ some tree
  whole : length w ≡ node_width * (length w / node_width)
  few : length w / node_width ≤ most_rows

known : (w : List ℕ) → lawful w ≡ true → Known w
unfolding lawful
known w h = go (tree_of most_levels w) refl
  where
    x : Bool
    x = eqb (length w % node_width) 0

    y : Bool
    y = leb (length w) (node_width * most_rows)

    go : (o : Option Program) → tree_of most_levels w ≡ o → Known w
    go none e = absurd (true≢false (sym (and_right (x && y) (found (tree_of most_levels w)) h) ∙ ap found e))
    go (some t) e =
        let a : length w % node_width ≡ 0 = eqb-true _ _ (and_left x y (and_left (x && y) (found (tree_of most_levels w)) h)) in
        let b : length w ≤ node_width * most_rows = leb-true _ _ (and_right x y (and_left (x && y) (found (tree_of most_levels w)) h)) in
        record { tree = t; is = e; whole = omega arith; few = omega arith }

module _ (w src : List ℕ) (h : lawful w ≡ true) where
  pub lawful_few : length w / node_width ≤ most_rows
  lawful_few = (known w h).few

  pub lawful_walks : Walks w 0 (length w / node_width) at_items
  lawful_walks = let k = known w h in record { left = most_levels; parent = no_parent; ok = sym (all_rows w (length w / node_width) k.whole k.few) ∙ h }

  pub written_is : text_of src (flat_at w 0 (length w / node_width) at_items) ≡ written w src
  unfolding written
  written_is = let k = known w h in ap (text_of src) (flat_tree_rows most_levels w k.tree (length w / node_width) k.is k.whole) ∙ sym (ap (tree_text src) k.is)

-- ---- the ways out
pub record Answers (a : Answer) (w src old new : List ℕ) : Type 0 where
  pub answer : a ≡ write_answer w src old
  pub bytes : new ≡ write_bytes w src old

module _ (w src old new : List ℕ) where
  decided : (a : Answer) → write_answer w src old ≡ a → new ≡ left a (written w src) old → Answers a w src old new
  unfolding write_bytes
  decided a e f = record { answer = sym e; bytes = f ∙ sym (ap (λ (b : Answer). left b (written w src) old) e) }

  pub unlawful : lawful w ≡ false → new ≡ replicate (length old) 0 → Answers (refuse 40 0) w src old new
  unfolding write_answer
  unlawful h f = decided (refuse 40 0) (rw h refl) f

  pub misspelled : lawful w ≡ true → all_spelled src w ≡ false → new ≡ replicate (length old) 0 → Answers (refuse 41 0) w src old new
  unfolding write_answer
  misspelled h s f = decided (refuse 41 0) (rw (h, s) refl) f

  -- zeros where it is refused
  pub refused_bytes : (r : Result ℕ Told) → told r ≡ write_answer w src old → is_err r ≡ true → write_bytes w src old ≡ replicate (length old) 0
  unfolding write_bytes
  refused_bytes (Err r) e h = ap (λ (b : Answer). left b (written w src) old) (sym e)
  refused_bytes (Ok n) e h = absurd (true≢false (sym h))

  module _ (n : ℕ) (h : lawful w ≡ true) (s : all_spelled src w ≡ true) (c : n ≡ length (written w src)) where
    pub too_long : leb n (length old) && leb n most_bytes ≡ false → new ≡ replicate (length old) 0 → Answers (refuse 42 n) w src old new
    unfolding write_answer
    too_long t f = decided (refuse 42 n) (rw (h, s, ← c, t) refl) f

    pub done : leb n (length old) && leb n most_bytes ≡ true → new ≡ poured (written w src) old → Answers (Done n) w src old new
    unfolding write_answer
    done t p =
        let fits : length (written w src) ≤ length old = subst (λ (k : ℕ). k ≤ length old) c (leb-true _ _ (and_left (leb n (length old)) (leb n most_bytes) t)) in
        decided (Done n) (rw (h, s, ← c, t) refl) (p ∙ poured_fits (written w src) old fits ∙ ap (λ (k : ℕ). written w src ++ drop k old) (sym c))
