-- Demand 3 whole: part 3, the round trip, from what writing's answer says of its text.
use mathlib.Core.Path.{◌≡◌, refl, sym, ap, subst, ◌∙◌}
use Prim.Native.Nat.{ℕ, ◌≤◌}
use mathlib.Core.Bool.{Bool, true, false, not}
use mathlib.Core.List.{List}
use native.Mathlib.Omega.{arith}
use lib.Dec.{leb}
use lib.ListN.{length, take, drop}
use lib.Seq.{take_at}
use borrow.Author.Tests.{leb-true}
use Rattle.refal_rows.specs.Tests.{and_right}
use Rattle.refal_ast.specs.Answers.{pick_answer, Answer, Refusal, Done, Refused}
use Rattle.refal_ast.specs.Flatten.{flatten_p}
use Rattle.refal_ast.specs.Limits.{most_levels}
use Rattle.refal_tree.specs.Lawful.{tree_of, tree_of_lem, lawful}
use Rattle.refal_spelling.specs.Answered.{answered}
use Rattle.refal_spelling.specs.Spell.{views, text}
use Rattle.refal_spelling.specs.Spellings.{all_spelled}
use Rattle.refal_ast.specs.Limits.{most_bytes}
use Rattle.refal_writer.specs.Write.{tree_text, written, text_fits, refuse, write_answer, left, write_bytes}
use Rattle.refal_demands.specs.RoundTrip.{Accepted, tree_rows, RowsSuffice, Again}
use Rattle.refal_demands.specs.Demand3Whole.{Back, By42Alone, Demand3Whole}
use Rattle.refal_demands.proofs.Demand3.{exactly, gives, only}
use Rattle.refal_demands.proofs.RoundTrip.{OfReading, of_reading, lawful_read, round_trip}
use Rattle.refal_demands.proofs.SpelledRows.{rows_spelled}

-- ---- what writing answers on a lawful tree that is spelled well: all depends on the length
pub sized : ℕ → ℕ → Answer
sized n room = pick_answer (text_fits n room) (Done n) (refuse 42 n)

answer_sized : (w s out : List ℕ) → lawful w ≡ true → all_spelled s w ≡ true → write_answer w s out ≡ sized (length (written w s)) (length out)
unfolding write_answer sized
answer_sized w s out l a =
    let rest : Answer = sized (length (written w s)) (length out) in
    ap (λ (b : Bool). pick_answer (not b) (refuse 40 0) (pick_answer (not (all_spelled s w)) (refuse 41 0) rest)) l
    ∙ ap (λ (b : Bool). pick_answer (not b) (refuse 41 0) rest) a

-- success: as many bytes, and not too many
sized_done : (n room k : ℕ) → sized n room ≡ Done k → (n ≡ k) × (n ≤ most_bytes)
unfolding sized
sized_done n room k = go (text_fits n room) refl
  where
    go : (b : Bool) → text_fits n room ≡ b → pick_answer b (Done n) (refuse 42 n) ≡ Done k → (n ≡ k) × (n ≤ most_bytes)
    go true f e = (cc, leb-true n most_bytes (and_right (leb n room) (leb n most_bytes) f))
    go false f e = let z : ◌≡◌ {A = ℕ} 0 1 = cc in absurd (omega arith)

-- refusal: 42
sized_refused : (n room : ℕ) (r : Refusal) → sized n room ≡ Refused r → r.number ≡ 42
unfolding sized
sized_refused n room r = go (text_fits n room)
  where
    go : (b : Bool) → pick_answer b (Done n) (refuse 42 n) ≡ Refused r → r.number ≡ 42
    go true e = let z : ◌≡◌ {A = ℕ} 0 1 = cc in absurd (omega arith)
    go false e = cc

-- the bytes that writing answers with
bytes_left : (w s out : List ℕ) (k : ℕ) → write_answer w s out ≡ Done k → length (written w s) ≡ k → take k (write_bytes w s out) ≡ written w s
unfolding write_bytes
bytes_left w s out k e n = ap (λ (x : Answer). take k (left x (written w s) out)) e ∙ take_at (written w s) (drop k out) k n

-- ---- the parser's tree
module _ (s M B : List ℕ) (a : Accepted s M B) where
  read_tree : OfReading s M B a
  read_tree = of_reading s M B a

  read_spelled : all_spelled s (tree_rows a) ≡ true
  read_spelled = ap (all_spelled s) read_tree.rows ∙ rows_spelled s (answered s (length M) a.n a.reads).short read_tree.t read_tree.sound

  read_written : written (tree_rows a) s ≡ text (views s (flatten_p read_tree.t))
  unfolding written
  read_written = ap (tree_text s) (ap (tree_of most_levels) read_tree.rows ∙ tree_of_lem most_levels read_tree.t read_tree.deep)

  read_answer_lem : (out : List ℕ) → write_answer (tree_rows a) s out ≡ sized (length (written (tree_rows a) s)) (length out)
  read_answer_lem out = answer_sized (tree_rows a) s out (lawful_read s M B a) read_spelled

  back_text : (t : List ℕ) → t ≡ text (views s (flatten_p read_tree.t)) → length t ≤ most_bytes → (M' B' : List ℕ) → RowsSuffice t a.m M' B' → Again s (tree_rows a) t M' B'
  back_text t e l M' B' f =
      subst (λ (x : List ℕ). Again s (tree_rows a) x M' B') (sym e)
      (round_trip s M B a read_tree M' B' (subst (λ (x : List ℕ). length x ≤ most_bytes) e l) (subst (λ (x : List ℕ). RowsSuffice x a.m M' B') e f))

pub back : Back
back s M B a out k e M' B' f =
    let z = sized_done (length (written (tree_rows a) s)) (length out) k (sym (read_answer_lem s M B a out) ∙ e) in
    let b : take k (write_bytes (tree_rows a) s out) ≡ written (tree_rows a) s = bytes_left (tree_rows a) s out k e z.0 in
    back_text s M B a (take k (write_bytes (tree_rows a) s out)) (b ∙ read_written s M B a) (subst (λ (x : List ℕ). length x ≤ most_bytes) (sym b) z.1) M' B' f

pub by_42_alone : By42Alone
by_42_alone s M B a out r e = sized_refused (length (written (tree_rows a) s)) (length out) r (sym (read_answer_lem s M B a out) ∙ e)

pub demand3_whole : Demand3Whole
demand3_whole = record { exactly = exactly; gives = gives; only = only; back = back; by_42_alone = by_42_alone }
