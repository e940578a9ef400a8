-- From the program's answer to what `parse` answers and leaves.
use mathlib.Core.Path.{◌≡◌, refl, sym, ap, ◌∙◌}
use Prim.Native.Nat.{ℕ, ◌*◌, ◌≤◌, ◌<◌}
use mathlib.Core.List.{List, ◌++◌}
use mathlib.Core.Bool.{Bool, true, false, true≢false}
use Rattle.std.specs.Prelude.{Result, Ok, Err, IsErr}
use Rattle.refal_ast.specs.Told.{told, refusal_told}
use Rattle.refal_ast.specs.declared.answers.Refusal.{Refusal as Told}
use native.Mathlib.Omega.{arith}
use lib.ListN.{length, drop, replicate}
use lib.Dec.{leb}
use borrow.Author.Tests.{le-leb, lt-leb}
use Rattle.refal_rows.specs.Rows.{pick_list}
use Rattle.refal_rows.specs.Writes.{whole}
use Rattle.refal_ast.specs.Nodes.{node_width}
use Rattle.refal_ast.specs.Answers.{refusal, pick_answer, Refusal, Done, Refused}
use Rattle.refal_ast.specs.Tokens.{tokens_of}
use Rattle.refal_ast.specs.Check.{well_formed}
use Rattle.refal_ast.specs.Tree.{Program, p0, size_p}
use Rattle.refal_ast.specs.Encode.{enc_p}
use Rattle.refal_ast.specs.Limits.{most_levels}
use Rattle.refal_parser.specs.Machine.{outside, Outcome, tree, refuse, run}
use Rattle.refal_parser.specs.Parse.{pick_outcome, parsed, answer_of, rows_left, fits, parse_answer, parse_rows}
use Rattle.refal_parser.specs.Post.{runs}
use Rattle.refal_parser.specs.Writers.{w_p}
use Rattle.refal_parser.proofs.Rows.{writes_p}

pub parsed_bad : (w : List ℕ) → well_formed w ≡ false → parsed w ≡ refuse 30 0 0 0 0
unfolding parsed
parsed_bad w e = ap (λ (b : Bool). pick_outcome b (run most_levels (tokens_of w) p0 outside) (refuse 30 0 0 0 0)) e

pub parsed_good : (w : List ℕ) → well_formed w ≡ true → parsed w ≡ runs w 0 p0 outside
unfolding parsed
parsed_good w e = ap (λ (b : Bool). pick_outcome b (run most_levels (tokens_of w) p0 outside) (refuse 30 0 0 0 0)) e

-- the answer, where the outcome is known
pub answered : (w B : List ℕ) {o : Outcome} → parsed w ≡ o → answer_of o B ≡ parse_answer w B
answered w B h = sym (ap (λ (o : Outcome). answer_of o B) h)

left_refused : (w B : List ℕ) (r : Refusal) → Refused r ≡ parse_answer w B → parse_rows w B ≡ replicate (length B) 0
left_refused w B r e = by (parsed w) e
  where
    fit : (t : Program) (x : Bool) → Refused r ≡ pick_answer x (Done (size_p t)) (Refused (refusal 38 0 0 0 0 (size_p t))) →
        pick_list x (enc_p t 0 ++ drop (node_width * size_p t) B) (replicate (length B) 0) ≡ replicate (length B) 0
    fit t true e = cc
    fit t false e = refl

    by : (o : Outcome) → Refused r ≡ answer_of o B → rows_left o B ≡ replicate (length B) 0
    by (refuse a b c d x) e = refl
    by (tree t) e = fit t (fits t B) e

-- a refusal leaves every word 0
pub refused_rows : (w B : List ℕ) (r : Result ℕ Told) → IsErr r → told r ≡ parse_answer w B → parse_rows w B ≡ replicate (length B) 0
refused_rows w B (Ok n) e a = absurd (true≢false (sym e))
refused_rows w B (Err x) e a = left_refused w B (refusal_told x) a

-- the answer and the rows for a tree, by whether it fits
fitted : (B : List ℕ) (t : Program) (b : Bool) → leb (node_width * size_p t) (length B) ≡ b →
    (answer_of (tree t) B ≡ pick_answer b (Done (size_p t)) (Refused (refusal 38 0 0 0 0 (size_p t)))) ×
    (rows_left (tree t) B ≡ pick_list b (enc_p t 0 ++ drop (node_width * size_p t) B) (replicate (length B) 0))
fitted B t b e = (
  ap (λ (x : Bool). pick_answer x (Done (size_p t)) (Refused (refusal 38 0 0 0 0 (size_p t)))) e,
  ap (λ (x : Bool). pick_list x (enc_p t 0 ++ drop (node_width * size_p t) B) (replicate (length B) 0)) e,
)

pub done : (w B B' : List ℕ) (t : Program) (m : ℕ) → parsed w ≡ tree t → m ≡ size_p t → node_width * m ≤ length B' → length B' ≡ length B → B' ≡ w_p t 0 B →
    (Done m ≡ parse_answer w B) × (B' ≡ parse_rows w B)
done w B B' t m h e l k r =
    let l' : node_width * size_p t ≤ length B = omega arith in
    let z = fitted B t true (le-leb (node_width * size_p t) (length B) l') in
    (ap Done e ∙ sym z.0 ∙ answered w B h, r ∙ whole B (writes_p t 0) l' ∙ sym (ap (λ (o : Outcome). rows_left o B) h ∙ z.1))

pub full : (w B : List ℕ) (t : Program) (m : ℕ) → parsed w ≡ tree t → m ≡ size_p t → length B < node_width * m → Refused (refusal 38 0 0 0 0 m) ≡ parse_answer w B
full w B t m h e l =
    let l' : length B < node_width * size_p t = omega arith in
    let z = fitted B t false (lt-leb (node_width * size_p t) (length B) l') in
    ap (λ (x : ℕ). Refused (refusal 38 0 0 0 0 x)) e ∙ sym z.0 ∙ answered w B h
