-- Demand 3, first half, holds of every list of token words that check 30 passes and all node words lent.
use mathlib.Core.Path.{◌≡◌, refl, sym, ap, subst, ◌∙◌}
use Prim.Native.Nat.{ℕ, ◌*◌, ◌≤◌}
use mathlib.Core.List.{List, [], ◌∷◌, ◌++◌}
use mathlib.Core.Bool.{Bool, true, false}
use native.Mathlib.Omega.{arith}
use lib.ListN.{length, take, drop, replicate}
use lib.Seq.{take_at}
use borrow.Author.Tests.{leb-true, le-leb}
use Rattle.refal_rows.specs.Rows.{pick_list}
use Rattle.refal_ast.specs.Kinds.{tok_eof}
use Rattle.refal_ast.specs.Answers.{refusal, pick_answer, Done, Refused}
use Rattle.refal_ast.specs.Tokens.{Token, tokens_of}
use Rattle.refal_ast.specs.Check.{well_formed}
use Rattle.refal_ast.specs.Tree.{Program, size_p, depth_p}
use Rattle.refal_ast.specs.Nodes.{node_width, no_parent}
use Rattle.refal_ast.specs.Encode.{enc_p}
use Rattle.refal_ast.specs.Flatten.{Flat, mark, flat_of, flats_of, Loose}
use Rattle.refal_ast.specs.Limits.{most_levels}
use Rattle.refal_parser.specs.Machine.{Outcome, tree, refuse}
use Rattle.refal_parser.specs.Parse.{parsed, fits, answer_of, rows_left, parse_answer}
use Rattle.refal_tree.specs.ForestLaws.{length_enc}
use Rattle.refal_tree.specs.Typed.{to_forest}
use Rattle.refal_tree.specs.TypedWords.{enc_tree, size_tree}
use Rattle.refal_demands.specs.Spans.{SameButSpans}
use Rattle.refal_demands.specs.Trees.{without_last, tokens_before_eof}
use Rattle.refal_demands.specs.Demand3.{Fits, parser_tree}
use Rattle.refal_demands.specs.Demand3Whole.{Exactly, Gives, Only}
use Rattle.refal_demands.proofs.Fields.{Ends, ends, plain}
use Rattle.refal_demands.proofs.Respan.{size_respan_p}
use Rattle.refal_demands.proofs.Moved.{same_rows}
use Rattle.refal_demands.proofs.Theorems.{ok_tokens_lem, soundness, completeness, uniqueness}

-- how many words a tree's rows have
pub words_of_lem : (t : Program) → length (enc_p t 0) ≡ node_width * size_p t
words_of_lem t = ap length (sym (enc_tree t 0)) ∙ length_enc (to_forest t) 0 no_parent ∙ ap (λ (n : ℕ). node_width * n) (size_tree t)

-- what an answer of success says of the outcome
pub record Success (o : Outcome) (B : List ℕ) (m : ℕ) : Type 0 where
  pub t : Program
  pub is : o ≡ tree t
  pub size : m ≡ size_p t
  pub room : node_width * size_p t ≤ length B

pub success : (o : Outcome) (B : List ℕ) (m : ℕ) → answer_of o B ≡ Done m → Success o B m
success (refuse number expected found from to) B m e = let z : ◌≡◌ {A = ℕ} 0 1 = cc in let y : ⊥ = omega arith in absurd y
success (tree t) B m e = go (fits t B) refl e
  where
    go : (b : Bool) → fits t B ≡ b → pick_answer b (Done (size_p t)) (Refused (refusal 38 0 0 0 0 (size_p t))) ≡ Done m → Success (tree t) B m
    go true f h = record { t = t; is = refl; size = cc; room = leb-true (node_width * size_p t) (length B) f }
    go false f h = let z : ◌≡◌ {A = ℕ} 0 1 = cc in let y : ⊥ = omega arith in absurd y

-- then the rows left begin with the tree's
pub parser_tree_lem : (w B : List ℕ) (m : ℕ) (t : Program) → parsed w ≡ tree t → m ≡ size_p t → node_width * size_p t ≤ length B → parser_tree w B m ≡ enc_p t 0
parser_tree_lem w B m t e s r =
    ap (λ (o : Outcome). take (node_width * m) (rows_left o B)) e
    ∙ ap (λ (b : Bool). take (node_width * m) (pick_list b (enc_p t 0 ++ drop (node_width * size_p t) B) (replicate (length B) 0))) (le-leb (node_width * size_p t) (length B) r)
    ∙ take_at (enc_p t 0) (drop (node_width * size_p t) B) (node_width * m) (words_of_lem t ∙ ap (λ (k : ℕ). node_width * k) (sym s))

pub without_last_lem : (l : List Flat) (c : Flat) → without_last (l ++ (c ∷ [])) ≡ l
without_last_lem [] c = refl
without_last_lem (x ∷ []) c = refl
without_last_lem (x ∷ y ∷ l) c = ap (λ (k : List Flat). x ∷ k) (without_last_lem (y ∷ l) c)

-- the tokens before Eof, and Eof
with_eof_lem : (ts : List Token) → Ends ts → flats_of ts ≡ without_last (flats_of ts) ++ (mark tok_eof ∷ [])
with_eof_lem [] h = absurd h
with_eof_lem (t ∷ []) h = ap (λ (c : Flat). c ∷ []) (plain t tok_eof (λ d s l. refl) h.0 h.1)
with_eof_lem (t ∷ u ∷ ts) h = ap (λ (l : List Flat). flat_of t ∷ l) (with_eof_lem (u ∷ ts) h.2)

-- the parser's tree flattens to the tokens
pub flattens : (w : List ℕ) (t : Program) → parsed w ≡ tree t → Loose t (tokens_before_eof w)
flattens w t e =
    let s = soundness w t e in
    subst (Loose t) (sym (ap without_last s.1 ∙ without_last_lem s.0 (mark tok_eof))) s.2

pub is_deep : (w : List ℕ) (t : Program) → parsed w ≡ tree t → depth_p t ≤ most_levels
is_deep w t e = (soundness w t e).3

-- what parsing accepts
pub gives : Gives
gives w B m e =
    let S = success (parsed w) B m e in
    let r : parser_tree w B m ≡ enc_p S.t 0 = parser_tree_lem w B m S.t S.is S.size S.room in
    let l : length (parser_tree w B m) ≡ node_width * size_p S.t = ap length r ∙ words_of_lem S.t in
    let s = S.size in
    let k = S.room in (
      record { lawful = record { program = S.t; rows = r }; deep = let d = is_deep w S.t S.is in omega arith; room = omega arith; flattens = flattens w S.t S.is },
      l ∙ ap (λ (x : ℕ). node_width * x) (sym s),
    )

accepted : (w B T : List ℕ) → well_formed w ≡ true → Fits w B T → (m : ℕ) × (parse_answer w B ≡ Done m)
accepted w B T g f =
    let p = f.lawful.program in
    let d = f.deep in
    let d₁ : depth_p p ≤ most_levels = omega arith in
    let c = completeness w p (tokens_before_eof w) g d₁ f.flattens (with_eof_lem (tokens_of w) (ends (tokens_of w) (ok_tokens_lem w g))) in
    let l = f.room in
    let l₁ : length T ≡ node_width * size_p p = ap length f.lawful.rows ∙ words_of_lem p in
    let s : size_p c.0 ≡ size_p p = sym (size_respan_p (λ (x : ℕ). 0) c.0) ∙ ap size_p c.2 ∙ size_respan_p (λ (x : ℕ). 0) p in
    let r : node_width * size_p c.0 ≤ length B = omega arith in (
      size_p c.0,
      ap (λ (o : Outcome). answer_of o B) c.1
          ∙ ap (λ (b : Bool). pick_answer b (Done (size_p c.0)) (Refused (refusal 38 0 0 0 0 (size_p c.0)))) (le-leb (node_width * size_p c.0) (length B) r),
    )

pub only : Only
only w B m e T t f =
    let S = success (parsed w) B m e in
    let r : parser_tree w B m ≡ enc_p S.t 0 = parser_tree_lem w B m S.t S.is S.size S.room in
    let u = same_rows t.program S.t (uniqueness t.program S.t (tokens_before_eof w) f (flattens w S.t S.is)) in
    subst (λ (x : List ℕ). SameButSpans x (parser_tree w B m)) (sym t.rows) (subst (λ (x : List ℕ). SameButSpans (enc_p t.program 0) x) (sym r) u)

pub exactly : Exactly
exactly w B g = (λ a. (parser_tree w B a.0, (gives w B a.0 a.1).0), λ a. accepted w B a.0 g a.1)
