-- Laws of the answer: the ways out of `read`, and what each leaves in the words.
use Rattle.std.specs.Prelude.{ℕ, ◌*◌, ◌/◌, ◌<◌, ◌≤◌, List, ◌++◌, ◌≡◌, refl, length, drop}
use Rattle.std.proofs.Common.{le-leb, lt-ltb, le-ltb, arith, ap, ◌∙◌, sym}
use Rattle.refal_text.specs.Utf8.{well_to}
use Rattle.refal_ast.specs.Answers.{refusal, Answer, Done, Refused}
use Rattle.refal_ast.specs.Tokens.{flat}
use Rattle.refal_lexer.specs.Lex.{Stop, fine, bad, Out, stopped, stop_answer}
use Rattle.refal_lexer.specs.Source.{source}
use Rattle.refal_lexer.specs.Puts.{put_tokens, put_flat}
use Rattle.refal_lexer.specs.Read.{fitted, read_answer, kept, read_rows}

-- the number of tokens is what a good end answers
count_is : (n : ℕ) (o : Out) → Done n ≡ stop_answer o → length o.tokens ≡ n
count_is n o e = go o.stop e
  where
    go : (x : Stop) → Done n ≡ stopped x (length o.tokens) → length o.tokens ≡ n
    go fine f = cc
    go (bad number from to) f = let z : ◌≡◌ {A = ℕ} 0 1 = cc in absurd (omega arith)

pub read_done : (s m m' : List ℕ) (n : ℕ) → Done n ≡ stop_answer (source s) → read_answer s (length m) ≡ fitted (Done n) (length m / 6) → n ≤ length m / 6
    → m' ≡ put_tokens m 0 (source s).tokens → (Done n ≡ read_answer s (length m)) × (m' ≡ read_rows s m)
read_done s m m' n d e l f =
    let c : length (source s).tokens ≡ n = count_is n (source s) d in
    let g : 6 * length (source s).tokens ≤ length m = omega arith in
    let a : read_answer s (length m) ≡ Done n = e ∙ rw (le-leb _ _ l) refl in (
      sym a,
      f ∙ put_flat m (source s).tokens g
          ∙ ap (λ (k : ℕ). flat (source s).tokens ++ drop (6 * k) m) c
          ∙ sym (ap (λ (x : Answer). kept x (source s).tokens m) a),
    )

pub answer_long : (s : List ℕ) (w : ℕ) → 16777216 < length s → read_answer s w ≡ Refused (refusal 1 0 0 0 0 0)
answer_long s w h = rw (lt-ltb _ _ h)

pub answer_lexed : (s : List ℕ) (w k : ℕ) (a b : Answer) → length s ≤ 16777216 → k ≡ well_to 0 s → length s ≤ k → a ≡ stop_answer (source s) → a ≡ b → read_answer s w ≡ fitted b (w / 6)
answer_lexed s w k a b h i l e f = rw (le-ltb _ _ h, ← i, le-ltb _ _ l, ← e, f)
