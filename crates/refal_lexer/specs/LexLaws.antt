-- Laws of a loop that puts rows: what a turn does, and what is left at its end.
use Rattle.std.specs.Prelude.{ℕ, ◌+◌, List, ◌≡◌, refl, length}
use Rattle.std.proofs.Common.{zero-add, arith, ap, ◌∙◌, sym, subst, length-append}
use Rattle.refal_ast.specs.Answers.{refusal, Answer, Done, Refused}
use Rattle.refal_ast.specs.Tokens.{Token, token, words}
use Rattle.refal_rows.specs.Rows.{put_row}
use Rattle.refal_lexer.specs.Puts.{put_tokens, put_append}
use Rattle.refal_lexer.specs.Lex.{Stop, Out, more_all, stop_bad, eof_at, stopped, stop_answer}

-- ---- a loop that puts rows: what is still to come from here, o, with n rows put and the words m, leads to what came of all, o₀ and m₀
pub record Leads (o o₀ : Out) (m m₀ : List ℕ) (n : ℕ) : Type 0 where
  pub stop : o.stop ≡ o₀.stop
  pub count : n + length o.tokens ≡ length o₀.tokens
  pub words : put_tokens m n o.tokens ≡ put_tokens m₀ 0 o₀.tokens

pub leads_start : (o : Out) (m : List ℕ) → Leads o o m m 0
leads_start o m = record { stop = refl; count = zero-add _; words = refl }

pub leads_on : (o p o₀ : Out) (m m₀ : List ℕ) (n : ℕ) → o ≡ p → Leads o o₀ m m₀ n → Leads p o₀ m m₀ n
leads_on o p o₀ m m₀ n e h = subst (λ (q : Out). Leads q o₀ m m₀ n) e h

pub leads_rows : (o p o₀ : Out) (ts : List Token) (m m' m₀ : List ℕ) (n k : ℕ) → o ≡ more_all ts p → m' ≡ put_tokens m n ts → k ≡ n + length ts → Leads o o₀ m m₀ n → Leads p o₀ m' m₀ k
leads_rows o p o₀ ts m m' m₀ n k e f i h =
    let g : Leads (more_all ts p) o₀ m m₀ n = leads_on o (more_all ts p) o₀ m m₀ n e h in
    record { stop = g.stop; count = omega (arith, g.count, length-append ts p.tokens); words = rw (f, i) (sym (put_append m n ts p.tokens) ∙ g.words) }

-- the loop's two ends
pub leads_bad : (o o₀ : Out) (m m₀ : List ℕ) (n number at end : ℕ) (a : Answer) → a ≡ Refused (refusal number 0 0 at end 0) → o ≡ stop_bad number at end → Leads o o₀ m m₀ n
    → (a ≡ stop_answer o₀) × (m ≡ put_tokens m₀ 0 o₀.tokens)
leads_bad o o₀ m m₀ n number at end a b e h =
    let g : Leads (stop_bad number at end) o₀ m m₀ n = leads_on o _ o₀ m m₀ n e h in
    (b ∙ ap (λ (x : Stop). stopped x (length o₀.tokens)) g.stop, g.words)

pub leads_done : (o o₀ : Out) (at : ℕ) (m m' m₀ : List ℕ) (n : ℕ) → o ≡ eof_at at → m' ≡ put_row 6 m n (words (token 17 0 0 0 at at)) → Leads o o₀ m m₀ n
    → (Done (n + 1) ≡ stop_answer o₀) × (m' ≡ put_tokens m₀ 0 o₀.tokens)
leads_done o o₀ at m m' m₀ n e f h =
    let g : Leads (eof_at at) o₀ m m₀ n = leads_on o _ o₀ m m₀ n e h in
    (ap Done g.count ∙ ap (λ (x : Stop). stopped x (length o₀.tokens)) g.stop, f ∙ g.words)
