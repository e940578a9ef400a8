-- What reading's answer says of its definition: where it is a number of tokens, the bytes were lexed to the end and their rows were left.
use Rattle.std.specs.Prelude.{ℕ, ◌*◌, ◌/◌, ◌≤◌, Bool, true, false, List, ◌++◌, ◌≡◌, refl, leb, ltb, length, drop}
use Rattle.std.proofs.Common.{arith, le-leb, le-ltb, leb-true, ltb-false, ap, sym, subst, ◌∙◌}
use Rattle.refal_text.specs.Pick.{pick}
use Rattle.refal_text.specs.Utf8.{well_to}
use Rattle.refal_ast.specs.Answers.{refusal, Answer, Refusal, Done, Refused}
use Rattle.refal_ast.specs.Tokens.{flat}
use Rattle.refal_lexer.specs.Lex.{Stop, fine, bad, Out, stopped, stop_answer}
use Rattle.refal_lexer.specs.Carried.{lex_by}
use Rattle.refal_lexer.specs.Source.{source}
use Rattle.refal_lexer.specs.StarLaws.{source_is}
use Rattle.refal_lexer.specs.Read.{fitted, answer_by, read_answer, kept, read_rows}

-- reading s with w words lent answers n
pub record Answered (s : List ℕ) (w n : ℕ) : Type 0 where
  pub short : length s ≤ 16777216
  pub well : length s ≤ well_to 0 s
  pub stops : (lex_by 0 0 true s).stop ≡ fine
  pub count : length (lex_by 0 0 true s).tokens ≡ n
  pub room : n ≤ w / 6

not_done : {A : Type 0} (r : Refusal) (n : ℕ) → Refused r ≡ Done n → A
not_done r n e = let z : ◌≡◌ {A = ℕ} 0 1 = cc in absurd (omega arith)

same_done : (k n : ℕ) → Done k ≡ Done n → k ≡ n
same_done k n e = cc

by_lex : (s : List ℕ) (w : ℕ) → read_answer s w ≡ answer_by (lex_by 0 0 true s) s w
by_lex s w = ap (λ (o : Out). answer_by o s w) (source_is s)

lexed : (s : List ℕ) (w n : ℕ) → answer_by (lex_by 0 0 true s) s w ≡ Done n → Answered s w n
lexed s w n = long (ltb 16777216 (length s)) refl
  where
    fits : (k : ℕ) (b : Bool) → leb k (w / 6) ≡ b → pick b (Done k) (Refused (refusal 25 0 0 0 0 k)) ≡ Done n → (k ≡ n) × (k ≤ w / 6)
    fits k true e f = (same_done k n f, leb-true _ _ e)
    fits k false e f = not_done _ n f

    stop : (k : ℕ) (x : Stop) → (lex_by 0 0 true s).stop ≡ x → length (lex_by 0 0 true s).tokens ≡ k
        → fitted (stopped x k) (w / 6) ≡ Done n → length s ≤ 16777216 → length s ≤ well_to 0 s → Answered s w n
    stop k fine e c f l i =
        let g = fits k (leb k (w / 6)) refl f in
        record { short = l; well = i; stops = e; count = c ∙ g.0; room = subst (λ (m : ℕ). m ≤ w / 6) g.0 g.1 }
    stop k (bad x y z) e c f l i = not_done _ n f

    ill : (b : Bool) → ltb (well_to 0 s) (length s) ≡ b → length s ≤ 16777216
        → pick b (Refused (refusal 2 0 0 (well_to 0 s) (well_to 0 s) 0)) (fitted (stop_answer (lex_by 0 0 true s)) (w / 6)) ≡ Done n → Answered s w n
    ill true e l f = not_done _ n f
    ill false e l f = stop (length (lex_by 0 0 true s).tokens) (lex_by 0 0 true s).stop refl refl f l (ltb-false _ _ e)

    long : (b : Bool) → ltb 16777216 (length s) ≡ b
        → pick b (Refused (refusal 1 0 0 0 0 0))
        (pick (ltb (well_to 0 s) (length s)) (Refused (refusal 2 0 0 (well_to 0 s) (well_to 0 s) 0)) (fitted (stop_answer (lex_by 0 0 true s)) (w / 6))) ≡ Done n → Answered s w n
    long true e f = not_done _ n f
    long false e f = ill (ltb (well_to 0 s) (length s)) refl (ltb-false _ _ e) f

pub answered : (s : List ℕ) (w n : ℕ) → read_answer s w ≡ Done n → Answered s w n
answered s w n e = lexed s w n (sym (by_lex s w) ∙ e)

-- and back
pub answers : (s : List ℕ) (w n : ℕ) → Answered s w n → read_answer s w ≡ Done n
answers s w n a =
    by_lex s w ∙ rw (le-ltb _ _ a.short, le-ltb _ _ a.well, a.stops, a.count, le-leb _ _ a.room) refl

-- the words left: the tokens' rows, and behind them what was there
pub rows_left_lem : (s m : List ℕ) (n : ℕ) → read_answer s (length m) ≡ Done n → read_rows s m ≡ flat (lex_by 0 0 true s).tokens ++ drop (6 * n) m
rows_left_lem s m n e = ap (λ (x : Answer). kept x (source s).tokens m) e ∙ ap (λ (o : Out). flat o.tokens ++ drop (6 * n) m) (source_is s)
