-- What reading gives stands on character boundaries: spans, texts, and the spans of refusals.
use Prim.Native.Nat.{ℕ, zero, suc, ◌+◌, ◌-◌, ◌*◌, ◌/◌, ◌≤◌}
use Rattle.std.proofs.Common.{add-zero, ltb-false, ap, sym, ◌∙◌, take_at}
use native.Mathlib.Omega.{arith}
use mathlib.Core.List.{List, [], ◌∷◌, ◌++◌}
use Rattle.std.specs.Prelude.{Bool, true, ◌≡◌, refl, leb, ltb, length, take, drop}
use Rattle.std.proofs.Math.Bool.{false}
use Rattle.std.proofs.Math.Path.{subst}
use Rattle.refal_text.specs.Pick.{split}
use Rattle.refal_text.specs.Utf8.{well_to}
use Rattle.refal_ast.specs.Tokens.{Token as Tok, flat, tokens_of, tokens_flat, length_flat}
use Rattle.refal_ast.specs.Answers.{Answer}
use Rattle.refal_lexer.specs.Carried.{line_after, lex_by}
use Rattle.refal_lexer.specs.LineLaws.{white_in}
use Rattle.refal_lexer.specs.Lex.{Stop, fine, bad, Out, stopped}
use Rattle.refal_lexer.specs.Read.{fitted, answer_by, kept, rows_by, read_answer, read_rows}
use Rattle.refal_lexer.specs.Boundaries.{Boundary, first, Well, AllOn, all_none, all_more, StopOn, OutOn, AnswerOn}
use Rattle.refal_lexer.specs.BoundaryLaws.{boundary_in, well_boundary}
use Rattle.refal_lexer.specs.EndLaws.{Here, moved, past, stands, here_is, last, white_end, EndsComment, ends_comment, EndsFound, ends_found}
use Rattle.refal_lexer.specs.Tokens.{Found, found, refused, token_at}
use Rattle.refal_lexer.specs.Source.{on_found}
use Rattle.refal_lexer.specs.BlankLaws.{comment_in}
use Rattle.refal_lexer.specs.PlaceLaws.{FoundIn, found_in}
use Rattle.refal_lexer.specs.TurnCases.{turn_cases}
use Rattle.refal_lexer.specs.StarLaws.{source_is}

module _ (src : List ℕ) (w : Well src) where
  -- from `at` on, of which the first `skip` bytes are taken
  lex_on : (skip at : ℕ) (line : Bool) (s : List ℕ) → skip ≤ length s → Here src (at + skip) (drop skip s) → OutOn src (lex_by skip at line s)
  unfolding lex_by
  lex_on skip at line [] l h =
      let b : Boundary src at = subst (Boundary src) (let z : at + skip ≡ at = omega arith in z) (stands src w (at + skip) (drop skip []) h) in
      record { tokens = all_more (record { from = b; to = b; start = first; end = first }) all_none; stop = tt }
  lex_on (suc k) at line (b ∷ s) l h = lex_on k (suc at) line s (omega arith) (moved (let z : at + suc k ≡ suc at + k = omega arith in z) h)
  lex_on zero at line (b ∷ s) l h =
      turn_cases (OutOn src) line at b s (λ k. lex_by k (suc at) (line_after b at line) s) (λ k. lex_by k (suc at) false s) (λ k. lex_by k (suc at) false s)
      (λ k e. let i = white_in b s k e in lex_on k (suc at) (line_after b at line) s i (behind k i (white_end src w at b k s here e)))
      (λ n e. let c = comment_in line (b ∷ s) n (omega arith) e in let lo = c.0 in let hi = c.1 in
      lex_on (n - 1) (suc at) false s (omega arith) (behind (n - 1) (omega arith) (subst (Boundary src) (let z : at + n ≡ at + suc (n - 1) = omega arith in z) (subst (EndsComment src w at) e (ends_comment src w at line b s here.at)))))
      (λ e. record { tokens = all_none; stop = (a, last src w at (b ∷ s) here.at) })
      (on (token_at at (b ∷ s)) (found_in at (b ∷ s) (omega arith)) (ends_found src w at b s here) (λ k. lex_on k (suc at) false s))
    where
      here : Here src at (b ∷ s)
      here = moved (add-zero at) h

      a : Boundary src at
      a = stands src w at (b ∷ s) here

      Go : ℕ → Out
      Go k = lex_by k (suc at) false s

      -- what stands k bytes past b
      behind : (k : ℕ) → k ≤ length s → Boundary src (at + suc k) → Here src (suc at + k) (drop k s)
      behind k i e =
          let p = past src w at (suc at + k) (suc k) (b ∷ s) here.at (omega arith) (omega arith) in
          here_is src w (suc at + k) (drop k s) p (subst (Boundary src) (let z : at + suc k ≡ suc at + k = omega arith in z) e)

      on : (x : Found) → FoundIn at (at + suc (length s)) x → EndsFound src w x → ((k : ℕ) → k ≤ length s → Here src (suc at + k) (drop k s) → OutOn src (Go k)) → OutOn src (on_found at x Go)
      on (found ts end) p e ih =
          let lo = p.0 in
          let hi = p.1 in
          let r = ih (end - suc at) (omega arith) (behind (end - suc at) (omega arith) (subst (Boundary src) (let z : end ≡ at + suc (end - suc at) = omega arith in z) e.0)) in
          record { tokens = e.1 _ r.tokens; stop = r.stop }
      on (refused number start end) p e ih = record { tokens = all_none; stop = e }

-- the tokens of well-formed bytes, and what stops their reading
pub lex_boundaries : (s : List ℕ) → Well s → OutOn s (lex_by 0 0 true s)
lex_boundaries s w = lex_on s w 0 0 true s (omega arith) (record { at = record { inside = omega arith; rest = refl }; well = w })

by_lex : (s m : List ℕ) → AnswerOn s (rows_by (lex_by 0 0 true s) s m) (answer_by (lex_by 0 0 true s) s (length m))
by_lex s m =
    split P (ltb 16777216 (length s)) _ _ (λ _. (first, first)) (λ _.
    split P (ltb (well_to 0 s) (length s)) _ _ (λ _. (well_boundary s, well_boundary s)) (λ t.
    let l = ltb-false (well_to 0 s) (length s) t in
    let h = boundary_in (well_boundary s) in
    let w : Well s = omega arith in
    let o = lex_boundaries s w in
    go w o.tokens (lex_by 0 0 true s).stop o.stop))
  where
    ts : List Tok
    ts = (lex_by 0 0 true s).tokens

    P : Answer → Type 0
    P a = AnswerOn s (kept a ts m) a

    rows : tokens_of (take (6 * length ts) (flat ts ++ drop (6 * length ts) m)) ≡ ts
    rows = ap tokens_of (take_at (flat ts) (drop (6 * length ts) m) (6 * length ts) (length_flat ts)) ∙ tokens_flat ts

    go : Well s → AllOn s ts → (x : Stop) → StopOn s x → P (fitted (stopped x (length ts)) (length m / 6))
    go w h fine z = split P (leb (length ts) (length m / 6)) _ _ (λ _. (w, subst (AllOn s) (sym rows) h)) (λ _. (first, first))
    go w h (bad number from to) z = z

-- whatever reading answers, of any bytes and any words lent
pub read_boundaries : (s m : List ℕ) → AnswerOn s (read_rows s m) (read_answer s (length m))
read_boundaries s m = subst (λ (o : Out). AnswerOn s (rows_by o s m) (answer_by o s (length m))) (sym (source_is s)) (by_lex s m)
