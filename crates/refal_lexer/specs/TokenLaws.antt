-- A source has at most as many tokens as bytes and one.
use Rattle.std.specs.Prelude.{ℕ, zero, suc, ◌+◌, ◌-◌, ◌≤◌, List, [], ◌∷◌, Bool, false, length}
use Rattle.std.proofs.Common.{arith, length-append}
use Rattle.refal_lexer.specs.Lex.{Out}
use Rattle.refal_lexer.specs.Tokens.{Found, found, refused, token_at}
use Rattle.refal_lexer.specs.Carried.{line_after, lex_by}
use Rattle.refal_lexer.specs.Source.{on_found}
use Rattle.refal_lexer.specs.PlaceLaws.{FoundIn, found_in}
use Rattle.refal_lexer.specs.TurnCases.{turn_cases}

-- ---- at most as many tokens as bytes and one
pub lex_few : (skip at : ℕ) (line : Bool) (s : List ℕ) → length (lex_by skip at line s).tokens ≤ length s - skip + 1
unfolding lex_by
lex_few skip at line [] = omega arith
lex_few (suc k) at line (b ∷ s) = let ih = lex_few k (suc at) line s in omega arith
lex_few zero at line (b ∷ s) =
    turn_cases Few line at b s (λ k. lex_by k (suc at) (line_after b at line) s) (λ k. lex_by k (suc at) false s) (λ k. lex_by k (suc at) false s) (λ k e. let h = lex_few k (suc at) (line_after b at line) s in omega arith) (λ n e. let h = lex_few (n - 1) (suc at) false s in omega arith) (λ e. omega arith)
    (on (token_at at (b ∷ s)) (found_in at (b ∷ s) (omega arith)) (λ k. lex_few k (suc at) false s))
  where
    Few : Out → Type 0
    Few o = length o.tokens ≤ suc (length s) - 0 + 1

    Go : ℕ → Out
    Go k = lex_by k (suc at) false s

    on : (x : Found) → FoundIn at (at + suc (length s)) x → ((k : ℕ) → length (Go k).tokens ≤ length s - k + 1) → Few (on_found at x Go)
    on (found ts end) p ih =
        let h = ih (end - suc at) in
        let lo = p.0 in
        let hi = p.1 in
        let few = p.2 in
        let a = length-append ts (Go (end - suc at)).tokens in
        omega arith
    on (refused number start end) p ih = omega arith
