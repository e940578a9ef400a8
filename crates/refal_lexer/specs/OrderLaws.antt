-- The tokens of a source stand in order, within it.
use Rattle.std.specs.Prelude.{ℕ, zero, suc, ◌+◌, ◌-◌, ◌≤◌, List, [], ◌∷◌, ◌++◌, Bool, true, false, ◌≡◌, refl, ltb, eqb, length}
use Rattle.std.proofs.Common.{zero-add, arith, subst, sym}
use Rattle.refal_text.specs.Pick.{split}
use Rattle.refal_lexer.specs.Classes.{class_of, c_quote}
use Rattle.refal_lexer.specs.Scans.{Scan, Token, Bad}
use Rattle.refal_ast.specs.Tokens.{Token as Tok, token}
use Rattle.refal_lexer.specs.Tokens.{class_scan, Found, found, refused, one, literal_of, token_at}
use Rattle.refal_lexer.specs.Literals.{lit_char, lit_from, char_step, char_tokens, Lit, closed, newline, unclosed}
use Rattle.refal_lexer.specs.Lex.{Out}
use Rattle.refal_lexer.specs.Carried.{line_after, lex_by}
use Rattle.refal_lexer.specs.LineLaws.{white_in}
use Rattle.refal_lexer.specs.PlaceLaws.{TextIn, text_none, Placed, scan_placed, FoundIn, found_in}
use Rattle.refal_lexer.specs.Source.{on_found}
use Rattle.refal_lexer.specs.BlankLaws.{comment_in}
use Rattle.refal_lexer.specs.LiteralLaws.{lit_closed}
use Rattle.refal_lexer.specs.TurnCases.{turn_cases}

-- ---- spans in order, within n bytes, after a token from f to t: the next starts at or after t, or has the same span, as the characters of a literal have
pub data Spans (n : ℕ) : ℕ → ℕ → List Tok → Type 0 where
  spans_end : {f t : ℕ} → Spans n f t []
  spans_next : {f t : ℕ} (kind detail start len from to : ℕ) {ts : List Tok} → t ≤ from → from ≤ to → to ≤ n → TextIn from to start len → Spans n from to ts
      → Spans n f t (token kind detail start len from to ∷ ts)
  spans_same : {f t : ℕ} (kind detail : ℕ) {ts : List Tok} → Spans n f t ts → Spans n f t (token kind detail 0 0 f t ∷ ts)

-- the characters of a literal
chars_same : (n q from to skip : ℕ) (s : List ℕ) (ts : List Tok) → Spans n from to ts → Spans n from to (char_tokens q from to skip s ++ ts)
unfolding char_tokens
chars_same n q from to skip [] ts h = h
chars_same n q from to (suc k) (b ∷ s) ts h = chars_same n q from to k s ts h
chars_same n q from to zero (b ∷ s) ts h = go (lit_char q (b ∷ s)).len (λ k. chars_same n q from to k s ts h)
  where
    go : (k : ℕ) → ((j : ℕ) → Spans n from to (char_tokens q from to j s ++ ts))
        → Spans n from to (char_step k (token 6 (lit_char q (b ∷ s)).code 0 0 from to) (λ j. char_tokens q from to j s) ++ ts)
    go zero ih = h
    go (suc k) ih = spans_same 6 (lit_char q (b ∷ s)).code (ih k)

chars_spans : (n q f t from to skip : ℕ) (s : List ℕ) (ts : List Tok) → t ≤ from → from ≤ to → to ≤ n → Spans n from to ts → Spans n f t ts → Spans n f t (char_tokens q from to skip s ++ ts)
unfolding char_tokens
chars_spans n q f t from to skip [] ts l h u a z = z
chars_spans n q f t from to (suc k) (b ∷ s) ts l h u a z = chars_spans n q f t from to k s ts l h u a z
chars_spans n q f t from to zero (b ∷ s) ts l h u a z = go (lit_char q (b ∷ s)).len
  where
    go : (k : ℕ) → Spans n f t (char_step k (token 6 (lit_char q (b ∷ s)).code 0 0 from to) (λ j. char_tokens q from to j s) ++ ts)
    go zero = z
    go (suc k) = spans_next 6 (lit_char q (b ∷ s)).code 0 0 from to l h u text_none (chars_same n q from to k s ts a)

-- the tokens found at `at` go before those from their end on
abbrev pub Before : ℕ → ℕ → Found → Type 0
Before n at (found ts end) = (f t : ℕ) (us : List Tok) → t ≤ at → ((g u : ℕ) → u ≤ end → Spans n g u us) → Spans n f t (ts ++ us)
Before n at (refused number start end) = Unit {0}

before_one : (n at : ℕ) (x : Scan) → Placed at n x → Before n at (one x)
before_one n at (Token kind detail text len start end) p =
    let a : at ≡ start = sym p.0 in
    let lo = p.1 in
    let hi = p.2 in
    λ f t us l k. spans_next {t = t} kind detail text len start end (omega arith) (omega arith) (omega arith) (subst (λ (x : ℕ). TextIn x end text len) a p.3) (k start end (omega arith))
before_one n at (Bad number start end) p = tt

before_literal : (n at q : ℕ) (s : List ℕ) (l : Lit) → lit_from q 0 1 0 s ≡ l → at + suc (length s) ≡ n → Before n at (literal_of at q s l)
before_literal n at q s (newline end) e h = tt
before_literal n at q s (unclosed end) e h = tt
before_literal n at q s (closed m end) e h =
    let c = lit_closed q at (at + end) 0 1 0 m end s e in
    let x = c.few in
    let w = c.within in
    split (Before n at) (ltb 255 m) _ _ (λ _. tt) (λ _. split (Before n at) (eqb m 0) _ _ (λ _. tt) (λ _ f t us l k.
    chars_spans n q f t at (at + end) 0 s us l (omega arith) (omega arith) (k at (at + end) (omega arith)) (k f t (omega arith))))

before_found : (n at b : ℕ) (s : List ℕ) → at + suc (length s) ≡ n → Before n at (token_at at (b ∷ s))
before_found n at b s h =
    split (Before n at) (eqb (class_of b) c_quote) _ _ (λ _. before_literal n at b s (lit_from b 0 1 0 s) refl h) (λ _.
    before_one n at (class_scan (class_of b) at (b ∷ s)) (subst (λ (m : ℕ). Placed at m (class_scan (class_of b) at (b ∷ s))) h (scan_placed at b s)))

-- what is read from `at` on, of a source of n bytes
pub lex_spans : (n f t skip at : ℕ) (line : Bool) (s : List ℕ) → skip ≤ length s → t ≤ at + skip → at + length s ≡ n → Spans n f t (lex_by skip at line s).tokens
unfolding lex_by
lex_spans n f t skip at line [] h l e = spans_next {t = t} 17 0 0 0 at at (omega arith) (omega arith) (omega arith) text_none spans_end
lex_spans n f t (suc k) at line (b ∷ s) h l e = lex_spans n f t k (suc at) line s (omega arith) (omega arith) (omega arith)
lex_spans n f t zero at line (b ∷ s) h l e =
    turn_cases P line at b s (λ k. lex_by k (suc at) (line_after b at line) s) (λ k. lex_by k (suc at) false s) (λ k. lex_by k (suc at) false s) (λ k z. lex_spans n f t k (suc at) (line_after b at line) s (white_in b s k z) (omega arith) (omega arith))
    (λ m z. let c = comment_in line (b ∷ s) m (omega arith) z in let hi = c.1 in lex_spans n f t (m - 1) (suc at) false s (omega arith) (omega arith) (omega arith)) (λ z. spans_end)
    (on (token_at at (b ∷ s)) (found_in at (b ∷ s) (omega arith)) (before_found n at b s e) (λ g u k i j. lex_spans n g u k (suc at) false s i j (omega arith)))
  where
    P : Out → Type 0
    P o = Spans n f t o.tokens

    Go : ℕ → Out
    Go k = lex_by k (suc at) false s

    on : (x : Found) → FoundIn at (at + suc (length s)) x → Before n at x → ((g u k : ℕ) → k ≤ length s → u ≤ suc at + k → Spans n g u (Go k).tokens) → P (on_found at x Go)
    on (found ts end) p r ih =
        let lo = p.0 in
        let hi = p.1 in
        r f t _ (omega arith) (λ g u i. ih g u (end - suc at) (omega arith) (omega arith))
    on (refused number start end) p r ih = spans_end

pub read_spans : (s : List ℕ) → Spans (length s) 0 0 (lex_by 0 0 true s).tokens
read_spans s = lex_spans (length s) 0 0 0 0 true s (omega arith) (omega arith) (zero-add (length s))
