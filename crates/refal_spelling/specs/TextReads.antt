-- Good tokens, each spelled with a space behind it, are read as those tokens at their places, and then the rest is read.
use Rattle.std.specs.Prelude.{ℕ, suc, ◌+◌, ◌-◌, ◌<◌, ◌≤◌, Bool, true, false, ◌||◌, ◌&&◌, List, [], ◌∷◌, ◌++◌, ◌≡◌, refl, T, ltb, eqb, length}
use Rattle.std.proofs.Common.{arith, add-zero, add-one, ltb-true, eqb-true, ne_eqb, append_assoc, ap, ap₂, sym, subst, ◌∙◌, length-append}
use Rattle.std.proofs.Math.Seq.{drop-append_seam}
use Rattle.refal_rows.specs.Tests.{each_below}
use Rattle.refal_ast.specs.Kinds.{tok_entry, tok_extern, tok_identifier, tok_variable, tok_number, tok_char}
use Rattle.refal_ast.specs.Tokens.{Token, token}
use Rattle.refal_lexer.specs.Classes.{class_of, single_kind}
use Rattle.refal_text.specs.Utf8.{decode}
use Rattle.refal_lexer.specs.Tokens.{Found, found, class_scan, token_scan}
use Rattle.refal_lexer.specs.Tokens.{token_at as found_at}
use Rattle.refal_lexer.specs.Lex.{Out, more, more_all}
use Rattle.refal_lexer.specs.Source.{on_found}
use Rattle.refal_lexer.specs.Carried.{line_after, lex_by}
use Rattle.refal_lexer.specs.TurnCases.{turn_token, turn_one}
use Rattle.refal_lexer.specs.TurnLaws.{lex_skip}
use Rattle.refal_lexer.specs.Scans as S
use Rattle.refal_spelling.specs.Spell.{Spelled, spelled, entry_spelling, extern_spelling, body, dotted, mark_byte, spelling, text}
use Rattle.refal_spelling.specs.Places.{token_at, tokens_at, line_behind}
use Rattle.refal_spelling.specs.Good.{Good, entry, extern, identifier, variable_of, number, character, mark, AllGood, no_more, and_more}
use Rattle.refal_spelling.specs.Runs.{at_space}
use Rattle.refal_spelling.specs.ScanWords.{number_some, scan_identifier, scan_index, scan_number}
use Rattle.refal_spelling.specs.CharWords.{scan_char}

-- ---- a token with a space behind it
lex_space : (at : ℕ) (r : List ℕ) → lex_by 0 at false (32 ∷ r) ≡ lex_by 0 (at + 1) false r
unfolding lex_by decode
lex_space at r = rw (add-one) refl

-- past a token's other bytes s and the space
lex_past : (at : ℕ) (s r : List ℕ) → lex_by (at + suc (length s) - suc at) (suc at) false (s ++ (32 ∷ r)) ≡ lex_by 0 (at + suc (length s) + 1) false r
lex_past at s r =
    let k : at + suc (length s) - suc at ≡ length s = omega arith in
    let j : suc at + length s ≡ at + suc (length s) = omega arith in
    let h : length s ≤ length (s ++ (32 ∷ r)) = rw length-append (omega arith) in
    ap (λ (n : ℕ). lex_by n (suc at) false (s ++ (32 ∷ r))) k
    ∙ lex_skip (length s) (suc at) false (s ++ (32 ∷ r)) h
    ∙ ap (lex_by 0 (suc at + length s) false) (drop-append_seam s (32 ∷ r))
    ∙ ap (λ (n : ℕ). lex_by 0 n false (32 ∷ r)) j
    ∙ lex_space (at + suc (length s)) r

lex_token : (at : ℕ) (line : Bool) (kind detail start len : ℕ) (l r : List ℕ) → token_scan at (l ++ (32 ∷ r)) ≡ S.Token kind detail start len at (at + length l) → 1 ≤ length l
    → lex_by 0 at line (l ++ (32 ∷ r)) ≡ more (token kind detail start len at (at + length l)) (lex_by 0 (at + length l + 1) false r)
unfolding lex_by
lex_token at line kind detail start len [] r e h = absurd (omega arith)
lex_token at line kind detail start len (b ∷ s) r e h =
    turn_one line at b (s ++ (32 ∷ r)) (λ k. lex_by k (suc at) (line_after b at line) (s ++ (32 ∷ r))) (λ k. lex_by k (suc at) false (s ++ (32 ∷ r))) (λ k. lex_by k (suc at) false (s ++ (32 ∷ r)))
    kind detail start len at (at + suc (length s)) e
    ∙ ap (more (token kind detail start len at (at + suc (length s)))) (lex_past at s r)

lex_literal : (at : ℕ) (line : Bool) (t : Token) (s r : List ℕ) → found_at at (39 ∷ s ++ (32 ∷ r)) ≡ found (t ∷ []) (at + suc (length s))
    → lex_by 0 at line (39 ∷ s ++ (32 ∷ r)) ≡ more t (lex_by 0 (at + suc (length s) + 1) false r)
unfolding lex_by
lex_literal at line t s r e =
    turn_token line at 39 (s ++ (32 ∷ r)) (λ k. lex_by k (suc at) (line_after 39 at line) (s ++ (32 ∷ r))) (λ k. lex_by k (suc at) false (s ++ (32 ∷ r))) (λ k. lex_by k (suc at) false (s ++ (32 ∷ r)))
    3 refl (omega arith) (λ z. omega arith) (λ z. omega arith) (λ z. omega arith)
    ∙ ap (λ (x : Found). on_found at x (λ k. lex_by k (suc at) false (s ++ (32 ∷ r)))) e
    ∙ ap (more t) (lex_past at s r)

-- ---- the marks
pub mark_not : (k j : ℕ) → 7 ≤ k → j < 7 → eqb k j ≡ false
mark_not k j lo h = ne_eqb k j (λ e. absurd (omega arith))

mark_test : ℕ → Bool
mark_test k = ltb k 7 || (eqb (class_of (mark_byte k)) 7 && eqb (single_kind (mark_byte k)) k)

mark_class : (k : ℕ) → 7 ≤ k → k ≤ 16 → (class_of (mark_byte k) ≡ 7) × (single_kind (mark_byte k) ≡ k)
unfolding mark_test
mark_class k lo hi = go (ltb k 7) refl (each_below mark_test 17 tt k (omega arith))
  where
    go : (t : Bool) → ltb k 7 ≡ t → T (t || (eqb (class_of (mark_byte k)) 7 && eqb (single_kind (mark_byte k)) k)) → (class_of (mark_byte k) ≡ 7) × (single_kind (mark_byte k) ≡ k)
    go true e h = let z : k < 7 = ltb-true _ _ e in absurd (omega arith)
    go false e h = both (eqb (class_of (mark_byte k)) 7) (eqb (single_kind (mark_byte k)) k) refl refl h
      where
        both : (x y : Bool) → eqb (class_of (mark_byte k)) 7 ≡ x → eqb (single_kind (mark_byte k)) k ≡ y → T (x && y) → (class_of (mark_byte k) ≡ 7) × (single_kind (mark_byte k) ≡ k)
        both true true p q t = (eqb-true _ _ p, eqb-true _ _ q)
        both true false p q t = absurd t
        both false y p q t = absurd t

pub mark_spelling : (k : ℕ) → 7 ≤ k → spelling (spelled k 0 []) ≡ mark_byte k ∷ []
unfolding spelling
mark_spelling k lo =
    simp (mark_not k 1 lo (omega arith), mark_not k 2 lo (omega arith), mark_not k 3 lo (omega arith), mark_not k 4 lo (omega arith), mark_not k 5 lo (omega arith), mark_not k 6 lo (omega arith))

pub mark_token : (at k : ℕ) → 7 ≤ k → token_at at (spelled k 0 []) ≡ token k 0 0 0 at (at + 1)
unfolding token_at
mark_token at k lo =
    rw (mark_spelling k lo, mark_not k 3 lo (omega arith), mark_not k 4 lo (omega arith), mark_not k 5 lo (omega arith)) refl

mark_scan : (at k : ℕ) (r : List ℕ) → 7 ≤ k → k ≤ 16 → token_scan at (mark_byte k ∷ r) ≡ S.Token k 0 0 0 at (at + 1)
mark_scan at k r lo hi = let m = mark_class k lo hi in ap (λ (c : ℕ). class_scan c at (mark_byte k ∷ r)) m.0 ∙ ap (λ (x : ℕ). S.Token x 0 0 0 at (at + 1)) m.1

-- ---- a good token: whatever `line` is
pub reads_one : (t : Spelled) → Good t → (at : ℕ) (line : Bool) (r : List ℕ)
    → lex_by 0 at line (spelling t ++ (32 ∷ r)) ≡ more (token_at at t) (lex_by 0 (at + length (spelling t) + 1) false r)
unfolding spelling token_at
reads_one t entry at line r = lex_token at line tok_entry 0 0 0 entry_spelling r (ap (S.Token tok_entry 0 0 0 at) (omega arith)) (omega arith)
reads_one t extern at line r = lex_token at line tok_extern 0 0 0 extern_spelling r (ap (S.Token tok_extern 0 0 0 at) (omega arith)) (omega arith)
reads_one t (identifier b s u a h) at line r = lex_token at line tok_identifier 0 at (suc (length s)) (b ∷ s) r (scan_identifier at b s (32 ∷ r) u a h (at_space r)) (omega arith)
reads_one t (variable_of v w u a lo hi) at line r = lex_token at line tok_variable v (at + 2) (length w) (dotted v w) r (scan_index at v w (32 ∷ r) u a lo hi (at_space r)) (omega arith)
reads_one t (number w h) at line r = lex_token at line tok_number 0 at (length w) w r (scan_number w h at (32 ∷ r) (at_space r)) (number_some w h)
reads_one t (character x sc n) at line r = lex_literal at line (token tok_char x 0 0 at (at + suc (length (body x ++ (39 ∷ []))))) (body x ++ (39 ∷ [])) r (scan_char x sc n at r)
reads_one t (mark k lo hi) at line r =
    subst (λ (l : List ℕ). lex_by 0 at line (l ++ (32 ∷ r)) ≡ more (token_at at (spelled k 0 [])) (lex_by 0 (at + length l + 1) false r)) (sym (mark_spelling k lo))
    (lex_token at line k 0 0 0 (mark_byte k ∷ []) r (mark_scan at k (32 ∷ r) lo hi) (omega arith) ∙ ap (λ (x : Token). more x (lex_by 0 (at + 1 + 1) false r)) (sym (mark_token at k lo)))

-- ---- a list of good tokens
more_all_lem : (t : Token) (ts : List Token) (o : Out) → more t (more_all ts o) ≡ more_all (t ∷ ts) o
more_all_lem t ts o = refl

pub spaced : (t : Spelled) (ts : List Spelled) (r : List ℕ) → text (t ∷ ts) ++ r ≡ spelling t ++ (32 ∷ (text ts ++ r))
unfolding text
spaced t ts r = append_assoc (spelling t ++ (32 ∷ [])) (text ts) r ∙ append_assoc (spelling t) (32 ∷ []) (text ts ++ r)

text_length : (t : Spelled) (ts : List Spelled) → length (text (t ∷ ts)) ≡ length (spelling t) + 1 + length (text ts)
unfolding text
text_length t ts = length-append (spelling t ++ (32 ∷ [])) (text ts) ∙ ap (λ (n : ℕ). n + length (text ts)) (length-append (spelling t) (32 ∷ []))

line_behind_lem : (ts : List Spelled) → line_behind ts false ≡ false
line_behind_lem [] = refl
line_behind_lem (t ∷ ts) = refl

pub reads_text : (ts : List Spelled) → AllGood ts → (at : ℕ) (line : Bool) (r : List ℕ)
    → lex_by 0 at line (text ts ++ r) ≡ more_all (tokens_at at ts) (lex_by 0 (at + length (text ts)) (line_behind ts line) r)
unfolding text tokens_at
reads_text ts no_more at line r = ap (λ (n : ℕ). lex_by 0 n line r) (sym (add-zero at))
reads_text ts (and_more {t = t} {ts = us} g a) at line r =
    let e : at + length (spelling t) + 1 + length (text us) ≡ at + length (text (t ∷ us)) = omega (arith, text_length t us) in
    ap (lex_by 0 at line) (spaced t us r)
    ∙ reads_one t g at line (text us ++ r)
    ∙ ap (more (token_at at t)) (reads_text us a (at + length (spelling t) + 1) false r)
    ∙ ap₂ (λ (n : ℕ) (l : Bool). more_all (tokens_at at (t ∷ us)) (lex_by 0 n l r)) e (line_behind_lem us)
