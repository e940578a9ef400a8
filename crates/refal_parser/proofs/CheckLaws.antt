-- Check 30 at a word of the rows.
use mathlib.Core.Path.{◌≡◌, refl, sym, ap, ◌∙◌}
use Prim.Native.Nat.{ℕ, zero, suc, ◌+◌, ◌*◌, ◌%◌, ◌≤◌, ◌<◌}
use mathlib.Core.List.{List, [], ◌∷◌, ◌++◌}
use mathlib.Core.Bool.{Bool, true, false, ◌&&◌}
use native.Mathlib.Omega.{arith}
use lib.ListN.{length, get_or}
use Rattle.std.proofs.Common.{drop}
use Rattle.std.proofs.lemmas.List.{drop_more, drop_all}
use Rattle.std.specs.Simd.{first_chunks}
use lib.Dec.{leb, eqb}
use borrow.Author.Tests.{leb-true, le-leb, lt-leb, eq-eqb, ne_eqb}
use Rattle.refal_rows.specs.Tests.{and_left, and_right}
use Rattle.refal_ast.specs.Tokens.{Token, token, tokens_of}
use Rattle.refal_ast.specs.Check.{good_fields, good_token, good_eof, ok_tokens, well_formed}
use Rattle.refal_parser.specs.Ready.{rest, tok, Ready}
use Rattle.refal_parser.proofs.TokenLaws.{ready}

ok_two : (t u : Token) (ts : List Token) → ok_tokens (t ∷ u ∷ ts) ≡ good_token t && ok_tokens (u ∷ ts)
unfolding ok_tokens
ok_two t u ts = refl

-- the tokens that rows of six words are
abbrev pub rows_told : List (List ℕ) → List Token
rows_told [] = []
rows_told (r ∷ rows) = tok r 0 ∷ rows_told rows

pub by_rows : (k : ℕ) (w : List ℕ) → length w ≡ 6 * k → tokens_of w ≡ rows_told (first_chunks 6 k w)
unfolding tokens_of
by_rows zero [] h = refl
by_rows zero (a ∷ w) h = absurd (omega arith)
by_rows (suc k) (a ∷ b ∷ c ∷ d ∷ e ∷ f ∷ w) h = ap (λ (l : List Token). token a b c d e f ∷ l) (by_rows k w (omega arith))
by_rows (suc k) [] h = absurd (omega arith)
by_rows (suc k) (a ∷ []) h = absurd (omega arith)
by_rows (suc k) (a ∷ b ∷ []) h = absurd (omega arith)
by_rows (suc k) (a ∷ b ∷ c ∷ []) h = absurd (omega arith)
by_rows (suc k) (a ∷ b ∷ c ∷ d ∷ []) h = absurd (omega arith)
by_rows (suc k) (a ∷ b ∷ c ∷ d ∷ e ∷ []) h = absurd (omega arith)

-- a row in front of others, of which one is the last
ok_more : (t : Token) (rows : List (List ℕ)) (last : List ℕ) → ok_tokens (t ∷ rows_told (rows ++ last ∷ [])) ≡ good_token t && ok_tokens (rows_told (rows ++ last ∷ []))
ok_more t [] last = ok_two t (tok last 0) []
ok_more t (r ∷ rows) last = ok_two t (tok r 0) (rows_told (rows ++ last ∷ []))

-- one row more: what was good so far, and the row
pub ok_on : (rows : List (List ℕ)) (last : List ℕ) (i : ℕ) (x good g : Bool) → i < length rows → g ≡ good_token (tok (get_or rows i []) 0)
    → x ≡ good && ok_tokens (rows_told (drop i rows ++ last ∷ [])) → x ≡ (good && g) && ok_tokens (rows_told (drop (i + 1) rows ++ last ∷ []))
ok_on rows last i x false g h e f = f
ok_on rows last i x true g h e f =
    f ∙ ap (λ (l : List (List ℕ)). ok_tokens (rows_told (l ++ last ∷ []))) (drop_more rows i [] h)
    ∙ ok_more (tok (get_or rows i []) 0) (drop (i + 1) rows) last
    ∙ ap (λ (b : Bool). b && ok_tokens (rows_told (drop (i + 1) rows ++ last ∷ []))) (sym e)

ok_one : (t : Token) → ok_tokens (t ∷ []) ≡ good_eof t
unfolding ok_tokens
ok_one t = refl

and_three : (a b c : Bool) → a && (b && c) ≡ (a && b) && c
and_three true b c = refl
and_three false b c = refl

-- and where the last is left alone
pub ok_end : (rows : List (List ℕ)) (last : List ℕ) (i : ℕ) (x good g : Bool) → length rows ≤ i → g ≡ good_fields (get_or last 0 0) (get_or last 1 0) (get_or last 2 0) (get_or last 3 0) →
    x ≡ good && ok_tokens (rows_told (drop i rows ++ last ∷ [])) → x ≡ (good && eqb (get_or last 0 0) 17) && g
ok_end rows last i x good g h e f =
    f ∙ ap (λ (l : List (List ℕ)). good && ok_tokens (rows_told (l ++ last ∷ []))) (drop_all i rows h)
    ∙ ap (λ (b : Bool). good && b) (ok_one (tok last 0)) ∙ and_three good (eqb (get_or last 0 0) 17) _
    ∙ ap (λ (b : Bool). (good && eqb (get_or last 0 0) 17) && b) (sym e)

-- the whole test
pub well : (w : List ℕ) (b : Bool) → length w % 6 ≡ 0 → length w ≤ 100663302 → ok_tokens (rest w 0) ≡ b → well_formed w ≡ b
unfolding well_formed
well w b m h e =
    ap (λ (x : Bool). (x && leb (length w) 100663302) && ok_tokens (tokens_of w)) (eq-eqb (length w % 6) 0 m)
    ∙ ap (λ (x : Bool). x && ok_tokens (tokens_of w)) (le-leb (length w) 100663302 h)
    ∙ e

pub ragged : (w : List ℕ) → (length w % 6 ≡ 0 → ⊥) → well_formed w ≡ false
unfolding well_formed
ragged w n = ap (λ (x : Bool). (x && leb (length w) 100663302) && ok_tokens (tokens_of w)) (ne_eqb (length w % 6) 0 n)

pub too_long : (w : List ℕ) → length w % 6 ≡ 0 → 100663302 < length w → well_formed w ≡ false
unfolding well_formed
too_long w m h =
    ap (λ (x : Bool). (x && leb (length w) 100663302) && ok_tokens (tokens_of w)) (eq-eqb (length w % 6) 0 m)
    ∙ ap (λ (x : Bool). x && ok_tokens (tokens_of w)) (lt-leb (length w) 100663302 h)

pub no_word : (w : List ℕ) → length w ≡ 0 → well_formed w ≡ false
unfolding well_formed ok_tokens tokens_of
no_word [] h = refl
no_word (x ∷ w) h = absurd (omega arith)

pub well_ready : (w : List ℕ) → well_formed w ≡ true → Ready w 0
unfolding well_formed
well_ready w e =
    let s : eqb (length w % 6) 0 && leb (length w) 100663302 ≡ true = and_left _ (ok_tokens (tokens_of w)) e in
    ready w 0 (and_right (eqb (length w % 6) 0 && leb (length w) 100663302) (ok_tokens (tokens_of w)) e) (leb-true (length w) 100663302 (and_right (eqb (length w % 6) 0) _ s))
