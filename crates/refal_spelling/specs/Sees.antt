-- What a scan finds, case by case: a refusal, or a token that is spelled well.
use Rattle.std.specs.Prelude.{ℕ, ◌+◌, ◌≤◌, Bool, true, false, ◌&&◌, ◌||◌, List, [], ◌∷◌, ◌++◌, ◌≡◌, refl, leb, eqb, length, take, drop}
use Rattle.std.proofs.Common.{arith, add-zero, leb-true, eqb-true, true≢false, ap, sym, subst, take-append-drop}
use Rattle.std.proofs.lemmas.Bool.{eqb-false}
use Rattle.refal_rows.specs.Tests.{range_lo, range_hi}
use Rattle.refal_text.specs.Pick.{split}
use Rattle.refal_text.specs.Span.{span}
use Rattle.refal_text.specs.Utf8.{decode}
use Rattle.refal_ast.specs.Kinds.{tok_variable}
use Rattle.refal_ast.specs.Check.{uses_text}
use Rattle.refal_lexer.specs.Classes.{upper, digit, letter, name_byte, variable, class_of, single_kind, c_minus}
use Rattle.refal_lexer.specs.ClassLaws.{ClassIs, is_wide, is_white, is_quote, is_star, is_slash, is_dollar, is_plus, is_minus, is_upper, is_digit}
use Rattle.refal_lexer.specs.ClassLaws.{is_variable, is_other, is_single, single_range, is_none, class_view}
use Rattle.refal_lexer.specs.Words.{entry_word, extern_word, directive_scan, name_scan, index_of, variable_scan}
use Rattle.refal_lexer.specs.Tokens.{sign_scan, class_scan, token_scan}
use Rattle.refal_lexer.specs.Scans.{Scan, Token, Bad}
use Rattle.refal_spelling.specs.Spell.{spelled}
use Rattle.refal_spelling.specs.Good.{none, also, Sign, unsigned, plus, minus, Good, entry, extern, identifier, variable_of, number, mark}
use Rattle.refal_spelling.specs.Runs.{every_span, length_span}
use Rattle.refal_spelling.specs.NumberWords.{unsigned_ends, signed_ends, SeesNumber, no_number, a_number, sees_number}

-- the bytes b ∷ s stand at `at`. A word w stands behind `pre`, which only a variable has
pub data Sees (at b : ℕ) (s : List ℕ) : Scan → Type 0 where
  a_bad : {n x e : ℕ} → Sees at b s (Bad n x e)
  a_plain : {kind x e : ℕ} → Good (spelled kind 0 []) → Sees at b s (Token kind 0 0 0 x e)
  a_word : {kind detail start len x e : ℕ} (pre w rest : List ℕ) → b ∷ s ≡ pre ++ (w ++ rest) → start ≡ at + length pre → len ≡ length w → e ≡ start + len
      → ((kind ≡ tok_variable → ⊥) → pre ≡ []) → uses_text kind ≡ true → Good (spelled kind detail w) → Sees at b s (Token kind detail start len x e)

-- ---- words
sees_name : (at b : ℕ) (s : List ℕ) → upper b ≡ true → Sees at b s (name_scan at (b ∷ s))
sees_name at b s u =
    let n = span name_byte s in
    let l : length (take n s) ≡ n = length_span name_byte s in
    split (Sees at b s) (leb (1 + n) 15) _ _ (λ h.
    let k : 1 + n ≤ 15 = leb-true _ _ h in
    a_word {start = at} {len = 1 + n} {e = at + (1 + n)} [] (b ∷ take n s) (drop n s) (ap (λ (t : List ℕ). b ∷ t) (sym (take-append-drop n s))) (sym (add-zero at)) (omega arith) (omega arith)
    (λ _. refl) refl
    (identifier b (take n s) u (every_span name_byte s) (omega arith))) (λ _. a_bad)

sees_index : (at b : ℕ) (s : List ℕ) → variable b ≡ true → Sees at b (46 ∷ s) (index_of at b (span name_byte s))
sees_index at b s h =
    let n = span name_byte s in
    let l : length (take n s) ≡ n = length_span name_byte s in
    split (Sees at b (46 ∷ s)) (eqb n 0) _ _ (λ _. a_bad) (λ z.
    split (Sees at b (46 ∷ s)) (leb n 15) _ _ (λ k.
    let i : n ≤ 15 = leb-true _ _ k in
    let j : n ≡ 0 → ⊥ = eqb-false n 0 z in
    a_word {start = at + 2} {len = n} {e = at + (2 + n)} (b ∷ 46 ∷ []) (take n s) (drop n s) (ap (λ (t : List ℕ). b ∷ 46 ∷ t) (sym (take-append-drop n s))) refl (sym l) (omega arith) (λ c. absurd (c refl)) refl
    (variable_of b (take n s) h (every_span name_byte s) (omega arith) (omega arith))) (λ _. a_bad))

or_name : (c : ℕ) → upper c || digit c ≡ true → name_byte c ≡ true
or_name c h = go (upper c) (leb 97 c && leb c 122) (digit c) (eqb c 95) (eqb c 45) h
  where
    go : (u l d x y : Bool) → u || d ≡ true → (((u || l) || d) || x) || y ≡ true
    go true l d x y h = refl
    go false true d x y h = refl
    go false false true x y h = refl
    go false false false x y h = absurd (true≢false (sym h))

sees_variable : (at b : ℕ) (s : List ℕ) → variable b ≡ true → Sees at b s (variable_scan at (b ∷ s))
sees_variable at b [] h = a_bad
sees_variable at b (c ∷ s) h =
    split (Sees at b (c ∷ s)) (eqb c 46) _ _ (λ e. subst (λ (x : ℕ). Sees at b (x ∷ s) (index_of at b (span name_byte s))) (sym (eqb-true _ _ e)) (sees_index at b s h)) (λ _.
    split (Sees at b (c ∷ s)) (upper c || digit c) _ _ (λ e.
    a_word {start = at + 1} {len = 1} {e = at + 2} (b ∷ []) (c ∷ []) s refl refl refl (omega arith) (λ i. absurd (i refl)) refl
    (variable_of b (c ∷ []) h (also c [] (or_name c e) none) (omega arith) (omega arith))) (λ _. a_bad))

sees_directive : (at b : ℕ) (s : List ℕ) → Sees at b s (directive_scan at (b ∷ s))
sees_directive at b s =
    split (Sees at b s) (entry_word (span letter s) s) _ _ (λ _. a_plain entry) (λ _.
    split (Sees at b s) (extern_word (span letter s) s) _ _ (λ _. a_plain extern) (λ _. a_bad))

-- ---- numbers
of_number : (at b : ℕ) (s : List ℕ) (r : Scan) → SeesNumber at (b ∷ s) r → Sees at b s r
of_number at b s r no_number = a_bad
of_number at b s r (a_number {len} {end} w rest f l e h) = a_word {start = at} {len = len} {e = end} [] w rest f (sym (add-zero at)) l (omega arith) (λ _. refl) refl (number w h)

sees_sign : (k at b : ℕ) (s : List ℕ) → Sign true (b ∷ []) → Sees at b s (sign_scan k at (b ∷ s))
sees_sign k at b [] g = split (Sees at b []) (eqb k c_minus) _ _ (λ _. a_bad) (λ _. a_bad)
sees_sign k at b (c ∷ s) g =
    split (Sees at b (c ∷ s)) (digit c) _ _
    (λ d. subst (Sees at b (c ∷ s)) (sym (signed_ends at b (c ∷ s))) (of_number at b (c ∷ s) _ (sees_number at 1 (b ∷ []) g refl c s d))) (λ _.
    split (Sees at b (c ∷ s)) (eqb k c_minus) _ _ (λ _. a_bad) (λ _. a_bad))

-- ---- every class
sees_class : (at b : ℕ) (s : List ℕ) (k : ℕ) → ClassIs b k → Sees at b s (class_scan k at (b ∷ s))
sees_class at b s k (is_wide h) = split (Sees at b s) (eqb (decode (b ∷ s)).len 0) _ _ (λ _. a_bad) (λ _. a_bad)
sees_class at b s k (is_white h i) = a_bad
sees_class at b s k (is_quote h) = a_bad
sees_class at b s k (is_star h) = a_bad
sees_class at b s k (is_slash h) = a_bad
sees_class at b s k (is_dollar h) = sees_directive at b s
sees_class at b s k (is_plus h) = sees_sign 17 at b s (subst (λ (x : ℕ). Sign true (x ∷ [])) (sym (eqb-true _ _ h)) (plus refl))
sees_class at b s k (is_minus h) = sees_sign 20 at b s (subst (λ (x : ℕ). Sign true (x ∷ [])) (sym (eqb-true _ _ h)) (minus refl))
sees_class at b s k (is_upper h) = sees_name at b s h
sees_class at b s k (is_digit h) = subst (Sees at b s) (sym (unsigned_ends at (b ∷ s))) (of_number at b s _ (sees_number at 0 [] unsigned refl b s h))
sees_class at b s k (is_variable h) = sees_variable at b s h
sees_class at b s k (is_other h) = a_bad
sees_class at b s k (is_single h) = let r = single_range b h in a_plain (mark (single_kind b) (range_lo 7 (single_kind b) 16 r) (range_hi 7 (single_kind b) 16 r))
sees_class at b s k is_none = a_bad

pub sees : (at b : ℕ) (s : List ℕ) → Sees at b s (token_scan at (b ∷ s))
sees at b s = sees_class at b s (class_of b) (class_view b)
