-- Reading gives tokens that are spelled well and stand in the source, and then Eof.
use Rattle.std.specs.Prelude.{ℕ, zero, suc, ◌+◌, ◌-◌, ◌<◌, ◌≤◌, Bool, true, false, ◌||◌, List, [], ◌∷◌, ◌++◌, ◌≡◌, refl, ltb, eqb, length, take, drop, get_or}
use Rattle.std.proofs.Common.{arith, add-one, eqb-true, ap, sym, subst, ◌∙◌, length-append, length-drop, drop-drop}
use Rattle.std.proofs.lemmas.Bool.{eqb-false, lt-leb}
use Rattle.std.proofs.Math.Seq.{take-append_seam, drop-append_seam}
use Rattle.refal_text.specs.Pick.{split}
use Rattle.refal_text.specs.EncodeLaws.{Decoded, d_ill, d_ascii, d_wide, decode_view}
use Rattle.refal_text.specs.Utf8.{decode}
use Rattle.refal_text.specs.declared.Char.{Char}
use Rattle.refal_ast.specs.Kinds.{tok_char, tok_eof}
use Rattle.refal_ast.specs.Check.{uses_text}
use Rattle.refal_ast.specs.Tokens.{Token, token}
use Rattle.refal_ast.specs.Flatten.{flat_token, flat_of, flats_of}
use Rattle.refal_lexer.specs.Classes.{class_of, c_quote}
use Rattle.refal_lexer.specs.ClassLaws.{quote_class}
use Rattle.refal_lexer.specs.Literals.{lit_char, Lit, closed, newline, unclosed, lit_step, lit_from, char_step, char_tokens}
use Rattle.refal_lexer.specs.Tokens.{token_scan, Found, found, refused, one, literal_of, token_at}
use Rattle.refal_lexer.specs.Lex.{fine, bad, Out}
use Rattle.refal_lexer.specs.Source.{on_found}
use Rattle.refal_lexer.specs.Carried.{line_after, lex_by}
use Rattle.refal_lexer.specs.TurnCases.{turn_cases}
use Rattle.refal_lexer.specs.Scans.{Scan}
use Rattle.refal_lexer.specs.Scans as S
use Rattle.refal_spelling.specs.Spell.{spelled, text_at}
use Rattle.refal_spelling.specs.Good.{Good, character}
use Rattle.refal_spelling.specs.Sound.{Sound, AllSound, sound_none, sound_more}
use Rattle.refal_spelling.specs.Sees.{Sees, a_plain, a_word, sees}

-- sound tokens, then Eof
pub data Reading (src : List ℕ) : List Token → Type 0 where
  ends : (at : ℕ) → Reading src (token tok_eof 0 0 0 at at ∷ [])
  goes : {t : Token} {ts : List Token} → Sound src (flat_of t) → Reading src ts → Reading src (t ∷ ts)

-- ---- a token
-- a word w behind the bytes pre
text_is : (src : List ℕ) (at b : ℕ) (s pre w rest : List ℕ) → drop at src ≡ b ∷ s → b ∷ s ≡ pre ++ (w ++ rest) → text_at src (at + length pre) (length w) ≡ w
text_is src at b s pre w rest e f =
    ap (take (length w)) (sym (drop-drop (length pre) at src) ∙ ap (drop (length pre)) (e ∙ f) ∙ drop-append_seam pre (w ++ rest)) ∙ take-append_seam w rest

text_in : (src : List ℕ) (at b : ℕ) (s pre w rest : List ℕ) → drop at src ≡ b ∷ s → b ∷ s ≡ pre ++ (w ++ rest) → at + length pre + length w ≤ length src
text_in src at b s pre w rest e f =
    let l₁ : length (drop at src) ≡ length src - at = length-drop at src in
    let l₂ : length (drop at src) ≡ suc (length s) = ap length e in
    let l₃ : suc (length s) ≡ length pre + length (w ++ rest) = ap length f ∙ length-append pre (w ++ rest) in
    let l₄ = length-append w rest in
    omega arith

or_true : (t : Bool) → t || true ≡ true
or_true true = refl
or_true false = refl

sound_token : (src : List ℕ) (at b : ℕ) (s : List ℕ) (kind detail start len x end : ℕ) → drop at src ≡ b ∷ s
    → Sees at b s (S.Token kind detail start len x end) → Sound src (flat_token kind detail start len)
sound_token src at b s kind detail start len x end e (a_plain g) = record { inside = omega arith; unused = or_true (uses_text kind); good = g }
sound_token src at b s kind detail start len x end e (a_word pre w rest f p l m n u g) =
    subst (λ (x : ℕ). Sound src (flat_token kind detail x len)) (sym p)
    (subst (λ (x : ℕ). Sound src (flat_token kind detail (at + length pre) x)) (sym l)
    (record { inside = text_in src at b s pre w rest e f; unused = rw u refl; good = subst (λ (x : List ℕ). Good (spelled kind detail x)) (sym (text_is src at b s pre w rest e f)) g }))

-- ---- a literal's characters
ascii_good : (x : ℕ) → x < 128 → (x ≡ 10 → ⊥) → Good (spelled tok_char x [])
ascii_good x h n = character x (record { top = omega arith; plain = rw (lt-leb 55296 x (omega arith)) }) n

decoded_good : (b : ℕ) (c : Char) → Decoded b c → eqb b 10 ≡ false → Good (spelled tok_char c.code [])
decoded_good b c d_ill e = ascii_good 0 (omega arith) (λ h. omega arith)
decoded_good b c (d_ascii h) e = ascii_good b h (eqb-false _ _ e)
decoded_good b c (d_wide {x} l sc) e = character x sc (λ h. omega arith)

quote_good : (q : ℕ) → eqb q 39 || eqb q 34 ≡ true → Good (spelled tok_char q [])
quote_good q h = go (eqb q 39) refl h
  where
    go : (t : Bool) → eqb q 39 ≡ t → t || eqb q 34 ≡ true → Good (spelled tok_char q [])
    go true e i = subst (λ (x : ℕ). Good (spelled tok_char x [])) (sym (eqb-true _ _ e)) (ascii_good 39 (omega arith) (λ h. omega arith))
    go false e i = subst (λ (x : ℕ). Good (spelled tok_char x [])) (sym (eqb-true _ _ i)) (ascii_good 34 (omega arith) (λ h. omega arith))

lit_good : (q b : ℕ) (s : List ℕ) → Good (spelled tok_char q []) → eqb b 10 ≡ false → Good (spelled tok_char (lit_char q (b ∷ s)).code [])
unfolding lit_char
lit_good q b s g e =
    split P (eqb b q) _ _ (λ _. split P (eqb (get_or s 0 0) q) _ _ (λ _. g) (λ _. zero_good)) (λ _.
    split P (eqb (decode (b ∷ s)).len 0) _ _ (λ _. zero_good) (λ _. decoded_good b (decode (b ∷ s)) (decode_view b s) e))
  where
    P : Char → Type 0
    P c = Good (spelled tok_char c.code [])

    zero_good : Good (spelled tok_char 0 [])
    zero_good = ascii_good 0 (omega arith) (λ h. omega arith)

not_closed : (e m f : ℕ) → newline e ≡ closed m f → ⊥
not_closed e m f h = let z : ◌≡◌ {A = ℕ} 0 1 = cc in omega arith

all_chars : (src : List ℕ) (q : ℕ) → Good (spelled tok_char q []) → (s : List ℕ) (k i n from to m end : ℕ) → lit_from q k i n s ≡ closed m end → AllSound src (flats_of (char_tokens q from to k s))
unfolding lit_from char_tokens
all_chars src q g [] k i n from to m end h = sound_none
all_chars src q g (b ∷ s) (suc k) i n from to m end h = all_chars src q g s k (suc i) n from to m end h
all_chars src q g (b ∷ s) zero i n from to m end h = go (lit_char q (b ∷ s)).len (λ k. all_chars src q g s k (suc i) (suc n) from to m end) h
  where
    on : ℕ → Lit
    on k = lit_from q k (suc i) (suc n) s

    To : ℕ → List Token
    To k = char_tokens q from to k s

    go : (j : ℕ) → ((k : ℕ) → on k ≡ closed m end → AllSound src (flats_of (To k)))
        → lit_step j i n b on ≡ closed m end → AllSound src (flats_of (char_step j (token tok_char (lit_char q (b ∷ s)).code 0 0 from to) To))
    go zero ih f = sound_none
    go (suc j) ih f =
        split P (eqb b 10) (newline (i + 1)) (on j) (λ _ e. absurd (not_closed _ _ _ e))
        (λ t e. sound_more (record { inside = omega arith; unused = refl; good = lit_good q b s g t }) (ih j e)) f
      where
        P : Lit → Type 0
        P r = r ≡ closed m end → AllSound src (flats_of (token tok_char (lit_char q (b ∷ s)).code 0 0 from to ∷ To j))

-- ---- the whole reading
reading_append : (src : List ℕ) (ts us : List Token) → AllSound src (flats_of ts) → Reading src us → Reading src (ts ++ us)
reading_append src [] us a g = g
reading_append src (t ∷ ts) us (sound_more h a) g = goes h (reading_append src ts us a g)

-- what is found at a place
abbrev FoundSound : List ℕ → Found → Type 0
FoundSound src (found ts end) = AllSound src (flats_of ts)
FoundSound src (refused number start end) = Unit {0}

sound_one : (src s : List ℕ) (b at : ℕ) → drop at src ≡ b ∷ s → (x : Scan) → Sees at b s x → FoundSound src (one x)
sound_one src s b at e (S.Token kind detail start len x end) v = sound_more (sound_token src at b s kind detail start len x end e v) sound_none
sound_one src s b at e (S.Bad number start end) v = tt

sound_literal : (src : List ℕ) (at q : ℕ) (s : List ℕ) → eqb q 39 || eqb q 34 ≡ true → (l : Lit) → lit_from q 0 1 0 s ≡ l → FoundSound src (literal_of at q s l)
sound_literal src at q s h (newline end) e = tt
sound_literal src at q s h (unclosed end) e = tt
sound_literal src at q s h (closed n end) e =
    split (FoundSound src) (ltb 255 n) _ _ (λ _. tt) (λ _. split (FoundSound src) (eqb n 0) _ _ (λ _. tt) (λ _. all_chars src q (quote_good q h) s 0 1 0 at (at + end) n end e))

sound_found : (src s : List ℕ) (b at : ℕ) → drop at src ≡ b ∷ s → FoundSound src (token_at at (b ∷ s))
sound_found src s b at e =
    split (FoundSound src) (eqb (class_of b) c_quote) _ _ (λ t. sound_literal src at b s (quote_class b t) (lit_from b 0 1 0 s) refl) (λ _. sound_one src s b at e (token_scan at (b ∷ s)) (sees at b s))

not_fine : (n x y : ℕ) → bad n x y ≡ fine → ⊥
not_fine n x y h = let z : ◌≡◌ {A = ℕ} 0 1 = cc in omega arith

drop_tail : (src : List ℕ) (at b : ℕ) (s : List ℕ) → drop at src ≡ b ∷ s → drop (suc at) src ≡ s
drop_tail src at b s e = ap (λ (k : ℕ). drop k src) (sym (add-one at)) ∙ sym (drop-drop 1 at src) ∙ ap (drop 1) e

pub reading : (src s : List ℕ) (k at : ℕ) (line : Bool) → drop at src ≡ s → (lex_by k at line s).stop ≡ fine → Reading src (lex_by k at line s).tokens
unfolding lex_by
reading src [] k at line e = λ h. ends at
reading src (b ∷ s) (suc k) at line e = reading src s k (suc at) line (drop_tail src at b s e)
reading src (b ∷ s) zero at line e =
    turn_cases P line at b s (λ k. lex_by k (suc at) (line_after b at line) s) Go Go (λ k _. reading src s k (suc at) (line_after b at line) (drop_tail src at b s e)) (λ n _. reading src s (n - 1) (suc at) false (drop_tail src at b s e))
    (λ _ h. absurd (not_fine 24 at (at + suc (length s)) h)) (after (token_at at (b ∷ s)) (sound_found src s b at e) (λ k. reading src s k (suc at) false (drop_tail src at b s e)))
  where
    P : Out → Type 0
    P o = o.stop ≡ fine → Reading src o.tokens

    Go : ℕ → Out
    Go k = lex_by k (suc at) false s

    after : (x : Found) → FoundSound src x → ((k : ℕ) → P (lex_by k (suc at) false s)) → P (on_found at x (λ k. lex_by k (suc at) false s))
    after (found ts end) v ih = λ h. reading_append src ts _ v (ih _ h)
    after (refused number start end) v ih = λ h. absurd (not_fine number start end h)

-- ---- the tokens before Eof
pub record Read (src : List ℕ) (all : List Token) : Type 0 where
  pub ts : List Token
  pub at : ℕ
  pub is : all ≡ ts ++ (token tok_eof 0 0 0 at at ∷ [])
  pub sound : AllSound src (flats_of ts)

pub parted : (src : List ℕ) (all : List Token) → Reading src all → Read src all
parted src all (ends at) = record { ts = []; at = at; is = refl; sound = sound_none }
parted src all (goes {t = t} {ts = us} h g) =
    let r = parted src us g in
    record { ts = t ∷ r.ts; at = r.at; is = ap (λ (l : List Token). t ∷ l) r.is; sound = sound_more h r.sound }

pub reads_sound : (src : List ℕ) → (lex_by 0 0 true src).stop ≡ fine → Read src (lex_by 0 0 true src).tokens
reads_sound src h = parted src _ (reading src src 0 0 true refl h)
