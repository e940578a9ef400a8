-- A Char alone in apostrophes, with a space behind it, is scanned as a literal of that one character.
use Rattle.std.specs.Prelude.{ℕ, suc, ◌+◌, ◌≤◌, false, ◌≡◌, eqb}
use Rattle.std.proofs.Common.{arith, eqb-true, ne_eqb, sym, subst, ◌∙◌, length-append}
use Rattle.std.proofs.lemmas.Bool.{eqb-false}
use mathlib.Core.List.{List, [], ◌∷◌, ◌++◌, append_assoc}
use Rattle.std.proofs.Math.Path.{refl, ap}
use Rattle.std.proofs.Math.ListN.{length}
use Rattle.std.proofs.Math.Seq.{drop-append_seam}
use Rattle.refal_text.specs.Pick.{split}
use Rattle.refal_text.specs.Encode.{encode, Scalar}
use Rattle.refal_text.specs.EncodeLaws.{Enc, enc_ascii, enc_wide, encoded, decode_encode}
use Rattle.refal_text.specs.Utf8.{decode, char}
use Rattle.refal_text.specs.declared.Char.{Char}
use Rattle.refal_ast.specs.Kinds.{tok_char}
use Rattle.refal_ast.specs.Tokens.{Token, token}
use Rattle.refal_lexer.specs.Literals.{lit_char, closed, lit_step, lit_from, char_step, char_tokens}
use Rattle.refal_lexer.specs.LiteralLaws.{lit_skip, chars_skip}
use Rattle.refal_lexer.specs.Tokens.{found, literal_of, token_at}
use Rattle.refal_spelling.specs.Spell.{body}

-- b ∷ bs is how the character x is written within apostrophes: whatever follows the closing one, it is read as x
record BodyIs (x b : ℕ) (bs : List ℕ) : Type 0 where
  on : eqb b 10 ≡ false
  reads : (r : List ℕ) → lit_char 39 (b ∷ bs ++ (39 ∷ 32 ∷ r)) ≡ char x (suc (length bs))

data BodyOf (x : ℕ) : List ℕ → Type 0 where
  body_of : (b : ℕ) (bs : List ℕ) → BodyIs x b bs → BodyOf x (b ∷ bs)

quote_body : BodyIs 39 39 (39 ∷ [])
unfolding lit_char
quote_body = record { on = refl; reads = λ r. refl }

encoded_body : (x b : ℕ) (bs : List ℕ) → (b ≡ 10 → ⊥) → (b ≡ 39 → ⊥) → ((r : List ℕ) → decode (b ∷ bs ++ r) ≡ char x (suc (length bs))) → BodyIs x b bs
unfolding lit_char
encoded_body x b bs n m d = record {
  on = ne_eqb _ _ n;
  reads = λ r. rw (ne_eqb b 39 m, d (39 ∷ 32 ∷ r), ne_eqb (suc (length bs)) 0 (λ h. absurd (omega arith))) refl;
}

wide_body : (x : ℕ) (l : List ℕ) → Enc x l → (x ≡ 10 → ⊥) → (x ≡ 39 → ⊥) → ((r : List ℕ) → decode (l ++ r) ≡ char x (length l)) → BodyOf x l
wide_body x l (enc_ascii h) n m d = body_of x [] (encoded_body x x [] n m d)
wide_body x l (enc_wide b bs h) n m d = body_of b bs (encoded_body x b bs (λ e. omega arith) (λ e. omega arith) d)

body_view : (x : ℕ) → Scalar x → (x ≡ 10 → ⊥) → BodyOf x (body x)
unfolding body
body_view x sc n =
    split (BodyOf x) (eqb x 39) _ _ (λ e. subst (λ (y : ℕ). BodyOf y (39 ∷ 39 ∷ [])) (sym (eqb-true _ _ e)) (body_of 39 (39 ∷ []) quote_body))
    (λ e. wide_body x (encode x) (encoded x) n (eqb-false _ _ e) (decode_encode x sc))

module _ (x b : ℕ) (bs r : List ℕ) (v : BodyIs x b bs) where
  fits : length bs ≤ length (bs ++ (39 ∷ 32 ∷ r))
  fits = rw length-append (omega arith)

  lit_close : (i : ℕ) → lit_from 39 0 i 1 (39 ∷ 32 ∷ r) ≡ closed 1 (i + 1)
  unfolding lit_from lit_char
  lit_close i = refl

  lit_body : (i : ℕ) → lit_from 39 0 i 0 (b ∷ bs ++ (39 ∷ 32 ∷ r)) ≡ closed 1 (suc i + length bs + 1)
  unfolding lit_from
  lit_body i =
      ap (λ (c : Char). lit_step c.len i 0 b (λ k. lit_from 39 k (suc i) 1 (bs ++ (39 ∷ 32 ∷ r)))) (v.reads r)
      ∙ rw v.on (lit_skip 39 (length bs) (suc i) 1 (bs ++ (39 ∷ 32 ∷ r)) fits ∙ ap (lit_from 39 0 (suc i + length bs) 1) (drop-append_seam bs (39 ∷ 32 ∷ r)) ∙ lit_close (suc i + length bs))

  chars_close : (from to : ℕ) → char_tokens 39 from to 0 (39 ∷ 32 ∷ r) ≡ []
  unfolding char_tokens lit_char
  chars_close from to = refl

  chars_body : (from to : ℕ) → char_tokens 39 from to 0 (b ∷ bs ++ (39 ∷ 32 ∷ r)) ≡ token tok_char x 0 0 from to ∷ []
  unfolding char_tokens
  chars_body from to =
      ap (λ (c : Char). char_step c.len (token tok_char c.code 0 0 from to) (λ k. char_tokens 39 from to k (bs ++ (39 ∷ 32 ∷ r)))) (v.reads r)
      ∙ ap (λ (ts : List Token). token tok_char x 0 0 from to ∷ ts)
      (chars_skip 39 from to (length bs) (bs ++ (39 ∷ 32 ∷ r)) fits ∙ ap (char_tokens 39 from to 0) (drop-append_seam bs (39 ∷ 32 ∷ r)) ∙ chars_close from to)

-- with the opening apostrophe, at `at`: one token
abbrev pub Closed : ℕ → List ℕ → Type 0
Closed x l = (at : ℕ) (r : List ℕ) → token_at at (39 ∷ (l ++ (39 ∷ [])) ++ (32 ∷ r)) ≡ found (token tok_char x 0 0 at (at + suc (length (l ++ (39 ∷ [])))) ∷ []) (at + suc (length (l ++ (39 ∷ []))))

closed_body : (x : ℕ) (l : List ℕ) → BodyOf x l → Closed x l
closed_body x l (body_of b bs v) at r =
    let e : ((b ∷ bs) ++ (39 ∷ [])) ++ (32 ∷ r) ≡ (b ∷ bs) ++ (39 ∷ 32 ∷ r) = append_assoc (b ∷ bs) (39 ∷ []) (32 ∷ r) in
    let n = length-append (b ∷ bs) (39 ∷ []) in
    let m : suc 1 + length bs + 1 ≡ suc (length ((b ∷ bs) ++ (39 ∷ []))) = omega arith in
    ap (λ (s : List ℕ). literal_of at 39 s (lit_from 39 0 1 0 s)) e
    ∙ ap (literal_of at 39 ((b ∷ bs) ++ (39 ∷ 32 ∷ r))) (lit_body x b bs r v 1 ∙ ap (closed 1) m)
    ∙ ap (λ (ts : List Token). found ts (at + suc (length ((b ∷ bs) ++ (39 ∷ []))))) (chars_body x b bs r v at (at + suc (length ((b ∷ bs) ++ (39 ∷ [])))))

pub scan_char : (x : ℕ) → Scalar x → (x ≡ 10 → ⊥) → Closed x (body x)
scan_char x sc n = closed_body x (body x) (body_view x sc n)
