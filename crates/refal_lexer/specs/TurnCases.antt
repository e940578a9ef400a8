-- What holds of each way through a turn holds of the turn.
use Rattle.std.specs.Prelude.{ℕ, zero, suc, ◌+◌, ◌-◌, ◌<◌, ◌≤◌, Bool, true, false, List, ◌∷◌, ◌≡◌, refl, eqb, length}
use Rattle.std.proofs.Math.Decide.{dec_le}
use Rattle.std.proofs.Common.{arith, ne_eqb, le-leb, lt-ltb, ap, sym, ◌∙◌}
use Rattle.std.proofs.lemmas.Bool.{lt-leb}
use Rattle.refal_text.specs.Pick.{pick}
use Rattle.refal_text.specs.Utf8.{decode}
use Rattle.refal_text.specs.Utf8Laws.{decode_ascii}
use Rattle.refal_text.specs.White.{white_space}
use Rattle.refal_text.specs.declared.Char.{Char}
use Rattle.refal_lexer.specs.Classes.{class_of}
use Rattle.refal_lexer.specs.Scans.{Token, Bad, Comment, Long, Bare}
use Rattle.refal_lexer.specs.Tokens.{class_scan, token_scan, one}
use Rattle.refal_lexer.specs.Blanks.{white_len, comment_at, on_white, on_comment}
use Rattle.refal_lexer.specs.Lex.{Out, stop_bad}
use Rattle.refal_lexer.specs.Tokens.{token_at}
use Rattle.refal_lexer.specs.Source.{on_found, turn}

module _ (P : Out → Type 0) (starts : Bool) (at b : ℕ) (s : List ℕ) (white comment token : ℕ → Out) where
  pub turn_cases : ((k : ℕ) → white_len (b ∷ s) ≡ suc k → P (white k)) → ((n : ℕ) → comment_at starts (b ∷ s) ≡ Long n → P (comment (n - 1)))
      → (comment_at starts (b ∷ s) ≡ Bare true → P (stop_bad 24 at (at + suc (length s)))) → P (on_found at (token_at at (b ∷ s)) token) → P (turn starts at b s white comment token)
  turn_cases w c o t = blank (white_len (b ∷ s)) refl
    where
      past : (x : Comment) → comment_at starts (b ∷ s) ≡ x → P (on_comment x (λ n. comment (n - 1)) (stop_bad 24 at (at + suc (length s))) (on_found at (token_at at (b ∷ s)) token))
      past (Long n) e = c n e
      past (Bare true) e = o e
      past (Bare false) e = t

      blank : (n : ℕ) → white_len (b ∷ s) ≡ n → P (on_white n white (on_comment (comment_at starts (b ∷ s)) (λ n. comment (n - 1)) (stop_bad 24 at (at + suc (length s))) (on_found at (token_at at (b ∷ s)) token)))
      blank zero e = past (comment_at starts (b ∷ s)) refl
      blank (suc k) e = w k e

module _ (starts : Bool) (at b : ℕ) (s : List ℕ) (white comment token : ℕ → Out) where
  -- a byte below 128 that starts neither white space nor a comment
  pub turn_token : (k : ℕ) → class_of b ≡ k → b < 128 → (k ≡ 2 → ⊥) → (k ≡ 4 → ⊥) → (k ≡ 5 → ⊥) → turn starts at b s white comment token ≡ on_found at (token_at at (b ∷ s)) token
  turn_token k e l n₂ n₄ n₅ = rw (no_white, no_comment) refl
    where
      plain : (t : Bool) → white_space b ≡ t → t ≡ false
      plain false w = refl
      plain true w = absurd (n₂ (sym e ∙ (let v : class_of b ≡ 2 = simp (lt-leb 128 b l, w) in v)))

      no_white : white_len (b ∷ s) ≡ 0
      no_white = ap (λ (c : Char). pick (white_space c.code) c.len 0) (decode_ascii b s (lt-ltb b 128 l)) ∙ ap (λ (t : Bool). pick t 1 0) (plain (white_space b) refl)

      no_comment : comment_at starts (b ∷ s) ≡ Bare false
      no_comment = rw (ne_eqb b 42 (λ (z : b ≡ 42). absurd (n₄ (sym e ∙ ap class_of z))), ne_eqb b 47 (λ (z : b ≡ 47). absurd (n₅ (sym e ∙ ap class_of z)))) refl

  -- where the scan gives a token, the turn does
  pub turn_one : (kind detail text len start end : ℕ) → token_scan at (b ∷ s) ≡ Token kind detail text len start end
      → turn starts at b s white comment token ≡ on_found at (one (Token kind detail text len start end)) token
  turn_one kind detail text len start end h =
      turn_token (class_of b) refl (low (dec_le 128 b)) (not 2 (bad 10 (at + 1))) (not 4 (bad 10 (at + 1))) (not 5 (bad 10 (at + 1)))
      ∙ rw (ne_eqb (class_of b) 3 (not 3 (bad 10 (at + 1)))) (ap (λ x. on_found at (one x) token) h)
    where
      bad : (n e : ℕ) → Bad n at e ≡ Token kind detail text len start end → ⊥
      bad n e z = let y : ◌≡◌ {A = ℕ} 0 1 = cc in omega arith

      not : (k : ℕ) → (class_scan k at (b ∷ s) ≡ Token kind detail text len start end → ⊥) → class_of b ≡ k → ⊥
      not k f e = f (ap (λ (c : ℕ). class_scan c at (b ∷ s)) (sym e) ∙ h)

      wide : (t : Bool) (n : ℕ) → pick t (Bad 10 at (at + 1)) (Bad 10 at (at + n)) ≡ Token kind detail text len start end → ⊥
      wide true n z = bad 10 (at + 1) z
      wide false n z = bad 10 (at + n) z

      low : Dec (128 ≤ b) → b < 128
      low (no l) = omega arith
      low (yes l) = absurd (not 18 (wide (eqb (decode (b ∷ s)).len 0) (decode (b ∷ s)).len) (let w : class_of b ≡ 18 = simp (le-leb 128 b l) in w))
