-- The bytes of a character, and what a Unicode scalar value is.
use Rattle.std.specs.Prelude.{ℕ, ◌+◌, ◌/◌, ◌%◌, ◌≤◌, Bool, false, not, ◌&&◌, List, [], ◌∷◌, ◌≡◌, leb, ltb}
use Rattle.refal_text.specs.Pick.{pick}

abbrev pub enc2 : ℕ → List ℕ
enc2 x = (192 + x / 64) ∷ (128 + x % 64) ∷ []

abbrev pub enc3 : ℕ → List ℕ
enc3 x = (224 + x / 4096) ∷ (128 + x / 64 % 64) ∷ (128 + x % 64) ∷ []

abbrev pub enc4 : ℕ → List ℕ
enc4 x = (240 + x / 262144 % 8) ∷ (128 + x / 4096 % 64) ∷ (128 + x / 64 % 64) ∷ (128 + x % 64) ∷ []

abbrev pub encode : ℕ → List ℕ
encode x = pick (ltb x 128) (x ∷ []) (pick (ltb x 2048) (enc2 x) (pick (ltb x 65536) (enc3 x) (enc4 x)))

-- a Unicode scalar value: at most U+10FFFF, and no surrogate
pub record Scalar (x : ℕ) : Type 0 where
  pub top : x ≤ 1114111
  pub plain : leb 55296 x && leb x 57343 ≡ false

-- the test that code computes
abbrev pub scalar : ℕ → Bool
scalar x = leb x 1114111 && not (leb 55296 x && leb x 57343)
