-- Laws of classes: what a class says of its byte, and the tests that the table answers.
use Rattle.std.specs.Prelude.{ℕ, ◌<◌, Bool, true, false, not, ◌&&◌, ◌||◌, ◌≡◌, refl, T, leb, ltb, eqb}
use Rattle.std.proofs.Common.{eqb-true, arith, true≢false, sym}
use Rattle.refal_rows.specs.Tests.{each_below}
use Rattle.refal_text.specs.Pick.{split}
use Rattle.refal_text.specs.White.{white_space}
use Rattle.refal_lexer.specs.Classes.{upper, digit, letter, name_byte, blank, variable, single_kind, class_of, c_quote}

-- ---- what a class says of the byte
pub data ClassIs (b : ℕ) : ℕ → Type 0 where
  is_wide : leb 128 b ≡ true → ClassIs b 18
  is_white : leb 128 b ≡ false → white_space b ≡ true → ClassIs b 2
  is_quote : eqb b 39 || eqb b 34 ≡ true → ClassIs b 3
  is_star : eqb b 42 ≡ true → ClassIs b 4
  is_slash : eqb b 47 ≡ true → ClassIs b 5
  is_dollar : eqb b 36 ≡ true → ClassIs b 6
  is_plus : eqb b 43 ≡ true → ClassIs b 17
  is_minus : eqb b 45 ≡ true → ClassIs b 20
  is_upper : upper b ≡ true → ClassIs b 21
  is_digit : digit b ≡ true → ClassIs b 22
  is_variable : variable b ≡ true → ClassIs b 23
  is_other : letter b || eqb b 95 ≡ true → ClassIs b 24
  is_single : ltb 0 (single_kind b) ≡ true → ClassIs b 7
  is_none : ClassIs b 0

-- the kind of a token of one byte is from 7 to 16
pub single_range : (b : ℕ) → ltb 0 (single_kind b) ≡ true → leb 7 (single_kind b) && leb (single_kind b) 16 ≡ true
single_range b =
    split P (eqb b 123) _ _ (λ _ _. refl) (λ _.
    split P (eqb b 125) _ _ (λ _ _. refl) (λ _.
    split P (eqb b 40) _ _ (λ _ _. refl) (λ _.
    split P (eqb b 41) _ _ (λ _ _. refl) (λ _.
    split P (eqb b 60) _ _ (λ _ _. refl) (λ _.
    split P (eqb b 62) _ _ (λ _ _. refl) (λ _.
    split P (eqb b 44) _ _ (λ _ _. refl) (λ _.
    split P (eqb b 58) _ _ (λ _ _. refl) (λ _.
    split P (eqb b 61) _ _ (λ _ _. refl) (λ _.
    split P (eqb b 59) _ _ (λ _ _. refl) (λ _ h.
    absurd (true≢false (sym h))))))))))))
  where
    P : ℕ → Type 0
    P n = ltb 0 n ≡ true → leb 7 n && leb n 16 ≡ true

pub class_view : (b : ℕ) → ClassIs b (class_of b)
class_view b =
    split (ClassIs b) (leb 128 b) _ _ is_wide (λ n.
    split (ClassIs b) (white_space b) _ _ (is_white n) (λ _.
    split (ClassIs b) (eqb b 39 || eqb b 34) _ _ is_quote (λ _.
    split (ClassIs b) (eqb b 42) _ _ is_star (λ _.
    split (ClassIs b) (eqb b 47) _ _ is_slash (λ _.
    split (ClassIs b) (eqb b 36) _ _ is_dollar (λ _.
    split (ClassIs b) (eqb b 43) _ _ is_plus (λ _.
    split (ClassIs b) (eqb b 45) _ _ is_minus (λ _.
    split (ClassIs b) (upper b) _ _ is_upper (λ _.
    split (ClassIs b) (digit b) _ _ is_digit (λ _.
    split (ClassIs b) (variable b) _ _ is_variable (λ _.
    split (ClassIs b) (letter b || eqb b 95) _ _ is_other (λ _.
    split (ClassIs b) (ltb 0 (single_kind b)) _ _ is_single (λ _. is_none)))))))))))))

-- ---- tests, computed at each byte
same : Bool → Bool → Bool
same true b = b
same false b = not b

same_is : (a b : Bool) → T (same a b) → a ≡ b
unfolding same
same_is true true t = refl
same_is true false t = absurd t
same_is false true t = absurd t
same_is false false t = refl

-- the bytes of names have the classes from 20 on
pub name_class : (b : ℕ) → b < 256 → leb 20 (class_of b) ≡ name_byte b
unfolding same
name_class b h = same_is _ _ (each_below (λ (k : ℕ). same (leb 20 (class_of k)) (name_byte k)) 256 tt b h)

-- below 128, white space is what `blank` tests
pub blank_white : (b : ℕ) → b < 128 → blank b ≡ white_space b
unfolding same
blank_white b h = same_is _ _ (each_below (λ (k : ℕ). same (blank k) (white_space k)) 128 tt b h)

-- the class of quotes
pub quote_class : (b : ℕ) → eqb (class_of b) c_quote ≡ true → eqb b 39 || eqb b 34 ≡ true
quote_class b t = go (class_of b) (class_view b) (eqb-true (class_of b) 3 t)
  where
    go : (k : ℕ) → ClassIs b k → k ≡ 3 → eqb b 39 || eqb b 34 ≡ true
    go k (is_quote h) e = h
    go k (is_wide t) e = absurd (omega arith)
    go k (is_white n t) e = absurd (omega arith)
    go k (is_star t) e = absurd (omega arith)
    go k (is_slash t) e = absurd (omega arith)
    go k (is_dollar t) e = absurd (omega arith)
    go k (is_plus t) e = absurd (omega arith)
    go k (is_minus t) e = absurd (omega arith)
    go k (is_upper t) e = absurd (omega arith)
    go k (is_digit t) e = absurd (omega arith)
    go k (is_variable t) e = absurd (omega arith)
    go k (is_other t) e = absurd (omega arith)
    go k (is_single t) e = absurd (omega arith)
    go k is_none e = absurd (omega arith)
