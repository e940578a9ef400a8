-- A good word with its end behind it is scanned as one token, whole.
use Rattle.std.specs.Prelude.{ℕ, suc, ◌+◌, ◌<◌, ◌≤◌, Bool, true, false, ◌||◌, List, ◌∷◌, ◌++◌, ◌≡◌, refl, T, eqb, length}
use Rattle.std.proofs.Common.{arith, le-leb, eqb-true, ne_eqb, true≢false, append_assoc, ap, sym, ◌∙◌, eqb→eq, length-append}
use Rattle.refal_rows.specs.Tests.{below, each_below, range_hi}
use Rattle.refal_ast.specs.Kinds.{tok_identifier, tok_variable, tok_number}
use Rattle.refal_lexer.specs.Classes.{upper, digit, name_byte, variable, class_of, c_minus}
use Rattle.refal_text.specs.Pick.{pick}
use Rattle.refal_lexer.specs.Words.{other_scan}
use Rattle.refal_lexer.specs.Numbers.{number_scan}
use Rattle.refal_lexer.specs.Tokens.{class_scan, token_scan}
use Rattle.refal_lexer.specs.Scans.{Token, Bad}
use Rattle.refal_spelling.specs.Good.{Every, also, Sign, unsigned, plus, minus, Number, macrodigit, real}
use Rattle.refal_spelling.specs.Runs.{Ends, span_ends, span_every}
use Rattle.refal_spelling.specs.NumberWords.{number_ends, unsigned_ends, signed_ends, scan_macrodigit, scan_real}

-- ---- the classes of first bytes, computed at each byte
implies : Bool → Bool → Bool
implies true y = y
implies false y = true

implied : (x y : Bool) → T (implies x y) → x ≡ true → T y
unfolding implies
implied true y t e = t
implied false y t e = absurd (true≢false (sym e))

class_if : (p : ℕ → Bool) (c : ℕ) → T (below (λ (k : ℕ). implies (p k) (eqb (class_of k) c)) 128) → (b : ℕ) → b < 128 → p b ≡ true → class_of b ≡ c
class_if p c t b l h = eqb→eq _ _ (implied (p b) (eqb (class_of b) c) (each_below (λ (k : ℕ). implies (p k) (eqb (class_of k) c)) 128 t b l) h)

pub upper_low : (b : ℕ) → upper b ≡ true → b < 128
upper_low b h = let l : b ≤ 90 = range_hi 65 b 90 h in omega arith

pub digit_low : (b : ℕ) → digit b ≡ true → b < 128
digit_low b h = let l : b ≤ 57 = range_hi 48 b 57 h in omega arith

pub variable_low : (b : ℕ) → variable b ≡ true → b < 128
variable_low b h = go (eqb b 115) refl (eqb b 116) refl h
  where
    go : (s : Bool) → eqb b 115 ≡ s → (t : Bool) → eqb b 116 ≡ t → (s || t) || eqb b 101 ≡ true → b < 128
    go true e t f i = let z : b ≡ 115 = eqb-true _ _ e in omega arith
    go false e true f i = let z : b ≡ 116 = eqb-true _ _ f in omega arith
    go false e false f i = let z : b ≡ 101 = eqb-true _ _ i in omega arith

class_of_upper : (b : ℕ) → upper b ≡ true → class_of b ≡ 21
unfolding implies
class_of_upper b h = class_if upper 21 tt b (upper_low b h) h

class_of_digit : (b : ℕ) → digit b ≡ true → class_of b ≡ 22
unfolding implies
class_of_digit b h = class_if digit 22 tt b (digit_low b h) h

class_of_variable : (b : ℕ) → variable b ≡ true → class_of b ≡ 23
unfolding implies
class_of_variable b h = class_if variable 23 tt b (variable_low b h) h

by_class : (k at b : ℕ) (s : List ℕ) → class_of b ≡ k → token_scan at (b ∷ s) ≡ class_scan k at (b ∷ s)
by_class k at b s e = ap (λ (c : ℕ). class_scan c at (b ∷ s)) e

-- ---- names and indices
pub scan_identifier : (at b : ℕ) (s r : List ℕ) → upper b ≡ true → Every name_byte s → suc (length s) ≤ 15 → Ends r
    → token_scan at (b ∷ s ++ r) ≡ Token tok_identifier 0 at (suc (length s)) at (at + suc (length s))
scan_identifier at b s r u a h e =
    let k : 1 + length s ≡ suc (length s) = omega arith in
    by_class 21 at b (s ++ r) (class_of_upper b u) ∙ rw (span_every name_byte s r a (span_ends name_byte r refl e), k, le-leb _ _ h) refl

pub scan_index : (at v : ℕ) (w r : List ℕ) → variable v ≡ true → Every name_byte w → 1 ≤ length w → length w ≤ 15 → Ends r
    → token_scan at (v ∷ 46 ∷ w ++ r) ≡ Token tok_variable v (at + 2) (length w) at (at + suc (suc (length w)))
scan_index at v w r u a lo hi e =
    let k : 2 + length w ≡ suc (suc (length w)) = omega arith in
    by_class 23 at v (46 ∷ w ++ r) (class_of_variable v u)
    ∙ rw (span_every name_byte w r a (span_ends name_byte r refl e), ne_eqb (length w) 0 (λ z. absurd (omega arith)), le-leb _ _ hi, k) refl

-- ---- numbers
pub number_some : (w : List ℕ) → Number w → 1 ≤ length w
number_some w (macrodigit b s d a h) = omega arith
number_some w (real sign b s ps qs g d a hp hq h) = let l = length-append sign (b ∷ s ++ (ps ++ qs)) in omega arith

sign_scan_lem : (at : ℕ) (sign : List ℕ) (b : ℕ) (s : List ℕ) → Sign true sign → digit b ≡ true → token_scan at (sign ++ (b ∷ s)) ≡ number_ends at (length sign) (b ∷ s)
sign_scan_lem at sign b s unsigned d = by_class 22 at b s (class_of_digit b d) ∙ unsigned_ends at (b ∷ s)
sign_scan_lem at sign b s (plus e) d = ap (λ (t : Bool). pick t (number_scan at 1 (43 ∷ b ∷ s)) (pick (eqb 17 c_minus) (other_scan at (43 ∷ b ∷ s)) (Bad 10 at (at + 1)))) d ∙ signed_ends at 43 (b ∷ s)
sign_scan_lem at sign b s (minus e) d = ap (λ (t : Bool). pick t (number_scan at 1 (45 ∷ b ∷ s)) (pick (eqb 20 c_minus) (other_scan at (45 ∷ b ∷ s)) (Bad 10 at (at + 1)))) d ∙ signed_ends at 45 (b ∷ s)

pub scan_number : (w : List ℕ) → Number w → (at : ℕ) (r : List ℕ) → Ends r → token_scan at (w ++ r) ≡ Token tok_number 0 at (length w) at (at + length w)
scan_number w (macrodigit b s d a h) at r e = by_class 22 at b (s ++ r) (class_of_digit b d) ∙ unsigned_ends at (b ∷ s ++ r) ∙ scan_macrodigit at (b ∷ s) r (also b s d a) h e
scan_number w (real sign b s ps qs g d a hp hq h) at r e =
    let l = length-append sign (b ∷ s ++ (ps ++ qs)) in
    ap (token_scan at) (append_assoc sign (b ∷ s ++ (ps ++ qs)) r)
    ∙ sign_scan_lem at sign b ((s ++ (ps ++ qs)) ++ r) g d
    ∙ scan_real at (length sign) (length (sign ++ (b ∷ s ++ (ps ++ qs)))) (b ∷ s) ps qs r (also b s d a) hp hq h e (omega arith)
