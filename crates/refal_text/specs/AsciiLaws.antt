-- The run of bytes below 128 at the front, counted in blocks and then one at a time.
use Rattle.std.specs.Prelude.{ℕ, zero, suc, ◌+◌, ◌*◌, ◌≤◌, Bool, true, false, cond, ◌&&◌, List, [], ◌∷◌, ◌≡◌, refl, length, take, drop, get_or}
use Rattle.std.specs.Bool.{MatchBool}
use Rattle.std.specs.List.{list_all, prefix_len}
use Rattle.std.specs.Simd.{first_chunks}
use Rattle.std.specs.Str.{IsAscii, IsNotAscii}
use Rattle.std.proofs.Common.{arith, lt-ltb, le-ltb, drop-drop, length-drop, mul-zero, mul-suc, suc-mul}
use Rattle.refal_rows.specs.Tests.{and_left, and_right}
use Rattle.refal_text.specs.Pick.{pick}
use Rattle.refal_text.specs.Span.{span}
use Rattle.refal_text.specs.Utf8.{ascii}

-- the machine's test of a block
all_of : (s : List ℕ) → IsAscii s → true ≡ list_all ascii s
all_of [] h = refl
all_of (b ∷ s) h = rw (lt-ltb b 128 (h 0)) (all_of s (λ i. h (suc i)))

none_of : (s : List ℕ) (i : ℕ) → 128 ≤ get_or s i 0 → false ≡ list_all ascii s
none_of [] i h = absurd (omega arith)
none_of (b ∷ s) zero h = rw (le-ltb b 128 h) refl
none_of (b ∷ s) (suc i) h = go (ascii b) (list_all ascii s) (none_of s i h)
  where
    go : (t u : Bool) → false ≡ u → false ≡ t && u
    go true u e = e
    go false u e = refl

pub ascii_cases : (s : List ℕ) (t : Bool) → MatchBool t (IsAscii s) (IsNotAscii s) → t ≡ list_all ascii s
ascii_cases s true h = all_of s h
ascii_cases s false h = none_of s h.0 h.1

-- one at a time
pub span_bytes : (s : List ℕ) → prefix_len ascii s ≡ span ascii s
span_bytes [] = refl
span_bytes (b ∷ s) = go (ascii b) (span_bytes s)
  where
    go : (t : Bool) → prefix_len ascii s ≡ span ascii s → cond t (1 + prefix_len ascii s) 0 ≡ pick t (suc (span ascii s)) 0
    go true e = omega arith
    go false e = refl

-- m bytes below 128 at the front
span_front : (m : ℕ) (s : List ℕ) → m ≤ length s → list_all ascii (take m s) ≡ true → m + span ascii (drop m s) ≡ span ascii s
span_front zero s h e = omega arith
span_front (suc m) [] h e = absurd (omega arith)
span_front (suc m) (b ∷ s) h e =
    let i = span_front m s (omega arith) (and_right (ascii b) (list_all ascii (take m s)) e) in
    rw (and_left (ascii b) (list_all ascii (take m s)) e) (omega arith)

-- blocks of m bytes, and what is behind them
abbrev blocks : ℕ → ℕ → List ℕ → ℕ
blocks m n s = prefix_len (list_all ascii) (first_chunks m n s)

pub span_blocks : (m n : ℕ) (s : List ℕ) → n * m ≤ length s → m * blocks m n s + span ascii (drop (m * blocks m n s) s) ≡ span ascii s
span_blocks m zero s h = rw (mul-zero m) (omega arith)
span_blocks m (suc n) s h = go (list_all ascii (take m s)) refl (span_blocks m n (drop m s) (rw length-drop (omega (arith, suc-mul n m))))
  where
    k : ℕ
    k = blocks m n (drop m s)

    front : m ≤ length s
    front = omega (arith, suc-mul n m)

    go : (t : Bool) → list_all ascii (take m s) ≡ t → m * k + span ascii (drop (m * k) (drop m s)) ≡ span ascii (drop m s)
        → m * cond t (1 + k) 0 + span ascii (drop (m * cond t (1 + k) 0) s) ≡ span ascii s
    go true e i =
        let f = span_front m s front e in
        let o : 1 + k ≡ suc k = omega arith in
        let j : m * (1 + k) ≡ m + m * k = rw (o, mul-suc) (omega arith) in
        rw (j, ← drop-drop (m * k) m s) (omega arith)
    go false e i = rw (mul-zero m) (omega arith)
