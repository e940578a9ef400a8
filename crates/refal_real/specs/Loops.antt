-- Laws of the loop over an exponent's digits.
use Rattle.std.specs.Prelude.{ℕ, zero, suc, ◌+◌, ◌*◌, ◌-◌, ◌≤◌, ◌<◌, List, [], ◌∷◌, ◌++◌, ◌≡◌, refl, length, take, get_or}
use Rattle.std.proofs.Common.{sym, ◌∙◌, ap, arith, add-one, take-suc, take_all}
use Rattle.refal_real.specs.Value.{tens, num}
use Rattle.refal_real.specs.Tens.{Digits, num_append, tens_zero, tens_suc, tens_up}

pub digit_in : (s : List ℕ) (k : ℕ) → Digits s → k < length s → (48 ≤ get_or s k 0) × (get_or s k 0 ≤ 57)
digit_in [] k d h = absurd (omega arith)
digit_in (b ∷ s) zero d h = (d.0, d.1)
digit_in (b ∷ s) (suc k) d h = digit_in s k d.2 (omega arith)

num_snoc : (s : List ℕ) (b : ℕ) → num (s ++ (b ∷ [])) ≡ 10 * num s + (b - 48)
unfolding num
num_snoc s b = num_append s (b ∷ []) ∙ rw (tens_suc 0, tens_zero) (omega arith)

pub nine : tens 9 ≡ 1000000000
unfolding tens
nine = refl

eight : tens 8 ≡ 100000000
unfolding tens
eight = refl

-- v is the number that the first i digits make
pub record Makes (s : List ℕ) (i v : ℕ) : Type 0 where
  pub is : v ≡ num (take i s)
  pub small : v < tens i

pub makes_none : (s : List ℕ) → Makes s 0 0
unfolding num
makes_none s = record { is = refl; small = rw tens_zero (omega arith) }

pub makes_next : (s : List ℕ) (i v : ℕ) → i < length s → Digits s → Makes s i v → Makes s (i + 1) (10 * v + (get_or s i 0 - 48))
makes_next s i v h d M = let b = digit_in s i d h in
    record {
      is = rw (M.is, add-one i, take-suc s i 0 h) (sym (num_snoc (take i s) (get_or s i 0)));
      small = rw (add-one i, tens_suc i) (let m = M.small in omega arith);
    }

pub makes_small : (s : List ℕ) (i v : ℕ) → i < 9 → Makes s i v → v < 100000000
makes_small s i v h M = omega (arith, M.small, tens_up i 8 (omega arith), eight)

pub makes_all : (s : List ℕ) (i v : ℕ) → i ≡ length s → Makes s i v → v ≡ num s
makes_all s i v e M = M.is ∙ ap num (take_all i s (omega arith))
