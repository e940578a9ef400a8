-- Rows put one by one, as far as they fit: where there is room for all, the words begin with them and are otherwise as they were.
use Rattle.std.specs.Prelude.{ℕ, suc, ◌+◌, ◌*◌, ◌≤◌, List, [], ◌∷◌, ◌++◌, ◌≡◌, refl, length, drop}
use Rattle.std.proofs.Common.{arith, add-zero, append-nil, ◌∙◌, subst}
use Rattle.refal_rows.specs.Rows.{put_row}
use Rattle.refal_rows.specs.Writes.{Writes, none, then, row, whole, placed, sized}
use Rattle.refal_ast.specs.Tokens.{Token, words, flat}

abbrev pub put_tokens : List ℕ → ℕ → List Token → List ℕ
put_tokens m n [] = m
put_tokens m n (t ∷ ts) = put_tokens (put_row 6 m n (words t)) (suc n) ts

pub put_append : (m : List ℕ) (n : ℕ) (ts us : List Token) → put_tokens m n (ts ++ us) ≡ put_tokens (put_tokens m n ts) (n + length ts) us
put_append m n [] us = rw (add-zero n)
put_append m n (t ∷ ts) us =
    let e : suc n + length ts ≡ n + suc (length ts) = omega arith in
    put_append (put_row 6 m n (words t)) (suc n) ts us ∙ rw e

one : (n : ℕ) (t : Token) → Writes 6 (λ B. put_row 6 B n (words t)) n 1 (words t)
one n t = subst (λ (E : List ℕ). Writes 6 (λ B. put_row 6 B n (words t)) n 1 E) (append-nil (words t)) (row {w = 6} {op = λ B. B} {n = n} {k = 0} {E = []} (words t) refl (none 6 (n + 1)))

puts : (ts : List Token) (n : ℕ) → Writes 6 (λ B. put_tokens B n ts) n (length ts) (flat ts)
puts [] n = none 6 n
puts (t ∷ ts) n = sized (let e : 1 + length ts ≡ suc (length ts) = omega arith in e) (then (one n t) (placed (let e : suc n ≡ n + 1 = omega arith in e) (puts ts (suc n))))

pub put_flat : (m : List ℕ) (ts : List Token) → 6 * length ts ≤ length m → put_tokens m 0 ts ≡ flat ts ++ drop (6 * length ts) m
put_flat m ts h = whole m (puts ts 0) h
