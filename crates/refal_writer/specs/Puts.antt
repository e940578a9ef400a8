-- What writers of bytes leave in a slice: `poured`, a text put over the slice from its front on; and that a text put part by part, each part
-- into the rest of the slice lent from its middle, is put whole.
use Rattle.std.specs.Prelude.{ℕ, suc, ◌+◌, ◌-◌, ◌≤◌, min, List, [], ◌∷◌, ◌++◌, ◌≡◌, refl, length, take, drop}
use Rattle.std.proofs.Common.{arith, rules, le_of_eq, append-nil, append_assoc, ap, ◌∙◌, sym, subst, length-drop, length-append, drop_of_length-le, take_all}
use Rattle.std.proofs.Math.Nat.{zero-min, min-zero, suc-min-suc, min-eq_left}
use Rattle.std.proofs.Math.Seq.{take-length}
use Rattle.std.specs.Ordering.{ord_min, nat_cmp}
use borrow.Rule.Slice.PartMut.{put_mid}

-- ---- a text put over a slice: its bytes as far as the slice goes, and behind them what was there
abbrev pub poured : List ℕ → List ℕ → List ℕ
poured [] o = o
poured (b ∷ t) [] = []
poured (b ∷ t) (x ∷ o) = b ∷ poured t o

-- what a writer of the text t does to the slice o: it leaves o' and answers r
pub record Puts (t : List ℕ) (r : ℕ) (o o' : List ℕ) : Type 0 where
  pub count : r ≡ length t
  pub bytes : o' ≡ poured t o

-- the same text, written otherwise
pub puts_as : {r : ℕ} {o o' : List ℕ} (t u : List ℕ) → t ≡ u → Puts t r o o' → Puts u r o o'
puts_as {r} {o} {o'} t u e p = subst (λ (l : List ℕ). Puts l r o o') e p

-- ---- how far a text goes
length_poured : (t o : List ℕ) → length (poured t o) ≡ length o
length_poured [] o = refl
length_poured (b ∷ t) [] = refl
length_poured (b ∷ t) (x ∷ o) = ap suc (length_poured t o)

poured_nowhere : (t : List ℕ) → poured t [] ≡ []
poured_nowhere [] = refl
poured_nowhere (b ∷ t) = refl

-- as many bytes as the text and the slice have both
pub poured_front : (t o : List ℕ) → take (min (length t) (length o)) t ++ drop (min (length t) (length o)) o ≡ poured t o
poured_front [] o = rw (zero-min (length o)) refl
poured_front (b ∷ t) [] = rw (min-zero (length (b ∷ t))) refl
poured_front (b ∷ t) (x ∷ o) = rw (suc-min-suc (length t) (length o)) (ap (λ (l : List ℕ). b ∷ l) (poured_front t o))

-- a text that fits
pub poured_fits : (t o : List ℕ) → length t ≤ length o → poured t o ≡ t ++ drop (length t) o
poured_fits t o h = sym (poured_front t o) ∙ rw (min-eq_left h) (ap (λ (l : List ℕ). l ++ drop (length t) o) (take-length t))

-- ---- a text that is copied over the front, as far as it fits
pub front_put : (t o l : List ℕ) (n : ℕ) → n ≡ min (length t) (length o) → l ≡ take n t → Puts t (length t) o (l ++ drop n o)
front_put t o l n e f = record { count = refl; bytes = rw (f, e) (poured_front t o) }

pub all_put : (t o l : List ℕ) (n : ℕ) → length t ≡ n → n ≤ length o → l ≡ t → Puts t n o (l ++ drop n o)
all_put t o l n long fits f = record { count = sym long; bytes = rw f (ap (λ (k : ℕ). t ++ drop k o) (sym long) ∙ sym (poured_fits t o (omega arith))) }

pub cut_put : (t o l : List ℕ) (n : ℕ) → length t ≡ n → length o ≤ n → l ≡ take (length o) t → Puts t n o l
cut_put t o l n long cut f =
    let e : min (length t) (length o) ≡ length o = omega arith in
    record {
      count = sym long;
      bytes = f ∙ sym (append-nil (take (length o) t)) ∙ ap (λ (r : List ℕ). take (length o) t ++ r) (sym (drop_of_length-le o (omega arith))) ∙ ap (λ (k : ℕ). take k t ++ drop k o) (sym e) ∙ poured_front t o;
    }

-- ---- one text and then another, into the rest of the slice
poured_then : (t u o : List ℕ) → take (min (length t) (length o)) (poured t o) ++ poured u (drop (min (length t) (length o)) (poured t o)) ≡ poured (t ++ u) o
poured_then [] u o = rw (zero-min (length o)) refl
poured_then (b ∷ t) u [] = rw (min-zero (length (b ∷ t))) (poured_nowhere u)
poured_then (b ∷ t) u (x ∷ o) = rw (suc-min-suc (length t) (length o)) (ap (λ (l : List ℕ). b ∷ l) (poured_then t u o))

-- the rest of a slice lent from its middle, `&mut o[from..]`: what the callee is lent, and what comes back
lent_rest : (o : List ℕ) (from : ℕ) → take (length o - from) (drop from o) ≡ drop from o
lent_rest o from = take_all (length o - from) (drop from o) (le_of_eq (length-drop from o))

back_rest : (o p : List ℕ) (from : ℕ) → put_mid from (length o - from) o p ≡ take from o ++ p
back_rest o p from =
    let e : drop (length o - from) (drop from o) ≡ [] = drop_of_length-le (drop from o) (le_of_eq (length-drop from o)) in
    ap (λ (l : List ℕ). take from o ++ (p ++ l)) e ∙ ap (λ (l : List ℕ). take from o ++ l) (append-nil p)

pub puts_two : (t u o p q : List ℕ) (a from b : ℕ) → Puts t a o p → from ≡ min a (length p) → Puts u b (take (length p - from) (drop from p)) q
    → Puts (t ++ u) (a + b) o (put_mid from (length p - from) p q)
puts_two t u o p q a from b x e y =
    let f : from ≡ min (length t) (length o) = e ∙ rw (x.count, x.bytes, length_poured t o) refl in
    let r : q ≡ poured u (drop from p) = y.bytes ∙ ap (poured u) (lent_rest p from) in
    record {
      count = omega (arith, x.count, y.count, length-append t u);
      bytes = back_rest p q from ∙ rw (r, x.bytes, f) (poured_then t u o);
    }

-- `a.min(b)`, as the code has it
pub least_is : (n a b : ℕ) → n ≡ ord_min nat_cmp a b → n ≡ min a b
least_is n a b e = search rules

-- ---- a text t that is put part by part: at bytes are done, `rest` is still to come
pub record Pours (t rest : List ℕ) (at : ℕ) (o o₀ : List ℕ) : Type 0 where
  done : List ℕ
  whole : done ++ rest ≡ t
  puts : Puts done at o₀ o

pub pours_start : (t o : List ℕ) → Pours t t 0 o o
pours_start t o = record { done = []; whole = refl; puts = record { count = refl; bytes = refl } }

pub pours_on : (t u rest o o₀ p : List ℕ) (at from k : ℕ) → Pours t (u ++ rest) at o o₀ → from ≡ min at (length o) → Puts u k (take (length o - from) (drop from o)) p
    → Pours t rest (at + k) (put_mid from (length o - from) o p) o₀
pours_on t u rest o o₀ p at from k h e q = record {
  done = h.done ++ u;
  whole = append_assoc h.done u rest ∙ h.whole;
  puts = puts_two h.done u o₀ o p at from k h.puts e q;
}

pub pours_end : (t o o₀ : List ℕ) (at : ℕ) → Pours t [] at o o₀ → Puts t at o₀ o
pours_end t o o₀ at p = puts_as _ _ (sym (append-nil p.done) ∙ p.whole) p.puts
