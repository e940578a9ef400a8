-- `refal_real::digits::Digits::put` meets its contract.
use Rattle.std.proofs.Common.{◌≡◌, arith, refl, sym, ap, ◌∙◌, ℕ, suc, List, [], ◌∷◌, ◌++◌, ◌+◌, ◌<◌, length, get_or, set, take, drop, append_assoc, add-one, drop-cons, length-append, length-take-le}
use Rattle.std.proofs.Math.Seq.{set-append_seam}
use Rattle.std.proofs.lemmas.List.{take_more}
use Rattle.refal_real.proofs.digits.Digits.put.Goals as goal

-- a byte stored behind those of q
put_after : (q o : List ℕ) (j x : ℕ) → length q ≡ j → j < length o → set (q ++ drop j o) j x ≡ q ++ x ∷ drop (j + 1) o
put_after q o j x e h = rw (add-one j, drop-cons o j 0 h) (ap (λ k. set (q ++ get_or o j 0 ∷ drop (suc j) o) k x) (sym e) ∙ set-append_seam q (get_or o j 0) (drop (suc j) o) x)

-- one digit of t more, behind those of p
put_next : (p t o : List ℕ) (i j m : ℕ) → length p + i ≡ j → j + 1 ≡ m → i < length t → j < length o
    → set ((p ++ take i t) ++ drop j o) j (get_or t i 0) ≡ (p ++ take (i + 1) t) ++ drop m o
put_next p t o i j m e n h k =
    let x = get_or t i 0 in
    put_after (p ++ take i t) o j x (omega (arith, length-append p (take i t), length-take-le i t)) k
    ∙ rw n (sym (append_assoc (p ++ take i t) (x ∷ []) (drop m o)))
    ∙ ap (λ l. l ++ drop m o) (append_assoc p (take i t) (x ∷ []) ∙ ap (λ l. p ++ l) (sym (take_more t i 0 h)))

pub loop-i-preserved : goal.loop-i-preserved
loop-i-preserved c =
    let d = c.args.self in let i = c.loop-i.i in
    rw c.loop-i.invariant (put_next [] d.whole.now c.args.out.now i i (i + 1) (omega arith) refl (omega arith) (omega (arith, length-append d.whole.now d.fraction.now)))

pub loop-k-preserved : goal.loop-k-preserved
loop-k-preserved c =
    let d = c.args.self in let k = c.loop-k.k in
    rw c.loop-k.invariant (put_next d.whole.now d.fraction.now c.args.out.now k _ _ refl (omega arith) (omega arith) (omega (arith, length-append d.whole.now d.fraction.now)))
