-- Laws of the code of names: putting forms down byte by byte, and comparing two names of one length pair by pair.
use Rattle.std.specs.Prelude.{ℕ, suc, ◌+◌, ◌≤◌, ◌<◌, Bool, true, false, ◌&&◌, List, [], ◌∷◌, ◌++◌, map, ◌≡◌, refl, eqb, length, take, drop, get_or, set}
use Rattle.std.specs.List.{zip, list_all}
use Rattle.std.proofs.Common.{ap, sym, ◌∙◌, arith}
use Rattle.std.proofs.lemmas.List.{length-map, get_or-map}
use Rattle.refal_rows.specs.Tests.{copy_turn}
use Rattle.refal_ast.specs.Names.{same_list}

-- the first i forms stand before what the output had
pub map_turn : (f : ℕ → ℕ) (l l₀ s : List ℕ) (i x : ℕ) → l ≡ take i (map f s) ++ drop i l₀ → i < length s → length s ≤ length l₀ → x ≡ f (get_or s i 0)
    → set l i x ≡ take (i + 1) (map f s) ++ drop (i + 1) l₀
map_turn f l l₀ s i x e h room q =
    let n = length-map s f in
    ap (λ (y : ℕ). set l i y) (q ∙ sym (get_or-map f s i 0 0 h)) ∙ copy_turn l l₀ (map f s) i e (omega arith) (omega arith)

-- the forms of texts of one length are equal where each two of their bytes have equal forms
pub all_equal : (f : ℕ → ℕ) (a b : List ℕ) → length a ≡ length b → list_all (λ (p : ℕ × ℕ). eqb (f p.0) (f p.1)) (zip a b) ≡ same_list (map f a) (map f b)
unfolding same_list
all_equal f [] [] e = refl
all_equal f [] (y ∷ b) e = absurd (omega arith)
all_equal f (x ∷ a) [] e = absurd (omega arith)
all_equal f (x ∷ a) (y ∷ b) e = ap (λ (t : Bool). eqb (f x) (f y) && t) (all_equal f a b (omega arith))

-- and others are not equal
pub equal_long : (f : ℕ → ℕ) (a b : List ℕ) → (length a ≡ length b → ⊥) → same_list (map f a) (map f b) ≡ false
unfolding same_list
equal_long f [] [] n = absurd (n refl)
equal_long f [] (y ∷ b) n = refl
equal_long f (x ∷ a) [] n = refl
equal_long f (x ∷ a) (y ∷ b) n = go (eqb (f x) (f y)) (equal_long f a b (λ e. n (ap suc e)))
  where
    go : (t : Bool) → same_list (map f a) (map f b) ≡ false → (t && same_list (map f a) (map f b)) ≡ false
    go true e = e
    go false e = refl
