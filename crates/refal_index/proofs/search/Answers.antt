-- `refal_index::search` meets its contract.
use Rattle.std.proofs.Common.{rules, tests, ◌≡◌, ℕ, zero, suc, ◌+◌, Bool, true, false, ◌||◌, arith, refl, ap, ap₂, ◌∙◌}
use Rattle.std.specs.List.{list_any, range_with_len}
use Rattle.std.proofs.lemmas.Iterator.{YieldsList-from_range}
use Rattle.std.proofs.lemmas.Iterator.Search.{any_from_yields_List}
use Rattle.refal_files.specs.View.{row_of}
use Rattle.refal_index.specs.Named.{seen, answers_to}
use Rattle.refal_index.specs.View.{only_functions}
use Rattle.refal_index.proofs.search.Goals as goal

or_turn : (x y z : Bool) → (x || (y || z)) ≡ (y || (x || z))
or_turn true true z = refl
or_turn true false z = refl
or_turn false true z = refl
or_turn false false z = refl

-- one number more, behind those from a on
any_more : (t : ℕ → Bool) (a n : ℕ) → list_any t (range_with_len a (suc n)) ≡ (t (a + n) || list_any t (range_with_len a n))
any_more t a zero = rw (let e : a + 0 ≡ a = omega arith in e) refl
any_more t a (suc n) =
    ap (λ (x : Bool). t a || x) (any_more t (a + 1) n)
    ∙ or_turn (t a) (t (a + 1 + n)) (list_any t (range_with_len (a + 1) n))
    ∙ ap (λ (k : ℕ). t k || (t a || list_any t (range_with_len (a + 1) n))) (let e : a + 1 + n ≡ a + suc n = omega arith in e)

any_seen : (t : ℕ → Bool) (n : ℕ) → list_any t (range_with_len 0 n) ≡ seen t n
unfolding seen
any_seen t zero = refl
any_seen t (suc n) = any_more t 0 n ∙ ap₂ (λ (k : ℕ) (x : Bool). t k || x) (let e : 0 + n ≡ n = omega arith in e) (any_seen t n)

pub returns : goal.returns
returns c =
    let a = c.args in
    let t = λ (i : ℕ). answers_to (only_functions a.bearers) a.name.now (row_of a.files.now i) in
    any_from_yields_List t _ _ c.any.result c.any.ensures.ran (YieldsList-from_range 0 a.g a.g refl (omega arith)) (λ x b q k. search (rules, tests))
    ∙ any_seen t a.g
