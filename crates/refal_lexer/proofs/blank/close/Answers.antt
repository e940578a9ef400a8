-- `refal_lexer::blank::close` meets its contract: the first pair of neighbours that is a star and a slash.
use Rattle.std.proofs.Common.{arith, rules, tests, ℕ, ◌+◌, ◌≡◌, ◌∙◌, ap, refl, Bool, true, false, List, [], ◌∷◌, Option, Some, None, length, length-drop, drop, get_or, eqb, take_all}
use Rattle.std.specs.Prelude.{◌&&◌, cond}
use Rattle.std.specs.List.{position_from}
use Rattle.std.specs.Iterator.{AlwaysYields}
use Rattle.std.specs.Slice.Iter.{windows_rest, windows_size, windows_steps}
use Rattle.std.proofs.lemmas.Iterator.{YieldsList}
use Rattle.std.proofs.lemmas.Iterator.Adapters.{position_from-zero}
use Rattle.std.proofs.lemmas.Iterator.Search.{position_from_yields_List}
use Rattle.refal_text.specs.Pick.{pick}
use Rattle.refal_lexer.specs.Blanks.{close_to}
use Rattle.refal_lexer.specs.Scans.{Comment, Long, Bare}
use Rattle.refal_lexer.specs.Told.{close_told}
use Rattle.refal_lexer.proofs.blank.close.Goals as goal

-- the pairs of neighbours
abbrev pairs : List ℕ → List (List ℕ)
pairs [] = []
pairs (a ∷ []) = []
pairs (a ∷ b ∷ s) = (a ∷ b ∷ []) ∷ pairs (b ∷ s)

abbrev closes : List ℕ → Bool
closes w = eqb (length w) 2 && (eqb (get_or w 0 0) 42 && eqb (get_or w 1 0) 47)

pairs_come : (xs : List ℕ) (s : _) → windows_size s ≡ 2 → windows_rest s ≡ xs → AlwaysYields windows_steps (λ w. w.now) s (pairs xs)
pairs_come [] s e f = λ x j p. let n = p.1.0 in let l = ap length f in absurd (omega arith)
pairs_come (a ∷ []) s e f = λ x j p. let n = p.1.0 in let l = ap length f in absurd (omega arith)
pairs_come (a ∷ b ∷ xs) s e f = (
  (λ j p. let n = p.1.0 in let l = ap length f in absurd (omega arith)),
  (λ x j p. (p.1.1 ∙ rw (e, f) refl, pairs_come (b ∷ xs) j (p.0 ∙ e) (p.1.2 ∙ ap (λ (t : List ℕ). drop 1 t) f))),
)

-- the comment that the first pair that closes gives, at i behind the two bytes that open it
abbrev ended : Option ℕ → Comment
ended (Some i) = Long (i + 4)
ended None = Bare true

close_pairs : (n : ℕ) (s : List ℕ) → ended (position_from closes n (pairs s)) ≡ close_to false (n + 2) s
unfolding close_to
close_pairs n [] = refl
close_pairs n (a ∷ []) = refl
close_pairs n (a ∷ b ∷ s) =
    let z : n + 1 + 2 ≡ n + 2 + 1 = omega arith in
    go (eqb a 42) (eqb b 47) (close_pairs (n + 1) (b ∷ s) ∙ ap (λ (k : ℕ). close_to (eqb b 42) (k + 1) s) z)
  where
    on : Option ℕ
    on = position_from closes (n + 1) (pairs (b ∷ s))

    go : (t u : Bool) → ended on ≡ close_to (eqb b 42) (n + 2 + 1 + 1) s → ended (cond (t && u) (Some n) on) ≡ pick (t && u) (Long (n + 2 + 1 + 1)) (close_to (eqb b 42) (n + 2 + 1 + 1) s)
    go true true h = ap Long (omega arith)
    go true false h = h
    go false u h = h

pub returns-clause-told : goal.returns-clause-told
returns-clause-told c =
    let s = drop 2 c.args.src.now in
    let y : YieldsList windows_steps (λ w. w.now) c.windows.result (pairs s) = record { runs = pairs_come s c.windows.result c.windows.ensures.size (c.windows.ensures.rest ∙ take_all _ s (omega (arith, length-drop 2 c.args.src.now))) } in
    let p = position_from_yields_List closes c.position.new.self _ c.position.result c.position.ensures.ran y (λ x b q k. search (rules, tests)) in
    let m : close_told c.map.result ≡ ended c.position.result = search rules in
    m ∙ ap ended (p ∙ position_from-zero closes (pairs s)) ∙ close_pairs 0 s
