-- The definition `parsed` over trees: it is sound, complete up to 64 levels, and a list of tokens has one tree at most, spans aside.
use mathlib.Core.Path.{◌≡◌, refl, sym, ap, ◌∙◌}
use Prim.Native.Nat.{ℕ, ◌+◌, ◌*◌, ◌%◌, ◌≤◌}
use mathlib.Core.List.{List, [], ◌∷◌, ◌++◌}
use mathlib.Core.Bool.{Bool, true, false, ◌&&◌}
use native.Mathlib.Omega.{arith}
use lib.Dec.{leb, eqb}
use lib.ListN.{length}
use Rattle.refal_rows.specs.Tests.{and_right}
use Rattle.refal_ast.specs.Kinds.{tok_eof}
use Rattle.refal_ast.specs.Tokens.{Token, token, tokens_of}
use Rattle.refal_ast.specs.Check.{ok_tokens, well_formed}
use Rattle.refal_ast.specs.Tree.{Program, p0, depth_p}
use Rattle.refal_ast.specs.Flatten.{Flat, mark, flats_of, Loose, loose_none}
use Rattle.refal_ast.specs.Limits.{most_levels}
use Rattle.refal_parser.specs.Machine.{outside, tree, refuse, run}
use Rattle.refal_parser.specs.Parse.{pick_outcome, parsed}
use Rattle.refal_demands.proofs.Fields.{ends}
use Rattle.refal_demands.proofs.Read.{any}
use Rattle.refal_demands.proofs.Sound.{sound}
use Rattle.refal_demands.proofs.Complete.{complete, Accepts}
use Rattle.refal_demands.proofs.Respan.{erase_p}

pub parsed_good : (w : List ℕ) → well_formed w ≡ true → parsed w ≡ run most_levels (tokens_of w) p0 outside
unfolding parsed
parsed_good w e = ap (λ (b : Bool). pick_outcome b (run most_levels (tokens_of w) p0 outside) (refuse 30 0 0 0 0)) e

-- what is accepted is well-formed
pub good : (w : List ℕ) (t : Program) → parsed w ≡ tree t → well_formed w ≡ true
unfolding parsed
good w t e = go (well_formed w) e
  where
    go : (b : Bool) → pick_outcome b (run most_levels (tokens_of w) p0 outside) (refuse 30 0 0 0 0) ≡ tree t → b ≡ true
    go true h = refl
    go false h = let z : ◌≡◌ {A = ℕ} 0 1 = cc in let y : ⊥ = omega arith in absurd y

pub ok_tokens_lem : (w : List ℕ) → well_formed w ≡ true → ok_tokens (tokens_of w) ≡ true
unfolding well_formed
ok_tokens_lem w g = and_right (eqb (length w % 6) 0 && leb (length w) (6 * 16777217)) (ok_tokens (tokens_of w)) g

-- What is accepted is the flattening of the tree, but for semicolons outside items, and the tree nests no deeper than 64.
pub soundness : (w : List ℕ) (t : Program) → parsed w ≡ tree t → (l : List Flat) × (flats_of (tokens_of w) ≡ l ++ (mark tok_eof ∷ [])) × Loose t l × (depth_p t ≤ most_levels)
unfolding depth_p
soundness w t e =
    let g : well_formed w ≡ true = good w t e in
    let n = sound most_levels (tokens_of w) (ends (tokens_of w) (ok_tokens_lem w g)) p0 outside t [] any (omega arith) loose_none (sym (parsed_good w g) ∙ e) in
    (n.l, n.flat, n.loose, n.deep)

-- What is the flattening, but for semicolons outside items, of a tree that nests no deeper than 64 is accepted, with that tree, spans aside.
pub completeness : (w : List ℕ) (s : Program) (l : List Flat) → well_formed w ≡ true → depth_p s ≤ most_levels → Loose s l
    → flats_of (tokens_of w) ≡ l ++ (mark tok_eof ∷ []) → (t : Program) × (parsed w ≡ tree t) × (erase_p t ≡ erase_p s)
completeness w s l g d h e =
    let a = complete h most_levels (tokens_of w) d e in
    (a.t, parsed_good w g ∙ a.means, a.same)

-- tokens of given flattened forms
made : List Flat → List Token
made [] = []
made (c ∷ l) = token c.kind c.detail c.start c.len 0 0 ∷ made l

flats_made : (l : List Flat) → flats_of (made l) ≡ l
unfolding made
flats_made [] = refl
flats_made (c ∷ l) = ap (λ (k : List Flat). c ∷ k) (flats_made l)

-- Two trees, however deep, that flatten to the same, but for semicolons outside items, are the same, spans aside.
pub uniqueness : (s u : Program) (l : List Flat) → Loose s l → Loose u l → erase_p s ≡ erase_p u
uniqueness s u l h i =
    let ts : List Token = made (l ++ (mark tok_eof ∷ [])) in
    let k : flats_of ts ≡ l ++ (mark tok_eof ∷ []) = flats_made (l ++ (mark tok_eof ∷ [])) in
    both_same ts (complete h (depth_p s + depth_p u) ts (omega arith) k) (complete i (depth_p s + depth_p u) ts (omega arith) k)
  where
    both_same : (ts : List Token) → Accepts (depth_p s + depth_p u) ts s → Accepts (depth_p s + depth_p u) ts u → erase_p s ≡ erase_p u
    both_same ts a b = let q : a.t ≡ b.t = cc in sym a.same ∙ ap erase_p q ∙ b.same
