-- Laws of the rows of two files by number: number g is row g of file one where that has so many rows, else a row of file two. What a loop over the
-- numbers has before it at g is the list of rows from g on.
use Prim.Native.Nat.{ℕ, suc, ◌+◌, ◌-◌, ◌/◌, ◌≤◌, ◌<◌}
use Rattle.std.specs.Prelude.{Bool, true, false, ◌≡◌, eqb, leb, get_or}
use mathlib.Core.List.{List, [], ◌∷◌, ◌++◌}
use Rattle.std.proofs.Math.Path.{refl, ap, sym}
use Rattle.std.proofs.Common.{◌∙◌, add-one, le-leb, eq-eqb, ne_eqb, drop_of_length-le, drop-cons}
use native.Mathlib.Omega.{arith}
use Rattle.std.proofs.Math.Decide.{dec_le}
use Rattle.std.proofs.lemmas.Bool.{lt-leb}
use Rattle.std.proofs.Math.ListN.{length, drop, length-append, get_or-map}
use Rattle.std.proofs.lemmas.List.{length-map}
use Rattle.std.proofs.Math.Seq.{drop-append-le, drop-append-add}
use Rattle.refal_text.specs.Pick.{pick}
use Rattle.refal_ast.specs.Nodes.{Node, node_width, node_at, nodes_of, HasRow}
use Rattle.refal_ast.specs.NodeLaws.{count_nodes, node_at_lem}
use Rattle.refal_files.specs.Files.{Placed, placed, file_rows, both_rows, of_kind}

-- how many rows words hold
abbrev pub row_count : List ℕ → ℕ
row_count w = length w / node_width

-- how many both hold
abbrev pub both_count : List ℕ → List ℕ → ℕ
both_count w₁ w₂ = row_count w₁ + row_count w₂

-- row number g
unfoldable pub row_at : List ℕ → List ℕ → List ℕ → List ℕ → ℕ → Placed
row_at w₁ s₁ w₂ s₂ g = pick (leb (row_count w₁) g) (placed 2 s₂ (node_at w₂ (g - row_count w₁))) (placed 1 s₁ (node_at w₁ g))

-- ---- one file's rows
count_file : (f : ℕ) (w s : List ℕ) → length (file_rows f w s) ≡ row_count w
unfolding file_rows
count_file f w s = length-map (nodes_of w) (placed f s) ∙ count_nodes w

file_at : (f : ℕ) (w s : List ℕ) (i : ℕ) (x : Node) → HasRow w i → get_or (file_rows f w s) i (placed f s x) ≡ placed f s (node_at w i)
unfolding file_rows
file_at f w s i x h = get_or-map (placed f s) (nodes_of w) i x ∙ ap (placed f s) (node_at_lem w i x h)

file_from : (f : ℕ) (w s : List ℕ) (i : ℕ) → i < row_count w → drop i (file_rows f w s) ≡ placed f s (node_at w i) ∷ drop (suc i) (file_rows f w s)
file_from f w s i h =
    let c = count_file f w s in
    drop-cons (file_rows f w s) i (placed f s (node_at w i)) (omega arith)
    ∙ ap (λ (p : Placed). p ∷ drop (suc i) (file_rows f w s)) (file_at f w s i (node_at w i) (let z : HasRow w i = omega arith in z))

module _ (w₁ s₁ w₂ s₂ : List ℕ) where
  pub row_one : (g : ℕ) → g < row_count w₁ → row_at w₁ s₁ w₂ s₂ g ≡ placed 1 s₁ (node_at w₁ g)
  unfolding row_at
  row_one g h = rw (lt-leb (row_count w₁) g h) refl

  pub row_two : (g i : ℕ) → g ≡ row_count w₁ + i → row_at w₁ s₁ w₂ s₂ g ≡ placed 2 s₂ (node_at w₂ i)
  unfolding row_at
  row_two g i e =
      let d : g - row_count w₁ ≡ i = omega arith in
      rw (le-leb (row_count w₁) g (let z : row_count w₁ ≤ g = omega arith in z), d) refl

  pub count_both : length (both_rows w₁ s₁ w₂ s₂) ≡ both_count w₁ w₂
  unfolding both_rows
  count_both =
      let a = count_file 1 w₁ s₁ in
      let b = count_file 2 w₂ s₂ in
      length-append (file_rows 1 w₁ s₁) (file_rows 2 w₂ s₂) ∙ omega arith

  -- ---- the rows from g on
  from_one : (g : ℕ) → g < row_count w₁ → drop g (both_rows w₁ s₁ w₂ s₂) ≡ row_at w₁ s₁ w₂ s₂ g ∷ drop (suc g) (both_rows w₁ s₁ w₂ s₂)
  unfolding both_rows
  from_one g h =
      let c = count_file 1 w₁ s₁ in
      drop-append-le g (file_rows 1 w₁ s₁) (file_rows 2 w₂ s₂) (omega arith)
      ∙ ap (λ (l : List Placed). l ++ file_rows 2 w₂ s₂) (file_from 1 w₁ s₁ g h)
      ∙ rw (row_one g h, drop-append-le (suc g) (file_rows 1 w₁ s₁) (file_rows 2 w₂ s₂) (let z : suc g ≤ length (file_rows 1 w₁ s₁) = omega arith in z)) refl

  from_two : (g : ℕ) → row_count w₁ ≤ g → g < both_count w₁ w₂ → drop g (both_rows w₁ s₁ w₂ s₂) ≡ row_at w₁ s₁ w₂ s₂ g ∷ drop (suc g) (both_rows w₁ s₁ w₂ s₂)
  unfolding both_rows
  from_two g h l =
      let c = count_file 1 w₁ s₁ in
      let e : g ≡ length (file_rows 1 w₁ s₁) + (g - row_count w₁) = omega arith in
      let f : suc g ≡ length (file_rows 1 w₁ s₁) + suc (g - row_count w₁) = omega arith in
      ap (λ (k : ℕ). drop k (file_rows 1 w₁ s₁ ++ file_rows 2 w₂ s₂)) e
      ∙ drop-append-add (file_rows 1 w₁ s₁) (file_rows 2 w₂ s₂) (g - row_count w₁)
      ∙ file_from 2 w₂ s₂ (g - row_count w₁) (omega arith)
      ∙ sym (ap (λ (p : Placed). p ∷ drop (suc g) (file_rows 1 w₁ s₁ ++ file_rows 2 w₂ s₂)) (row_two g (g - row_count w₁) (let z : g ≡ row_count w₁ + (g - row_count w₁) = omega arith in z))
      ∙ ap (λ (l : List Placed). placed 2 s₂ (node_at w₂ (g - row_count w₁)) ∷ l) (ap (λ (k : ℕ). drop k (file_rows 1 w₁ s₁ ++ file_rows 2 w₂ s₂)) f ∙ drop-append-add (file_rows 1 w₁ s₁) (file_rows 2 w₂ s₂) (suc (g - row_count w₁))))

  pub rows_from : (g : ℕ) → g < both_count w₁ w₂ → drop g (both_rows w₁ s₁ w₂ s₂) ≡ row_at w₁ s₁ w₂ s₂ g ∷ drop (suc g) (both_rows w₁ s₁ w₂ s₂)
  rows_from g l = go (dec_le (row_count w₁) g)
    where
      go : Dec (row_count w₁ ≤ g) → drop g (both_rows w₁ s₁ w₂ s₂) ≡ row_at w₁ s₁ w₂ s₂ g ∷ drop (suc g) (both_rows w₁ s₁ w₂ s₂)
      go (yes h) = from_two g h l
      go (no h) = from_one g (let z : g < row_count w₁ = omega arith in z)

  pub rows_end : (g : ℕ) → both_count w₁ w₂ ≤ g → drop g (both_rows w₁ s₁ w₂ s₂) ≡ []
  rows_end g l = let c = count_both in drop_of_length-le (both_rows w₁ s₁ w₂ s₂) (let z : length (both_rows w₁ s₁ w₂ s₂) ≤ g = omega arith in z)

-- ---- the rows of a kind
pub of_in : (k : ℕ) (p : Placed) (ps : List Placed) → p.node.kind ≡ k → of_kind k (p ∷ ps) ≡ p ∷ of_kind k ps
unfolding of_kind
of_in k p ps e = rw (eq-eqb p.node.kind k e) refl

pub of_out : (k : ℕ) (p : Placed) (ps : List Placed) → (p.node.kind ≡ k → ⊥) → of_kind k (p ∷ ps) ≡ of_kind k ps
unfolding of_kind
of_out k p ps e = rw (ne_eqb p.node.kind k e) refl

pub of_none : (k : ℕ) → of_kind k [] ≡ []
unfolding of_kind
of_none k = refl

pub of_append : (k : ℕ) (ps qs : List Placed) → of_kind k (ps ++ qs) ≡ of_kind k ps ++ of_kind k qs
unfolding of_kind
of_append k [] qs = refl
of_append k (p ∷ ps) qs = go (eqb p.node.kind k) (of_append k ps qs)
  where
    go : (t : Bool) → of_kind k (ps ++ qs) ≡ of_kind k ps ++ of_kind k qs → pick t (p ∷ of_kind k (ps ++ qs)) (of_kind k (ps ++ qs)) ≡ pick t (p ∷ of_kind k ps) (of_kind k ps) ++ of_kind k qs
    go true e = ap (λ (l : List Placed). p ∷ l) e
    go false e = e

-- in a loop over the numbers
module _ (w₁ s₁ w₂ s₂ : List ℕ) (k g : ℕ) where
  pub kind_in : g < both_count w₁ w₂ → (row_at w₁ s₁ w₂ s₂ g).node.kind ≡ k → of_kind k (drop g (both_rows w₁ s₁ w₂ s₂)) ≡ row_at w₁ s₁ w₂ s₂ g ∷ of_kind k (drop (g + 1) (both_rows w₁ s₁ w₂ s₂))
  kind_in h e = rw (rows_from w₁ s₁ w₂ s₂ g h, add-one g) (of_in k (row_at w₁ s₁ w₂ s₂ g) (drop (suc g) (both_rows w₁ s₁ w₂ s₂)) e)

  pub kind_out : g < both_count w₁ w₂ → ((row_at w₁ s₁ w₂ s₂ g).node.kind ≡ k → ⊥) → of_kind k (drop g (both_rows w₁ s₁ w₂ s₂)) ≡ of_kind k (drop (g + 1) (both_rows w₁ s₁ w₂ s₂))
  kind_out h e = rw (rows_from w₁ s₁ w₂ s₂ g h, add-one g) (of_out k (row_at w₁ s₁ w₂ s₂ g) (drop (suc g) (both_rows w₁ s₁ w₂ s₂)) e)

  pub kind_end : both_count w₁ w₂ ≤ g → of_kind k (drop g (both_rows w₁ s₁ w₂ s₂)) ≡ []
  kind_end h = rw (rows_end w₁ s₁ w₂ s₂ g h) (of_none k)
