-- The code's rows that bear names, and its index, as Named.antt has them.
use Rattle.std.specs.Prelude.{ℕ, ◌+◌, ◌<◌, ◌≡◌, Bool, true, false, List, [], ◌∷◌, get_or, Option, Some, None}
use Rattle.std.specs.Coded.{×_prop, Unit-prop, le_prop}
use Rattle.std.proofs.Math.Nat.{ℕ_set}
use Rattle.std.proofs.Common.{arith}
use Rattle.refal_files.specs.Files.{Placed}
use Rattle.refal_files.specs.FileLaws.{both_count}
use Rattle.refal_files.specs.View.{rows_of, row_of}
use Rattle.refal_files.specs.declared.Files.{Files}
use Rattle.refal_index.specs.Chain.{Falls, Chain, Chained, only}
use Rattle.refal_index.specs.Named.{Sized, Holds, row_bucket, entered, with_row, answers_to, seen, enters}
use Rattle.refal_index.specs.declared.Bearers.{Bearers}
use Rattle.refal_index.specs.declared.Bearers.TheVariants as bearers
use Rattle.refal_index.specs.declared.index.Index.{Index}

-- only functions are asked for
abbrev pub only_functions : Bearers → Bool
only_functions bearers.Functions = true
only_functions bearers.All = false

-- a row before g bears the name
abbrev pub known_before : Files → Bool → List ℕ → ℕ → Bool
known_before f functions name g = seen (λ i. answers_to functions name (row_of f i)) g

-- an index of the files' rows: the words hold those before g that bear names
abbrev pub Indexes : Index → Files → ℕ → Type 0
Indexes i f g = Sized i.rows i.buckets f.one.tree.now f.two.tree.now × Holds i.words.now i.rows i.buckets (row_of f) g

-- the same, where there is an index
abbrev pub IndexesIf : Option Index → Files → ℕ → Type 0
IndexesIf None f g = Unit {0}
IndexesIf (Some i) f g = Indexes i f g

-- ---- each of these facts has one proof
falls_prop : (n : ℕ) (l : List ℕ) → IsProp (Falls n l)
falls_prop n [] = Unit-prop
falls_prop n (g ∷ l) = ×_prop le_prop (falls_prop g l)

chain_prop : (w : List ℕ) (p : ℕ) (c : List ℕ) → IsProp (Chain w p c)
chain_prop w p [] = ℕ_set p 0
chain_prop w p (g ∷ c) = ×_prop (ℕ_set p (g + 1)) (chain_prop w (get_or w g 0) c)

chained_prop : (w : List ℕ) (n b : ℕ) (k : ℕ → ℕ) (l : List ℕ) → IsProp (Chained w n b k l)
chained_prop w n b k l = λ x y i. record {
  falls = falls_prop n l x.falls y.falls i;
  chains = λ h m. chain_prop w (get_or w (n + h) 0) (only k h l) (x.chains h m) (y.chains h m) i;
}

sized_prop : (n b : ℕ) (w₁ w₂ : List ℕ) → IsProp (Sized n b w₁ w₂)
sized_prop n b w₁ w₂ = λ x y i. record {
  total = ℕ_set n (both_count w₁ w₂) x.total y.total i;
  few = le_prop x.few y.few i;
  cut = le_prop x.cut y.cut i;
}

holds_prop : (W : List ℕ) (n b : ℕ) (R : ℕ → Placed) (g : ℕ) → IsProp (Holds W n b R g)
holds_prop W n b R g = λ x y i. record {
  room = λ h. le_prop (x.room h) (y.room h) i;
  chained = λ h. chained_prop W n b (row_bucket R b) (entered R g) (x.chained h) (y.chained h) i;
}

pub indexes_if_prop : (i : Option Index) (f : Files) (g : ℕ) → IsProp (IndexesIf i f g)
indexes_if_prop None f g = Unit-prop
indexes_if_prop (Some i) f g = ×_prop (sized_prop i.rows i.buckets f.one.tree.now f.two.tree.now) (holds_prop i.words.now i.rows i.buckets (row_of f) g)

-- ---- the next row
pub indexes_next : (i j : Index) (f : Files) (g : ℕ) → Indexes i f g → g < rows_of f → j.rows ≡ i.rows → j.buckets ≡ i.buckets → j.words.now ≡ with_row i.words.now i.rows i.buckets (row_of f) g → Indexes j f (g + 1)
indexes_next i j f g h l r b w =
    let S = h.0 in (
      record { total = omega arith; few = omega arith; cut = omega arith },
      rw (w, r, b) (enters i.words.now i.rows i.buckets (row_of f) g (omega arith) h.1),
    )
