-- What the code's names know: Names in the terms of Named.antt.
use Rattle.std.specs.Prelude.{ℕ, ◌+◌, ◌<◌, ◌≡◌, Bool, List, Option, Some, None}
use Rattle.refal_files.specs.View.{rows_of, row_of}
use Rattle.refal_files.specs.declared.Files.{Files}
use Rattle.refal_index.specs.Named.{with_row}
use Rattle.refal_index.specs.View.{known_before}
use Rattle.refal_index.specs.declared.index.Index.{Index}
use Rattle.refal_index.specs.declared.Names.{Names}

-- a row that is entered bears the name
abbrev pub knows : Names → Bool → List ℕ → Bool
knows names functions name = known_before names.files functions name names.entered

-- an index of the files' rows over so many buckets; none where there is no bucket
abbrev pub Over : Option Index → Files → ℕ → Type 0
Over None f b = b ≡ 0
Over (Some i) f b = (0 < b) × (i.rows ≡ rows_of f) × (i.buckets ≡ b)

-- the words with row g entered, where there are any
abbrev pub Gains : Option Index → Option Index → Files → ℕ → Type 0
Gains None j f g = j ≡ None
Gains (Some i) None f g = ⊥
Gains (Some i) (Some j) f g = (j.rows ≡ i.rows) × (j.buckets ≡ i.buckets) × (j.words.now ≡ with_row i.words.now i.rows i.buckets (row_of f) g)

-- the next row is entered
pub record EntersNext (old new : Names) : Type 0 where
  pub files : new.files ≡ old.files
  pub entered : new.entered ≡ old.entered + 1
  pub index : Gains old.index new.index old.files old.entered
