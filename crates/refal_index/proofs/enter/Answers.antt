-- `refal_index::enter` meets its contract.
use Rattle.std.proofs.Common.{◌≡◌, ◌<◌, ℕ, arith, sym, ap, ◌∙◌, false, List, zero, suc}
use Rattle.std.proofs.Math.Path.{refl}
use Rattle.refal_files.specs.Files.{Placed}
use Rattle.refal_files.specs.View.{rows_of, row_of}
use Rattle.refal_index.specs.Hash.{bucket_of}
use Rattle.refal_index.specs.Chain.{pushed}
use Rattle.refal_index.specs.Named.{bears, no_name, named, with_row}
use Rattle.refal_index.proofs.enter.Goals.{else-buckets-gt0-via-then-buckets-gt0+else-include, else-buckets-gt0-via-else-buckets-gt0}
use Rattle.refal_index.proofs.enter.Goals as goal

no_bucket : (W : List ℕ) (n b : ℕ) (R : ℕ → Placed) (g : ℕ) → (0 < b → ⊥) → W ≡ with_row W n b R g
unfolding with_row
no_bucket W n zero R g h = refl
no_bucket W n (suc b) R g h = absurd (h (omega arith))

pub returns-then-include : goal.returns-then-include
returns-then-include c =
    let a = c.args in
    let n = rows_of a.files.now in
    c.push.ensures
    ∙ ap (λ (k : ℕ). pushed a.words.now k c.bucket-h.result a.g) c.count.ensures
    ∙ ap (λ (h : ℕ). pushed a.words.now n h a.g) (c.bucket-h.ensures.0 ∙ ap (λ (s : List ℕ). bucket_of a.buckets s) c.text.ensures)
    ∙ named a.words.now n a.buckets (row_of a.files.now) a.g (λ e. omega arith) (ap (λ (k : ℕ). bears false k) (sym c.kind.ensures) ∙ sym c.include.ensures ∙ c.if-include.true)

pub returns-else-buckets-gt0 : goal.returns-else-buckets-gt0
returns-else-buckets-gt0 c =
    let a = c.args in
    let n = rows_of a.files.now in
    let e : a.words.now ≡ with_row a.words.now n a.buckets (row_of a.files.now) a.g = elim c.else-buckets-gt0.branch [
      | else-buckets-gt0-via-then-buckets-gt0+else-include w ↦
          no_name a.words.now n a.buckets (row_of a.files.now) a.g (ap (λ (k : ℕ). bears false k) (sym w.kind.ensures) ∙ sym w.include.ensures ∙ w.if-include.false)
      | else-buckets-gt0-via-else-buckets-gt0 w ↦ no_bucket a.words.now n a.buckets (row_of a.files.now) a.g (λ h. omega (arith, w.if-buckets-gt0.false))
    ] in
    e
