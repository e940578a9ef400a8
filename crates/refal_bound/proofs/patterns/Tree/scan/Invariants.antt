-- `refal_bound::patterns::Tree::scan`: no row before is unbound, and what is in force is kept.
use Rattle.std.proofs.Common.{◌≡◌, ◌<◌, ℕ, false}
use Rattle.refal_bound.specs.Bound.{is_unbound}
use Rattle.refal_bound.specs.Scan.{Keeps, reach}
use Rattle.refal_files.specs.FileLaws.{row_count}
use Rattle.refal_bound.proofs.patterns.Tree.scan.Given as goal

abbrev pub invariant-loop-u : goal.invariant-loop-u
invariant-loop-u l =
    (l.bindings.rows ≡ row_count l.self.tree.now)
    × (l.far ≡ reach l.self.tree.now l.u)
    × Keeps l.self.tree.now l.self.source.now l.bindings.words.now l.bindings.rows l.bindings.buckets l.u
    × ((v : ℕ) → v < l.u → is_unbound l.self.tree.now l.self.source.now v ≡ false)
