-- The code's files and rows as Files.antt has them.
use Rattle.std.specs.Prelude.{ℕ}
use Rattle.refal_ast.specs.Nodes.{node_at}
use Rattle.refal_ast.specs.Told.{file_code}
use Rattle.refal_files.specs.Files.{Placed, placed}
use Rattle.refal_files.specs.FileLaws.{both_count, row_at}
use Rattle.refal_files.specs.declared.Files.{Files as TheFiles}
use Rattle.refal_files.specs.declared.row.Row.{Row}

-- how many rows both have
abbrev pub rows_of : TheFiles → ℕ
rows_of f = both_count f.one.tree.now f.two.tree.now

-- row number g
abbrev pub row_of : TheFiles → ℕ → Placed
row_of f = row_at f.one.tree.now f.one.source.now f.two.tree.now f.two.source.now

abbrev pub placed_of : Row → Placed
placed_of r = placed (file_code r.which) r.file.source.now (node_at r.file.tree.now r.number)
