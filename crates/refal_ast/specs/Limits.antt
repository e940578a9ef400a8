-- The limits of document 01.
use Rattle.std.specs.Prelude.{ℕ}

-- the most bytes of a source, and of a text
abbrev pub most_bytes : ℕ
most_bytes = 16777216

-- the most rows of a tree that is written, and its most levels
abbrev pub most_rows : ℕ
most_rows = 33554432

abbrev pub most_levels : ℕ
most_levels = 64
