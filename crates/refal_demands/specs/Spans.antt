-- Equality of trees of rows, spans aside, as document 01 has it: "as many rows, and agree in every word but the two of the span".
use Rattle.std.specs.Prelude.{◌≡◌, ℕ, ◌%◌, List, length, get_or}
use Rattle.refal_ast.specs.Nodes.{node_width}

-- word i is none of a span's two, which are words 4 and 5 of a row
abbrev pub OutsideSpan : ℕ → Type 0
OutsideSpan i = (i % node_width ≡ 4 → ⊥) × (i % node_width ≡ 5 → ⊥)

pub record SameButSpans (T U : List ℕ) : Type 0 where
  pub rows : length T ≡ length U
  pub words : (i : ℕ) → OutsideSpan i → get_or T i 0 ≡ get_or U i 0
