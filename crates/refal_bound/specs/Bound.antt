-- Unbound variables, row by row of a file's tree and its source (02, card 5). A sentence's pattern binds its variables, and so does a pattern
-- behind the `:` of one of its conditions, variables at all levels below it; every other variable is used. A binding is in force from its row to the
-- sentence's end.
use Rattle.std.specs.Prelude.{ℕ, ◌+◌, ◌-◌, Bool, false, not, ◌&&◌, List, eqb, ltb, min, Option, None, Some}
use Rattle.std.specs.List.{list_any, range_with_len, find}
use Rattle.refal_text.specs.Pick.{pick}
use Rattle.refal_ast.specs.Kinds.{node_sentence, node_condition, node_terms, node_variable}
use Rattle.refal_ast.specs.Names.{indices_equal}
use Rattle.refal_ast.specs.Nodes.{node_at}
use Rattle.refal_tree.specs.Ranges.{kind_at, detail_at, next_at, parent_at}
use Rattle.refal_files.specs.Files.{node_text}
use Rattle.refal_files.specs.FileLaws.{row_count}

-- a number from `from` on and below `to` passes the test
abbrev pub some_in : ℕ → ℕ → (ℕ → Bool) → Bool
some_in from to test = list_any test (range_with_len from (to - from))

-- the first of them
abbrev pub first_in : ℕ → ℕ → (ℕ → Bool) → Option ℕ
first_in from to test = find test (range_with_len from (to - from))

module _ (w : List ℕ) where
  -- row t begins the sentence q
  abbrev pub begins : ℕ → ℕ → Bool
  begins q t = eqb (kind_at w q) node_sentence && eqb t (q + 1)

  -- row t stands behind the `:` of c, a condition of the sentence q
  abbrev pub behind_colon : ℕ → ℕ → ℕ → Bool
  behind_colon q c t = (eqb (kind_at w c) node_condition && not (eqb t (c + 1))) && eqb (kind_at w q) node_sentence

  -- the row after the sentence whose pattern row t is, or whose condition's pattern; None where t is no pattern
  unfoldable pub scope : ℕ → Option ℕ
  scope t =
      pick (eqb (kind_at w t) node_terms)
      (pick (begins (parent_at w t) t) (Some (next_at w (parent_at w t)))
      (pick (behind_colon (parent_at w (parent_at w t)) (parent_at w t) t) (Some (next_at w (parent_at w (parent_at w t)))) None))
      None

  -- what row t binds is in force at row u, which stands behind it
  abbrev pub within : Option ℕ → ℕ → Bool
  within None u = false
  within (Some end) u = ltb u end

  -- row u stands in the pattern t, whose scope it is
  abbrev pub inside : Option ℕ → ℕ → ℕ → Bool
  inside None t u = false
  inside (Some end) t u = ltb u (next_at w t)

  abbrev pub binds_in : ℕ → ℕ → Bool
  binds_in u t = inside (scope t) t u

  -- a variable outside all patterns
  unfoldable pub is_use : ℕ → Bool
  is_use u = eqb (kind_at w u) node_variable && not (some_in 0 u (binds_in u))

module _ (w s : List ℕ) where
  abbrev pub index_at : ℕ → List ℕ
  index_at i = node_text s (node_at w i)

  -- row b is a variable of the letter and an index equal to this one
  unfoldable pub is_variable : ℕ → List ℕ → ℕ → Bool
  is_variable letter index b = eqb (kind_at w b) node_variable && (eqb (detail_at w b) letter && indices_equal (index_at b) index)

  -- a variable of the pattern t, before u, is equal to u and in force there
  unfoldable pub bound_by : ℕ → ℕ → Bool
  bound_by u t = within w (scope w t) u && some_in (t + 1) (min (next_at w t) u) (is_variable (detail_at w u) (index_at u))

  -- a use with no such variable
  unfoldable pub is_unbound : ℕ → Bool
  is_unbound u = is_use w u && not (some_in 0 u (bound_by u))

  -- the first one
  unfoldable pub first_unbound : Option ℕ
  first_unbound = first_in 0 (row_count w) is_unbound
