-- Which binding is in force at which use, said of rows and without the definition of the first unbound variable. The theorems are proved in
-- ForceTheorems.antt.
use Rattle.std.specs.Prelude.{ℕ, ◌+◌, ◌<◌, List, ◌≡◌, ◌↔◌, None, Some}
use Rattle.refal_ast.specs.Kinds.{node_sentence, node_condition, node_terms, node_variable}
use Rattle.refal_ast.specs.Names.{canonical_index}
use Rattle.refal_tree.specs.Ranges.{kind_at, detail_at, next_at, parent_at}
use Rattle.refal_files.specs.FileLaws.{row_count}
use Rattle.refal_bound.specs.Bound.{index_at, first_unbound}

-- a variable: its letter, and its index in canonical form; two variables are equal when both are
pub record Variable : Type 0 where
  pub letter : ℕ
  pub index : List ℕ

module _ (w : List ℕ) where
  -- row t is the pattern of the sentence q, which is its first part, or that of one of q's conditions: what stands behind the `:`
  pub data PatternOf (q t : ℕ) : Type 0 where
    first : kind_at w t ≡ node_terms → parent_at w t ≡ q → kind_at w q ≡ node_sentence → t ≡ q + 1 → PatternOf q t
    behind : (c : ℕ) → kind_at w t ≡ node_terms → parent_at w t ≡ c → kind_at w c ≡ node_condition → (t ≡ c + 1 → ⊥) → parent_at w c ≡ q → kind_at w q ≡ node_sentence → PatternOf q t

  -- the variable in row b binds in the sentence q: it stands in such a pattern, at whatever level
  pub record Binds (q b : ℕ) : Type 0 where
    pub pattern : ℕ
    pub of : PatternOf q pattern
    pub behind : pattern < b
    pub within : b < next_at w pattern
    pub variable : kind_at w b ≡ node_variable

  -- every other variable is used
  pub record Use (u : ℕ) : Type 0 where
    pub there : u < row_count w
    pub variable : kind_at w u ≡ node_variable
    pub free : (q : ℕ) → Binds q u → ⊥

  -- the binding b is in force at u: it stands before u, and its sentence encloses u
  pub record InForce (b u : ℕ) : Type 0 where
    pub sentence : ℕ
    pub binds : Binds sentence b
    pub before : b < u
    pub encloses : u < next_at w sentence

module _ (w s : List ℕ) where
  abbrev pub variable_at : ℕ → Variable
  variable_at i = record { letter = detail_at w i; index = canonical_index (index_at w s i) }

  -- an equal variable's binding is in force at u
  pub record Bound (u : ℕ) : Type 0 where
    pub binding : ℕ
    pub force : InForce w binding u
    pub equal : variable_at binding ≡ variable_at u

  -- the use u is unbound
  pub record Unbound (u : ℕ) : Type 0 where
    pub used : Use w u
    pub no_binding : Bound u → ⊥

  -- a file passes
  abbrev pub Passes : Type 0
  Passes = (u : ℕ) → Use w u → Bound u

-- ---- the theorems
-- no variable is unbound exactly when every use has an equal binding in force
abbrev pub PassesExactly : Type 0
PassesExactly = (w s : List ℕ) → (first_unbound w s ≡ None) ↔ Passes w s

-- the variable that is found is unbound, and no earlier one is; and that is the one found
abbrev pub FindsFirst : Type 0
FindsFirst = (w s : List ℕ) (u : ℕ) → (first_unbound w s ≡ Some u) ↔ (Unbound w s u × ((v : ℕ) → v < u → Unbound w s v → ⊥))
