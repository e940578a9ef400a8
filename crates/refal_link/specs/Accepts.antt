-- When linking accepts, said without its definition: row by row of the two trees. The theorems are proved in Theorems.antt.
use Rattle.std.specs.Prelude.{ℕ, ◌+◌, ◌<◌, true, List, [], ◌∷◌, ◌↔◌, ◌≡◌, eqb}
use Rattle.refal_text.specs.Pick.{pick}
use Rattle.refal_ast.specs.Kinds.{node_name, node_function, node_call}
use Rattle.refal_ast.specs.Names.{names_equal}
use Rattle.refal_ast.specs.Nodes.{Node, node_at, nodes_of}
use Rattle.refal_ast.specs.Answers.{Done}
use Rattle.refal_tree.specs.Lawful.{lawful}
use Rattle.refal_spelling.specs.Spellings.{all_spelled}
use Rattle.refal_files.specs.Files.{node_text}
use Rattle.refal_files.specs.FileLaws.{row_count}
use Rattle.refal_bound.specs.Force.{Passes}
use Rattle.refal_link.specs.Link.{link_answer}

-- row i of file one, and of file two
pub data Place : Type 0 where
  one : ℕ → Place
  two : ℕ → Place

module _ (w₁ s₁ w₂ s₂ : List ℕ) where
  -- a row of the kind stands there
  abbrev pub Stands : ℕ → Place → Type 0
  Stands kind (one i) = (i < row_count w₁) × ((node_at w₁ i).kind ≡ kind)
  Stands kind (two i) = (i < row_count w₂) × ((node_at w₂ i).kind ≡ kind)

  -- the name of the row there
  abbrev pub name_at : Place → List ℕ
  name_at (one i) = node_text s₁ (node_at w₁ i)
  name_at (two i) = node_text s₂ (node_at w₂ i)

  -- a function or a declared name of either file has an equal name
  pub data Met (c : Place) : Type 0 where
    by_function : (p : Place) → Stands node_function p → names_equal (name_at c) (name_at p) ≡ true → Met c
    by_declared : (p : Place) → Stands node_name p → names_equal (name_at c) (name_at p) ≡ true → Met c

  -- both files pass 40 and 41; functions of equal names are one and the same; every call's name is met; every variable that is used is bound
  pub record Links : Type 0 where
    pub lawful_one : lawful w₁ ≡ true
    pub spelled_one : all_spelled s₁ w₁ ≡ true
    pub lawful_two : lawful w₂ ≡ true
    pub spelled_two : all_spelled s₂ w₂ ≡ true
    pub apart : (p q : Place) → Stands node_function p → Stands node_function q → names_equal (name_at p) (name_at q) ≡ true → p ≡ q
    pub met : (c : Place) → Stands node_call c → Met c
    pub bound_one : Passes w₁ s₁
    pub bound_two : Passes w₂ s₂

-- how many calls a tree has
abbrev pub calls_among : List Node → ℕ
calls_among [] = 0
calls_among (x ∷ xs) = pick (eqb x.kind node_call) 1 0 + calls_among xs

abbrev pub calls_in : List ℕ → ℕ
calls_in w = calls_among (nodes_of w)

-- ---- the theorems
-- linking accepts exactly then, and its count is that of all calls of both
abbrev pub AcceptsExactly : Type 0
AcceptsExactly = (w₁ s₁ w₂ s₂ : List ℕ) (n : ℕ) → (link_answer w₁ s₁ w₂ s₂ ≡ Done n) ↔ (Links w₁ s₁ w₂ s₂ × (n ≡ calls_in w₁ + calls_in w₂))

-- it accepts the files in the other order too, with the same count
abbrev pub EitherWay : Type 0
EitherWay = (w₁ s₁ w₂ s₂ : List ℕ) (n : ℕ) → link_answer w₁ s₁ w₂ s₂ ≡ Done n → link_answer w₂ s₂ w₁ s₁ ≡ Done n
