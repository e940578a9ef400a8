-- Parsing from an item's edge on: what stands there is parsed as a list of its own, with the items before put before.
use Rattle.std.specs.Prelude.{ℕ, ◌+◌, List, [], ◌∷◌, eqb}
use Rattle.refal_ast.specs.Tree.{Program, p0, p_more}
use Rattle.refal_text.specs.Pick.{pick}
use Rattle.refal_ast.specs.Nodes.{no_parent}
use Rattle.refal_parser.specs.Machine.{Outcome, tree, refuse}

-- the items of p, then those of q
unfoldable pub join_p : Program → Program → Program
join_p p p0 = p
join_p p (p_more q x) = p_more (join_p p q) x

-- an outcome with the items of p put before; a refusal stays
abbrev pub before : Program → Outcome → Outcome
before p (tree q) = tree (join_p p q)
before p (refuse number expected found from to) = refuse number expected found from to

-- a parent's row moved k rows on; a top row's parent stays
abbrev pub shift_parent : ℕ → ℕ → ℕ
shift_parent k q = pick (eqb q no_parent) q (k + q)

-- rows moved k rows on: k is added to each row's `next` and to each parent's row
unfoldable pub shift : ℕ → List ℕ → List ℕ
shift k [] = []
shift k (a ∷ []) = []
shift k (a ∷ b ∷ []) = []
shift k (a ∷ b ∷ c ∷ []) = []
shift k (a ∷ b ∷ c ∷ d ∷ []) = []
shift k (a ∷ b ∷ c ∷ d ∷ e ∷ []) = []
shift k (a ∷ b ∷ c ∷ d ∷ e ∷ f ∷ []) = []
shift k (a ∷ b ∷ c ∷ d ∷ e ∷ f ∷ next ∷ []) = []
shift k (a ∷ b ∷ c ∷ d ∷ e ∷ f ∷ next ∷ parent ∷ l) = a ∷ b ∷ c ∷ d ∷ e ∷ f ∷ (k + next) ∷ shift_parent k parent ∷ shift k l
