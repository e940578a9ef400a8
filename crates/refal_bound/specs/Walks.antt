-- Unbound variables as 02, card 5, words it: a walk over the sentences of a tree with a list of what is bound. The theorems are proved in
-- WalkTheorems.antt.
use Rattle.std.specs.Prelude.{ℕ, Bool, true, false, ◌&&◌, ◌||◌, List, [], ◌∷◌, ◌++◌, ◌≡◌, ◌↔◌, eqb, None, IsPermutation}
use Rattle.std.proofs.Math.Option.{some}
use Rattle.refal_ast.specs.Names.{canonical_index, same_list}
use Rattle.refal_ast.specs.Tree.{Leaf, symbol, variable, Term, leaf, bracket, call, Terms, t0, t_more, Right, r_terms, r_block, Condition, condition, Conditions, c0, c_more}
use Rattle.refal_ast.specs.Tree.{End, e_terms, e_block, Sentence, sentence, Sentences, s0, s_more, Body, b_all, b_off, Item, declaration, function, Program, p0, p_more}
use Rattle.refal_ast.specs.Encode.{letter_of}
use Rattle.refal_ast.specs.Limits.{most_levels}
use Rattle.refal_tree.specs.Lawful.{tree_of}
use Rattle.refal_spelling.specs.Spell.{text_at}
use Rattle.refal_bound.specs.Bound.{first_unbound}
use Rattle.refal_bound.specs.Force.{Variable}

abbrev pub same_variable : Variable → Variable → Bool
same_variable x y = eqb x.letter y.letter && same_list x.index y.index

-- x is one of those that are bound
unfoldable pub is_bound : List Variable → Variable → Bool
is_bound [] x = false
is_bound (y ∷ bound) x = same_variable y x || is_bound bound x

unfoldable pub all_bound : List Variable → List Variable → Bool
all_bound bound [] = true
all_bound bound (x ∷ xs) = is_bound bound x && all_bound bound xs

-- of a tree whose texts stand in this source
module _ (src : List ℕ) where
  -- the variable of a leaf
  abbrev pub variables_leaf : Leaf → List Variable
  variables_leaf (symbol x) = []
  variables_leaf (variable v start len) = record { letter = letter_of v; index = canonical_index (text_at src start len) } ∷ []

  -- the variables of terms at all levels, those inside calls too
  unfoldable mutual
    pub variables_term : Term → List Variable
    variables_term (leaf x a b) = variables_leaf x
    variables_term (bracket a f b) = variables f
    variables_term (call a start len f b) = variables f

    pub variables : Terms → List Variable
    variables t0 = []
    variables (t_more f x) = variables f ++ variables_term x

  -- what is bound behind a condition, where `bound` is before it: a Terms pattern binds its own, a block nothing
  abbrev pub binds_right : List Variable → Right → List Variable
  binds_right bound (r_terms f) = bound ++ variables f
  binds_right bound (r_block a v b) = bound

  abbrev pub binds_condition : List Variable → Condition → List Variable
  binds_condition bound (condition a f r b) = binds_right bound r

  unfoldable pub binds : List Variable → Conditions → List Variable
  binds bound c0 = bound
  binds bound (c_more cs x) = binds_condition (binds bound cs) x

  -- whether a part holds only variables that are bound before: a condition's first terms, an ending block's argument, the result. The pattern of
  -- a sentence binds before its conditions; each sentence of a block begins with what is bound at the block.
  unfoldable mutual
    pub passes_right : List Variable → Right → Bool
    passes_right bound (r_terms f) = true
    passes_right bound (r_block a v b) = passes_body bound v

    pub passes_condition : List Variable → Condition → Bool
    passes_condition bound (condition a f r b) = all_bound bound (variables f) && passes_right bound r

    pub passes_conditions : List Variable → Conditions → Bool
    passes_conditions bound c0 = true
    passes_conditions bound (c_more cs x) = passes_conditions bound cs && passes_condition (binds bound cs) x

    pub passes_end : List Variable → End → Bool
    passes_end bound (e_terms f) = all_bound bound (variables f)
    passes_end bound (e_block a f v b) = all_bound bound (variables f) && passes_body bound v

    pub passes_sentence : List Variable → Sentence → Bool
    passes_sentence bound (sentence a f cs x b) =
        passes_conditions (bound ++ variables f) cs && passes_end (binds (bound ++ variables f) cs) x

    pub passes_sentences : List Variable → Sentences → Bool
    passes_sentences bound s0 = true
    passes_sentences bound (s_more s x) = passes_sentences bound s && passes_sentence bound x

    pub passes_body : List Variable → Body → Bool
    passes_body bound (b_all s) = passes_sentences bound s
    passes_body bound (b_off s x) = passes_sentences bound s && passes_sentence bound x

  -- each function by itself
  abbrev pub passes_item : Item → Bool
  passes_item (declaration a ns b) = true
  passes_item (function a x start len v b) = passes_body [] v

  unfoldable pub passes : Program → Bool
  passes p0 = true
  passes (p_more p x) = passes p && passes_item x

-- the items of a program
unfoldable pub items : Program → List Item
items p0 = []
items (p_more p x) = items p ++ x ∷ []

-- ---- the theorems
-- the rows of a tree have no unbound variable exactly when the walk passes
abbrev pub WalkAgrees : Type 0
WalkAgrees = (w src : List ℕ) (t : Program) → tree_of most_levels w ≡ some t → (first_unbound w src ≡ None) ↔ (passes src t ≡ true)

-- whether a file passes is unchanged where its items stand in another order
abbrev pub OrderFree : Type 0
OrderFree = (w w' src : List ℕ) (t t' : Program) → tree_of most_levels w ≡ some t → tree_of most_levels w' ≡ some t' → IsPermutation (items t) (items t')
    → (first_unbound w src ≡ None) ↔ (first_unbound w' src ≡ None)
