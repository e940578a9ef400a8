-- Laws of the test for refusal 41: a row at a time.
use Rattle.std.specs.Prelude.{ℕ, ◌<◌, ◌≤◌, Bool, true, false, ◌&&◌, List, [], ◌∷◌, ◌++◌, ◌≡◌, refl, eqb}
use native.Mathlib.Omega.{arith}
use Rattle.std.proofs.Common.{lit≤, ◌∙◌}
use Rattle.std.proofs.Math.Path.{ap}
use Rattle.std.proofs.Math.ListN.{length}
use Rattle.refal_ast.specs.Kinds.{node_call}
use Rattle.refal_ast.specs.Nodes.{Node, node_width, node_at, nodes_of}
use Rattle.refal_tree.specs.StateCodes.{not_kind}
use Rattle.refal_spelling.specs.Spellings.{row_spelled, nodes_spelled}

-- ---- a row of no kind
pub row_unknown : (src : List ℕ) (k d s l : ℕ) → (1 ≤ k → node_call < k) → row_spelled src k d s l ≡ true
unfolding row_spelled
row_unknown src k d s l h =
    let n : (m : ℕ) → 1 ≤ m → m ≤ node_call → eqb k m ≡ false = not_kind k h in
    rw (n 11 (lit≤ tt) (lit≤ tt), n 2 (lit≤ tt) (lit≤ tt), n 3 (lit≤ tt) (lit≤ tt), n 9 (lit≤ tt) (lit≤ tt), n 10 (lit≤ tt) (lit≤ tt), n 12 (lit≤ tt) (lit≤ tt), n 14 (lit≤ tt) (lit≤ tt))

-- ---- words, a row at a time
row_first : (r rest : List ℕ) → length r ≡ node_width → nodes_of (r ++ rest) ≡ node_at r 0 ∷ nodes_of rest
unfolding nodes_of
row_first [] rest h = absurd (omega arith)
row_first (k ∷ []) rest h = absurd (omega arith)
row_first (k ∷ d ∷ []) rest h = absurd (omega arith)
row_first (k ∷ d ∷ s ∷ []) rest h = absurd (omega arith)
row_first (k ∷ d ∷ s ∷ l ∷ []) rest h = absurd (omega arith)
row_first (k ∷ d ∷ s ∷ l ∷ a ∷ []) rest h = absurd (omega arith)
row_first (k ∷ d ∷ s ∷ l ∷ a ∷ b ∷ []) rest h = absurd (omega arith)
row_first (k ∷ d ∷ s ∷ l ∷ a ∷ b ∷ x ∷ []) rest h = absurd (omega arith)
row_first (k ∷ d ∷ s ∷ l ∷ a ∷ b ∷ x ∷ q ∷ []) rest h = refl
row_first (k ∷ d ∷ s ∷ l ∷ a ∷ b ∷ x ∷ q ∷ y ∷ r) rest h = absurd (omega arith)

-- the words w are the row r, which is the node x, and those behind it
module _ (src w r rest : List ℕ) (x : Node) (is : w ≡ r ++ rest) (whole : length r ≡ node_width) (at : x ≡ node_at r 0) where
  spelled_turn : nodes_spelled src (nodes_of w) ≡ row_spelled src x.kind x.detail x.start x.len && nodes_spelled src (nodes_of rest)
  unfolding nodes_spelled
  spelled_turn = rw (is, at) (ap (nodes_spelled src) (row_first r rest whole))

  pub spelled_stop : row_spelled src x.kind x.detail x.start x.len ≡ false → nodes_spelled src (nodes_of w) ≡ false
  spelled_stop h = spelled_turn ∙ ap (λ (b : Bool). b && nodes_spelled src (nodes_of rest)) h

  pub spelled_on : row_spelled src x.kind x.detail x.start x.len ≡ true → nodes_spelled src (nodes_of w) ≡ nodes_spelled src (nodes_of rest)
  spelled_on h = spelled_turn ∙ ap (λ (b : Bool). b && nodes_spelled src (nodes_of rest)) h

pub spelled_short : (src w : List ℕ) → length w < node_width → nodes_spelled src (nodes_of w) ≡ true
unfolding nodes_spelled nodes_of
spelled_short src [] h = refl
spelled_short src (k ∷ []) h = refl
spelled_short src (k ∷ d ∷ []) h = refl
spelled_short src (k ∷ d ∷ s ∷ []) h = refl
spelled_short src (k ∷ d ∷ s ∷ l ∷ []) h = refl
spelled_short src (k ∷ d ∷ s ∷ l ∷ a ∷ []) h = refl
spelled_short src (k ∷ d ∷ s ∷ l ∷ a ∷ b ∷ []) h = refl
spelled_short src (k ∷ d ∷ s ∷ l ∷ a ∷ b ∷ x ∷ []) h = refl
spelled_short src (k ∷ d ∷ s ∷ l ∷ a ∷ b ∷ x ∷ q ∷ w) h = absurd (omega arith)
