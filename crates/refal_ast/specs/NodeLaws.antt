-- Laws of node rows: how many nodes stand in words, row i among them, and the rows of nodes.
use Rattle.std.specs.Prelude.{ℕ, zero, suc, ◌+◌, ◌*◌, ◌/◌, ◌%◌, List, [], ◌∷◌, ◌++◌, ◌≡◌, refl, length, get_or}
use Rattle.std.proofs.Common.{sym, ap, ◌∙◌, arith, get_or-append-add}
use Rattle.refal_ast.specs.Nodes.{Node, node_words, node_width, col_kind, col_detail, col_start, col_len, col_from, col_to, col_next, col_parent, word_at, node_at, HasRow, nodes_of, flat_nodes}

-- how many nodes a list of words holds
pub count_nodes : (w : List ℕ) → length (nodes_of w) ≡ length w / node_width
unfolding nodes_of
count_nodes [] = refl
count_nodes (k ∷ []) = refl
count_nodes (k ∷ d ∷ []) = refl
count_nodes (k ∷ d ∷ s ∷ []) = refl
count_nodes (k ∷ d ∷ s ∷ l ∷ []) = refl
count_nodes (k ∷ d ∷ s ∷ l ∷ a ∷ []) = refl
count_nodes (k ∷ d ∷ s ∷ l ∷ a ∷ b ∷ []) = refl
count_nodes (k ∷ d ∷ s ∷ l ∷ a ∷ b ∷ x ∷ []) = refl
count_nodes (k ∷ d ∷ s ∷ l ∷ a ∷ b ∷ x ∷ q ∷ w) = let ih = count_nodes w in omega arith

-- a word behind a row
behind : (x : Node) (w : List ℕ) (i column : ℕ) → word_at (node_words x ++ w) (suc i) column ≡ word_at w i column
behind x w i column =
    ap (λ (n : ℕ). get_or (node_words x ++ w) n 0) (let e : node_width * suc i + column ≡ length (node_words x) + (node_width * i + column) = omega arith in e)
    ∙ get_or-append-add (node_words x) w (node_width * i + column) 0

node_behind : (x : Node) (w : List ℕ) (i : ℕ) → node_at (node_words x ++ w) (suc i) ≡ node_at w i
node_behind x w i = λ j. record {
  kind = behind x w i col_kind j;
  detail = behind x w i col_detail j;
  start = behind x w i col_start j;
  len = behind x w i col_len j;
  from = behind x w i col_from j;
  to = behind x w i col_to j;
  next = behind x w i col_next j;
  parent = behind x w i col_parent j;
}

-- row i is node i
pub node_at_lem : (w : List ℕ) (i : ℕ) (x : Node) → HasRow w i → get_or (nodes_of w) i x ≡ node_at w i
unfolding nodes_of
node_at_lem [] i y h = absurd (omega arith)
node_at_lem (k ∷ []) i y h = absurd (omega arith)
node_at_lem (k ∷ d ∷ []) i y h = absurd (omega arith)
node_at_lem (k ∷ d ∷ s ∷ []) i y h = absurd (omega arith)
node_at_lem (k ∷ d ∷ s ∷ l ∷ []) i y h = absurd (omega arith)
node_at_lem (k ∷ d ∷ s ∷ l ∷ a ∷ []) i y h = absurd (omega arith)
node_at_lem (k ∷ d ∷ s ∷ l ∷ a ∷ b ∷ []) i y h = absurd (omega arith)
node_at_lem (k ∷ d ∷ s ∷ l ∷ a ∷ b ∷ x ∷ []) i y h = absurd (omega arith)
node_at_lem (k ∷ d ∷ s ∷ l ∷ a ∷ b ∷ x ∷ q ∷ w) zero y h = refl
node_at_lem (k ∷ d ∷ s ∷ l ∷ a ∷ b ∷ x ∷ q ∷ w) (suc i) y h =
    node_at_lem w i y (omega arith) ∙ sym (node_behind (record { kind = k; detail = d; start = s; len = l; from = a; to = b; next = x; parent = q }) w i)

-- ---- the rows of nodes

pub nodes_flat : (xs : List Node) (w : List ℕ) → nodes_of (flat_nodes xs ++ w) ≡ xs ++ nodes_of w
unfolding nodes_of
nodes_flat [] w = refl
nodes_flat (x ∷ xs) w = ap (λ (l : List Node). x ∷ l) (nodes_flat xs w)

pub length_nodes : (xs : List Node) → length (flat_nodes xs) ≡ node_width * length xs
length_nodes [] = refl
length_nodes (x ∷ xs) = let ih = length_nodes xs in omega arith

-- whole rows are the rows of their nodes
pub flat_nodes_lem : (w : List ℕ) → length w % node_width ≡ 0 → w ≡ flat_nodes (nodes_of w)
unfolding nodes_of
flat_nodes_lem [] h = refl
flat_nodes_lem (k ∷ []) h = absurd (omega arith)
flat_nodes_lem (k ∷ d ∷ []) h = absurd (omega arith)
flat_nodes_lem (k ∷ d ∷ s ∷ []) h = absurd (omega arith)
flat_nodes_lem (k ∷ d ∷ s ∷ l ∷ []) h = absurd (omega arith)
flat_nodes_lem (k ∷ d ∷ s ∷ l ∷ a ∷ []) h = absurd (omega arith)
flat_nodes_lem (k ∷ d ∷ s ∷ l ∷ a ∷ b ∷ []) h = absurd (omega arith)
flat_nodes_lem (k ∷ d ∷ s ∷ l ∷ a ∷ b ∷ x ∷ []) h = absurd (omega arith)
flat_nodes_lem (k ∷ d ∷ s ∷ l ∷ a ∷ b ∷ x ∷ q ∷ w) h = ap (λ (y : List ℕ). k ∷ d ∷ s ∷ l ∷ a ∷ b ∷ x ∷ q ∷ y) (flat_nodes_lem w (omega arith))
