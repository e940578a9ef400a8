-- The rows of a forest where it stands among the words of a tree.
use Rattle.std.specs.Prelude.{ℕ, ◌+◌, ◌*◌, ◌≤◌, ◌<◌, List, [], ◌++◌, ◌≡◌, refl, length, get_or}
use Rattle.std.proofs.Common.{append_assoc, append-nil, sym, ap, subst, ◌∙◌, arith, length-append, get_or-append-add}
use Rattle.std.proofs.Math.Option.{some}
use Rattle.refal_ast.specs.Limits.{most_levels}
use Rattle.refal_ast.specs.Nodes.{node_width, no_parent, word_at}
use Rattle.refal_ast.specs.Tree.{Program}
use Rattle.refal_tree.specs.Forest.{Row, Forest, empty, tree, size_g, row_words, enc_g}
use Rattle.refal_tree.specs.ForestLaws.{length_enc}
use Rattle.refal_tree.specs.Lawful.{tree_of, of_tree}
use Rattle.refal_tree.specs.Ranges.{row_at, next_at, parent_at}
use Rattle.refal_tree.specs.Typed.{to_forest}
use Rattle.refal_tree.specs.TypedWords.{enc_tree}

-- row i of the rows to j under the parent q is r
pub record Row_at (w : List ℕ) (i j q : ℕ) (r : Row) : Type 0 where
  pub is : row_at w i ≡ r
  pub lo : i < next_at w i
  pub hi : next_at w i ≤ j
  pub parent : parent_at w i ≡ q

-- rows i to j under the parent q are the forest's
unfoldable pub Lies : List ℕ → ℕ → ℕ → ℕ → Forest → Type 0
Lies w i j q empty = i ≡ j
Lies w i j q (tree r f g) = Row_at w i j q r × Lies w (i + 1) (next_at w i) i f × Lies w (next_at w i) j q g

before_kids : (P R A B S : List ℕ) → P ++ ((R ++ (A ++ B)) ++ S) ≡ (P ++ R) ++ (A ++ (B ++ S))
before_kids P R A B S = simp append_assoc

before_rest : (P R A B S : List ℕ) → P ++ ((R ++ (A ++ B)) ++ S) ≡ (P ++ (R ++ A)) ++ (B ++ S)
before_rest P R A B S = simp append_assoc

-- the words of a forest, where they stand between others
lies : (f : Forest) (P S : List ℕ) (n q : ℕ) → length P ≡ node_width * n → Lies (P ++ (enc_g f n q ++ S)) n (n + size_g f) q f
unfolding Lies enc_g size_g
lies empty P S n q l = let z : n ≡ n + 0 = omega arith in z
lies (tree r f g) P S n q l =
    let x : ℕ = n + 1 + size_g f in
    let R : List ℕ = row_words r x q in
    let A : List ℕ = enc_g f (n + 1) n in
    let B : List ℕ = enc_g g x q in
    let w : List ℕ = P ++ ((R ++ (A ++ B)) ++ S) in
    let word : (c : ℕ) → word_at w n c ≡ get_or ((R ++ (A ++ B)) ++ S) c 0 =
    λ (c : ℕ). ap (λ (m : ℕ). get_or w m 0) (let e : node_width * n + c ≡ length P + c = omega arith in e) ∙ get_or-append-add P ((R ++ (A ++ B)) ++ S) c 0 in
    let here : row_at w n ≡ r = λ t. record { kind = word 0 t; detail = word 1 t; start = word 2 t; len = word 3 t; from = word 4 t; to = word 5 t } in
    let next : next_at w n ≡ x = word 6 in
    let kids : Lies w (n + 1) x n f =
    subst (λ (v : List ℕ). Lies v (n + 1) x n f) (sym (before_kids P R A B S))
    (lies f (P ++ R) (B ++ S) (n + 1) n (let k = length-append P R in let e : length (P ++ R) ≡ node_width * (n + 1) = omega arith in e)) in
    let rest : Lies w x (n + (1 + size_g f + size_g g)) q g =
    subst (λ (v : List ℕ). Lies v x (n + (1 + size_g f + size_g g)) q g) (sym (before_rest P R A B S))
    (subst (λ (m : ℕ). Lies ((P ++ (R ++ A)) ++ (B ++ S)) x m q g) (let e : x + size_g g ≡ n + (1 + size_g f + size_g g) = omega arith in e)
    (lies g (P ++ (R ++ A)) S x q
    (let k = length-append P (R ++ A) in let m = length_enc f (n + 1) n in let e : length (P ++ (R ++ A)) ≡ node_width * x = omega arith in e))) in (
      record { is = here; lo = omega arith; hi = omega arith; parent = word 7 },
      subst (λ (y : ℕ). Lies w (n + 1) y n f) (sym next) kids,
      subst (λ (y : ℕ). Lies w y (n + (1 + size_g f + size_g g)) q g) (sym next) rest,
    )

-- all rows of a tree
pub lies_tree : (w : List ℕ) (t : Program) → tree_of most_levels w ≡ some t → Lies w 0 (size_g (to_forest t)) no_parent (to_forest t)
lies_tree w t e =
    let f : Forest = to_forest t in
    subst (λ (v : List ℕ). Lies v 0 (size_g f) no_parent f) (append-nil (enc_g f 0 no_parent) ∙ enc_tree t 0 ∙ sym (of_tree most_levels w t e).words)
    (subst (λ (n : ℕ). Lies (enc_g f 0 no_parent ++ []) 0 n no_parent f) (let e : 0 + size_g f ≡ size_g f = omega arith in e) (lies f [] [] 0 no_parent refl))
