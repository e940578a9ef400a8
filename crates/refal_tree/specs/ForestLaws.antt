-- A list of words holds a forest exactly when it is that forest's words.
use Rattle.std.specs.Prelude.{ℕ, zero, suc, ◌+◌, ◌*◌, ◌-◌, ◌/◌, ◌%◌, ◌≤◌, ◌<◌, Bool, true, false, List, [], ◌∷◌, ◌++◌, ◌≡◌, refl, eqb, length, get_or, drop, replicate}
use Rattle.std.proofs.Common.{append_assoc, append-nil, sym, ap, subst, ◌∙◌, arith, length-append, length-drop, drop_of_length-le, drop_at, get_or-append-add, get_or-drop, drop-drop, eq-eqb, eqb-true}
use Rattle.std.proofs.Math.Option.{Option, none, some}
use Rattle.std.proofs.Math.Nat.{mul-mod_right}
use Rattle.std.proofs.lemmas.List.{length-replicate}
use Rattle.refal_ast.specs.Nodes.{Node, node_words, node_width, no_parent, col_kind, col_detail, col_start, col_len, col_from, col_to, col_next, col_parent, word_at, HasRow, whole_rows, nodes_of, flat_nodes}
use Rattle.refal_ast.specs.NodeLaws.{nodes_flat}
use Rattle.refal_tree.specs.Forest.{Row, Forest, empty, tree, size_g, row_words, enc_g, with_next, join_g}
use Rattle.refal_tree.specs.Ranges.{row_at, next_at, parent_at, joined, linked, Linked, linked_true, Finds, forest_in, forest_from, forest_row, forest_at, pick_forest, forest_of, forest_rows, forest_turn, forest_end, forest_all}

pub length_enc : (f : Forest) (n q : ℕ) → length (enc_g f n q) ≡ node_width * size_g f
unfolding enc_g size_g
length_enc empty n q = refl
length_enc (tree r f g) n q =
    let i = length_enc f (n + 1) n in
    let j = length_enc g (n + 1 + size_g f) q in
    let k = length-append (enc_g f (n + 1) n) (enc_g g (n + 1 + size_g f) q) in
    omega arith

-- ---- a forest's words hold it

-- row i with the next row x, its children and what follows
turn_is : (w : List ℕ) (i j q x : ℕ) (r : Row) (f g : Forest) → row_at w i ≡ r → next_at w i ≡ x → parent_at w i ≡ q → i < x → x ≤ j
    → forest_at w (i + 1) x i ≡ some f → forest_at w x j q ≡ some g → forest_at w i j q ≡ some (tree r f g)
turn_is w i j q x r f g here next above lo hi kids rest =
    forest_turn w i j q (omega arith) (omega arith)
    ∙ ap (λ (b : Bool). pick_forest b (joined (row_at w i) (forest_at w (i + 1) (next_at w i) i) (forest_at w (next_at w i) j q))) (eq-eqb (parent_at w i) q above)
    ∙ ap (λ (y : ℕ). joined (row_at w i) (forest_at w (i + 1) y i) (forest_at w y j q)) next
    ∙ ap (λ (o : Option Forest). joined (row_at w i) o (forest_at w x j q)) kids
    ∙ ap (joined (row_at w i) (some f)) rest
    ∙ ap (λ (y : Row). some (tree y f g)) here

before_kids : (P R A B S : List ℕ) → P ++ ((R ++ (A ++ B)) ++ S) ≡ (P ++ R) ++ (A ++ (B ++ S))
before_kids P R A B S = simp append_assoc

before_rest : (P R A B S : List ℕ) → P ++ ((R ++ (A ++ B)) ++ S) ≡ (P ++ (R ++ A)) ++ (B ++ S)
before_rest P R A B S = simp append_assoc

-- the words of a forest, where they stand between others
forest_at_lem : (f : Forest) (P S : List ℕ) (n q : ℕ) → length P ≡ node_width * n → forest_at (P ++ (enc_g f n q ++ S)) n (n + size_g f) q ≡ some f
unfolding enc_g size_g
forest_at_lem empty P S n q l = forest_end (P ++ S) n (n + 0) q (omega arith)
forest_at_lem (tree r f g) P S n q l =
    let x : ℕ = n + 1 + size_g f in
    let R : List ℕ = row_words r x q in
    let A : List ℕ = enc_g f (n + 1) n in
    let B : List ℕ = enc_g g x q in
    let w : List ℕ = P ++ ((R ++ (A ++ B)) ++ S) in
    let word : (c : ℕ) → word_at w n c ≡ get_or ((R ++ (A ++ B)) ++ S) c 0 =
    λ (c : ℕ). ap (λ (m : ℕ). get_or w m 0) (let e : node_width * n + c ≡ length P + c = omega arith in e) ∙ get_or-append-add P ((R ++ (A ++ B)) ++ S) c 0 in
    let here : row_at w n ≡ r = λ t. record { kind = word col_kind t; detail = word col_detail t; start = word col_start t; len = word col_len t; from = word col_from t; to = word col_to t } in
    let kids : forest_at w (n + 1) x n ≡ some f =
    ap (λ (v : List ℕ). forest_at v (n + 1) x n) (before_kids P R A B S)
    ∙ forest_at_lem f (P ++ R) (B ++ S) (n + 1) n (let k = length-append P R in let e : length (P ++ R) ≡ node_width * (n + 1) = omega arith in e) in
    let rest : forest_at w x (n + (1 + size_g f + size_g g)) q ≡ some g =
    ap (λ (v : List ℕ). forest_at v x (n + (1 + size_g f + size_g g)) q) (before_rest P R A B S)
    ∙ ap (λ (m : ℕ). forest_at ((P ++ (R ++ A)) ++ (B ++ S)) x m q) (let e : n + (1 + size_g f + size_g g) ≡ x + size_g g = omega arith in e)
    ∙ forest_at_lem g (P ++ (R ++ A)) S x q
    (let k = length-append P (R ++ A) in let m = length_enc f (n + 1) n in let e : length (P ++ (R ++ A)) ≡ node_width * x = omega arith in e) in
    turn_is w n (n + (1 + size_g f + size_g g)) q x r f g here (word col_next) (word col_parent) (omega arith) (omega arith) kids rest

pub forest_enc : (f : Forest) → forest_of (enc_g f 0 no_parent) ≡ some f
forest_enc f =
    let w : List ℕ = enc_g f 0 no_parent in
    sym (forest_all w (size_g f) (length_enc f 0 no_parent))
    ∙ ap (λ (v : List ℕ). forest_at v 0 (size_g f) no_parent) (sym (append-nil w))
    ∙ ap (λ (n : ℕ). forest_at (w ++ []) 0 n no_parent) (let e : size_g f ≡ 0 + size_g f = omega arith in e)
    ∙ forest_at_lem f [] [] 0 no_parent refl

-- ---- what a list of words holds has these words

-- the first row of a list
first_row : (l : List ℕ) → node_width ≤ length l
    → l ≡ get_or l col_kind 0 ∷ get_or l col_detail 0 ∷ get_or l col_start 0 ∷ get_or l col_len 0 ∷ get_or l col_from 0 ∷ get_or l col_to 0 ∷ get_or l col_next 0 ∷ get_or l col_parent 0 ∷ drop node_width l
first_row [] h = absurd (omega arith)
first_row (k ∷ []) h = absurd (omega arith)
first_row (k ∷ d ∷ []) h = absurd (omega arith)
first_row (k ∷ d ∷ s ∷ []) h = absurd (omega arith)
first_row (k ∷ d ∷ s ∷ l ∷ []) h = absurd (omega arith)
first_row (k ∷ d ∷ s ∷ l ∷ a ∷ []) h = absurd (omega arith)
first_row (k ∷ d ∷ s ∷ l ∷ a ∷ b ∷ []) h = absurd (omega arith)
first_row (k ∷ d ∷ s ∷ l ∷ a ∷ b ∷ x ∷ []) h = absurd (omega arith)
first_row (k ∷ d ∷ s ∷ l ∷ a ∷ b ∷ x ∷ q ∷ w) h = refl

-- row i, and the words behind it
row_there : (w : List ℕ) (i : ℕ) → HasRow w i → drop (node_width * i) w ≡ row_words (row_at w i) (next_at w i) (parent_at w i) ++ drop (node_width * (i + 1)) w
row_there w i h =
    let at : (c : ℕ) → get_or (drop (node_width * i) w) c 0 ≡ word_at w i c = λ (c : ℕ). get_or-drop (node_width * i) w c 0 in
    let behind : drop node_width (drop (node_width * i) w) ≡ drop (node_width * (i + 1)) w =
    drop-drop node_width (node_width * i) w ∙ ap (λ (n : ℕ). drop n w) (let e : node_width * i + node_width ≡ node_width * (i + 1) = omega arith in e) in
    first_row (drop (node_width * i) w) (let k = length-drop (node_width * i) w in omega arith)
    ∙ (λ t. at col_kind t ∷ at col_detail t ∷ at col_start t ∷ at col_len t ∷ at col_from t ∷ at col_to t ∷ at col_next t ∷ at col_parent t ∷ behind t)

-- rows i to j are a forest's
pub record Holds (w : List ℕ) (i j q : ℕ) (f : Forest) : Type 0 where
  pub size : j ≡ i + size_g f
  pub words : drop (node_width * i) w ≡ enc_g f i q ++ drop (node_width * j) w

holds_none : (w : List ℕ) (i j q : ℕ) (f : Forest) → i ≡ j → some empty ≡ some f → Holds w i j q f
unfolding enc_g size_g
holds_none w i j q f e h =
    let u : empty ≡ f = cc in
    subst (Holds w i j q) u (record { size = (let z : j ≡ i + 0 = omega arith in z); words = ap (λ (n : ℕ). drop (node_width * n) w) e })

holds_row : (w : List ℕ) (i j q : ℕ) → HasRow w i → Linked w i j q → (o p : Option Forest) (f : Forest)
    → ((g : Forest) → o ≡ some g → Holds w (i + 1) (next_at w i) i g) → ((g : Forest) → p ≡ some g → Holds w (next_at w i) j q g)
    → joined (row_at w i) o p ≡ some f → Holds w i j q f
unfolding enc_g size_g
holds_row w i j q l L none p f kids rest e = let z : ◌≡◌ {A = ℕ} 0 1 = cc in absurd (omega arith)
holds_row w i j q l L (some g) none f kids rest e = let z : ◌≡◌ {A = ℕ} 0 1 = cc in absurd (omega arith)
holds_row w i j q l L (some g) (some h) f kids rest e =
    let u : tree (row_at w i) g h ≡ f = cc in
    let K = kids g refl in
    let G = rest h refl in
    let x : ℕ = next_at w i in
    let r : Row = row_at w i in
    let D : List ℕ = drop (node_width * j) w in
    let s : x ≡ i + 1 + size_g g = K.size in
    let t : j ≡ x + size_g h = G.size in
    subst (Holds w i j q) u
    (record {
      size = (let z : j ≡ i + (1 + size_g g + size_g h) = omega arith in z);
      words =
          row_there w i l
          ∙ ap (λ (y : ℕ). row_words r x y ++ drop (node_width * (i + 1)) w) L.parent
          ∙ ap (λ (y : List ℕ). row_words r x q ++ y)
          (K.words ∙ ap (λ (y : List ℕ). enc_g g (i + 1) i ++ y) G.words ∙ sym (append_assoc (enc_g g (i + 1) i) (enc_g h x q) D))
          ∙ ap (λ (y : ℕ). row_words r y q ++ ((enc_g g (i + 1) i ++ enc_g h y q) ++ D)) s;
    })

holds_from : (w : List ℕ) (find : Finds) (i j q : ℕ) (f : Forest) → node_width * j ≤ length w
    → (Linked w i j q → (g : Forest) → find (i + 1) (next_at w i) i ≡ some g → Holds w (i + 1) (next_at w i) i g)
    → (Linked w i j q → (g : Forest) → find (next_at w i) j q ≡ some g → Holds w (next_at w i) j q g)
    → forest_from (eqb i j) w find i j q ≡ some f → Holds w i j q f
holds_from w find i j q f l kids rest e = go (eqb i j) refl e
  where
    at_row : (b : Bool) → linked w i j q ≡ b → forest_row b w find i j q ≡ some f → Holds w i j q f
    at_row true h e =
        let L = linked_true w i j q h in
        let lo = L.lo in
        let hi = L.hi in
        holds_row w i j q (omega arith) L (find (i + 1) (next_at w i) i) (find (next_at w i) j q) f (kids L) (rest L) e
    at_row false h e = let z : ◌≡◌ {A = ℕ} 0 1 = cc in absurd (omega arith)

    go : (b : Bool) → eqb i j ≡ b → forest_from b w find i j q ≡ some f → Holds w i j q f
    go true h e = holds_none w i j q f (eqb-true i j h) e
    go false h e = at_row (linked w i j q) refl e

nothing : (w : List ℕ) (i j q : ℕ) (g : Forest) → ◌≡◌ {A = Option Forest} none (some g) → Holds w i j q g
nothing w i j q g e = let z : ◌≡◌ {A = ℕ} 0 1 = cc in absurd (omega arith)

holds : (k : ℕ) (w : List ℕ) (i j q : ℕ) (f : Forest) → node_width * j ≤ length w → forest_in k w i j q ≡ some f → Holds w i j q f
unfolding forest_in
holds zero w i j q f l e =
    holds_from w (λ (a b p : ℕ). none) i j q f l (λ (L : Linked w i j q) (g : Forest). λ z. nothing w (i + 1) (next_at w i) i g z)
    (λ (L : Linked w i j q) (g : Forest). λ z. nothing w (next_at w i) j q g z) e
holds (suc k) w i j q f l e =
    holds_from w (λ (a b p : ℕ). forest_in k w a b p) i j q f l
    (λ (L : Linked w i j q) (g : Forest). λ z. holds k w (i + 1) (next_at w i) i g (let lo = L.lo in let hi = L.hi in omega arith) z)
    (λ (L : Linked w i j q) (g : Forest). λ z. holds k w (next_at w i) j q g l z) e

-- words that hold a forest are that forest's words
pub enc_forest : (w : List ℕ) (f : Forest) → forest_of w ≡ some f → w ≡ enc_g f 0 no_parent
unfolding forest_of forest_at
enc_forest w f e = go (whole_rows w) refl e
  where
    go : (b : Bool) → whole_rows w ≡ b → pick_forest b (forest_at w 0 (length w / node_width) no_parent) ≡ some f → w ≡ enc_g f 0 no_parent
    go true h e =
        let z : length w % node_width ≡ 0 = eqb-true _ _ h in
        let n : length w ≤ node_width * (length w / node_width) = omega arith in
        (holds (length w / node_width - 0) w 0 (length w / node_width) no_parent f (omega arith) e).words
        ∙ ap (λ (l : List ℕ). enc_g f 0 no_parent ++ l) (drop_of_length-le w n)
        ∙ append-nil (enc_g f 0 no_parent)
    go false h e = let z : ◌≡◌ {A = ℕ} 0 1 = cc in absurd (omega arith)

-- ---- the same of words whose first row is row n, under the parent q

-- rows i to j of a list of words that are a forest
pub enc_forest_at : (w : List ℕ) (i j q : ℕ) (f : Forest) → node_width * j ≤ length w → forest_at w i j q ≡ some f → Holds w i j q f
unfolding forest_at
enc_forest_at w i j q f l e = holds (j - i) w i j q f l e

pub forest_enc_rows : (f : Forest) (n q : ℕ) → forest_rows (enc_g f n q) n q ≡ some f
unfolding forest_rows
forest_enc_rows f n q =
    let w : List ℕ = enc_g f n q in
    let P : List ℕ = replicate (node_width * n) 0 in
    let l : length w ≡ node_width * size_g f = length_enc f n q in
    let z : length w % node_width ≡ 0 = ap (λ (k : ℕ). k % node_width) l ∙ mul-mod_right node_width (size_g f) in
    ap (λ (b : Bool). pick_forest b (forest_at (P ++ w) n (n + length w / node_width) q)) (eq-eqb _ _ z)
    ∙ ap (λ (v : List ℕ). forest_at (P ++ v) n (n + length w / node_width) q) (sym (append-nil w))
    ∙ ap (λ (m : ℕ). forest_at (P ++ (w ++ [])) n m q) (let e : n + length w / node_width ≡ n + size_g f = omega arith in e)
    ∙ forest_at_lem f P [] n q (length-replicate (node_width * n) 0)

pub enc_forest_rows : (w : List ℕ) (n q : ℕ) (f : Forest) → forest_rows w n q ≡ some f → w ≡ enc_g f n q
unfolding forest_rows
enc_forest_rows w n q f e = go (whole_rows w) refl e
  where
    go : (b : Bool) → whole_rows w ≡ b → pick_forest b (forest_at (replicate (node_width * n) 0 ++ w) n (n + length w / node_width) q) ≡ some f → w ≡ enc_g f n q
    go true h e =
        let P : List ℕ = replicate (node_width * n) 0 in
        let j : ℕ = n + length w / node_width in
        let z : length w % node_width ≡ 0 = eqb-true _ _ h in
        let p : length P ≡ node_width * n = length-replicate (node_width * n) 0 in
        let k : length (P ++ w) ≡ length P + length w = length-append P w in
        sym (drop_at P w (node_width * n) p)
        ∙ (enc_forest_at (P ++ w) n j q f (omega arith) e).words
        ∙ ap (λ (l : List ℕ). enc_g f n q ++ l) (drop_of_length-le (P ++ w) (let m : length (P ++ w) ≤ node_width * j = omega arith in m))
        ∙ append-nil (enc_g f n q)
    go false h e = let z : ◌≡◌ {A = ℕ} 0 1 = cc in absurd (omega arith)

-- ---- two forests, one after the other

pub join_empty : (f : Forest) → join_g f empty ≡ f
unfolding join_g
join_empty empty = refl
join_empty (tree r f g) = ap (λ (x : Forest). tree r f x) (join_empty g)

pub size_join : (f g : Forest) → size_g (join_g f g) ≡ size_g f + size_g g
unfolding join_g size_g
size_join empty g = omega arith
size_join (tree r f g) h = let ih = size_join g h in omega arith

-- ---- the nodes of a forest

-- whose first row is row n, under the parent q
unfoldable pub nodes_g : Forest → ℕ → ℕ → List Node
nodes_g empty n q = []
nodes_g (tree r f g) n q = with_next r (n + 1 + size_g f) q ∷ nodes_g f (n + 1) n ++ nodes_g g (n + 1 + size_g f) q

flat_join : (xs ys : List Node) → flat_nodes (xs ++ ys) ≡ flat_nodes xs ++ flat_nodes ys
flat_join [] ys = refl
flat_join (x ∷ xs) ys = ap (λ (l : List ℕ). node_words x ++ l) (flat_join xs ys)

-- its words are theirs
pub enc_nodes : (f : Forest) (n q : ℕ) → enc_g f n q ≡ flat_nodes (nodes_g f n q)
unfolding enc_g nodes_g
enc_nodes empty n q = refl
enc_nodes (tree r f g) n q =
    let x : ℕ = n + 1 + size_g f in
    ap (λ (l : List ℕ). row_words r x q ++ l)
    (ap (λ (l : List ℕ). l ++ enc_g g x q) (enc_nodes f (n + 1) n)
    ∙ ap (λ (l : List ℕ). flat_nodes (nodes_g f (n + 1) n) ++ l) (enc_nodes g x q)
    ∙ sym (flat_join (nodes_g f (n + 1) n) (nodes_g g x q)))

pub length_forest : (f : Forest) (n q : ℕ) → length (nodes_g f n q) ≡ size_g f
unfolding nodes_g size_g
length_forest empty n q = refl
length_forest (tree r f g) n q =
    let i = length_forest f (n + 1) n in
    let j = length_forest g (n + 1 + size_g f) q in
    let k = length-append (nodes_g f (n + 1) n) (nodes_g g (n + 1 + size_g f) q) in
    omega arith

-- of two forests
nodes_join : (f g : Forest) (n q : ℕ) → nodes_g (join_g f g) n q ≡ nodes_g f n q ++ nodes_g g (n + size_g f) q
unfolding nodes_g join_g size_g
nodes_join empty g n q = ap (λ (m : ℕ). nodes_g g m q) (let e : n ≡ n + 0 = omega arith in e)
nodes_join (tree r f g) h n q =
    let m : ℕ = n + 1 + size_g f in
    let x : Node = with_next r m q in
    let A : List Node = nodes_g f (n + 1) n in
    ap (λ (l : List Node). x ∷ A ++ l) (nodes_join g h m q)
    ∙ ap (λ (k : ℕ). x ∷ A ++ (nodes_g g m q ++ nodes_g h k q)) (let e : m + size_g g ≡ n + (1 + size_g f + size_g g) = omega arith in e)
    ∙ ap (λ (l : List Node). x ∷ l) (sym (append_assoc A (nodes_g g m q) (nodes_g h (n + (1 + size_g f + size_g g)) q)))

-- the words of two forests
pub enc_join : (f g : Forest) (n q : ℕ) → enc_g (join_g f g) n q ≡ enc_g f n q ++ enc_g g (n + size_g f) q
enc_join f g n q =
    enc_nodes (join_g f g) n q
    ∙ ap flat_nodes (nodes_join f g n q)
    ∙ flat_join (nodes_g f n q) (nodes_g g (n + size_g f) q)
    ∙ ap (λ (l : List ℕ). l ++ flat_nodes (nodes_g g (n + size_g f) q)) (sym (enc_nodes f n q))
    ∙ ap (λ (l : List ℕ). enc_g f n q ++ l) (sym (enc_nodes g (n + size_g f) q))

-- the forest that a list of nodes is, the first of which is row n, under the parent q
abbrev pub forest_n : List Node → ℕ → ℕ → Option Forest
forest_n xs n q = forest_rows (flat_nodes xs) n q

pub forest_nodes : (f : Forest) (n q : ℕ) → forest_n (nodes_g f n q) n q ≡ some f
forest_nodes f n q = ap (λ (w : List ℕ). forest_rows w n q) (sym (enc_nodes f n q)) ∙ forest_enc_rows f n q

none_more : (xs : List Node) → xs ++ nodes_of [] ≡ xs
unfolding nodes_of
none_more xs = append-nil xs

nodes_of_flat : (xs : List Node) → nodes_of (flat_nodes xs) ≡ xs
nodes_of_flat xs = ap nodes_of (sym (append-nil (flat_nodes xs))) ∙ nodes_flat xs [] ∙ none_more xs

-- nodes that are a forest are that forest's nodes
pub nodes_forest : (xs : List Node) (n q : ℕ) (f : Forest) → forest_n xs n q ≡ some f → xs ≡ nodes_g f n q
nodes_forest xs n q f e =
    sym (nodes_of_flat xs) ∙ ap nodes_of (enc_forest_rows (flat_nodes xs) n q f e ∙ enc_nodes f n q) ∙ nodes_of_flat (nodes_g f n q)
