-- The theorems of Walks.antt: each part of a tree, by its rows.
use Rattle.std.specs.Prelude.{ℕ, ◌+◌, ◌≤◌, ◌<◌, Bool, true, false, ◌&&◌, List, [], ◌∷◌, ◌++◌, ◌≡◌, ◌↔◌, refl, None, IsPermutation, length}
use Rattle.std.proofs.Common.{ap, sym, subst, ◌∙◌, arith, le_refl}
use Rattle.std.proofs.Math.Option.{some}
use Rattle.std.specs.List.{list_all}
use Rattle.std.proofs.lemmas.List.Folds.{list_all-append}
use Rattle.std.proofs.lemmas.List.Sums.{list_all-from_AllPass, AllPass-from_list_all}
use Rattle.std.proofs.lemmas.List.Sorted.{All-permutation, IsPermutation-sym}
use Rattle.refal_ast.specs.Kinds.{node_sentence, node_condition, node_terms, node_variable}
use Rattle.refal_ast.specs.Limits.{most_levels}
use Rattle.refal_ast.specs.Nodes.{no_parent}
use Rattle.refal_ast.specs.Names.{canonical_index}
use Rattle.refal_ast.specs.Tree.{Leaf, symbol, variable, Term, leaf, bracket, call, Terms, t0, t_more, Right, r_terms, r_block, Condition, condition, Conditions, c0, c_more}
use Rattle.refal_ast.specs.Tree.{End, e_terms, e_block, Sentence, sentence, Sentences, s0, s_more, Body, b_all, b_off, Names, n_one, n_more, Item, declaration, function, Program, p0, p_more, size_p}
use Rattle.refal_ast.specs.declared.tree.Symbol.TheVariants.{Char, Identifier, Number}
use Rattle.refal_tree.specs.Forest.{Row, Forest, empty, tree, size_g}
use Rattle.refal_tree.specs.Lawful.{tree_of, of_tree, length_tree}
use Rattle.refal_tree.specs.Ranges.{kind_at, next_at, parent_at}
use Rattle.refal_tree.specs.Typed.{plain, for_term, for_t, for_terms, for_right, for_condition, for_c, for_end, for_sentence, for_s, for_b, for_n, for_item, for_p, to_forest}
use Rattle.refal_tree.specs.TypedWords.{size_tree}
use Rattle.refal_spelling.specs.Spell.{text_at}
use Rattle.refal_files.specs.FileLaws.{row_count}
use Rattle.refal_bound.specs.Bound.{first_unbound}
use Rattle.refal_bound.specs.Force.{Variable, PatternOf, first, behind}
use Rattle.refal_bound.specs.ForceTheorems.{passes_exactly}
use Rattle.refal_bound.specs.Rows.{Row_at, Lies, lies_tree}
use Rattle.refal_bound.specs.Parts.{not_pattern, Open, Part, part_none, part_then, part_row, close, InTerms, in_none, in_then, in_row, in_variable, part_pattern, part_use, none_bound}
use Rattle.refal_bound.specs.Climb.{goes_up, Climbs}
use Rattle.refal_bound.specs.Walks.{all_bound, variables_term, variables, binds_right, binds_condition, binds, passes_right, passes_condition, passes_conditions, passes_end, passes_sentence, passes_sentences, passes_body, passes_item, passes, items, WalkAgrees, OrderFree}

module _ (w s : List ℕ) where
  -- a row's own words tell its kind
  kind_of : {i j q : ℕ} {r : Row} → Row_at w i j q r → kind_at w i ≡ r.kind
  kind_of R = ap (λ (r : Row). r.kind) R.is

  -- ---- terms
  record TermsTo (xs : List Variable) (i j q : ℕ) (g : Forest) : Type 0 where
    end : ℕ
    terms : InTerms w s q xs i end
    rest : Lies w end j q g

  -- a row that is neither Terms nor a variable, and those below it
  over : {xs : List Variable} {i j q : ℕ} {r : Row} {g : Forest} → Row_at w i j q r → (r.kind ≡ node_terms → ⊥) → (r.kind ≡ node_variable → ⊥) → goes_up r.kind ≡ true → q < i → TermsTo xs (i + 1) (next_at w i) i empty → Lies w (next_at w i) j q g → TermsTo xs i j q g
  unfolding Lies
  over {xs} {i} {j} {q} {r} {g} R n m u b T L =
      let k = kind_of R in
      record {
        end = next_at w i;
        terms = in_row w s i (next_at w i) (λ e. n (sym k ∙ e)) (λ e. m (sym k ∙ e)) (ap goes_up k ∙ u) R.parent b (subst (InTerms w s i xs (i + 1)) T.rest T.terms);
        rest = L;
      }

  leaf_rows : (x : Leaf) (a b i j q : ℕ) (g : Forest) → Lies w i j q (for_term (leaf x a b) g) → q < i → TermsTo (variables_term s (leaf x a b)) i j q g
  unfolding Lies for_t variables
  leaf_rows (symbol (Char x)) a b i j q g L m = over L.0 (λ e. omega arith) (λ e. omega arith) refl m (record { end = i + 1; terms = in_none w s i (i + 1); rest = L.1 }) L.2
  leaf_rows (symbol (Identifier x l)) a b i j q g L m = over L.0 (λ e. omega arith) (λ e. omega arith) refl m (record { end = i + 1; terms = in_none w s i (i + 1); rest = L.1 }) L.2
  leaf_rows (symbol (Number x l)) a b i j q g L m = over L.0 (λ e. omega arith) (λ e. omega arith) refl m (record { end = i + 1; terms = in_none w s i (i + 1); rest = L.1 }) L.2
  leaf_rows (variable v x l) a b i j q g L m =
      let e = L.0.is in
      record {
        end = i + 1;
        terms = in_variable w s _ i (kind_of L.0) L.0.parent m (λ t. record { letter = (e t).detail; index = canonical_index (text_at s (e t).start (e t).len) });
        rest = subst (λ (n : ℕ). Lies w n j q g) (sym L.1) L.2;
      }

  mutual
    unfolding Lies for_t variables

    term_rows : (x : Term) (i j q : ℕ) (g : Forest) → Lies w i j q (for_term x g) → q < i → TermsTo (variables_term s x) i j q g
    term_rows (leaf x a b) i j q g L m = leaf_rows x a b i j q g L m
    term_rows (bracket a f b) i j q g L m = over L.0 (λ e. omega arith) (λ e. omega arith) refl m (terms_rows f (i + 1) (next_at w i) i empty L.1 (omega arith)) L.2
    term_rows (call a x l f b) i j q g L m = over L.0 (λ e. omega arith) (λ e. omega arith) refl m (terms_rows f (i + 1) (next_at w i) i empty L.1 (omega arith)) L.2

    terms_rows : (f : Terms) (i j q : ℕ) (g : Forest) → Lies w i j q (for_t f g) → q < i → TermsTo (variables s f) i j q g
    terms_rows t0 i j q g L m = record { end = i; terms = in_none w s q i; rest = L }
    terms_rows (t_more f x) i j q g L m =
        let A = terms_rows f i j q (for_term x g) L m in
        let l = A.terms.le in
        let B = term_rows x A.end j q g A.rest (omega arith) in
        record { end = B.end; terms = in_then w s A.terms B.terms; rest = B.rest }

  -- a Terms row's terms
  inner_terms : (f : Terms) (i x : ℕ) → Lies w (i + 1) x i (for_t f empty) → InTerms w s i (variables s f) (i + 1) x
  unfolding Lies
  inner_terms f i x L = let A = terms_rows f (i + 1) x i empty L (omega arith) in subst (InTerms w s i (variables s f) (i + 1)) A.rest A.terms

  -- ---- parts, and what follows them
  record PartTo (J : ℕ) (bound bound' : List Variable) (ok : Bool) (i j q : ℕ) (g : Forest) : Type 0 where
    end : ℕ
    part : Part w s J bound bound' ok i end
    rest : Lies w end j q g

  -- behind a row
  plain_row : {i j q : ℕ} {r : Row} (J : ℕ) (bound : List Variable) → Row_at w i j q r → (r.kind ≡ node_terms → ⊥) → (r.kind ≡ node_variable → ⊥) → Part w s J bound bound true i (i + 1)
  plain_row {i} J bound R n m = let k = kind_of R in part_row w s J bound i (λ e. n (sym k ∙ e)) (λ e. m (sym k ∙ e))

  -- a Terms row that uses
  use_terms : (f : Terms) (J : ℕ) (bound : List Variable) (i j q : ℕ) (g : Forest) → Lies w i j q (for_terms f g) → j ≤ J → J ≤ row_count w → ((p : ℕ) → PatternOf w p i → ⊥)
      → Part w s J bound bound (all_bound bound (variables s f)) i (next_at w i)
  unfolding Lies
  use_terms f J bound i j q g L l m n =
      let R = L.0 in
      let h = R.hi in
      part_use w s J bound (variables s f) i (next_at w i) (inner_terms f i (next_at w i) L.1) (kind_of R) refl n (omega arith) m

  -- the sentence q, of which some parts stand before row i
  record Within (q J i : ℕ) : Type 0 where
    kind : kind_at w q ≡ node_sentence
    past : q + 1 < i
    end : next_at w q ≡ J

  -- a result is no pattern
  no_result : (q J i : ℕ) → Within q J i → parent_at w i ≡ q → (p : ℕ) → PatternOf w p i → ⊥
  no_result q J i W e = let h = W.past in let k = W.kind in not_pattern w i q e (λ a b. omega arith) (λ a b. omega arith)

  -- the first terms of a condition or of an ending block are none
  no_first : (c i : ℕ) → i ≡ c + 1 → (kind_at w c ≡ node_sentence → ⊥) → parent_at w i ≡ c → (p : ℕ) → PatternOf w p i → ⊥
  no_first c i e k h = not_pattern w i c h (λ a b. k a) (λ a b. b e)

  mutual
    unfolding Lies for_c binds passes_body

    right_part : (r : Right) (J : ℕ) (bound : List Variable) (i j c q : ℕ) → Lies w i j c (for_right r empty) → kind_at w c ≡ node_condition → parent_at w c ≡ q → (i ≡ c + 1 → ⊥) → kind_at w q ≡ node_sentence → next_at w q ≡ J → j ≤ J → J ≤ row_count w
        → Part w s J bound (binds_right s bound r) (passes_right s bound r) i j
    right_part (r_terms f) J bound i j c q L kc pc n kq e l m =
        subst (Part w s J bound (bound ++ variables s f) true i) L.2
        (part_pattern w s J bound (variables s f) i (next_at w i) (inner_terms f i (next_at w i) L.1) (kind_of L.0) refl q (behind c (kind_of L.0) L.0.parent kc n pc kq) e)
    right_part (r_block a v b) J bound i j c q L kc pc n kq e l m =
        let h = L.0.hi in
        subst (Part w s J bound bound (passes_body s bound v) i) L.2
        (part_then w s (plain_row J bound L.0 (λ z. omega arith) (λ z. omega arith)) (body_part v J bound (i + 1) (next_at w i) i L.1 (omega arith) m))

    condition_part : (x : Condition) (J : ℕ) (bound : List Variable) (i j q : ℕ) (g : Forest) → Lies w i j q (for_condition x g) → kind_at w q ≡ node_sentence → next_at w q ≡ J → j ≤ J → J ≤ row_count w
        → PartTo J bound (binds_condition s bound x) (passes_condition s bound x) i j q g
    condition_part (condition a f r b) J bound i j q g L kq e l m =
        let R = L.0 in
        let h = R.hi in
        let T = L.1.0 in
        let lo = T.lo in
        let k : kind_at w i ≡ node_condition = kind_of R in
        let U : Part w s J bound bound (all_bound bound (variables s f)) (i + 1) (next_at w (i + 1)) = use_terms f J bound (i + 1) (next_at w i) i (for_right r empty) L.1 (omega arith) m (no_first i (i + 1) refl (λ z. omega arith) T.parent) in
        record {
          end = next_at w i;
          part = part_then w s (plain_row J bound R (λ z. omega arith) (λ z. omega arith))
              (part_then w s U (right_part r J bound (next_at w (i + 1)) (next_at w i) i q L.1.2 k R.parent (λ z. omega arith) kq e (omega arith) m));
          rest = L.2;
        }

    conditions_part : (cs : Conditions) (J : ℕ) (bound : List Variable) (i j q : ℕ) (g : Forest) → Lies w i j q (for_c cs g) → kind_at w q ≡ node_sentence → next_at w q ≡ J → j ≤ J → J ≤ row_count w
        → PartTo J bound (binds s bound cs) (passes_conditions s bound cs) i j q g
    conditions_part c0 J bound i j q g L kq e l m = record { end = i; part = part_none w s J bound i; rest = L }
    conditions_part (c_more cs x) J bound i j q g L kq e l m =
        let A = conditions_part cs J bound i j q (for_condition x g) L kq e l m in
        let B = condition_part x J (binds s bound cs) A.end j q g A.rest kq e l m in
        record { end = B.end; part = part_then w s A.part B.part; rest = B.rest }

    end_part : (x : End) (J : ℕ) (bound : List Variable) (i j q : ℕ) → Lies w i j q (for_end x empty) → Within q J i → j ≤ J → J ≤ row_count w → Part w s J bound bound (passes_end s bound x) i j
    end_part (e_terms f) J bound i j q L W l m =
        subst (Part w s J bound bound (all_bound bound (variables s f)) i) L.2 (use_terms f J bound i j q empty L l m (no_result q J i W L.0.parent))
    end_part (e_block a f v b) J bound i j q L W l m =
        let R = L.0 in
        let h = R.hi in
        let k = kind_of R in
        let T = L.1.0 in
        let U : Part w s J bound bound (all_bound bound (variables s f)) (i + 1) (next_at w (i + 1)) = use_terms f J bound (i + 1) (next_at w i) i (for_b v empty) L.1 (omega arith) m (no_first i (i + 1) refl (λ z. omega arith) T.parent) in
        subst (Part w s J bound bound (all_bound bound (variables s f) && passes_body s bound v) i) L.2
        (part_then w s (plain_row J bound R (λ z. omega arith) (λ z. omega arith)) (part_then w s U (body_part v J bound (next_at w (i + 1)) (next_at w i) i L.1.2 (omega arith) m)))

    sentence_part : (off : Bool) (x : Sentence) (J : ℕ) (bound : List Variable) (i j q : ℕ) (g : Forest) → Lies w i j q (for_sentence off x g) → j ≤ J → J ≤ row_count w → PartTo J bound bound (passes_sentence s bound x) i j q g
    sentence_part off (sentence a f cs x b) J bound i j q g L l m =
        let R = L.0 in
        let h = R.hi in
        let X : ℕ = next_at w i in
        let k : kind_at w i ≡ node_sentence = kind_of R in
        let T = L.1.0 in
        let lo = T.lo in
        let kt : kind_at w (i + 1) ≡ node_terms = kind_of T in
        let bound' : List Variable = bound ++ variables s f in
        let P = part_pattern w s X bound (variables s f) (i + 1) (next_at w (i + 1)) (inner_terms f (i + 1) (next_at w (i + 1)) L.1.1) kt refl i (first kt T.parent k refl) refl in
        let C = conditions_part cs X bound' (next_at w (i + 1)) X i (for_end x empty) L.1.2 k refl (le_refl _) (omega arith) in
        let c = C.part.le in
        let E = end_part x X (binds s bound' cs) C.end X i C.rest (record { kind = k; past = omega arith; end = refl }) (le_refl _) (omega arith) in
        record {
          end = X;
          part = close w s J bound i X (omega arith)
              (part_then w s (plain_row X bound R (λ z. omega arith) (λ z. omega arith)) (part_then w s P (part_then w s C.part E)));
          rest = L.2;
        }

    sentences_part : (x : Sentences) (J : ℕ) (bound : List Variable) (i j q : ℕ) (g : Forest) → Lies w i j q (for_s x g) → j ≤ J → J ≤ row_count w → PartTo J bound bound (passes_sentences s bound x) i j q g
    sentences_part s0 J bound i j q g L l m = record { end = i; part = part_none w s J bound i; rest = L }
    sentences_part (s_more x y) J bound i j q g L l m =
        let A = sentences_part x J bound i j q (for_sentence false y g) L l m in
        let B = sentence_part false y J bound A.end j q g A.rest l m in
        record { end = B.end; part = part_then w s A.part B.part; rest = B.rest }

    body_part : (v : Body) (J : ℕ) (bound : List Variable) (i j q : ℕ) → Lies w i j q (for_b v empty) → j ≤ J → J ≤ row_count w → Part w s J bound bound (passes_body s bound v) i j
    body_part (b_all x) J bound i j q L l m =
        let A = sentences_part x J bound i j q empty L l m in subst (Part w s J bound bound (passes_sentences s bound x) i) A.rest A.part
    body_part (b_off x y) J bound i j q L l m =
        let A = sentences_part x J bound i j q (for_sentence true y empty) L l m in
        let B = sentence_part true y J bound A.end j q empty A.rest l m in
        subst (Part w s J bound bound (passes_sentences s bound x && passes_sentence s bound y) i) B.rest (part_then w s A.part B.part)

  -- ---- items
  names_part : (ns : Names) (J : ℕ) (bound : List Variable) (i j q : ℕ) (g : Forest) → Lies w i j q (for_n ns g) → PartTo J bound bound true i j q g
  unfolding Lies for_n
  names_part (n_one x l) J bound i j q g L =
      record { end = next_at w i; part = subst (Part w s J bound bound true i) L.1 (plain_row J bound L.0 (λ z. omega arith) (λ z. omega arith)); rest = L.2 }
  names_part (n_more ns x l) J bound i j q g L =
      let A = names_part ns J bound i j q (tree (Rattle.refal_tree.specs.Typed.name_r x l) empty g) L in
      let B = A.rest in
      record {
        end = next_at w A.end;
        part = part_then w s A.part (subst (Part w s J bound bound true A.end) B.1 (plain_row J bound B.0 (λ z. omega arith) (λ z. omega arith)));
        rest = B.2;
      }

  item_part : (x : Item) (J i j q : ℕ) (g : Forest) → Lies w i j q (for_item x g) → j ≤ J → J ≤ row_count w → PartTo J [] [] (passes_item s x) i j q g
  unfolding Lies
  item_part (declaration a ns b) J i j q g L l m =
      let A = names_part ns J [] (i + 1) (next_at w i) i empty L.1 in
      record {
        end = next_at w i;
        part = part_then w s (plain_row J [] L.0 (λ z. omega arith) (λ z. omega arith)) (subst (Part w s J [] [] true (i + 1)) A.rest A.part);
        rest = L.2;
      }
  item_part (function a x y k v b) J i j q g L l m =
      let h = L.0.hi in
      record {
        end = next_at w i;
        part = part_then w s (plain_row J [] L.0 (λ z. omega arith) (λ z. omega arith)) (body_part v J [] (i + 1) (next_at w i) i L.1 (omega arith) m);
        rest = L.2;
      }

  program_part : (p : Program) (J i j q : ℕ) (g : Forest) → Lies w i j q (for_p p g) → j ≤ J → J ≤ row_count w → PartTo J [] [] (passes s p) i j q g
  unfolding for_p passes
  program_part p0 J i j q g L l m = record { end = i; part = part_none w s J [] i; rest = L }
  program_part (p_more p x) J i j q g L l m =
      let A = program_part p J i j q (for_item x g) L l m in
      let B = item_part x J A.end j q g A.rest l m in
      record { end = B.end; part = part_then w s A.part B.part; rest = B.rest }

  -- ---- all rows
  start : (J : ℕ) → Open w s J [] 0
  start J = record {
    clear = λ q t P l. absurd (omega arith);
    known = λ x e. none_bound x e;
    all = λ q b B l h. absurd (omega arith);
  }

  all_part : (t : Program) → tree_of most_levels w ≡ some t → Part w s (row_count w) [] [] (passes s t) 0 (row_count w)
  unfolding Lies
  all_part t e =
      let n : size_g (to_forest t) ≡ row_count w =
      size_tree t ∙ (let z = length_tree t in let y = ap length (of_tree most_levels w t e).words in let x : size_p t ≡ row_count w = omega arith in x) in
      let A = program_part t (row_count w) 0 (row_count w) no_parent empty (subst (λ (k : ℕ). Lies w 0 k no_parent (to_forest t)) n (lies_tree w t e)) (le_refl _) (le_refl _) in
      subst (Part w s (row_count w) [] [] (passes s t) 0) A.rest A.part

  -- from each row inside a Terms row the way up leads to it
  pub all_climb : (t : Program) → tree_of most_levels w ≡ some t → (i b : ℕ) → i < row_count w → kind_at w i ≡ node_terms → i < b → b < next_at w i → Climbs w i b
  all_climb t e i b l k lo hi = (all_part t e).climbs i b (omega arith) l k lo hi

  agrees : (t : Program) → tree_of most_levels w ≡ some t → (first_unbound w s ≡ None) ↔ (passes s t ≡ true)
  agrees t e =
      let A = all_part t e in
      let O = start (row_count w) in (
        λ h. A.ok_if O (λ u lo hi U. (passes_exactly w s).0 h u U),
        λ h. (passes_exactly w s).1 (λ u U. A.fine O h u (omega arith) U.there U),
      )

pub walk_agrees : WalkAgrees
walk_agrees w s t e = agrees w s t e

-- ---- the items in another order
module _ (s : List ℕ) where
  each_item : (p : Program) → passes s p ≡ list_all (passes_item s) (items p)
  unfolding passes items
  each_item p0 = refl
  each_item (p_more p x) =
      ap (λ (b : Bool). b && passes_item s x) (each_item p)
      ∙ sym (list_all-append (passes_item s) (items p) (x ∷ []) ∙ ap (λ (b : Bool). list_all (passes_item s) (items p) && b) (last (passes_item s x)))
    where
      last : (b : Bool) → (b && true) ≡ b
      last true = refl
      last false = refl

  in_order : (p p' : Program) → IsPermutation (items p) (items p') → passes s p ≡ true → passes s p' ≡ true
  in_order p p' h e =
      each_item p'
      ∙ list_all-from_AllPass (passes_item s) (items p')
      (All-permutation (λ x. passes_item s x ≡ true) (items p) (items p') h (AllPass-from_list_all (passes_item s) (items p) (sym (each_item p) ∙ e)))

pub order_free : OrderFree
order_free w w' s t t' e e' h = (
  λ n. (walk_agrees w' s t' e').1 (in_order s t t' h ((walk_agrees w s t e).0 n)),
  λ n. (walk_agrees w s t e).1 (in_order s t' t (IsPermutation-sym (items t) (items t') h) ((walk_agrees w' s t' e').0 n)),
)
