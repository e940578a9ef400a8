-- A forest that keeps the rules is the forest of a tree that is no deeper than the levels.
use Rattle.std.specs.Prelude.{ℕ, zero, suc, ◌≤◌, Bool, true, false, ◌&&◌, ◌≡◌, refl, eqb, leb}
use Rattle.std.proofs.Common.{sym, ap, subst, ◌∙◌, arith, leb-true}
use Rattle.refal_rows.specs.Tests.{and_left, and_right}
use Rattle.refal_ast.specs.Kinds.{node_declaration, node_function, node_condition, node_terms, node_ending_block, node_condition_block, node_bracket, node_call}
use Rattle.refal_ast.specs.Tree.{Leaf, symbol, variable, Term, leaf, bracket, call, Terms, t0, t_more, Conditions, c0, c_more}
use Rattle.refal_ast.specs.Tree.{Sentences, s0, s_more, Names, n_one, n_more, declaration, function, Program, p0, p_more}
use Rattle.refal_ast.specs.Tree.{depth_t, depth_right, depth_condition, depth_c, depth_end, depth_sentence, depth_s, depth_b, depth_p}
use Rattle.refal_ast.specs.Encode.{entry_detail}
use Rattle.refal_ast.specs.declared.tree.Symbol.TheVariants.{Char, Identifier, Number}
use Rattle.refal_tree.specs.Forest.{Row, row, Forest, empty, tree}
use Rattle.refal_tree.specs.States.{at_items, at_name, at_names, at_sentences, at_pattern, at_conditions, at_condition, at_colon, at_terms, at_argument, closed, state_inside, state_next, below, lower}
use Rattle.refal_tree.specs.Rules.{row_ok, ok_g}
use Rattle.refal_tree.specs.Typed.{leaf_r, plain, for_t, for_terms, for_right, for_condition, for_c, for_end, sentence_r, for_sentence, for_s, for_b, name_r, for_n, for_p, to_forest}
use Rattle.refal_tree.specs.Typed.{get_t, get_b, get_sentence, get_tail, get_block, get_condition, get_right, get_ns, get_n, get_p, program_of}
use Rattle.refal_tree.specs.TypedRules.{ending_is, leaf_back, flag_back}
use Rattle.refal_tree.specs.Views.{never, TermRow, is_leaf, is_bracket, is_call, ItemRow, is_declaration, is_function, NameRow, is_name, SentenceRow, is_sentence, TermsRow}
use Rattle.refal_tree.specs.Views.{is_terms, TailRow, is_condition, is_result, is_ending, RightRow, is_right, is_block, Kept, kept, item_row, name_row_lem, names_row}
use Rattle.refal_tree.specs.Views.{sentence_row_lem, pattern_row, condition_row, argument_row, tail_row, right_row, term_row}

-- what keeping the rules says of a row, of its children and of what follows
pub record Parts (st left : ℕ) (r : Row) (f g : Forest) : Type 0 where
  pub here : Kept st left r
  pub kids : ok_g (state_inside r.kind) (below st r.kind left) f ≡ true
  pub rest : ok_g (state_next st r.kind r.detail) left g ≡ true

pub parts : (st left : ℕ) (r : Row) (f g : Forest) → ok_g st left (tree r f g) ≡ true → Parts st left r f g
unfolding ok_g
parts st left r f g h =
    let x : Bool = row_ok st left r in
    let y : Bool = ok_g (state_inside r.kind) (below st r.kind left) f in
    let z : Bool = ok_g (state_next st r.kind r.detail) left g in
    record { here = kept st left r (and_left x (y && z) h); kids = and_left y z (and_right x (y && z) h); rest = and_right y z (and_right x (y && z) h) }

pub closed_empty : (left : ℕ) (f : Forest) → ok_g closed left f ≡ true → f ≡ empty
closed_empty left empty h = refl
closed_empty left (tree r f g) h = never (parts closed left r f g h).here.fit

-- one level up
raise : (d left : ℕ) → leb 1 left ≡ true → d ≤ lower left → suc d ≤ left
raise d zero h i = let z = leb-true 1 zero h in absurd (omega arith)
raise d (suc n) h i = omega arith

-- ---- terms
pub record TermsOf (left : ℕ) (t : Terms) (f : Forest) : Type 0 where
  pub forest : for_t (get_t t f) empty ≡ for_t t f
  pub deep : depth_t t ≤ left → depth_t (get_t t f) ≤ left

leaf_kids : (x : Leaf) (a b left : ℕ) (f : Forest) → ok_g (state_inside (leaf_r x a b).kind) left f ≡ true → f ≡ empty
leaf_kids (symbol (Char x)) a b left f h = closed_empty left f h
leaf_kids (symbol (Identifier s l)) a b left f h = closed_empty left f h
leaf_kids (symbol (Number s l)) a b left f h = closed_empty left f h
leaf_kids (variable v s l) a b left f h = closed_empty left f h

leaf_after : (x : Leaf) (a b : ℕ) → state_next at_terms (leaf_r x a b).kind (leaf_r x a b).detail ≡ at_terms
leaf_after (symbol (Char x)) a b = refl
leaf_after (symbol (Identifier s l)) a b = refl
leaf_after (symbol (Number s l)) a b = refl
leaf_after (variable v s l) a b = refl

abbrev AllT : Forest → Type 0
AllT f = (left : ℕ) (t : Terms) → ok_g at_terms left f ≡ true → TermsOf left t f

term_step : (r : Row) (f g : Forest) (left : ℕ) (t : Terms) → TermRow r → Parts at_terms left r f g → AllT f → AllT g → TermsOf left t (tree r f g)
unfolding for_t get_t depth_t
term_step _ f g left t (is_leaf x a b) p kids rest =
    let n = rest left (t_more t (leaf x a b)) (ap (λ (st : ℕ). ok_g st left g) (sym (leaf_after x a b)) ∙ p.rest) in
    let q = leaf_back x a b (get_t t0 f) in
    record {
      forest =
          ap (λ (y : Term). for_t (get_t (t_more t y) g) empty) q
          ∙ n.forest
          ∙ ap (λ (y : Forest). for_t t (tree (leaf_r x a b) y g)) (sym (leaf_kids x a b (below at_terms (leaf_r x a b).kind left) f p.kids));
      deep = λ d. subst (λ (y : Term). depth_t (get_t (t_more t y) g) ≤ left) (sym q) (n.deep (omega arith));
    }
term_step _ f g left t (is_bracket a b) p kids rest =
    let k = kids (lower left) t0 p.kids in
    let n = rest left (t_more t (bracket a (get_t t0 f) b)) p.rest in
    record {
      forest = n.forest ∙ ap (λ (y : Forest). for_t t (tree (plain node_bracket a b) y g)) k.forest;
      deep = λ d. let i = raise (depth_t (get_t t0 f)) left p.here.deep (k.deep (omega arith)) in n.deep (omega arith);
    }
term_step _ f g left t (is_call s l a b) p kids rest =
    let k = kids (lower left) t0 p.kids in
    let n = rest left (t_more t (call a s l (get_t t0 f) b)) p.rest in
    record {
      forest = n.forest ∙ ap (λ (y : Forest). for_t t (tree (row node_call 0 s l a b) y g)) k.forest;
      deep = λ d. let i = raise (depth_t (get_t t0 f)) left p.here.deep (k.deep (omega arith)) in n.deep (omega arith);
    }

pub sound_t : (f : Forest) (left : ℕ) (t : Terms) → ok_g at_terms left f ≡ true → TermsOf left t f
unfolding get_t
sound_t empty left t h = record { forest = refl; deep = λ d. d }
sound_t (tree r f g) left t h =
    let p = parts at_terms left r f g h in term_step r f g left t (term_row p.here) p (sound_t f) (sound_t g)

-- the terms of a Terms row
terms_of : (f : Forest) (left : ℕ) → ok_g at_terms left f ≡ true → for_t (get_t t0 f) empty ≡ f
unfolding for_t
terms_of f left h = (sound_t f left t0 h).forest

terms_deep : (f : Forest) (left : ℕ) → ok_g at_terms left f ≡ true → depth_t (get_t t0 f) ≤ left
unfolding depth_t
terms_deep f left h = (sound_t f left t0 h).deep (omega arith)

-- ---- sentences and conditions

-- a body, after the sentences s
pub record BodyOf (left : ℕ) (s : Sentences) (f : Forest) : Type 0 where
  pub forest : for_b (get_b s f) empty ≡ for_s s f
  pub deep : depth_s s ≤ left → depth_b (get_b s f) ≤ left

-- a sentence, of the row r
pub record SentenceOf (left : ℕ) (r : Row) (f : Forest) : Type 0 where
  pub forest : (off : Bool) (g : Forest) → for_sentence off (get_sentence r f) g ≡ tree (sentence_r off r.from r.to) f g
  pub deep : depth_sentence (get_sentence r f) ≤ left

-- the rest of a sentence, after its pattern p and conditions cs
pub record TailOf (left : ℕ) (r : Row) (p : Terms) (cs : Conditions) (f : Forest) : Type 0 where
  pub forest : (off : Bool) (g : Forest) → for_sentence off (get_tail r p cs f) g ≡ tree (sentence_r off r.from r.to) (for_terms p (for_c cs f)) g
  pub deep : depth_t p ≤ left → depth_c cs ≤ left → depth_sentence (get_tail r p cs f) ≤ left

-- an ending block, of the row q
pub record BlockOf (left : ℕ) (q : Row) (f : Forest) : Type 0 where
  pub forest : for_end (get_block q f) empty ≡ tree (plain node_ending_block q.from q.to) f empty
  pub deep : leb 1 left ≡ true → depth_end (get_block q f) ≤ left

-- a condition, of the row r
pub record ConditionOf (left : ℕ) (r : Row) (f : Forest) : Type 0 where
  pub forest : (g : Forest) → for_condition (get_condition r f) g ≡ tree (plain node_condition r.from r.to) f g
  pub deep : depth_condition (get_condition r f) ≤ left

-- what stands after a condition's first terms
pub record RightOf (left : ℕ) (f : Forest) : Type 0 where
  pub forest : for_right (get_right f) empty ≡ f
  pub deep : depth_right (get_right f) ≤ left

-- the same for a forest's part, whatever stands before it
abbrev AllB : Forest → Type 0
AllB f = (left : ℕ) (s : Sentences) → ok_g at_sentences left f ≡ true → BodyOf left s f

abbrev AllSentence : Forest → Type 0
AllSentence f = (left : ℕ) (r : Row) → ok_g at_pattern left f ≡ true → SentenceOf left r f

abbrev AllTail : Forest → Type 0
AllTail f = (left : ℕ) (r : Row) (p : Terms) (cs : Conditions) → ok_g at_conditions left f ≡ true → TailOf left r p cs f

abbrev AllBlock : Forest → Type 0
AllBlock f = (left : ℕ) (q : Row) → ok_g at_argument left f ≡ true → BlockOf left q f

abbrev AllCondition : Forest → Type 0
AllCondition f = (left : ℕ) (r : Row) → ok_g at_condition left f ≡ true → ConditionOf left r f

abbrev AllRight : Forest → Type 0
AllRight f = (left : ℕ) → ok_g at_colon left f ≡ true → RightOf left f

sentence_step : (r : Row) (f g : Forest) (left : ℕ) (s : Sentences) → SentenceRow r → Parts at_sentences left r f g → AllSentence f → AllB g → BodyOf left s (tree r f g)
unfolding get_b for_s depth_s
sentence_step _ f g left s (is_sentence false a b) p kids rest =
    let k = kids left (sentence_r false a b) p.kids in
    let n = rest left (s_more s (get_sentence (sentence_r false a b) f)) p.rest in
    let e : depth_sentence (get_sentence (sentence_r false a b) f) ≤ left = k.deep in
    record { forest = n.forest ∙ ap (for_s s) (k.forest false g); deep = λ d. n.deep (omega arith) }
sentence_step _ f g left s (is_sentence true a b) p kids rest =
    let k = kids left (sentence_r true a b) p.kids in
    let e : depth_sentence (get_sentence (sentence_r true a b) f) ≤ left = k.deep in
    record {
      forest = ap (for_s s) (k.forest true empty ∙ ap (λ (y : Forest). tree (sentence_r true a b) f y) (sym (closed_empty left g p.rest)));
      deep = λ d. omega arith;
    }

pattern_step : (z : Row) (f g : Forest) (left : ℕ) (r : Row) → TermsRow z → Parts at_pattern left z f g → AllTail g → SentenceOf left r (tree z f g)
unfolding get_sentence for_c depth_c
pattern_step _ f g left r is_terms p rest =
    let n = rest left r (get_t t0 f) c0 p.rest in
    let t = terms_deep f left p.kids in
    record {
      forest = λ off h. n.forest off h ∙ ap (λ (y : Forest). tree (sentence_r off r.from r.to) (tree (plain node_terms 0 0) y g) h) (terms_of f left p.kids);
      deep = n.deep t (omega arith);
    }

tail_step : (z : Row) (f g : Forest) (left : ℕ) (r : Row) (p : Terms) (cs : Conditions) → TailRow z → Parts at_conditions left z f g → AllCondition f → AllBlock f → AllTail g
    → TailOf left r p cs (tree z f g)
unfolding get_tail for_sentence depth_sentence
tail_step _ f g left r p cs (is_condition a b) q kids blocks rest =
    let k = kids left (plain node_condition a b) q.kids in
    let n = rest left r p (c_more cs (get_condition (plain node_condition a b) f)) q.rest in
    let e : depth_condition (get_condition (plain node_condition a b) f) ≤ left = k.deep in
    record {
      forest = λ off h. n.forest off h ∙ ap (λ (y : Forest). tree (sentence_r off r.from r.to) (for_terms p (for_c cs y)) h) (k.forest g);
      deep = λ t c. n.deep t (omega arith);
    }
tail_step _ f g left r p cs is_result q kids blocks rest =
    let t = terms_deep f left q.kids in
    record {
      forest = λ off h.
          ap (λ (y : Forest). tree (sentence_r off r.from r.to) (for_terms p (for_c cs (tree (plain node_terms 0 0) y empty))) h) (terms_of f left q.kids)
          ∙ ap (λ (y : Forest). tree (sentence_r off r.from r.to) (for_terms p (for_c cs (tree (plain node_terms 0 0) f y))) h) (sym (closed_empty left g q.rest));
      deep = λ u c. omega arith;
    }
tail_step _ f g left r p cs (is_ending a b) q kids blocks rest =
    let k = blocks left (plain node_ending_block a b) q.kids in
    let d : depth_end (get_block (plain node_ending_block a b) f) ≤ left = k.deep q.here.deep in
    record {
      forest = λ off h.
          ap (λ (y : Forest). tree (sentence_r off r.from r.to) (for_terms p (for_c cs y)) h) k.forest
          ∙ ap (λ (y : Forest). tree (sentence_r off r.from r.to) (for_terms p (for_c cs (tree (plain node_ending_block a b) f y))) h) (sym (closed_empty left g q.rest));
      deep = λ u c. omega arith;
    }

block_step : (z : Row) (f g : Forest) (left : ℕ) (q : Row) → TermsRow z → Parts at_argument left z f g → AllB g → BlockOf left q (tree z f g)
unfolding get_block for_s depth_s
block_step _ f g left q is_terms o rest =
    let t = terms_deep f left o.kids in
    let n = rest (lower left) s0 (sym (ending_is left g) ∙ o.rest) in
    record {
      forest =
          ap (λ (y : Forest). tree (plain node_ending_block q.from q.to) (tree (plain node_terms 0 0) y (for_b (get_b s0 g) empty)) empty) (terms_of f left o.kids)
          ∙ ap (λ (y : Forest). tree (plain node_ending_block q.from q.to) (tree (plain node_terms 0 0) f y) empty) n.forest;
      deep = λ some. let v = raise (depth_b (get_b s0 g)) left some (n.deep (omega arith)) in omega arith;
    }

condition_step : (z : Row) (f g : Forest) (left : ℕ) (r : Row) → TermsRow z → Parts at_condition left z f g → AllRight g → ConditionOf left r (tree z f g)
unfolding get_condition for_c depth_c
condition_step _ f g left r is_terms q rest =
    let n = rest left q.rest in
    let t = terms_deep f left q.kids in
    let e : depth_right (get_right g) ≤ left = n.deep in
    record {
      forest = λ h.
          ap (λ (y : Forest). tree (plain node_condition r.from r.to) (tree (plain node_terms 0 0) y (for_right (get_right g) empty)) h) (terms_of f left q.kids)
          ∙ ap (λ (y : Forest). tree (plain node_condition r.from r.to) (tree (plain node_terms 0 0) f y) h) n.forest;
      deep = omega arith;
    }

right_step : (z : Row) (f g : Forest) (left : ℕ) → RightRow z → Parts at_colon left z f g → AllB f → RightOf left (tree z f g)
unfolding get_right for_s depth_s
right_step _ f g left is_right q kids = record {
  forest =
      ap (λ (y : Forest). tree (plain node_terms 0 0) y empty) (terms_of f left q.kids)
      ∙ ap (λ (y : Forest). tree (plain node_terms 0 0) f y) (sym (closed_empty left g q.rest));
  deep = terms_deep f left q.kids;
}
right_step _ f g left (is_block a b) q kids =
    let n = kids (lower left) s0 q.kids in
    record {
      forest = ap (λ (y : Forest). tree (plain node_condition_block a b) y empty) n.forest ∙ ap (λ (y : Forest). tree (plain node_condition_block a b) f y) (sym (closed_empty left g q.rest));
      deep = raise (depth_b (get_b s0 f)) left q.here.deep (n.deep (omega arith));
    }

mutual
  unfolding get_b for_s depth_s ok_g

  pub sound_b : (f : Forest) (left : ℕ) (s : Sentences) → ok_g at_sentences left f ≡ true → BodyOf left s f
  sound_b empty left s h = record { forest = refl; deep = λ d. d }
  sound_b (tree r f g) left s h =
      let p = parts at_sentences left r f g h in
      sentence_step r f g left s (sentence_row_lem p.here) p
      (λ (l : ℕ) (r : Row). λ h. sound_sentence f l r h) (λ (l : ℕ) (s : Sentences). λ h. sound_b g l s h)

  sound_sentence : (f : Forest) (left : ℕ) (r : Row) → ok_g at_pattern left f ≡ true → SentenceOf left r f
  sound_sentence empty left r h = never h
  sound_sentence (tree z f g) left r h =
      let p = parts at_pattern left z f g h in pattern_step z f g left r (pattern_row p.here) p (λ (l : ℕ) (r : Row) (p : Terms) (cs : Conditions). λ h. sound_tail g l r p cs h)

  sound_tail : (f : Forest) (left : ℕ) (r : Row) (p : Terms) (cs : Conditions) → ok_g at_conditions left f ≡ true → TailOf left r p cs f
  sound_tail empty left r p cs h = never h
  sound_tail (tree z f g) left r p cs h =
      let q = parts at_conditions left z f g h in
      tail_step z f g left r p cs (tail_row q.here) q
      (λ (l : ℕ) (r : Row). λ h. sound_condition f l r h)
      (λ (l : ℕ) (q : Row). λ h. sound_block f l q h)
      (λ (l : ℕ) (r : Row) (p : Terms) (cs : Conditions). λ h. sound_tail g l r p cs h)

  sound_block : (f : Forest) (left : ℕ) (q : Row) → ok_g at_argument left f ≡ true → BlockOf left q f
  sound_block empty left q h = never h
  sound_block (tree z f g) left q h =
      let o = parts at_argument left z f g h in block_step z f g left q (argument_row o.here) o (λ (l : ℕ) (s : Sentences). λ h. sound_b g l s h)

  sound_condition : (f : Forest) (left : ℕ) (r : Row) → ok_g at_condition left f ≡ true → ConditionOf left r f
  sound_condition empty left r h = never h
  sound_condition (tree z f g) left r h =
      let q = parts at_condition left z f g h in condition_step z f g left r (condition_row q.here) q (λ (l : ℕ). λ h. sound_right g l h)

  sound_right : (f : Forest) (left : ℕ) → ok_g at_colon left f ≡ true → RightOf left f
  sound_right empty left h = never h
  sound_right (tree z f g) left h =
      let q = parts at_colon left z f g h in right_step z f g left (right_row q.here) q (λ (l : ℕ) (s : Sentences). λ h. sound_b f l s h)

-- ---- names
names_step : (r : Row) (f g : Forest) (left : ℕ) (ns : Names) → NameRow r → Parts at_names left r f g → ((ns : Names) → ok_g at_names left g ≡ true → for_n (get_ns ns g) empty ≡ for_n ns g)
    → for_n (get_ns ns (tree r f g)) empty ≡ for_n ns (tree r f g)
unfolding for_n get_ns
names_step _ f g left ns (is_name s l) p rest = rest (n_more ns s l) p.rest ∙ ap (λ (y : Forest). for_n ns (tree (name_r s l) y g)) (sym (closed_empty left f p.kids))

sound_ns : (f : Forest) (left : ℕ) (ns : Names) → ok_g at_names left f ≡ true → for_n (get_ns ns f) empty ≡ for_n ns f
unfolding get_ns
sound_ns empty left ns h = refl
sound_ns (tree r f g) left ns h =
    let p = parts at_names left r f g h in names_step r f g left ns (names_row p.here) p (λ (m : Names). sound_ns g left m)

name_step : (r : Row) (f g : Forest) (left : ℕ) → NameRow r → Parts at_name left r f g → for_n (get_n (tree r f g)) empty ≡ tree r f g
unfolding for_n get_n
name_step _ f g left (is_name s l) p = sound_ns g left (n_one s l) p.rest ∙ ap (λ (y : Forest). tree (name_r s l) y g) (sym (closed_empty left f p.kids))

pub sound_n : (f : Forest) (left : ℕ) → ok_g at_name left f ≡ true → for_n (get_n f) empty ≡ f
unfolding ok_g
sound_n empty left h = never h
sound_n (tree r f g) left h = let p = parts at_name left r f g h in name_step r f g left (name_row_lem p.here) p

-- ---- programs
pub record ProgramOf (left : ℕ) (p : Program) (f : Forest) : Type 0 where
  pub forest : for_p (get_p p f) empty ≡ for_p p f
  pub deep : depth_p p ≤ left → depth_p (get_p p f) ≤ left

abbrev AllP : ℕ → Forest → Type 0
AllP left f = (p : Program) → ok_g at_items left f ≡ true → ProgramOf left p f

item_step : (r : Row) (f g : Forest) (left : ℕ) (p : Program) → ItemRow r → Parts at_items left r f g → AllP left g → ProgramOf left p (tree r f g)
unfolding for_p get_p for_s depth_p depth_s
item_step _ f g left p (is_declaration a b) q rest =
    let n = rest (p_more p (declaration a (get_n f) b)) q.rest in
    record {
      forest = n.forest ∙ ap (λ (y : Forest). for_p p (tree (plain node_declaration a b) y g)) (sound_n f left q.kids);
      deep = λ d. n.deep (omega arith);
    }
item_step _ f g left p (is_function x s l a b) q rest =
    let k = sound_b f left s0 q.kids in
    let n = rest (p_more p (function a x s l (get_b s0 f) b)) q.rest in
    let e : eqb (entry_detail x) 1 ≡ x = flag_back entry_detail refl refl x in
    record {
      forest =
          ap (λ (y : Bool). for_p (get_p (p_more p (function a y s l (get_b s0 f) b)) g) empty) e
          ∙ n.forest
          ∙ ap (λ (y : Forest). for_p p (tree (row node_function (entry_detail x) s l a b) y g)) k.forest;
      deep = λ d. subst (λ (y : Bool). depth_p (get_p (p_more p (function a y s l (get_b s0 f) b)) g) ≤ left) (sym e)
          (let i = k.deep (omega arith) in n.deep (omega arith));
    }

pub sound_p : (f : Forest) (left : ℕ) (p : Program) → ok_g at_items left f ≡ true → ProgramOf left p f
unfolding get_p
sound_p empty left p h = record { forest = refl; deep = λ d. d }
sound_p (tree r f g) left p h =
    let q = parts at_items left r f g h in item_step r f g left p (item_row q.here) q (λ (m : Program). sound_p g left m)

-- ---- whole trees
pub sound_forest : (f : Forest) (left : ℕ) → ok_g at_items left f ≡ true → to_forest (program_of f) ≡ f
unfolding for_p
sound_forest f left h = (sound_p f left p0 h).forest

pub sound_deep : (f : Forest) (left : ℕ) → ok_g at_items left f ≡ true → depth_p (program_of f) ≤ left
unfolding depth_p
sound_deep f left h = (sound_p f left p0 h).deep (omega arith)
