-- Flattening before a list: `flat_t f r` is the flattening of f with r after it, which a proof by parts follows without associativity.
use mathlib.Core.Path.{◌≡◌, refl, sym, ap, ◌∙◌}
use mathlib.Core.Bool.{Bool, true, false}
use mathlib.Core.List.{List, ◌∷◌, ◌++◌, append_assoc}
use Rattle.refal_ast.specs.Kinds.{tok_extern, tok_l_brace, tok_r_brace, tok_l_paren, tok_r_paren, tok_l_angle, tok_r_angle, tok_comma, tok_colon, tok_equals, tok_semicolon}
use Rattle.refal_ast.specs.Tree.{Term, leaf, bracket, call, Terms, t0, t_more, Right, r_terms, r_block, Condition, condition, Conditions, c0, c_more}
use Rattle.refal_ast.specs.Tree.{End, e_terms, e_block, Sentence, sentence, Sentences, s0, s_more, Body, b_all, b_off, Names, n_one, n_more, Item, declaration, function, Program, p0, p_more}
use Rattle.refal_ast.specs.Flatten.{Flat, mark, name_of, flat_leaf, flat_entry, flat_off, flatten_term, flatten_t, flatten_right, flatten_condition, flatten_c, flatten_end, flatten_sentence, flatten_s, flatten_b, flatten_n, flatten_item, flatten_p}

unfoldable mutual
  pub flat_term : Term → List Flat → List Flat
  flat_term (leaf x a b) r = flat_leaf x ∷ r
  flat_term (bracket a f b) r = mark tok_l_paren ∷ flat_t f (mark tok_r_paren ∷ r)
  flat_term (call a s l f b) r = mark tok_l_angle ∷ name_of s l ∷ flat_t f (mark tok_r_angle ∷ r)

  pub flat_t : Terms → List Flat → List Flat
  flat_t t0 r = r
  flat_t (t_more f x) r = flat_t f (flat_term x r)

unfoldable mutual
  pub flat_right : Right → List Flat → List Flat
  flat_right (r_terms f) r = flat_t f r
  flat_right (r_block a v b) r = mark tok_l_brace ∷ flat_b v (mark tok_r_brace ∷ r)

  pub flat_condition : Condition → List Flat → List Flat
  flat_condition (condition a f x b) r = mark tok_comma ∷ flat_t f (mark tok_colon ∷ flat_right x r)

  pub flat_c : Conditions → List Flat → List Flat
  flat_c c0 r = r
  flat_c (c_more cs x) r = flat_c cs (flat_condition x r)

  pub flat_end : End → List Flat → List Flat
  flat_end (e_terms f) r = flat_t f r
  flat_end (e_block a f v b) r = mark tok_comma ∷ flat_t f (mark tok_colon ∷ mark tok_l_brace ∷ flat_b v (mark tok_r_brace ∷ r))

  pub flat_sentence : Bool → Sentence → List Flat → List Flat
  flat_sentence off (sentence a f cs x b) r = flat_t f (flat_c cs (mark tok_equals ∷ flat_end x (flat_off off ++ r)))

  pub flat_s : Sentences → List Flat → List Flat
  flat_s s0 r = r
  flat_s (s_more s x) r = flat_s s (flat_sentence false x r)

  pub flat_b : Body → List Flat → List Flat
  flat_b (b_all s) r = flat_s s r
  flat_b (b_off s x) r = flat_s s (flat_sentence true x r)

unfoldable pub flat_n : Names → List Flat → List Flat
flat_n (n_one s l) r = name_of s l ∷ r
flat_n (n_more ns s l) r = flat_n ns (mark tok_comma ∷ name_of s l ∷ r)

abbrev pub flat_item : Item → List Flat → List Flat
flat_item (declaration a ns b) r = mark tok_extern ∷ flat_n ns (mark tok_semicolon ∷ r)
flat_item (function a x s l v b) r = flat_entry x ++ (name_of s l ∷ mark tok_l_brace ∷ flat_b v (mark tok_r_brace ∷ r))

unfoldable pub flat_p : Program → List Flat → List Flat
flat_p p0 r = r
flat_p (p_more p x) r = flat_p p (flat_item x r)

-- ---- the same as the flattening, with r after it
-- one more behind those before
appended : (g : List Flat → List Flat) (a b r : List Flat) {l : List Flat} → l ≡ b ++ r → ((q : List Flat) → g q ≡ a ++ q) → g l ≡ (a ++ b) ++ r
appended g a b r e h = ap g e ∙ h (b ++ r) ∙ sym (append_assoc a b r)

mutual
  unfolding flat_t flatten_t

  flat_term_is : (x : Term) (r : List Flat) → flat_term x r ≡ flatten_term x ++ r
  flat_term_is (leaf x a b) r = refl
  flat_term_is (bracket a f b) r = ap (λ (l : List Flat). mark tok_l_paren ∷ l) (flat_t_is f (mark tok_r_paren ∷ r)) ∙ simp append_assoc
  flat_term_is (call a s l f b) r = ap (λ (z : List Flat). mark tok_l_angle ∷ name_of s l ∷ z) (flat_t_is f (mark tok_r_angle ∷ r)) ∙ simp append_assoc

  pub flat_t_is : (f : Terms) (r : List Flat) → flat_t f r ≡ flatten_t f ++ r
  flat_t_is t0 r = refl
  flat_t_is (t_more f x) r = appended (flat_t f) (flatten_t f) (flatten_term x) r (flat_term_is x r) (flat_t_is f)

mutual
  unfolding flat_c flatten_c

  flat_right_is : (x : Right) (r : List Flat) → flat_right x r ≡ flatten_right x ++ r
  flat_right_is (r_terms f) r = flat_t_is f r
  flat_right_is (r_block a v b) r = ap (λ (z : List Flat). mark tok_l_brace ∷ z) (flat_b_is v (mark tok_r_brace ∷ r)) ∙ simp append_assoc

  flat_condition_is : (x : Condition) (r : List Flat) → flat_condition x r ≡ flatten_condition x ++ r
  flat_condition_is (condition a f x b) r =
      ap (λ (z : List Flat). mark tok_comma ∷ flat_t f (mark tok_colon ∷ z)) (flat_right_is x r) ∙ simp (flat_t_is, append_assoc)

  flat_c_is : (cs : Conditions) (r : List Flat) → flat_c cs r ≡ flatten_c cs ++ r
  flat_c_is c0 r = refl
  flat_c_is (c_more cs x) r = appended (flat_c cs) (flatten_c cs) (flatten_condition x) r (flat_condition_is x r) (flat_c_is cs)

  flat_end_is : (x : End) (r : List Flat) → flat_end x r ≡ flatten_end x ++ r
  flat_end_is (e_terms f) r = flat_t_is f r
  flat_end_is (e_block a f v b) r =
      ap (λ (z : List Flat). mark tok_comma ∷ flat_t f (mark tok_colon ∷ mark tok_l_brace ∷ z)) (flat_b_is v (mark tok_r_brace ∷ r)) ∙ simp (flat_t_is, append_assoc)

  flat_sentence_is : (off : Bool) (x : Sentence) (r : List Flat) → flat_sentence off x r ≡ flatten_sentence off x ++ r
  flat_sentence_is off (sentence a f cs x b) r =
      ap (λ (z : List Flat). flat_t f (flat_c cs (mark tok_equals ∷ z))) (flat_end_is x (flat_off off ++ r))
      ∙ ap (flat_t f) (flat_c_is cs (mark tok_equals ∷ flatten_end x ++ (flat_off off ++ r)))
      ∙ simp (flat_t_is, append_assoc)

  flat_s_is : (s : Sentences) (r : List Flat) → flat_s s r ≡ flatten_s s ++ r
  flat_s_is s0 r = refl
  flat_s_is (s_more s x) r = appended (flat_s s) (flatten_s s) (flatten_sentence false x) r (flat_sentence_is false x r) (flat_s_is s)

  pub flat_b_is : (v : Body) (r : List Flat) → flat_b v r ≡ flatten_b v ++ r
  flat_b_is (b_all s) r = flat_s_is s r
  flat_b_is (b_off s x) r = appended (flat_s s) (flatten_s s) (flatten_sentence true x) r (flat_sentence_is true x r) (λ q. flat_s_is s q)

pub flat_n_is : (ns : Names) (r : List Flat) → flat_n ns r ≡ flatten_n ns ++ r
unfolding flat_n flatten_n
flat_n_is (n_one s l) r = refl
flat_n_is (n_more ns s l) r = flat_n_is ns (mark tok_comma ∷ name_of s l ∷ r) ∙ simp append_assoc

pub flat_item_is : (x : Item) (r : List Flat) → flat_item x r ≡ flatten_item x ++ r
flat_item_is (declaration a ns b) r = ap (λ (q : List Flat). mark tok_extern ∷ q) (flat_n_is ns (mark tok_semicolon ∷ r)) ∙ simp append_assoc
flat_item_is (function a x s l v b) r =
    ap (λ (q : List Flat). flat_entry x ++ (name_of s l ∷ mark tok_l_brace ∷ q)) (flat_b_is v (mark tok_r_brace ∷ r)) ∙ simp append_assoc

pub flat_p_is : (p : Program) (r : List Flat) → flat_p p r ≡ flatten_p p ++ r
unfolding flat_p flatten_p
flat_p_is p0 r = refl
flat_p_is (p_more p x) r = appended (flat_p p) (flatten_p p) (flatten_item x) r (flat_item_is x r) (flat_p_is p)
