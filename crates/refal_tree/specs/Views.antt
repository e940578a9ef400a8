-- What the rules say of a row: in each state, of which forms a row that keeps them is.
use Rattle.std.specs.Prelude.{ℕ, ◌≤◌, Bool, true, false, not, ◌&&◌, ◌||◌, ◌≡◌, refl, eqb, leb}
use Rattle.std.proofs.Common.{sym, subst, ◌∙◌, arith, eqb-true, leb-true}
use Rattle.std.proofs.lemmas.Bool.{eqb-false}
use Rattle.refal_rows.specs.Tests.{and_left, and_right}
use Rattle.refal_ast.specs.Kinds.{node_declaration, node_name, node_function, node_sentence, node_condition, node_terms, node_ending_block, node_condition_block, node_identifier, node_number, node_char, node_variable, node_bracket, node_call}
use Rattle.refal_ast.specs.Tree.{Leaf, symbol, variable}
use Rattle.refal_ast.specs.Encode.{entry_detail, off_detail, letter_of}
use Rattle.refal_ast.specs.declared.tree.Symbol.TheVariants.{Char, Identifier, Number}
use Rattle.refal_ast.specs.declared.tree.VariableKind.{VariableKind}
use Rattle.refal_ast.specs.declared.tree.VariableKind.TheVariants.{Symbol as kind_s, Term as kind_t, Expression as kind_e}
use Rattle.refal_tree.specs.Forest.{Row, row}
use Rattle.refal_tree.specs.States.{wrong, at_items, at_name, at_names, at_sentences, at_pattern, at_conditions, at_condition, at_colon, at_terms, at_argument, at_ending, closed, pick_state, on_state, may_stand, room}
use Rattle.refal_tree.specs.Rules.{variable_letter, fields_ok, row_ok}
use Rattle.refal_tree.specs.Typed.{leaf_r, plain, sentence_r, name_r}

pub never : {A : Type 0} → false ≡ true → A
never {A} e = let z : ◌≡◌ {A = ℕ} 0 1 = cc in absurd (omega arith)

-- ---- the forms
pub data TermRow : Row → Type 0 where
  is_leaf : (x : Leaf) (a b : ℕ) → TermRow (leaf_r x a b)
  is_bracket : (a b : ℕ) → TermRow (plain node_bracket a b)
  is_call : (s l a b : ℕ) → TermRow (row node_call 0 s l a b)

pub data ItemRow : Row → Type 0 where
  is_declaration : (a b : ℕ) → ItemRow (plain node_declaration a b)
  is_function : (x : Bool) (s l a b : ℕ) → ItemRow (row node_function (entry_detail x) s l a b)

pub data NameRow : Row → Type 0 where
  is_name : (s l : ℕ) → NameRow (name_r s l)

pub data SentenceRow : Row → Type 0 where
  is_sentence : (off : Bool) (a b : ℕ) → SentenceRow (sentence_r off a b)

-- a row of the kind k, with a span only
pub data PlainRow (k : ℕ) : Row → Type 0 where
  is_plain : (a b : ℕ) → PlainRow k (plain k a b)

-- a Terms row
pub data TermsRow : Row → Type 0 where
  is_terms : TermsRow (plain node_terms 0 0)

pub data TailRow : Row → Type 0 where
  is_condition : (a b : ℕ) → TailRow (plain node_condition a b)
  is_result : TailRow (plain node_terms 0 0)
  is_ending : (a b : ℕ) → TailRow (plain node_ending_block a b)

pub data RightRow : Row → Type 0 where
  is_right : RightRow (plain node_terms 0 0)
  is_block : (a b : ℕ) → RightRow (plain node_condition_block a b)

-- ---- a row is known by its six words
row_is : (r : Row) (k d s l a b : ℕ) → r.kind ≡ k → r.detail ≡ d → r.start ≡ s → r.len ≡ l → r.from ≡ a → r.to ≡ b → r ≡ row k d s l a b
row_is r k d s l a b ek ed es el ea eb = λ i. record { kind = ek i; detail = ed i; start = es i; len = el i; from = ea i; to = eb i }

-- both of two words are 0
zeros : (x y : ℕ) → eqb x 0 && eqb y 0 ≡ true → (x ≡ 0) × (y ≡ 0)
zeros x y h = (eqb-true x 0 (and_left (eqb x 0) (eqb y 0) h), eqb-true y 0 (and_right (eqb x 0) (eqb y 0) h))

-- a kind that may stand here is n, or may stand here by what is said of the others
pub on_cases : {A : Type 0} (k n x y : ℕ) → not (eqb (on_state k n x y) wrong) ≡ true → (k ≡ n → A) → (not (eqb y wrong) ≡ true → A) → A
on_cases {A} k n x y h f g = go (eqb k n) refl h
  where
    go : (b : Bool) → eqb k n ≡ b → not (eqb (pick_state b x y) wrong) ≡ true → A
    go true e h = f (eqb-true k n e)
    go false e h = g h

-- the kinds of terms, one by one
term_on : (k : ℕ) → not (eqb (on_state k node_identifier at_terms (on_state k node_number at_terms (on_state k node_char at_terms (on_state k node_variable at_terms (on_state k node_bracket at_terms (on_state k node_call at_terms wrong)))))) wrong) ≡ may_stand at_terms k
term_on k = go (eqb k node_identifier) (eqb k node_number) (eqb k node_char) (eqb k node_variable) (eqb k node_bracket) (eqb k node_call)
  where
    go : (a b c d e f : Bool) → not (eqb (pick_state a 9 (pick_state b 9 (pick_state c 9 (pick_state d 9 (pick_state e 9 (pick_state f 9 0)))))) 0) ≡ not (eqb (pick_state (((((a || b) || c) || d) || e) || f) 9 0) 0)
    go true b c d e f = refl
    go false true c d e f = refl
    go false false true d e f = refl
    go false false false true e f = refl
    go false false false false true f = refl
    go false false false false false true = refl
    go false false false false false false = refl

letter_is : (d : ℕ) → variable_letter d ≡ true → (v : VariableKind) × (d ≡ letter_of v)
letter_is d h = go (eqb d 115) (eqb d 116) (eqb d 101) refl refl refl h
  where
    go : (x y z : Bool) → eqb d 115 ≡ x → eqb d 116 ≡ y → eqb d 101 ≡ z → (x || y) || z ≡ true → (v : VariableKind) × (d ≡ letter_of v)
    go true y z ex ey ez h = (kind_s, eqb-true d 115 ex)
    go false true z ex ey ez h = (kind_t, eqb-true d 116 ey)
    go false false true ex ey ez h = (kind_e, eqb-true d 101 ez)
    go false false false ex ey ez h = never h

-- a detail that is 1 for yes and 0 for no
flag_is : (of : Bool → ℕ) → of true ≡ 1 → of false ≡ 0 → (d : ℕ) → d ≤ 1 → (x : Bool) × (d ≡ of x)
flag_is of one nought d h = go (eqb d 1) refl
  where
    go : (b : Bool) → eqb d 1 ≡ b → (x : Bool) × (d ≡ of x)
    go true e = (true, eqb-true d 1 e ∙ sym one)
    go false e = let n : (d ≡ 1 → ⊥) = eqb-false d 1 e in (false, (let z : d ≡ 0 = omega arith in z ∙ sym nought))

module _ (r : Row) where
  -- the fields of a row are good, if it is of the kind k
  abbrev Fields : ℕ → Type 0
  Fields k = fields_ok k r.detail r.start r.len r.from r.to ≡ true

  plain_is : (k : ℕ) → r.kind ≡ k → eqb r.detail 0 && ((eqb r.start 0 && eqb r.len 0) && true) ≡ true → PlainRow k r
  plain_is k e h =
      let d = eqb-true r.detail 0 (and_left (eqb r.detail 0) ((eqb r.start 0 && eqb r.len 0) && true) h) in
      let t = zeros r.start r.len (and_left (eqb r.start 0 && eqb r.len 0) true (and_right (eqb r.detail 0) ((eqb r.start 0 && eqb r.len 0) && true) h)) in
      subst (PlainRow k) (sym (row_is r k 0 0 0 r.from r.to e d t.0 t.1 refl refl)) (is_plain r.from r.to)

  terms_is : r.kind ≡ 6 → Fields 6 → TermsRow r
  terms_is e h =
      let x : Bool = eqb r.detail 0 in
      let y : Bool = eqb r.start 0 && eqb r.len 0 in
      let z : Bool = eqb r.from 0 && eqb r.to 0 in
      let d = eqb-true r.detail 0 (and_left x (y && z) h) in
      let t = zeros r.start r.len (and_left y z (and_right x (y && z) h)) in
      let u = zeros r.from r.to (and_right y z (and_right x (y && z) h)) in
      subst TermsRow (sym (row_is r 6 0 0 0 0 0 e d t.0 t.1 u.0 u.1)) is_terms

  name_is : r.kind ≡ 2 → Fields 2 → NameRow r
  name_is e h =
      let d = eqb-true r.detail 0 (and_left (eqb r.detail 0) (eqb r.from 0 && eqb r.to 0) h) in
      let u = zeros r.from r.to (and_right (eqb r.detail 0) (eqb r.from 0 && eqb r.to 0) h) in
      subst NameRow (sym (row_is r 2 0 r.start r.len 0 0 e d refl refl u.0 u.1)) (is_name r.start r.len)

  function_is : r.kind ≡ 3 → Fields 3 → ItemRow r
  function_is e h =
      let q = flag_is entry_detail refl refl r.detail (leb-true r.detail 1 (and_left (leb r.detail 1) true h)) in
      subst ItemRow (sym (row_is r 3 (entry_detail q.0) r.start r.len r.from r.to e q.1 refl refl refl refl)) (is_function q.0 r.start r.len r.from r.to)

  sentence_is : r.kind ≡ 4 → Fields 4 → SentenceRow r
  sentence_is e h =
      let x : Bool = leb r.detail 1 in
      let y : Bool = eqb r.start 0 && eqb r.len 0 in
      let q = flag_is off_detail refl refl r.detail (leb-true r.detail 1 (and_left x (y && true) h)) in
      let t = zeros r.start r.len (and_left y true (and_right x (y && true) h)) in
      subst SentenceRow (sym (row_is r 4 (off_detail q.0) 0 0 r.from r.to e q.1 t.0 t.1 refl refl)) (is_sentence q.0 r.from r.to)

  -- a row of the kind k, with a text and a span
  texted_is : (k : ℕ) → r.kind ≡ k → eqb r.detail 0 && true ≡ true → r ≡ row k 0 r.start r.len r.from r.to
  texted_is k e h = row_is r k 0 r.start r.len r.from r.to e (eqb-true r.detail 0 (and_left (eqb r.detail 0) true h)) refl refl refl refl

  char_is : r.kind ≡ 11 → Fields 11 → TermRow r
  char_is e h =
      let t = zeros r.start r.len (and_left (eqb r.start 0 && eqb r.len 0) true h) in
      subst TermRow (sym (row_is r 11 r.detail 0 0 r.from r.to e refl t.0 t.1 refl refl)) (is_leaf (symbol (Char r.detail)) r.from r.to)

  variable_is : r.kind ≡ 12 → Fields 12 → TermRow r
  variable_is e h =
      let q = letter_is r.detail (and_left (variable_letter r.detail) true h) in
      subst TermRow (sym (row_is r 12 (letter_of q.0) r.start r.len r.from r.to e q.1 refl refl refl refl)) (is_leaf (variable q.0 r.start r.len) r.from r.to)

  plain_term : PlainRow node_bracket r → TermRow r
  plain_term p = go r p
    where
      go : (q : Row) → PlainRow node_bracket q → TermRow q
      go _ (is_plain a b) = is_bracket a b

  module _ (good : Fields r.kind) where
    -- the fields of a row whose kind is known
    at : (k : ℕ) → r.kind ≡ k → Fields k
    at k e = subst (λ (x : ℕ). Fields x) e good

-- a row that keeps the rules in the state st, with so many levels left
pub record Kept (st left : ℕ) (r : Row) : Type 0 where
  pub fit : may_stand st r.kind ≡ true
  pub deep : room r.kind left ≡ true
  pub good : fields_ok r.kind r.detail r.start r.len r.from r.to ≡ true

pub kept : (st left : ℕ) (r : Row) → row_ok st left r ≡ true → Kept st left r
kept st left r h =
    let f : Bool = may_stand st r.kind in
    let d : Bool = room r.kind left in
    let g : Bool = fields_ok r.kind r.detail r.start r.len r.from r.to in
    record { fit = and_left f d (and_left (f && d) g h); deep = and_right f d (and_left (f && d) g h); good = and_right (f && d) g h }

-- where one kind only may stand
only : (k n x : ℕ) → not (eqb (on_state k n x wrong) wrong) ≡ true → k ≡ n
only k n x h = on_cases k n x wrong h (λ e. e) never

module _ {left : ℕ} {r : Row} where
  pub item_row : Kept at_items left r → ItemRow r
  item_row p =
      on_cases r.kind node_declaration at_items (on_state r.kind node_function at_items wrong) p.fit
      (λ e. go r (plain_is r node_declaration e (at r p.good node_declaration e)))
      (λ h. let e = only r.kind node_function at_items h in function_is r e (at r p.good node_function e))
    where
      go : (q : Row) → PlainRow node_declaration q → ItemRow q
      go _ (is_plain a b) = is_declaration a b

  pub name_row_lem : Kept at_name left r → NameRow r
  name_row_lem p = let e = only r.kind node_name at_names p.fit in name_is r e (at r p.good node_name e)

  pub names_row : Kept at_names left r → NameRow r
  names_row p = let e = only r.kind node_name at_names p.fit in name_is r e (at r p.good node_name e)

  pub sentence_row_lem : Kept at_sentences left r → SentenceRow r
  sentence_row_lem p = let e = only r.kind node_sentence at_sentences p.fit in sentence_is r e (at r p.good node_sentence e)

  pub pattern_row : Kept at_pattern left r → TermsRow r
  pattern_row p = let e = only r.kind node_terms at_conditions p.fit in terms_is r e (at r p.good node_terms e)

  pub condition_row : Kept at_condition left r → TermsRow r
  condition_row p = let e = only r.kind node_terms at_colon p.fit in terms_is r e (at r p.good node_terms e)

  pub argument_row : Kept at_argument left r → TermsRow r
  argument_row p = let e = only r.kind node_terms at_ending p.fit in terms_is r e (at r p.good node_terms e)

  pub tail_row : Kept at_conditions left r → TailRow r
  tail_row p =
      on_cases r.kind node_condition at_conditions (on_state r.kind node_terms closed (on_state r.kind node_ending_block closed wrong)) p.fit
      (λ e. five r (plain_is r node_condition e (at r p.good node_condition e)))
      (λ h. on_cases r.kind node_terms closed (on_state r.kind node_ending_block closed wrong) h
      (λ e. six r (terms_is r e (at r p.good node_terms e)))
      (λ h. let e = only r.kind node_ending_block closed h in seven r (plain_is r node_ending_block e (at r p.good node_ending_block e))))
    where
      five : (q : Row) → PlainRow node_condition q → TailRow q
      five _ (is_plain a b) = is_condition a b

      six : (q : Row) → TermsRow q → TailRow q
      six _ is_terms = is_result

      seven : (q : Row) → PlainRow node_ending_block q → TailRow q
      seven _ (is_plain a b) = is_ending a b

  pub right_row : Kept at_colon left r → RightRow r
  right_row p =
      on_cases r.kind node_terms closed (on_state r.kind node_condition_block closed wrong) p.fit
      (λ e. six r (terms_is r e (at r p.good node_terms e)))
      (λ h. let e = only r.kind node_condition_block closed h in eight r (plain_is r node_condition_block e (at r p.good node_condition_block e)))
    where
      six : (q : Row) → TermsRow q → RightRow q
      six _ is_terms = is_right

      eight : (q : Row) → PlainRow node_condition_block q → RightRow q
      eight _ (is_plain a b) = is_block a b

  pub term_row : Kept at_terms left r → TermRow r
  term_row p =
      let k : ℕ = r.kind in
      let c14 : ℕ = on_state k node_call at_terms wrong in
      let c13 : ℕ = on_state k node_bracket at_terms c14 in
      let c12 : ℕ = on_state k node_variable at_terms c13 in
      let c11 : ℕ = on_state k node_char at_terms c12 in
      let c10 : ℕ = on_state k node_number at_terms c11 in
      on_cases k node_identifier at_terms c10 (term_on k ∙ p.fit)
      (λ e. subst TermRow (sym (texted_is r node_identifier e (at r p.good node_identifier e))) (is_leaf (symbol (Identifier r.start r.len)) r.from r.to))
      (λ h. on_cases k node_number at_terms c11 h
      (λ e. subst TermRow (sym (texted_is r node_number e (at r p.good node_number e))) (is_leaf (symbol (Number r.start r.len)) r.from r.to))
      (λ h. on_cases k node_char at_terms c12 h (λ e. char_is r e (at r p.good node_char e))
      (λ h. on_cases k node_variable at_terms c13 h (λ e. variable_is r e (at r p.good node_variable e))
      (λ h. on_cases k node_bracket at_terms c14 h (λ e. plain_term r (plain_is r node_bracket e (at r p.good node_bracket e)))
      (λ h. let e = only k node_call at_terms h in subst TermRow (sym (texted_is r node_call e (at r p.good node_call e))) (is_call r.start r.len r.from r.to))))))
