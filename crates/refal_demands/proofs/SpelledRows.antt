-- Where the tokens that a tree flattens to are sound in a source, the rows of the tree pass the test for refusal 41.
use mathlib.Core.Path.{◌≡◌, refl, sym, ap, subst, ◌∙◌}
use Prim.Native.Nat.{ℕ, ◌+◌, ◌≤◌}
use lib.ListN.{length, length-take, length-drop}
use mathlib.Core.Bool.{Bool, true, false, ◌&&◌}
use mathlib.Core.List.{List, [], ◌∷◌, ◌++◌, append-nil, append_assoc}
use native.Mathlib.Omega.{arith}
use borrow.Author.Tests.{le-leb, ne_eqb}
use Rattle.refal_ast.specs.Kinds.{tok_identifier, tok_char, tok_l_brace, tok_r_brace, tok_r_paren, tok_r_angle}
use Rattle.refal_ast.specs.Kinds.{tok_comma, tok_colon, tok_equals, tok_semicolon}
use Rattle.refal_ast.specs.Kinds.{node_declaration, node_name, node_function, node_sentence, node_condition, node_terms, node_ending_block, node_condition_block}
use Rattle.refal_ast.specs.Kinds.{node_identifier, node_number, node_char, node_variable, node_bracket, node_call}
use Rattle.refal_ast.specs.Limits.{most_bytes}
use Rattle.refal_ast.specs.Nodes.{node, nodes_of}
use Rattle.refal_ast.specs.Encode.{letter_of, entry_detail, off_detail, leaf_row, enc_term, enc_t, enc_terms, enc_right, enc_condition, enc_c, enc_end, enc_sentence, enc_s, enc_b, enc_n, enc_item, enc_p}
use Rattle.refal_ast.specs.Tree.{Leaf, symbol, variable, Term, leaf, bracket, call, Terms, t0, t_more, Right, r_terms, r_block, Condition, condition, Conditions, c0, c_more}
use Rattle.refal_ast.specs.Tree.{End, e_terms, e_block, Sentence, sentence, Sentences, s0, s_more, Body, b_all, b_off, Names, n_one, n_more, Item, declaration, function, Program, p0, p_more}
use Rattle.refal_ast.specs.Flatten.{Flat, mark, name_of, flat_leaf, flat_entry, flat_off, flatten_p}
use Rattle.refal_ast.specs.declared.tree.Symbol.TheVariants.{Char, Identifier, Number}
use Rattle.refal_spelling.specs.Spell.{Spelled, text_at}
use Rattle.refal_spelling.specs.Spells.{spells}
use Rattle.refal_spelling.specs.SpellsLaws.{identifier_spells, number_spells, good_index}
use Rattle.refal_spelling.specs.Good.{Good, entry, extern, identifier, variable_of, number, character, mark as one_byte}
use Rattle.refal_spelling.specs.Sound.{Sound, AllSound, sound_more}
use Rattle.refal_spelling.specs.Spellings.{char_ok, in_source, row_spelled, nodes_spelled, all_spelled}
use Rattle.refal_demands.proofs.Flats.{flat_term, flat_t, flat_right, flat_condition, flat_c, flat_end, flat_sentence, flat_s, flat_b, flat_n, flat_item, flat_p, flat_p_is}

-- a Char that reading gives can be written
char_good : (t : Spelled) → Good t → t.kind ≡ tok_char → char_ok t.detail ≡ true
char_good t entry e = absurd (omega arith)
char_good t extern e = absurd (omega arith)
char_good t (identifier b s u a l) e = absurd (omega arith)
char_good t (variable_of v w u a lo hi) e = absurd (omega arith)
char_good t (number w n) e = absurd (omega arith)
char_good t (character x sc n) e = rw (ne_eqb x 10 n, le-leb x 1114111 sc.top, sc.plain) refl
char_good t (one_byte k lo hi) e = absurd (omega arith)

module _ (src : List ℕ) (short : length src ≤ most_bytes) where
  -- the words x are rows that pass, whatever follows
  record Passes (x : List ℕ) : Type 0 where
    before : (w : List ℕ) → all_spelled src (x ++ w) ≡ all_spelled src w

  none : Passes []
  none = record { before = λ w. refl }

  both : {x y : List ℕ} → Passes x → Passes y → Passes (x ++ y)
  both {x} {y} p q = record { before = λ w. ap (all_spelled src) (append_assoc x y w) ∙ p.before (y ++ w) ∙ q.before w }

  row : (k d s l a b n q : ℕ) → row_spelled src k d s l ≡ true → Passes (node k d s l a b n q)
  unfolding all_spelled nodes_spelled nodes_of
  row k d s l a b n q h = record { before = λ w. ap (λ (z : Bool). z && nodes_spelled src (nodes_of w)) h }

  text_short : (s l : ℕ) → s + l ≤ length src → length (text_at src s l) ≤ most_bytes
  text_short s l h = simp (length-take, length-drop) (omega arith)

  first : {c : Flat} {r : List Flat} → AllSound src (c ∷ r) → Sound src c
  first (sound_more h a) = h

  rest : {c : Flat} {r : List Flat} → AllSound src (c ∷ r) → AllSound src r
  rest (sound_more h a) = a

  -- the text of a name
  name : (s l : ℕ) → Sound src (name_of s l) → in_source src s l && spells tok_identifier (text_at src s l) ≡ true
  name s l h = rw (le-leb (s + l) _ h.inside, identifier_spells 0 (text_at src s l) h.good) refl

  one_leaf : (x : Leaf) → Sound src (flat_leaf x) → (a b n q : ℕ) → Passes (leaf_row x a b n q)
  unfolding row_spelled
  one_leaf (symbol (Char x)) h a b n q = row node_char x 0 0 a b n q (char_good _ h.good refl)
  one_leaf (symbol (Identifier s l)) h a b n q = row node_identifier 0 s l a b n q (name s l h)
  one_leaf (symbol (Number s l)) h a b n q = row node_number 0 s l a b n q (rw (le-leb (s + l) _ h.inside, number_spells 0 (text_at src s l) h.good, le-leb _ _ (text_short s l h.inside)) refl)
  one_leaf (variable v s l) h a b n q = row node_variable (letter_of v) s l a b n q (rw (le-leb (s + l) _ h.inside, (good_index (letter_of v) (text_at src s l) h.good).1) refl)

  -- a part of a tree whose rows pass, wherever they stand, and the tokens behind it
  record Part (rows : ℕ → ℕ → List ℕ) (r : List Flat) : Type 0 where
    pass : (n q : ℕ) → Passes (rows n q)
    behind : AllSound src r

  mutual
    unfolding flat_t enc_t row_spelled

    spelled_term : (x : Term) (r : List Flat) → AllSound src (flat_term x r) → Part (enc_term x) r
    spelled_term (leaf x a b) r h = record { pass = λ n q'. one_leaf x (first h) a b _ _; behind = rest h }
    spelled_term (bracket a f b) r h =
        let q = spelled_t f (mark tok_r_paren ∷ r) (rest h) in
        record { pass = λ n q'. both (row node_bracket 0 0 0 a b _ _ refl) (q.pass _ _); behind = rest q.behind }
    spelled_term (call a s l f b) r h =
        let q = spelled_t f (mark tok_r_angle ∷ r) (rest (rest h)) in
        record { pass = λ n q'. both (row node_call 0 s l a b _ _ (name s l (first (rest h)))) (q.pass _ _); behind = rest q.behind }

    spelled_t : (f : Terms) (r : List Flat) → AllSound src (flat_t f r) → Part (enc_t f) r
    spelled_t t0 r h = record { pass = λ n q'. none; behind = h }
    spelled_t (t_more f x) r h =
        let p = spelled_t f (flat_term x r) h in
        let q = spelled_term x r p.behind in
        record { pass = λ n q'. both (p.pass n q') (q.pass _ _); behind = q.behind }

  -- a Terms row and its terms
  terms : (f : Terms) → ((n q : ℕ) → Passes (enc_t f n q)) → (n q : ℕ) → Passes (enc_terms f n q)
  unfolding row_spelled
  terms f p n q = both (row node_terms 0 0 0 0 0 _ q refl) (p (n + 1) n)

  after_semicolon : (off : Bool) (r : List Flat) → AllSound src (flat_off off ++ r) → AllSound src r
  after_semicolon true r h = h
  after_semicolon false r h = rest h

  mutual
    unfolding flat_c enc_c row_spelled

    spelled_right : (x : Right) (r : List Flat) → AllSound src (flat_right x r) → Part (enc_right x) r
    spelled_right (r_terms f) r h = let p = spelled_t f r h in record { pass = terms f p.pass; behind = p.behind }
    spelled_right (r_block a v b) r h =
        let p = spelled_b v (mark tok_r_brace ∷ r) (rest h) in
        record { pass = λ n q'. both (row node_condition_block 0 0 0 a b _ _ refl) (p.pass _ _); behind = rest p.behind }

    spelled_condition : (x : Condition) (r : List Flat) → AllSound src (flat_condition x r) → Part (enc_condition x) r
    spelled_condition (condition a f x b) r h =
        let p = spelled_t f (mark tok_colon ∷ flat_right x r) (rest h) in
        let q = spelled_right x r (rest p.behind) in
        record { pass = λ n q'. both (row node_condition 0 0 0 a b _ _ refl) (both (terms f p.pass _ _) (q.pass _ _)); behind = q.behind }

    spelled_c : (cs : Conditions) (r : List Flat) → AllSound src (flat_c cs r) → Part (enc_c cs) r
    spelled_c c0 r h = record { pass = λ n q'. none; behind = h }
    spelled_c (c_more cs x) r h =
        let p = spelled_c cs (flat_condition x r) h in
        let q = spelled_condition x r p.behind in
        record { pass = λ n q'. both (p.pass n q') (q.pass _ _); behind = q.behind }

    spelled_end : (x : End) (r : List Flat) → AllSound src (flat_end x r) → Part (enc_end x) r
    spelled_end (e_terms f) r h = let p = spelled_t f r h in record { pass = terms f p.pass; behind = p.behind }
    spelled_end (e_block a f v b) r h =
        let p = spelled_t f (mark tok_colon ∷ mark tok_l_brace ∷ flat_b v (mark tok_r_brace ∷ r)) (rest h) in
        let q = spelled_b v (mark tok_r_brace ∷ r) (rest (rest p.behind)) in
        record { pass = λ n q'. both (row node_ending_block 0 0 0 a b _ _ refl) (both (terms f p.pass _ _) (q.pass _ _)); behind = rest q.behind }

    spelled_sentence : (off : Bool) (x : Sentence) (r : List Flat) → AllSound src (flat_sentence off x r) → Part (enc_sentence off x) r
    spelled_sentence off (sentence a f cs x b) r h =
        let p = spelled_t f (flat_c cs (mark tok_equals ∷ flat_end x (flat_off off ++ r))) h in
        let q = spelled_c cs (mark tok_equals ∷ flat_end x (flat_off off ++ r)) p.behind in
        let t = spelled_end x (flat_off off ++ r) (rest q.behind) in
        record { pass = λ n q'. both (row node_sentence (off_detail off) 0 0 a b _ _ refl) (both (terms f p.pass _ _) (both (q.pass _ _) (t.pass _ _))); behind = after_semicolon off r t.behind }

    spelled_s : (s : Sentences) (r : List Flat) → AllSound src (flat_s s r) → Part (enc_s s) r
    spelled_s s0 r h = record { pass = λ n q'. none; behind = h }
    spelled_s (s_more s x) r h =
        let p = spelled_s s (flat_sentence false x r) h in
        let q = spelled_sentence false x r p.behind in
        record { pass = λ n q'. both (p.pass n q') (q.pass _ _); behind = q.behind }

    spelled_b : (v : Body) (r : List Flat) → AllSound src (flat_b v r) → Part (enc_b v) r
    spelled_b (b_all s) r h = let p = spelled_s s r h in record { pass = p.pass; behind = p.behind }
    spelled_b (b_off s x) r h =
        let p = spelled_s s (flat_sentence true x r) h in
        let q = spelled_sentence true x r p.behind in
        record { pass = λ n q'. both (p.pass n q') (q.pass _ _); behind = q.behind }

  spelled_n : (ns : Names) (r : List Flat) → AllSound src (flat_n ns r) → Part (enc_n ns) r
  unfolding flat_n enc_n row_spelled
  spelled_n (n_one s l) r h = record { pass = λ n q'. row node_name 0 s l 0 0 _ _ (name s l (first h)); behind = rest h }
  spelled_n (n_more ns s l) r h =
      let p = spelled_n ns (mark tok_comma ∷ name_of s l ∷ r) h in
      record { pass = λ n q'. both (p.pass n q') (row node_name 0 s l 0 0 _ _ (name s l (first (rest p.behind)))); behind = rest (rest p.behind) }

  after_entry : (x : Bool) (r : List Flat) → AllSound src (flat_entry x ++ r) → AllSound src r
  after_entry true r h = rest h
  after_entry false r h = h

  spelled_item : (x : Item) (r : List Flat) → AllSound src (flat_item x r) → Part (λ (n q : ℕ). enc_item x n) r
  unfolding row_spelled
  spelled_item (declaration a ns b) r h =
      let p = spelled_n ns (mark tok_semicolon ∷ r) (rest h) in
      record { pass = λ n q'. both (row node_declaration 0 0 0 a b _ _ refl) (p.pass _ _); behind = rest p.behind }
  spelled_item (function a x s l v b) r h =
      let z = after_entry x (name_of s l ∷ mark tok_l_brace ∷ flat_b v (mark tok_r_brace ∷ r)) h in
      let p = spelled_b v (mark tok_r_brace ∷ r) (rest (rest z)) in
      record { pass = λ n q'. both (row node_function (entry_detail x) s l a b _ _ (name s l (first z))) (p.pass _ _); behind = rest p.behind }

  spelled_p : (p : Program) (r : List Flat) → AllSound src (flat_p p r) → Part (λ (n q : ℕ). enc_p p n) r
  unfolding flat_p enc_p
  spelled_p p0 r h = record { pass = λ n q'. none; behind = h }
  spelled_p (p_more p x) r h =
      let q = spelled_p p (flat_item x r) h in
      let t = spelled_item x r q.behind in
      record { pass = λ n q'. both (q.pass n q') (t.pass _ q'); behind = t.behind }

  pub rows_spelled : (t : Program) → AllSound src (flatten_p t) → all_spelled src (enc_p t 0) ≡ true
  unfolding all_spelled nodes_spelled nodes_of
  rows_spelled t h =
      let p = spelled_p t [] (as_flat_p h) in
      ap (all_spelled src) (sym (append-nil (enc_p t 0))) ∙ (p.pass 0 0).before []
    where
      as_flat_p : AllSound src (flatten_p t) → AllSound src (flat_p t [])
      as_flat_p a = subst (AllSound src) (sym (flat_p_is t [] ∙ append-nil (flatten_p t))) a
