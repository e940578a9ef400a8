-- What a row puts before its children and after them, as spelled tokens, by its kind, its detail and its word, and by the state in which it
-- stands; and that these are the row's flattened tokens, each as spelled in the source.
use Rattle.std.specs.Prelude.{ℕ, Bool, true, false, List, [], ◌∷◌, ◌++◌, ◌≡◌, refl, eqb}
use Rattle.std.proofs.Common.{sym, ap, ◌∙◌}
use Rattle.refal_text.specs.Pick.{pick}
use Rattle.refal_ast.specs.Kinds.{tok_entry, tok_extern, tok_identifier, tok_variable, tok_number, tok_char, tok_l_brace, tok_r_brace, tok_l_paren, tok_r_paren, tok_l_angle, tok_r_angle}
use Rattle.refal_ast.specs.Kinds.{tok_comma, tok_colon, tok_equals, tok_semicolon}
use Rattle.refal_ast.specs.Kinds.{node_declaration, node_name, node_function, node_sentence, node_condition, node_terms, node_ending_block, node_condition_block}
use Rattle.refal_ast.specs.Kinds.{node_identifier, node_number, node_char, node_variable, node_bracket, node_call}
use Rattle.refal_ast.specs.Flatten.{Flat, flat_off, flat_entry}
use Rattle.refal_tree.specs.Forest.{Row}
use Rattle.refal_tree.specs.States.{term_kind, at_names, at_conditions, at_condition, at_argument}
use Rattle.refal_tree.specs.FlattenRows.{pick_f, open_tokens, close_tokens}
use Rattle.refal_spelling.specs.Spell.{Spelled, spelled, text_at, views, text}

-- a token that is its kind alone, and a name
abbrev pub mark_word : ℕ → Spelled
mark_word kind = spelled kind 0 []

abbrev pub name_word : List ℕ → Spelled
name_word word = spelled tok_identifier 0 word

abbrev pub on_s : ℕ → ℕ → List Spelled → List Spelled → List Spelled
on_s k n x y = pick (eqb k n) x y

-- before the children of a term: a leaf whole, `(`, or `<` and the name
abbrev pub term_words : ℕ → ℕ → List ℕ → List Spelled
term_words kind detail word =
    on_s kind node_identifier (name_word word ∷ [])
    (on_s kind node_number (spelled tok_number 0 word ∷ [])
    (on_s kind node_char (spelled tok_char detail [] ∷ [])
    (on_s kind node_variable (spelled tok_variable detail word ∷ [])
    (on_s kind node_bracket (mark_word tok_l_paren ∷ [])
    (on_s kind node_call (mark_word tok_l_angle ∷ name_word word ∷ []) [])))))

-- a function's name and `{`, behind $ENTRY where it is an entry
abbrev pub head_words : Bool → List ℕ → List Spelled
head_words entry word =
    pick entry (mark_word tok_entry ∷ name_word word ∷ mark_word tok_l_brace ∷ []) (name_word word ∷ mark_word tok_l_brace ∷ [])

-- before the children of any other row, in the state st
abbrev pub rest_words : ℕ → ℕ → ℕ → List ℕ → List Spelled
rest_words st kind detail word =
    on_s kind node_declaration (mark_word tok_extern ∷ [])
    (on_s kind node_name (on_s st at_names (mark_word tok_comma ∷ name_word word ∷ []) (name_word word ∷ []))
    (on_s kind node_function (head_words (eqb detail 1) word)
    (on_s kind node_condition (mark_word tok_comma ∷ [])
    (on_s kind node_terms (on_s st at_conditions (mark_word tok_equals ∷ []) [])
    (on_s kind node_ending_block (mark_word tok_equals ∷ mark_word tok_comma ∷ [])
    (on_s kind node_condition_block (mark_word tok_l_brace ∷ []) []))))))

-- before the children of a row
abbrev pub open_words : ℕ → ℕ → ℕ → List ℕ → List Spelled
open_words st kind detail word = pick (term_kind kind) (term_words kind detail word) (rest_words st kind detail word)

-- after the children of a row of the kind and the detail
abbrev pub close_words : ℕ → ℕ → ℕ → List Spelled
close_words st kind detail =
    on_s kind node_declaration (mark_word tok_semicolon ∷ [])
    (on_s kind node_function (mark_word tok_r_brace ∷ [])
    (on_s kind node_sentence (on_s detail 1 [] (mark_word tok_semicolon ∷ []))
    (on_s kind node_terms (on_s st at_condition (mark_word tok_colon ∷ []) (on_s st at_argument (mark_word tok_colon ∷ mark_word tok_l_brace ∷ []) []))
    (on_s kind node_ending_block (mark_word tok_r_brace ∷ [])
    (on_s kind node_condition_block (mark_word tok_r_brace ∷ [])
    (on_s kind node_bracket (mark_word tok_r_paren ∷ [])
    (on_s kind node_call (mark_word tok_r_angle ∷ []) [])))))))

-- ---- a row's flattened tokens, as spelled
views_pick : (src : List ℕ) (b : Bool) (x y : List Flat) → views src (pick_f b x y) ≡ pick b (views src x) (views src y)
views_pick src true x y = refl
views_pick src false x y = refl

views_entry : (src : List ℕ) (b : Bool) (x : List Flat) → views src (flat_entry b ++ x) ≡ pick b (mark_word tok_entry ∷ views src x) (views src x)
views_entry src true x = refl
views_entry src false x = refl

views_off : (src : List ℕ) (b : Bool) → views src (flat_off b) ≡ pick b [] (mark_word tok_semicolon ∷ [])
views_off src true = refl
views_off src false = refl

views_closing : (src : List ℕ) (st kind detail : ℕ) → views src (close_tokens st kind detail) ≡ close_words st kind detail
views_closing src st kind detail = simp (views_pick, views_off)

-- k, d and w are the kind, the detail and the text of the row r, which stands in the state st
module _ (src : List ℕ) (st : ℕ) (r : Row) (k d : ℕ) (w : List ℕ) (kind : k ≡ r.kind) (detail : d ≡ r.detail) (word : w ≡ text_at src r.start r.len) where
  term_views : term_kind r.kind ≡ true → views src (open_tokens st r) ≡ term_words r.kind r.detail (text_at src r.start r.len)
  term_views t = rw t (simp views_pick)

  rest_views : term_kind r.kind ≡ false → views src (open_tokens st r) ≡ rest_words st r.kind r.detail (text_at src r.start r.len)
  rest_views t = rw t (simp (views_pick, views_entry))

  pub term_text : term_kind k ≡ true → text (term_words k d w) ≡ text (views src (open_tokens st r))
  term_text t = rw (detail, word) (ap (λ (x : ℕ). text (term_words x r.detail (text_at src r.start r.len))) kind ∙ ap text (sym (term_views (ap term_kind (sym kind) ∙ t))))

  pub rest_text : term_kind k ≡ false → text (rest_words st k d w) ≡ text (views src (open_tokens st r))
  rest_text t = rw (detail, word) (ap (λ (x : ℕ). text (rest_words st x r.detail (text_at src r.start r.len))) kind ∙ ap text (sym (rest_views (ap term_kind (sym kind) ∙ t))))

  pub open_text : text (open_words st k d w) ≡ text (views src (open_tokens st r))
  open_text = go (term_kind k) refl
    where
      go : (b : Bool) → term_kind k ≡ b → text (pick b (term_words k d w) (rest_words st k d w)) ≡ text (views src (open_tokens st r))
      go true t = term_text t
      go false t = rest_text t

pub close_text : (src : List ℕ) (st kind detail : ℕ) → text (close_words st kind detail) ≡ text (views src (close_tokens st kind detail))
close_text src st kind detail = ap text (sym (views_closing src st kind detail))
