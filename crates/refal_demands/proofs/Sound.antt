-- Where the machine accepts, its tree flattens to what was read, but for semicolons outside items, and is no deeper than the levels.
use mathlib.Core.Path.{◌≡◌, refl, sym, ap, subst, ◌∙◌}
use Prim.Native.Nat.{ℕ, zero, suc, ◌≤◌}
use mathlib.Core.List.{List, [], ◌∷◌, ◌++◌, append_assoc}
use mathlib.Core.Bool.{Bool, true, false}
use native.Mathlib.Omega.{arith}
use lib.Dec.{eqb}
use borrow.Author.Tests.{eqb-true, eqb-false}
use Rattle.refal_ast.specs.Kinds.{tok_entry, tok_extern, tok_identifier, tok_variable, tok_number, tok_char, tok_l_brace, tok_r_brace, tok_l_paren, tok_r_paren}
use Rattle.refal_ast.specs.Kinds.{tok_l_angle, tok_r_angle, tok_comma, tok_colon, tok_equals, tok_semicolon, tok_eof}
use Rattle.refal_ast.specs.Tokens.{Token}
use Rattle.refal_ast.specs.Tree.{Leaf, variable, leaf, Terms, t0, t_more, c0, End, e_terms, s0, Body, b_all, Item, declaration, Program, p_more}
use Rattle.refal_ast.specs.Tree.{depth_t, depth_c, depth_end, depth_s, depth_b, depth_item, depth_p}
use Rattle.refal_ast.specs.Flatten.{Flat, flat_token, mark, name_of, flat_of, flats_of, flat_leaf, flat_entry, flatten_item}
use Rattle.refal_ast.specs.Flatten.{Loose, loose_semicolon, loose_item}
use Rattle.refal_ast.specs.declared.tree.VariableKind.{VariableKind}
use Rattle.refal_ast.specs.declared.tree.VariableKind.TheVariants.{Symbol as kind_s, Term as kind_t, Expression as kind_e}
use Rattle.refal_parser.specs.Begins.{Term}
use Rattle.refal_parser.specs.Machine.{pick_term, Begun, Block, body, in_condition, in_ending, Place, pattern, argument, matching, result, ending, in_bracket, in_call}
use Rattle.refal_parser.specs.Machine.{State, outside, wants_name, wants_more, named, entered, headed, between, within, calling, matched, conditioned, equated, blocked, ended}
use Rattle.refal_parser.specs.Machine.{tree, refuse, Step, go, made, over, stop, pick_step, on_kind, opens, among, closing, only, begun, with_condition, to_terms, left_off, function_of, last_end}
use Rattle.refal_parser.specs.Machine.{after_pattern, after_end, end_of, in_terms, at_terms, leave, step, follow, run}
use Rattle.refal_demands.proofs.Flats.{flat_t, flat_c, flat_end, flat_s, flat_b, flat_n, flat_b_is, flat_n_is}
use Rattle.refal_demands.proofs.Fields.{Fields, plain, texted, detailed, Ends}
use Rattle.refal_demands.proofs.Read.{read_s, read_b, read_x, read, Deep, OkB, OkX, any, Ok}

-- the state st, which stands after items that flatten to l₀, accepts the tokens that flatten to ks with the tree r
pub record Sound (L : ℕ) (l₀ : List Flat) (st : State) (ks : List Flat) (r : Program) : Type 0 where
  pub l : List Flat
  pub loose : Loose r l
  pub flat : l₀ ++ read st ks ≡ l ++ (mark tok_eof ∷ [])
  pub deep : depth_p r ≤ L

abbrev pub Next : ℕ → List Token → Type 0
Next L ts = (p : Program) (st : State) (r : Program) (l₀ : List Flat) → Ok L st → depth_p p ≤ L → Loose p l₀ → run L ts p st ≡ tree r → Sound L l₀ st (flats_of ts) r

never : {A : Type 0} (a b c d e : ℕ) (r : Program) → refuse a b c d e ≡ tree r → A
never a b c d e r q = let z : ◌≡◌ {A = ℕ} 0 1 = cc in let y : ⊥ = omega arith in absurd y

-- by cases on whether a token is of the kind n
on_cases : (P : Step → Type 0) (k n : ℕ) (x y : Step) → (k ≡ n → P x) → ((k ≡ n → ⊥) → P y) → P (on_kind k n x y)
on_cases P k n x y f g = cases (eqb k n) refl
  where
    cases : (b : Bool) → eqb k n ≡ b → P (pick_step b x y)
    cases true e = f (eqb-true k n e)
    cases false e = g (eqb-false k n e)

term_cases : (P : Term → Type 0) (k n : ℕ) (x y : Term) → (k ≡ n → P x) → P y → P (pick_term (eqb k n) x y)
term_cases P k n x y f g = cases (eqb k n) refl
  where
    cases : (b : Bool) → eqb k n ≡ b → P (pick_term b x y)
    cases true e = f (eqb-true k n e)
    cases false e = g

-- the items grow by what was read of an item
edge : (l₀ a b : List Flat) → l₀ ++ (a ++ b) ≡ (l₀ ++ a) ++ b
edge l₀ a b = sym (append_assoc l₀ a b)

module _ (L : ℕ) (ts : List Token) (next : Next L ts) (r : Program) (t : Token) (fields : Fields t) (x y : ℕ) where
  -- what is to be shown of a step s of the state st at the token t
  abbrev Good : State → Step → Type 0
  Good st s = Ok L st → (p : Program) → depth_p p ≤ L → (l₀ : List Flat) → Loose p l₀ → follow p s (λ p' st'. run L ts p' st') ≡ tree r → Sound L l₀ st (flat_of t ∷ flats_of ts) r

  stops : (st : State) (a b c d e : ℕ) → Good st (stop a b c d e)
  stops st a b c d e o p n l₀ h q = never a b c d e r q

  -- a step to st', which has read one token more of the same item
  goes : (st st' : State) (c : Flat) → flat_of t ≡ c → read st (c ∷ flats_of ts) ≡ read st' (flats_of ts) → (Ok L st → Ok L st') → Good st (go st')
  goes st st' c e f g o p n l₀ h q =
      let s = next p st' r l₀ (g o) n h q in
      record { l = s.l; loose = s.loose; flat = ap (λ (z : Flat). l₀ ++ read st (z ∷ flats_of ts)) e ∙ ap (λ (z : List Flat). l₀ ++ z) f ∙ s.flat; deep = s.deep }

  -- the end of an item, all of which has been read
  ends_item : (st : State) (z : Item) (c : Flat) → flat_of t ≡ c → read st (c ∷ flats_of ts) ≡ flatten_item z ++ flats_of ts → (Ok L st → depth_item z ≤ L) → Good st (made z)
  unfolding depth_p
  ends_item st z c e f g o p n l₀ h q =
      let i = g o in
      let s = next (p_more p z) outside r (l₀ ++ flatten_item z) any (omega arith) (loose_item h) q in
      record {
        l = s.l;
        loose = s.loose;
        flat = ap (λ (z : Flat). l₀ ++ read st (z ∷ flats_of ts)) e ∙ ap (λ (z : List Flat). l₀ ++ z) f ∙ edge l₀ (flatten_item z) (flats_of ts) ∙ s.flat;
        deep = s.deep;
      }

  -- after a pattern and conditions
  sound_pattern : (st : State) (d : ℕ) (b : Block) (s : Begun) (other : Step) → ((ks : List Flat) → read st ks ≡ read_b b (read_s s ks)) → (Ok L st → Deep d s × OkB L d b)
      → Good st other → Good st (among (after_pattern d b s t x) t other)
  unfolding flat_t depth_t
  sound_pattern st d b s other u v g =
      on_cases (Good st) t.kind tok_comma _ _ (λ e. goes st _ _ (plain t tok_comma (λ d s l. refl) fields e) (u _) (λ o. (omega arith, v o))) (λ n₁.
      on_cases (Good st) t.kind tok_equals _ _ (λ e. goes st _ _ (plain t tok_equals (λ d s l. refl) fields e) (u _) v) (λ n₂. g))

  -- where a block's `}` leads
  sound_leave : (st : State) (d : ℕ) (b : Block) (v : Body) → ((ks : List Flat) → read st ks ≡ read_b b (flat_b v ks)) → (Ok L st → (depth_b v ≤ d) × OkB L d b)
      → t.kind ≡ tok_r_brace → Good st (leave d b v t.to)
  unfolding flat_t flat_s flat_c depth_t depth_c depth_s
  sound_leave st d (body h) v u w e =
      ends_item st (function_of h v t.to) (mark tok_r_brace) (plain t tok_r_brace (λ d s l. refl) fields e)
      (u (mark tok_r_brace ∷ flats_of ts)
      ∙ ap (λ (q : List Flat). flat_entry h.entry ++ (name_of h.start h.len ∷ mark tok_l_brace ∷ q)) (flat_b_is v (mark tok_r_brace ∷ flats_of ts)) ∙ simp append_assoc)
      (λ o. let h₀ = (w o).0 in let h₁ = (w o).1 in omega arith)
  sound_leave st d (in_condition b z a g) v u w e =
      goes st _ (mark tok_r_brace) (plain t tok_r_brace (λ d s l. refl) fields e) (u _)
      (λ o. let q = w o in (record { sentences = q.1.0.sentences; pattern = q.1.0.pattern; conditions = let h₀ = q.0 in let h₁ = q.1.0.conditions in let h₂ = q.1.1 in omega arith }, q.1.2))
  sound_leave st d (in_ending b z g) v u w e =
      goes st _ (mark tok_r_brace) (plain t tok_r_brace (λ d s l. refl) fields e) (u _)
      (λ o. let q = w o in (q.1.0, (let h₀ = q.0 in let h₁ = q.1.1 in omega arith), q.1.2))

  -- after what a sentence ends in
  sound_finish : (st : State) (d : ℕ) (b : Block) (s : Begun) (z : End) (e : ℕ) (other : Step) → ((ks : List Flat) → read st ks ≡ read_b b (read_s s (mark tok_equals ∷ flat_end z ks)))
      → (Ok L st → Deep d s × (depth_end z ≤ d) × OkB L d b) → Good st other → Good st (among (after_end d b s z e t) t other)
  unfolding flat_t flat_s flat_c depth_t depth_c depth_s
  sound_finish st d b s z e other u w g =
      on_cases (Good st) t.kind tok_r_brace _ _ (λ k. sound_leave st d b (left_off s z e) u (λ o. (whole (w o), (w o).2)) k) (λ n₁.
      on_cases (Good st) t.kind tok_semicolon _ _ (λ k. goes st _ _ (plain t tok_semicolon (λ d s l. refl) fields k) (u _) (λ o. (whole (w o), (w o).2))) (λ n₂. g))
    where
      whole : Deep d s × (depth_end z ≤ d) × OkB L d b → depth_b (left_off s z e) ≤ d
      whole o = let h₁ = o.0.sentences in let h₂ = o.0.pattern in let h₃ = o.0.conditions in let h₄ = o.1 in omega arith

  -- Eof, or another kind, where terms end
  unclosed : (st : State) (k : ℕ) → Good st (closing k [] t x y)
  unclosed st k = on_cases (Good st) t.kind tok_eof _ _ (λ e. stops st _ _ _ _ _) (λ n. stops st _ _ _ _ _)

  -- the token that closes terms
  closes : (st st' : State) (k : ℕ) → (t.kind ≡ k → flat_of t ≡ mark k) → read st (mark k ∷ flats_of ts) ≡ read st' (flats_of ts)
      → (Ok L st → Ok L st') → Good st (closing k (only k st') t x y)
  closes st st' k m f g =
      on_cases (Good st) t.kind k _ _ (λ e. goes st st' (mark k) (m e) f g) (λ n. unclosed st k)

  sound_end : (d : ℕ) (c : Place) (f : Terms) → Good (within d c f) (end_of d c f t x y)
  unfolding flat_t flat_s flat_c depth_t depth_c depth_s
  sound_end d (pattern b s a) f =
      sound_pattern (within d (pattern b s a) f) d b (begun s a f c0) _ (λ ks. refl) (λ o. (record { sentences = o.1.0; pattern = o.0; conditions = omega arith }, o.1.1))
      (unclosed _ tok_equals)
  sound_end d (argument b s a) f = closes _ _ tok_colon (plain t tok_colon (λ d s l. refl) fields) refl (λ o. (o.1.0, o.0, o.1.1))
  sound_end d (matching b s a g) f =
      sound_pattern (within d (matching b s a g) f) d b (with_condition s (to_terms a g f)) _ (λ ks. refl)
      (λ o. (record { sentences = o.1.0.sentences; pattern = o.1.0.pattern; conditions = let h₀ = o.0 in let h₁ = o.1.0.conditions in let h₂ = o.1.1 in omega arith }, o.1.2))
      (unclosed _ tok_equals)
  sound_end d (result b s q) f =
      sound_finish (within d (result b s q) f) d b s (e_terms f) (last_end f q) _ (λ ks. refl) (λ o. (o.1.0, o.0, o.1.1)) (unclosed _ tok_semicolon)
  sound_end d (ending b s) f = closes _ _ tok_colon (plain t tok_colon (λ d s l. refl) fields) refl (λ o. (o.1.0, o.0, o.1.1))
  sound_end d (in_bracket c g a) f = closes _ _ tok_r_paren (plain t tok_r_paren (λ d s l. refl) fields) refl (λ o. ((let h₀ = o.0 in let h₁ = o.1.0 in omega arith), o.1.1))
  sound_end d (in_call c g a s l) f = closes _ _ tok_r_angle (plain t tok_r_angle (λ d s l. refl) fields) refl (λ o. ((let h₀ = o.0 in let h₁ = o.1.0 in omega arith), o.1.1))

  -- a term of one token
  one_token : (d : ℕ) (c : Place) (f : Terms) (z : Leaf) → flat_of t ≡ flat_leaf z → Good (within d c f) (go (within d c (t_more f (leaf z t.from t.to))))
  unfolding flat_t depth_t
  one_token d c f z e = goes _ _ (flat_leaf z) e refl (λ o. ((let h = o.0 in omega arith), o.1))

  -- a variable with this letter
  varied : (v : VariableKind) (letter : ℕ) → t.kind ≡ tok_variable → t.detail ≡ letter
      → flat_leaf (variable v t.start t.len) ≡ flat_token tok_variable letter t.start t.len
      → flat_of t ≡ flat_leaf (variable v t.start t.len)
  varied v letter e h u =
      ap (λ (z : ℕ). flat_token z t.detail t.start t.len) e ∙ ap (λ (z : ℕ). flat_token tok_variable z t.start t.len) h ∙ sym u

  abbrev GoodTerm : ℕ → Place → Terms → Term → Type 0
  GoodTerm d c f z = Good (within d c f) (in_terms d c f t x y z)

  sound_in : (d : ℕ) (c : Place) (f : Terms) → Good (within d c f) (at_terms d c f t x y)
  unfolding flat_t depth_t
  sound_in d c f =
      term_cases (GoodTerm d c f) t.kind tok_identifier _ _ (λ e. one_token d c f _ (texted t tok_identifier (λ d s l. refl) fields e))
      (term_cases (GoodTerm d c f) t.kind tok_variable _ _
      (λ e.
      term_cases (GoodTerm d c f) t.detail 115 _ _ (λ h. one_token d c f _ (varied kind_s 115 e h refl))
      (term_cases (GoodTerm d c f) t.detail 116 _ _ (λ h. one_token d c f _ (varied kind_t 116 e h refl))
      (term_cases (GoodTerm d c f) t.detail 101 _ _ (λ h. one_token d c f _ (varied kind_e 101 e h refl)) (stops _ _ _ _ _ _))))
      (term_cases (GoodTerm d c f) t.kind tok_number _ _ (λ e. one_token d c f _ (texted t tok_number (λ d s l. refl) fields e))
      (term_cases (GoodTerm d c f) t.kind tok_char _ _ (λ e. one_token d c f _ (detailed t fields e))
      (term_cases (GoodTerm d c f) t.kind tok_l_paren _ _ (λ e. opening d e)
      (term_cases (GoodTerm d c f) t.kind tok_l_angle _ _ (λ e. calls d e) (sound_end d c f))))))
    where
      opening : (d : ℕ) → t.kind ≡ tok_l_paren → Good (within d c f) (opens d t (λ (d' : ℕ). within d' (in_bracket c f t.from) t0))
      opening zero e = stops _ _ _ _ _ _
      opening (suc d) e = goes _ _ _ (plain t tok_l_paren (λ d s l. refl) fields e) refl (λ o. (omega arith, o))

      calls : (d : ℕ) → t.kind ≡ tok_l_angle → Good (within d c f) (opens d t (λ (d' : ℕ). calling d' c f t.from))
      calls zero e = stops _ _ _ _ _ _
      calls (suc d) e = goes _ _ _ (plain t tok_l_angle (λ d s l. refl) fields e) refl (λ o. o)

  -- a state that stands where terms c may begin
  enters : (st : State) (d : ℕ) (c : Place) → ((ks : List Flat) → read st ks ≡ read_x c ks) → (Ok L st → OkX L d c) → Good st (at_terms d c t0 t x y)
  unfolding flat_t depth_t
  enters st d c u v o p n l₀ h q =
      let s = sound_in d c t0 (omega arith, v o) p n l₀ h q in
      record { l = s.l; loose = s.loose; flat = ap (λ (z : List Flat). l₀ ++ z) (u (flat_of t ∷ flats_of ts)) ∙ s.flat; deep = s.deep }

  -- an Eof is the last token
  sound_step : (st : State) → (t.kind ≡ tok_eof → ts ≡ []) → Good st (step L st t x y)
  unfolding flat_t flat_s flat_c flat_n depth_t depth_c depth_s
  sound_step outside z =
      on_cases (Good outside) t.kind tok_entry _ _ (λ e. goes _ _ _ (plain t tok_entry (λ d s l. refl) fields e) refl (λ o. o)) (λ n₁.
      on_cases (Good outside) t.kind tok_extern _ _ (λ e. goes _ _ _ (plain t tok_extern (λ d s l. refl) fields e) refl (λ o. o)) (λ n₂.
      on_cases (Good outside) t.kind tok_identifier _ _ (λ e. goes _ _ _ (texted t tok_identifier (λ d s l. refl) fields e) refl (λ o. o)) (λ n₃.
      on_cases (Good outside) t.kind tok_semicolon _ _ (λ e. passed e) (λ n₄.
      on_cases (Good outside) t.kind tok_eof _ _ (λ e. final e) (λ n₅.
      stops _ _ _ _ _ _)))))
    where
      passed : t.kind ≡ tok_semicolon → Good outside (go outside)
      passed e o p n l₀ h q =
          let s = next p outside r (l₀ ++ (mark tok_semicolon ∷ [])) any n (loose_semicolon h) q in
          record {
            l = s.l;
            loose = s.loose;
            flat = ap (λ (w : Flat). l₀ ++ (w ∷ flats_of ts)) (plain t tok_semicolon (λ d s l. refl) fields e) ∙ edge l₀ (mark tok_semicolon ∷ []) (flats_of ts) ∙ s.flat;
            deep = s.deep;
          }

      final : t.kind ≡ tok_eof → Good outside over
      final e o p n l₀ h q =
          let u : p ≡ r = cc in
          record {
            l = l₀;
            loose = subst (λ (w : Program). Loose w l₀) u h;
            flat = ap (λ (w : Flat). l₀ ++ (w ∷ flats_of ts)) (plain t tok_eof (λ d s l. refl) fields e) ∙ ap (λ (w : List Token). l₀ ++ (mark tok_eof ∷ flats_of w)) (z e);
            deep = let h₁ = ap depth_p u in omega arith;
          }
  sound_step (wants_name a) z =
      on_cases (Good (wants_name a)) t.kind tok_identifier _ _ (λ e. goes _ _ _ (texted t tok_identifier (λ d s l. refl) fields e) refl (λ o. o)) (λ n. stops _ _ _ _ _ _)
  sound_step (wants_more a ns) z =
      on_cases (Good (wants_more a ns)) t.kind tok_identifier _ _ (λ e. goes _ _ _ (texted t tok_identifier (λ d s l. refl) fields e) refl (λ o. o)) (λ n. stops _ _ _ _ _ _)
  sound_step (named a ns) z =
      on_cases (Good (named a ns)) t.kind tok_comma _ _ (λ e. goes _ _ _ (plain t tok_comma (λ d s l. refl) fields e) refl (λ o. o)) (λ n₁.
      on_cases (Good (named a ns)) t.kind tok_semicolon _ _
      (λ e. ends_item _ (declaration a ns t.to) (mark tok_semicolon) (plain t tok_semicolon (λ d s l. refl) fields e)
      (ap (λ (q : List Flat). mark tok_extern ∷ q) (flat_n_is ns (mark tok_semicolon ∷ flats_of ts)) ∙ simp append_assoc) (λ o. omega arith)) (λ n₂.
      stops _ _ _ _ _ _))
  sound_step (entered a) z =
      on_cases (Good (entered a)) t.kind tok_identifier _ _ (λ e. goes _ _ _ (texted t tok_identifier (λ d s l. refl) fields e) refl (λ o. o)) (λ n. stops _ _ _ _ _ _)
  sound_step (headed h) z =
      on_cases (Good (headed h)) t.kind tok_l_brace _ _ (λ e. goes _ _ _ (plain t tok_l_brace (λ d s l. refl) fields e) refl (λ o. (omega arith, refl))) (λ n. stops _ _ _ _ _ _)
  sound_step (between d b s) z =
      on_cases (Good (between d b s)) t.kind tok_r_brace _ _ (λ e. sound_leave (between d b s) d b (b_all s) (λ ks. refl) (λ o. o) e) (λ n₁.
      on_cases (Good (between d b s)) t.kind tok_eof _ _ (λ e. stops _ _ _ _ _ _) (λ n₂.
      enters (between d b s) d (pattern b s t.from) (λ ks. refl) (λ o. o)))
  sound_step (within d c f) z = sound_in d c f
  sound_step (calling d c f a) z =
      on_cases (Good (calling d c f a)) t.kind tok_identifier _ _ (λ e. goes _ _ _ (texted t tok_identifier (λ d s l. refl) fields e) refl (λ o. (omega arith, o))) (λ n. stops _ _ _ _ _ _)
  sound_step (matched d b s a g) z =
      on_cases (Good (matched d b s a g)) t.kind tok_l_brace _ _ (λ e. opening d e) (λ n.
      enters (matched d b s a g) d (matching b s a g) (λ ks. refl) (λ o. o))
    where
      opening : (d : ℕ) → t.kind ≡ tok_l_brace → Good (matched d b s a g) (opens d t (λ (d' : ℕ). between d' (in_condition b s a g) s0))
      opening zero e = stops _ _ _ _ _ _
      opening (suc d) e = goes _ _ _ (plain t tok_l_brace (λ d s l. refl) fields e) refl (λ o. (omega arith, o))
  sound_step (conditioned d b s) z = sound_pattern (conditioned d b s) d b s _ (λ ks. refl) (λ o. o) (stops _ _ _ _ _ _)
  sound_step (equated d b s q) z =
      on_cases (Good (equated d b s q)) t.kind tok_comma _ _ (λ e. goes _ _ _ (plain t tok_comma (λ d s l. refl) fields e) refl (λ o. (omega arith, o))) (λ n.
      enters (equated d b s q) d (result b s q) (λ ks. refl) (λ o. o))
  sound_step (blocked d b s g) z =
      on_cases (Good (blocked d b s g)) t.kind tok_l_brace _ _ (λ e. opening d e) (λ n. stops _ _ _ _ _ _)
    where
      opening : (d : ℕ) → t.kind ≡ tok_l_brace → Good (blocked d b s g) (opens d t (λ (d' : ℕ). between d' (in_ending b s g) s0))
      opening zero e = stops _ _ _ _ _ _
      opening (suc d) e = goes _ _ _ (plain t tok_l_brace (λ d s l. refl) fields e) refl (λ o. (omega arith, o))
  sound_step (ended d b s v a) z = sound_finish (ended d b s v a) d b s v a _ (λ ks. refl) (λ o. o) (stops _ _ _ _ _ _)

pub sound : (L : ℕ) (ts : List Token) → Ends ts → Next L ts
unfolding run
sound L [] h p st r l₀ o n m q = absurd h
sound L (t ∷ []) h p st r l₀ o n m q = sound_step L [] (λ p' st' r' l' o' n' m' q'. never _ _ _ _ _ r' q') r t h.0 t.from t.to st (λ e. refl) o p n l₀ m q
sound L (t ∷ u ∷ ts) h p st r l₀ o n m q = sound_step L (u ∷ ts) (sound L (u ∷ ts) h.2) r t h.0 u.from u.to st (λ e. absurd (h.1 e)) o p n l₀ m q
