-- The machine at the token at a word of the rows: what a step leads to, by the token's kind.
use mathlib.Core.Path.{◌≡◌, refl, sym, ap, subst, ◌∙◌}
use Prim.Native.Nat.{ℕ, zero, suc, ◌+◌, ◌-◌}
use mathlib.Core.List.{List}
use mathlib.Core.Bool.{Bool, true, false}
use native.Mathlib.Omega.{arith}
use native.Mathlib.Numerals.{sub-one}
use lib.ListN.{get_or}
use lib.Dec.{eqb}
use borrow.Author.Tests.{ne_eqb, eq-eqb, eqb-false}
use Rattle.refal_ast.specs.Kinds.{tok_entry, tok_extern, tok_identifier, tok_l_brace, tok_r_brace, tok_comma, tok_equals, tok_semicolon, tok_eof}
use Rattle.std.proofs.Common.{Result, Ok, Err, IsErrAnd}
use Rattle.refal_rows.specs.Rows.{put_row}
use Rattle.refal_ast.specs.KindCodes.{token_code}
use Rattle.refal_ast.specs.Told.{reason_code, kind_told}
use Rattle.refal_parser.specs.declared.place.Place.{Place as ThePlace}
use Rattle.refal_parser.specs.declared.answers.SyntaxError.{SyntaxError}
use Rattle.refal_ast.specs.Tokens.{Token, token}
use Rattle.refal_ast.specs.Nodes.{node_width, node_words}
use Rattle.refal_ast.specs.Rows.{node_told}
use Rattle.refal_ast.specs.declared.nodes.Node.{Node as TheNode}
use Rattle.refal_ast.specs.Tree.{Terms, t0, End, Sentences, s0, b_all, Names, n_one, n_more, declaration, Program, p_more}
use Rattle.refal_parser.specs.Begins.{Term, Symbol as the_symbol, Variable, Bracket, Call, UnknownVariable, NoTerm}
use Rattle.refal_ast.specs.Limits.{most_levels}
use Rattle.refal_parser.specs.Machine.{term_of, Heading, Begun, Argument, Block, body, in_condition, in_ending, Place, pattern, argument, matching, result, ending, in_bracket, in_call}
use Rattle.refal_parser.specs.Machine.{State, outside, wants_name, wants_more, named, entered, headed, between, within, calling, matched, conditioned, equated, blocked, ended}
use Rattle.refal_parser.specs.Machine.{tree, refuse, Step, go, opens, expected, wants, among, closing, either, in_terms, at_terms, finished, left_off, leave, step, run}
use Rattle.refal_parser.specs.Ready.{tok, term_at, after_from, after_to, Ready}
use Rattle.refal_parser.specs.Post.{Cases, runs, Same, Refuses, leads, after, Joint}
use Rattle.refal_parser.specs.Writers.{put_node}
use Rattle.refal_parser.specs.PostTerms.{Closing}
use Rattle.refal_parser.specs.PostBlock.{Opens}
use Rattle.refal_parser.specs.PostItems.{heading}
use Rattle.refal_parser.specs.Got.{Got, At, No, error_told, got_told}
use Rattle.refal_parser.proofs.TokenLaws.{rest_step, from_next}

-- ---- answers that are known
pub is_at : {w : List ℕ} {r : Got} {P : ℕ → ℕ → Type 0} {Q : ℕ → ℕ → ℕ → ℕ → ℕ → Type 0} {u : List ℕ} {j m : ℕ} → r ≡ At u j m → u ≡ w → P j m → Cases w r P Q
is_at {w} {r} {P} {Q} {u} {j} {m} e s p = record {
  same = λ u' j' m' e'. let h : u ≡ u' = cc in sym h ∙ s;
  at = λ u' j' m' e'. let h : j ≡ j' = cc in let k : m ≡ m' = cc in subst (λ (x : ℕ). P x m') h (subst (λ (x : ℕ). P j x) k p);
  no = λ a b c d x e'. let z : ◌≡◌ {A = ℕ} 0 1 = cc in let y : ⊥ = omega arith in absurd y;
}

pub is_no : {w : List ℕ} {r : Got} {P : ℕ → ℕ → Type 0} {Q : ℕ → ℕ → ℕ → ℕ → ℕ → Type 0} {a b c d e : ℕ} → r ≡ No a b c d e → Q a b c d e → Cases w r P Q
is_no {w} {r} {P} {Q} {a} {b} {c} {d} {e} q p = record {
  same = λ u j m e'. let z : ◌≡◌ {A = ℕ} 0 1 = cc in let y : ⊥ = omega arith in absurd y;
  at = λ u j m e'. let z : ◌≡◌ {A = ℕ} 0 1 = cc in let y : ⊥ = omega arith in absurd y;
  no = λ a' b' c' d' x' e'.
      let u₁ : a ≡ a' = cc in let u₂ : b ≡ b' = cc in let u₃ : c ≡ c' = cc in let u₄ : d ≡ d' = cc in let u₅ : e ≡ x' = cc in
      subst (λ (x : ℕ). Q x b' c' d' x') u₁
      (subst (λ (x : ℕ). Q a x c' d' x') u₂ (subst (λ (x : ℕ). Q a b x d' x') u₃ (subst (λ (x : ℕ). Q a b c x x') u₄ (subst (λ (x : ℕ). Q a b c d x) u₅ p))));
}

-- what is known of an answer that is a place, and of one that is a refusal
pub got : {w u : List ℕ} {j m : ℕ} {P : ℕ → ℕ → Type 0} {Q : ℕ → ℕ → ℕ → ℕ → ℕ → Type 0} → Cases w (At u j m) P Q → P j m
got h = h.at _ _ _ refl

pub stays : {w u : List ℕ} {j m : ℕ} {P : ℕ → ℕ → Type 0} {Q : ℕ → ℕ → ℕ → ℕ → ℕ → Type 0} → Cases w (At u j m) P Q → u ≡ w
stays h = h.same _ _ _ refl

pub not_got : {w : List ℕ} {a b c d e : ℕ} {P : ℕ → ℕ → Type 0} {Q : ℕ → ℕ → ℕ → ℕ → ℕ → Type 0} → Cases w (No a b c d e) P Q → Q a b c d e
not_got h = h.no _ _ _ _ _ refl

-- what a `?` passes on
pub passed : {w : List ℕ} (r : Result ThePlace SyntaxError) (e : SyntaxError) {P : ℕ → ℕ → Type 0} {Q : ℕ → ℕ → ℕ → ℕ → ℕ → Type 0} → IsErrAnd r (λ x. x ≡ e) →
    Q (reason_code e.reason) (kind_told e.expected) (token_code e.found) e.span.start e.span.end → Cases w (got_told r) P Q
passed (Ok p) e h q = absurd h
passed {w} (Err x) e {P} {Q} h q = subst (λ (y : SyntaxError). Cases w (error_told y) P Q) (sym h) (is_no refl q)

-- what holds of an answer says more of it
pub turned : {w : List ℕ} {r : Got} {P P' : ℕ → ℕ → Type 0} {Q Q' : ℕ → ℕ → ℕ → ℕ → ℕ → Type 0} → Cases w r P Q → ((j m : ℕ) → P j m → P' j m) →
    ((a b c d e : ℕ) → Q a b c d e → Q' a b c d e) → Cases w r P' Q'
turned h p q = record { same = h.same; at = λ u j m e. p j m (h.at u j m e); no = λ a b c d x e. q a b c d x (h.no a b c d x e) }

-- ---- rows that are put
pub put_as : (B : List ℕ) {B' : List ℕ} (m : ℕ) (x : TheNode) {row : List ℕ} → B' ≡ put_row node_width B m (node_words (node_told x)) → node_words (node_told x) ≡ row → B' ≡ put_node B m row
put_as B m x e f = e ∙ ap (λ (r : List ℕ). put_node B m r) f

-- ---- what a token begins
abbrev pub begins : Term → ℕ
begins (the_symbol z) = 1
begins (Variable v s l) = 1
begins Bracket = 1
begins Call = 1
begins UnknownVariable = 1
begins NoTerm = 0

-- what begins a term is no Eof
pub term_not_eof : (w : List ℕ) (at : ℕ) → begins (term_at w at) ≡ 1 → get_or w at 0 ≡ tok_eof → ⊥
term_not_eof w at b e =
    let z : begins (term_at w at) ≡ 0 = ap (λ (k : ℕ). begins (term_of k (get_or w (at + 1) 0) (get_or w (at + 2) 0) (get_or w (at + 3) 0))) e in
    let y : ⊥ = omega arith in
    y

-- a token that is not of kind k, where it is of kind l
pub other : (x k l : ℕ) → x ≡ l → eqb l k ≡ false → x ≡ k → ⊥
other x k l e f g = eqb-false l k f (sym e ∙ g)

-- ---- levels left
pub back : (d : ℕ) → (d ≡ 0 → ⊥) → suc (d - 1) ≡ d
back d n = let h : (d ≡ 0 → ⊥) = n in omega arith

opens_some : (d : ℕ) (t : Token) (f : ℕ → State) → (d ≡ 0 → ⊥) → opens d t f ≡ go (f (d - 1))
opens_some zero t f n = absurd (n refl)
opens_some (suc d) t f n = ap (λ (x : ℕ). go (f x)) (sym (sub-one (suc d)))

pub leveled : (w : List ℕ) (j d : ℕ) (f : ℕ → State) → (d ≡ 0 → ⊥) → Same w j (f (suc (d - 1))) j (f d)
leveled w j d f n p = ap (λ (x : ℕ). runs w j p (f x)) (back d n)

module _ (w : List ℕ) (at : ℕ) where
  -- the token at the word, taken to be of kind k
  kinded : ℕ → Token
  kinded k = token k (get_or w (at + 1) 0) (get_or w (at + 2) 0) (get_or w (at + 3) 0) (get_or w (at + 4) 0) (get_or w (at + 5) 0)

  -- where no level is left, and where one is
  pub open_none : (d : ℕ) (f : ℕ → State) → d ≡ 0 → (p : Program) → after w at p (opens d (tok w at) f) ≡ refuse 37 0 (get_or w at 0) (get_or w (at + 4) 0) (get_or w (at + 5) 0)
  open_none d f z p = ap (λ (x : ℕ). after w at p (opens x (tok w at) f)) z

  pub open_some : (d : ℕ) (f : ℕ → State) → (d ≡ 0 → ⊥) → (p : Program) → after w at p (opens d (tok w at) f) ≡ runs w (at + 6) p (f (d - 1))
  open_some d f n p = ap (λ (x : Step). after w at p x) (opens_some d (tok w at) f n)

  -- ---- the kind that closes terms
  pub closes_here : (want : ℕ) (st : State) (p : Program) → get_or w at 0 ≡ want → Closing w at want st p ≡ runs w (at + 6) p st
  closes_here want st p e = rw (eq-eqb (get_or w at 0) want e) refl

  -- ---- one of two kinds: neither
  module _ (also want : ℕ) (u v : Step) where
    pub two_eof : (get_or w at 0 ≡ also → ⊥) → (get_or w at 0 ≡ want → ⊥) → get_or w at 0 ≡ tok_eof → (p : Program) →
        after w at p (closing want (either also u want v) (tok w at) (after_from w at) (after_to w at)) ≡ refuse 35 want (get_or w at 0) (get_or w (at + 4) 0) (get_or w (at + 5) 0)
    two_eof n₁ n₂ e p = rw (ne_eqb (get_or w at 0) also n₁, ne_eqb (get_or w at 0) want n₂, eq-eqb (get_or w at 0) tok_eof e) refl

    pub two_none : (get_or w at 0 ≡ also → ⊥) → (get_or w at 0 ≡ want → ⊥) → (get_or w at 0 ≡ tok_eof → ⊥) → (p : Program) →
        after w at p (closing want (either also u want v) (tok w at) (after_from w at) (after_to w at)) ≡ refuse 34 0 (get_or w at 0) (after_from w at) (after_to w at)
    two_none n₁ n₂ n₃ p = rw (ne_eqb (get_or w at 0) also n₁, ne_eqb (get_or w at 0) want n₂, ne_eqb (get_or w at 0) tok_eof n₃) refl

    pub two_other : (get_or w at 0 ≡ also → ⊥) → (get_or w at 0 ≡ want → ⊥) → (p : Program) →
        after w at p (among (either also u want v) (tok w at) (expected want (tok w at))) ≡ refuse 35 want (get_or w at 0) (get_or w (at + 4) 0) (get_or w (at + 5) 0)
    two_other n₁ n₂ p = rw (ne_eqb (get_or w at 0) also n₁, ne_eqb (get_or w at 0) want n₂) refl

    -- where one of them stands, what would be at another kind does not matter
    pub two_here : (x y : Step) → Joint w at also want → among (either also u want v) (tok w at) x ≡ among (either also u want v) (tok w at) y
    two_here x y h = go (eqb (get_or w at 0) also) refl
      where
        go : (a : Bool) → eqb (get_or w at 0) also ≡ a → among (either also u want v) (tok w at) x ≡ among (either also u want v) (tok w at) y
        go true e = rw e refl
        go false e = rw (e, eq-eqb (get_or w at 0) want (h (eqb-false (get_or w at 0) also e))) refl

  module _ (r : Ready w at) where
    pub run_at_lem : (st : State) (p : Program) → runs w at p st ≡ after w at p (step most_levels st (tok w at) (after_from w at) (after_to w at))
    unfolding run
    run_at_lem st p = ap (λ (l : List Token). run most_levels l p st) (rest_step w at r.room)

    -- at a token of kind k
    run_kind : (st : State) (k : ℕ) → get_or w at 0 ≡ k → (p : Program) → runs w at p st ≡ after w at p (step most_levels st (kinded k) (after_from w at) (after_to w at))
    unfolding kinded
    run_kind st k e p = run_at_lem st p ∙ ap (λ (k : ℕ). after w at p (step most_levels st (kinded k) (after_from w at) (after_to w at))) e

    -- where the step is known to be x
    run_as : (st : State) (x : Step) → step most_levels st (tok w at) (after_from w at) (after_to w at) ≡ x → (p : Program) → runs w at p st ≡ after w at p x
    run_as st x e p = run_at_lem st p ∙ ap (λ (y : Step). after w at p y) e

    -- ---- in terms, by what the token begins
    pub term_step : (d : ℕ) (c : Place) (f : Terms) (q : Term) → term_at w at ≡ q →
        (p : Program) → runs w at p (within d c f) ≡ after w at p (in_terms d c f (tok w at) (after_from w at) (after_to w at) q)
    term_step d c f q e p = run_at_lem (within d c f) p ∙ ap (λ (q : Term). after w at p (in_terms d c f (tok w at) (after_from w at) (after_to w at) q)) e

    pub bracket_deep : (d : ℕ) (c : Place) (f : Terms) → term_at w at ≡ Bracket → d ≡ 0 →
        Refuses w at (within d c f) 37 0 (get_or w at 0) (get_or w (at + 4) 0) (get_or w (at + 5) 0)
    bracket_deep d c f e z p = term_step d c f Bracket e p ∙ open_none d (λ (x : ℕ). within x (in_bracket c f (get_or w (at + 4) 0)) t0) z p

    pub bracket_open : (d : ℕ) (c : Place) (f : Terms) → term_at w at ≡ Bracket → (d ≡ 0 → ⊥) →
        Same w at (within d c f) (at + 6) (within (d - 1) (in_bracket c f (get_or w (at + 4) 0)) t0)
    bracket_open d c f e n p = term_step d c f Bracket e p ∙ open_some d (λ (x : ℕ). within x (in_bracket c f (get_or w (at + 4) 0)) t0) n p

    pub call_deep : (d : ℕ) (c : Place) (f : Terms) → term_at w at ≡ Call → d ≡ 0 →
        Refuses w at (within d c f) 37 0 (get_or w at 0) (get_or w (at + 4) 0) (get_or w (at + 5) 0)
    call_deep d c f e z p = term_step d c f Call e p ∙ open_none d (λ (x : ℕ). calling x c f (get_or w (at + 4) 0)) z p

    pub call_open : (d : ℕ) (c : Place) (f : Terms) → term_at w at ≡ Call → (d ≡ 0 → ⊥) → Same w at (within d c f) (at + 6) (calling (d - 1) c f (get_or w (at + 4) 0))
    call_open d c f e n p = term_step d c f Call e p ∙ open_some d (λ (x : ℕ). calling x c f (get_or w (at + 4) 0)) n p

    pub call_name : (d : ℕ) (c : Place) (f : Terms) (a : ℕ) → get_or w at 0 ≡ tok_identifier →
        Same w at (calling d c f a) (at + 6) (within d (in_call c f a (get_or w (at + 2) 0) (get_or w (at + 3) 0)) t0)
    unfolding kinded
    call_name d c f a e = run_kind (calling d c f a) tok_identifier e

    pub call_nameless : (d : ℕ) (c : Place) (f : Terms) (a : ℕ) → (get_or w at 0 ≡ tok_identifier → ⊥) →
        Refuses w at (calling d c f a) 33 tok_identifier (get_or w at 0) (after_from w at) (after_to w at)
    call_nameless d c f a n = run_as (calling d c f a) (wants 33 (tok w at) (after_from w at) (after_to w at)) (rw (ne_eqb (get_or w at 0) tok_identifier n) refl)

    -- ---- after a sentence's pattern and conditions
    module _ (d : ℕ) (b : Block) (s : Begun) where
      pub cond_start : Ready w (at + 6) → get_or w at 0 ≡ tok_comma → Same w at (conditioned d b s) (at + 6) (within d (argument b s (get_or w (at + 6 + 4) 0)) t0)
      unfolding kinded
      cond_start r' e p =
          run_kind (conditioned d b s) tok_comma e p
          ∙ ap (λ (x : ℕ). runs w (at + 6) p (within d (argument b s x) t0)) (from_next w at r')

      pub cond_equals : get_or w at 0 ≡ tok_equals → Same w at (conditioned d b s) (at + 6) (equated d b s (get_or w (at + 5) 0))
      unfolding kinded
      cond_equals e = run_kind (conditioned d b s) tok_equals e

      -- ---- after a condition's `:`
      pub match_block : (o : ℕ) (g : Argument) → get_or w at 0 ≡ tok_l_brace → (p : Program) → runs w at p (matched d b s o g) ≡ Opens w at d (in_condition b s o g) p
      match_block o g k =
          run_as (matched d b s o g) (opens d (tok w at) (λ (x : ℕ). between x (in_condition b s o g) s0)) (rw (eq-eqb (get_or w at 0) tok_l_brace k) refl)

      pub match_terms : (o : ℕ) (g : Argument) → (get_or w at 0 ≡ tok_l_brace → ⊥) → Same w at (matched d b s o g) at (within d (matching b s o g) t0)
      match_terms o g n p =
          run_as (matched d b s o g) (at_terms d (matching b s o g) t0 (tok w at) (after_from w at) (after_to w at)) (rw (ne_eqb (get_or w at 0) tok_l_brace n) refl) p
          ∙ sym (run_at_lem (within d (matching b s o g) t0) p)

      -- ---- the end of a sentence
      pub end_terms_lem : (q : ℕ) → (get_or w at 0 ≡ tok_comma → ⊥) → Same w at (equated d b s q) at (within d (result b s q) t0)
      end_terms_lem q n p =
          run_as (equated d b s q) (at_terms d (result b s q) t0 (tok w at) (after_from w at) (after_to w at)) (rw (ne_eqb (get_or w at 0) tok_comma n) refl) p
          ∙ sym (run_at_lem (within d (result b s q) t0) p)

      pub end_start : (q : ℕ) → get_or w at 0 ≡ tok_comma → Same w at (equated d b s q) (at + 6) (within d (ending b s) t0)
      unfolding kinded
      end_start q e = run_kind (equated d b s q) tok_comma e

      pub end_block_lem : (g : Argument) → get_or w at 0 ≡ tok_l_brace → (p : Program) → runs w at p (blocked d b s g) ≡ Opens w at d (in_ending b s g) p
      end_block_lem g k =
          run_as (blocked d b s g) (opens d (tok w at) (λ (x : ℕ). between x (in_ending b s g) s0)) (rw (eq-eqb (get_or w at 0) tok_l_brace k) refl)

      pub end_unopened : (g : Argument) → (get_or w at 0 ≡ tok_l_brace → ⊥) →
          Refuses w at (blocked d b s g) 35 tok_l_brace (get_or w at 0) (get_or w (at + 4) 0) (get_or w (at + 5) 0)
      end_unopened g n = run_as (blocked d b s g) (expected tok_l_brace (tok w at)) (rw (ne_eqb (get_or w at 0) tok_l_brace n) refl)

      -- its `;`, and the `}` where that is left off
      pub end_closed : (z : End) (e : ℕ) → get_or w at 0 ≡ tok_semicolon → Same w at (ended d b s z e) (at + 6) (between d b (finished s z (get_or w (at + 5) 0)))
      unfolding kinded
      end_closed z e k = run_kind (ended d b s z e) tok_semicolon k

      pub end_left : (z : End) (e : ℕ) → get_or w at 0 ≡ tok_r_brace → (p : Program) → runs w at p (ended d b s z e) ≡ after w at p (leave d b (left_off s z e) (get_or w (at + 5) 0))
      end_left z e k = run_as (ended d b s z e) (leave d b (left_off s z e) (get_or w (at + 5) 0)) (rw (eq-eqb (get_or w at 0) tok_r_brace k) refl)

    -- ---- between sentences
    module _ (d : ℕ) (b : Block) (v : Sentences) where
      pub block_close : get_or w at 0 ≡ tok_r_brace → (p : Program) → runs w at p (between d b v) ≡ leads w (at + 6) p (leave d b (b_all v) (get_or w (at + 5) 0))
      block_close e = run_as (between d b v) (leave d b (b_all v) (get_or w (at + 5) 0)) (rw (eq-eqb (get_or w at 0) tok_r_brace e) refl)

      pub block_eof : (get_or w at 0 ≡ tok_r_brace → ⊥) → get_or w at 0 ≡ tok_eof →
          Refuses w at (between d b v) 35 tok_r_brace (get_or w at 0) (get_or w (at + 4) 0) (get_or w (at + 5) 0)
      block_eof n e = run_as (between d b v) (expected tok_r_brace (tok w at)) (rw (ne_eqb (get_or w at 0) tok_r_brace n, eq-eqb (get_or w at 0) tok_eof e) refl)

      pub block_more : (get_or w at 0 ≡ tok_r_brace → ⊥) → (get_or w at 0 ≡ tok_eof → ⊥) → Same w at (between d b v) at (within d (pattern b v (get_or w (at + 4) 0)) t0)
      block_more n n' p =
          run_as (between d b v) (at_terms d (pattern b v (get_or w (at + 4) 0)) t0 (tok w at) (after_from w at) (after_to w at))
          (rw (ne_eqb (get_or w at 0) tok_r_brace n, ne_eqb (get_or w at 0) tok_eof n') refl) p
          ∙ sym (run_at_lem (within d (pattern b v (get_or w (at + 4) 0)) t0) p)

    -- ---- items
    pub items_eof : get_or w at 0 ≡ tok_eof → (p : Program) → runs w at p outside ≡ tree p
    unfolding kinded
    items_eof e = run_kind outside tok_eof e

    pub items_pass : get_or w at 0 ≡ tok_semicolon → Same w at outside (at + 6) outside
    unfolding kinded
    items_pass e = run_kind outside tok_semicolon e

    pub items_extern : get_or w at 0 ≡ tok_extern → Same w at outside (at + 6) (wants_name (get_or w (at + 4) 0))
    unfolding kinded
    items_extern e = run_kind outside tok_extern e

    pub items_entry : get_or w at 0 ≡ tok_entry → Same w at outside (at + 6) (entered (get_or w (at + 4) 0))
    unfolding kinded
    items_entry e = run_kind outside tok_entry e

    pub items_name : get_or w at 0 ≡ tok_identifier → Same w at outside (at + 6) (headed (heading w (get_or w (at + 4) 0) at false))
    unfolding kinded
    items_name e = run_kind outside tok_identifier e

    pub items_none : (get_or w at 0 ≡ tok_eof → ⊥) → (get_or w at 0 ≡ tok_semicolon → ⊥) → (get_or w at 0 ≡ tok_extern → ⊥) → (get_or w at 0 ≡ tok_entry → ⊥) →
        (get_or w at 0 ≡ tok_identifier → ⊥) → Refuses w at outside 32 tok_identifier (get_or w at 0) (after_from w at) (after_to w at)
    items_none n₁ n₂ n₃ n₄ n₅ =
        run_as outside (wants 32 (tok w at) (after_from w at) (after_to w at))
        (rw (ne_eqb (get_or w at 0) tok_eof n₁, ne_eqb (get_or w at 0) tok_semicolon n₂, ne_eqb (get_or w at 0) tok_extern n₃, ne_eqb (get_or w at 0) tok_entry n₄, ne_eqb (get_or w at 0) tok_identifier n₅) refl)

    module _ (a : ℕ) where
      pub first_name : get_or w at 0 ≡ tok_identifier → Same w at (wants_name a) (at + 6) (named a (n_one (get_or w (at + 2) 0) (get_or w (at + 3) 0)))
      unfolding kinded
      first_name e = run_kind (wants_name a) tok_identifier e

      pub more_name : (ns : Names) → get_or w at 0 ≡ tok_identifier → Same w at (wants_more a ns) (at + 6) (named a (n_more ns (get_or w (at + 2) 0) (get_or w (at + 3) 0)))
      unfolding kinded
      more_name ns e = run_kind (wants_more a ns) tok_identifier e

      pub first_none : (get_or w at 0 ≡ tok_identifier → ⊥) → Refuses w at (wants_name a) 31 tok_identifier (get_or w at 0) (after_from w at) (after_to w at)
      first_none n = run_as (wants_name a) (wants 31 (tok w at) (after_from w at) (after_to w at)) (rw (ne_eqb (get_or w at 0) tok_identifier n) refl)

      pub more_none : (ns : Names) → (get_or w at 0 ≡ tok_identifier → ⊥) →
          Refuses w at (wants_more a ns) 31 tok_identifier (get_or w at 0) (after_from w at) (after_to w at)
      more_none ns n = run_as (wants_more a ns) (wants 31 (tok w at) (after_from w at) (after_to w at)) (rw (ne_eqb (get_or w at 0) tok_identifier n) refl)

      pub named_comma : (ns : Names) → get_or w at 0 ≡ tok_comma → Same w at (named a ns) (at + 6) (wants_more a ns)
      unfolding kinded
      named_comma ns e = run_kind (named a ns) tok_comma e

      pub named_end : (ns : Names) → get_or w at 0 ≡ tok_semicolon → (p : Program) →
          runs w at p (named a ns) ≡ runs w (at + 6) (p_more p (declaration a ns (get_or w (at + 5) 0))) outside
      unfolding kinded
      named_end ns e = run_kind (named a ns) tok_semicolon e

      pub named_none : (ns : Names) → (get_or w at 0 ≡ tok_comma → ⊥) → (get_or w at 0 ≡ tok_semicolon → ⊥) →
          Refuses w at (named a ns) 35 tok_semicolon (get_or w at 0) (get_or w (at + 4) 0) (get_or w (at + 5) 0)
      named_none ns n n' =
          run_as (named a ns) (expected tok_semicolon (tok w at)) (rw (ne_eqb (get_or w at 0) tok_comma n, ne_eqb (get_or w at 0) tok_semicolon n') refl)

      pub entry_name : get_or w at 0 ≡ tok_identifier →
          Same w at (entered a) (at + 6) (headed (record { from = a; entry = true; start = get_or w (at + 2) 0; len = get_or w (at + 3) 0 }))
      unfolding kinded
      entry_name e = run_kind (entered a) tok_identifier e

      pub entry_none : (get_or w at 0 ≡ tok_identifier → ⊥) → Refuses w at (entered a) 32 tok_identifier (get_or w at 0) (after_from w at) (after_to w at)
      entry_none n = run_as (entered a) (wants 32 (tok w at) (after_from w at) (after_to w at)) (rw (ne_eqb (get_or w at 0) tok_identifier n) refl)

    module _ (h : Heading) where
      pub head_open : get_or w at 0 ≡ tok_l_brace → (p : Program) → runs w at p (headed h) ≡ Opens w at (suc most_levels) (body h) p
      unfolding kinded
      head_open e = run_kind (headed h) tok_l_brace e

      pub head_none : (get_or w at 0 ≡ tok_l_brace → ⊥) → Refuses w at (headed h) 35 tok_l_brace (get_or w at 0) (get_or w (at + 4) 0) (get_or w (at + 5) 0)
      head_none n = run_as (headed h) (expected tok_l_brace (tok w at)) (rw (ne_eqb (get_or w at 0) tok_l_brace n) refl)
