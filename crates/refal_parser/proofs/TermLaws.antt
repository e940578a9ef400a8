-- Terms with one term more, whose rows are put behind theirs; terms that are closed; a bracket and a call from the answers of their parts.
use mathlib.Core.Path.{◌≡◌, refl, sym, ap, ◌∙◌}
use Prim.Native.Nat.{ℕ, suc, ◌+◌, ◌-◌}
use mathlib.Core.List.{List}
use native.Mathlib.Omega.{arith}
use lib.ListN.{length, get_or}
use Rattle.refal_ast.specs.Kinds.{tok_identifier, tok_r_paren, tok_r_angle, node_bracket, node_call}
use Rattle.refal_ast.specs.Nodes.{node}
use Rattle.refal_ast.specs.Tree.{Leaf, symbol, variable, leaf, bracket, call, Terms, t0, t_more, Program, size_term}
use Rattle.refal_ast.specs.Encode.{leaf_row}
use Rattle.refal_parser.specs.Machine.{Place, State, Step, within, in_bracket, in_call, closing, either, in_terms, first_start, refuse}
use Rattle.refal_parser.specs.Ready.{tok, term_at, after_from, after_to, end_before, Few, Ready}
use Rattle.refal_parser.specs.Begins.{Term, Symbol as the_symbol, Variable, Bracket, Call, NoTerm}
use Rattle.refal_parser.specs.Writers.{put_node, span_row, w_term, w_terms}
use Rattle.refal_parser.specs.Post.{runs, Same, Refuses, after, Joint}
use Rattle.refal_parser.specs.PostTerms.{TermsAt, TermsInv, Closing, ClosesAt, Ends, ClosedNo, UntilAt, TermGot, Turns, ClauseAt, ClauseNo}
use Rattle.refal_parser.proofs.TokenLaws.{end_before_lem}
use Rattle.refal_parser.proofs.Rows.{more_terms, size_terms, whole_bracket, size_bracket, whole_call, size_call}
use Rattle.refal_parser.proofs.Steps.{term_step, run_at_lem, two_here, leveled, bracket_open, call_open, call_name}

-- ---- the machine at a leaf
-- what a token that is a leaf begins
abbrev pub leaf_term : Leaf → Term
leaf_term (symbol z) = the_symbol z
leaf_term (variable v s l) = Variable v s l

module _ (w : List ℕ) (i d : ℕ) (c : Place) (f : Terms) (p : Program) where
  leaf_here : (x : Leaf) → after w i p (in_terms d c f (tok w i) (after_from w i) (after_to w i) (leaf_term x))
      ≡ runs w (i + 6) p (within d c (t_more f (leaf x (get_or w (i + 4) 0) (get_or w (i + 5) 0))))
  leaf_here (symbol z) = refl
  leaf_here (variable v s l) = refl

  leaf_step : (x : Leaf) {a b : ℕ} → a ≡ get_or w (i + 4) 0 → b ≡ get_or w (i + 5) 0 →
      after w i p (in_terms d c f (tok w i) (after_from w i) (after_to w i) (leaf_term x)) ≡ runs w (i + 6) p (within d c (t_more f (leaf x a b)))
  leaf_step x {a} {b} ea eb =
      leaf_here x
      ∙ ap (λ (y : ℕ). runs w (i + 6) p (within d c (t_more f (leaf x y (get_or w (i + 5) 0))))) (sym ea)
      ∙ ap (λ (y : ℕ). runs w (i + 6) p (within d c (t_more f (leaf x a y)))) (sym eb)

-- ---- a term more
pub one_term : {w B₀ B B' : List ℕ} {at n q left i m j m' : ℕ} → length B' ≡ length B → TermGot w B B' i m q left j m' → TermsInv w B₀ B at n q left i m → TermsInv w B₀ B' at n q left j m'
one_term {w} {B₀} {B} {B'} {at} {n} {q} {left} {i} {m} {j} {m'} same T I = record {
  g = t_more I.g T.x;
  on = let h = T.on in let k = I.on in omega arith;
  few = let h = T.few in omega arith;
  same = same ∙ I.same;
  rows = more_terms n B₀ q I.g T.x I.count I.rows T.rows;
  count = size_terms n I.g T.x I.count T.count;
  first = ap (first_start I.g) T.first ∙ I.first;
  last = T.last;
  means = λ c p. I.means c p ∙ T.means c I.g p;
}

-- ---- a leaf
leaf_rows : (x : Leaf) (a b m q : ℕ) (B B' : List ℕ) → B' ≡ put_node B m (leaf_row x a b (m + 1) q) → B' ≡ w_term (leaf x a b) m q B
unfolding w_term
leaf_rows x a b m q B B' e = e

leaf_size : (x : Leaf) (a b m : ℕ) → m + 1 ≡ m + size_term (leaf x a b)
unfolding size_term
leaf_size x a b m = refl

pub leaf_got : {w B B' : List ℕ} {i m q left a b : ℕ} (x : Leaf) → Ready w i → Few m i 2 → term_at w i ≡ leaf_term x → a ≡ get_or w (i + 4) 0 → b ≡ get_or w (i + 5) 0 →
    B' ≡ put_node B m (leaf_row x a b (m + 1) q) → TermGot w B B' i m q left (i + 6) (m + 1)
leaf_got {w} {B} {B'} {i} {m} {q} {left} {a} {b} x r few e ea eb put = record {
  x = leaf x a b;
  on = omega arith;
  few = omega arith;
  rows = leaf_rows x a b m q B B' put;
  count = leaf_size x a b m;
  first = ea;
  last = eb ∙ end_before_lem w i;
  means = λ c f p. term_step w i r left c f (leaf_term x) e p ∙ leaf_step w i left c f p x ea eb;
}

pub one_leaf_lem : {w B₀ B B' : List ℕ} {at n q left i m a b : ℕ} (x : Leaf) → Ready w i → term_at w i ≡ leaf_term x → a ≡ get_or w (i + 4) 0 → b ≡ get_or w (i + 5) 0 → length B' ≡ length B →
    B' ≡ put_node B m (leaf_row x a b (m + 1) q) → TermsInv w B₀ B at n q left i m → TermsInv w B₀ B' at n q left (i + 6) (m + 1)
one_leaf_lem x R e ea eb same put I = one_term same (leaf_got x R I.few e ea eb put) I

-- ---- terms and what closes them
module _ {w B B' : List ℕ} {at n q left j m : ℕ} (R : Ready w j) (T : TermsAt w B B' at n q left j m) (want : ℕ) where
  closed : (c : Place) (st : Terms → ℕ → ℕ → State) → Ends left c want st → (p : Program) →
      runs w at p (within left c t0) ≡ Closing w j want (st T.g (get_or w (j + 4) 0) (get_or w (j + 5) 0)) p
  closed c st h p =
      T.means c p
      ∙ term_step w j R left c T.g NoTerm T.none p
      ∙ ap (λ (y : Step). after w j p y) (h T.g (tok w j) (after_from w j) (after_to w j))

  pub until_no : {a b c d e : ℕ} → ((st : State) (p : Program) → Closing w j want st p ≡ refuse a b c d e) → ClosedNo w at left want a b c d e
  until_no h c st ends p = closed c st ends p ∙ h (st T.g (get_or w (j + 4) 0) (get_or w (j + 5) 0)) p

  pub until_of_terms : {j' m' : ℕ} → ClosesAt w j m want j' m' → UntilAt w B B' at n q left want j' m'
  until_of_terms K = record {
    g = T.g;
    closed = record {
      a = get_or w (j + 4) 0;
      e = get_or w (j + 5) 0;
      on = let a = T.on in let b = K.next in omega arith;
      first = T.first;
      last = K.last;
      means = λ c st ends p. closed c st ends p ∙ K.means (st T.g (get_or w (j + 4) 0) (get_or w (j + 5) 0)) p;
    };
    few = let a = T.few in let b = K.next in let d = K.rows in omega arith;
    rows = T.rows;
    count = K.rows ∙ T.count;
  }

-- ---- terms up to one of two kinds, with their row
module _ (n : ℕ) {w B B' : List ℕ} {at left also want j m : ℕ} (R : Ready w j) (T : TermsAt w B B' at (n + 1) n left j m) where
  turned : (c : Place) (st : Terms → State) (t : Turns left c also want st) (p : Program) →
      runs w at p (within left c t0) ≡ after w j p (closing want (either also (t.u T.g (tok w j) (after_from w j)) want (t.v T.g (tok w j) (after_from w j))) (tok w j) (after_from w j) (after_to w j))
  turned c st t p =
      T.means c p
      ∙ term_step w j R left c T.g NoTerm T.none p
      ∙ ap (λ (y : Step). after w j p y) (t.place T.g (tok w j) (after_from w j) (after_to w j))

  pub clause_no : {a b c d e : ℕ} → ((u v : Step) (p : Program) → after w j p (closing want (either also u want v) (tok w j) (after_from w j) (after_to w j)) ≡ refuse a b c d e) →
      ClauseNo w at left also want a b c d e
  clause_no h c st t p = turned c st t p ∙ h (t.u T.g (tok w j) (after_from w j)) (t.v T.g (tok w j) (after_from w j)) p

  pub clause_of_terms : {B'' : List ℕ} {q : ℕ} → Joint w j also want → B'' ≡ w_terms T.g n q B → ClauseAt w B B'' at n q left also want j m
  clause_of_terms {B''} joint put = record {
    g = T.g;
    on = T.on;
    few = T.few;
    rows = put;
    count = T.count;
    last = T.last;
    joint = joint;
    means = λ c st t p. turned c st t p
        ∙ ap (λ (y : Step). after w j p y)
        (two_here w j also want (t.u T.g (tok w j) (after_from w j)) (t.v T.g (tok w j) (after_from w j)) _ _ joint
        ∙ sym (t.state T.g (tok w j) (after_from w j) (after_to w j)))
        ∙ sym (run_at_lem w j R (st T.g) p);
  }

-- ---- a bracket
module _ {w : List ℕ} {at left : ℕ} (R : Ready w at) (begun : term_at w at ≡ Bracket) (some : left ≡ 0 → ⊥) where
  abbrev bracketed : Place → Terms → Terms → ℕ → State
  bracketed x f g e = within (suc (left - 1)) x (t_more f (bracket (get_or w (at + 4) 0) g e))

  pub bracket_no : {a b c d e : ℕ} → ClosedNo w (at + 6) (left - 1) tok_r_paren a b c d e → (x : Place) (f : Terms) → Refuses w at (within left x f) a b c d e
  bracket_no h x f p =
      bracket_open w at R left x f begun some p
      ∙ h (in_bracket x f (get_or w (at + 4) 0)) (λ (g : Terms) (a e : ℕ). bracketed x f g e) (λ h t y z. refl) p

  pub bracket_of_terms : (n : ℕ) {B B₁ B₂ : List ℕ} {q j m from to : ℕ} → UntilAt w B B₁ (at + 6) (n + 1) n (left - 1) tok_r_paren j m → from ≡ get_or w (at + 4) 0 → to ≡ end_before w j →
      B₂ ≡ put_node B₁ n (span_row node_bracket from to m q) → TermGot w B B₂ at n q left j m
  bracket_of_terms n {B} {B₁} {B₂} {q} {j} {m} {from} {to} U s e put = record {
    x = bracket (get_or w (at + 4) 0) U.g U.closed.e;
    on = let h = U.closed.on in omega arith;
    few = U.few;
    rows = whole_bracket _ _ n U.g U.count q B (let h = U.rows in let l = U.closed.last in cc);
    count = size_bracket _ _ n U.g U.count;
    first = refl;
    last = U.closed.last;
    means = λ x f p. bracket_open w at R left x f begun some p
        ∙ U.closed.means (in_bracket x f (get_or w (at + 4) 0)) (λ (g : Terms) (a e : ℕ). bracketed x f g e) (λ h t y z. refl) p
        ∙ leveled w j left (λ (d : ℕ). within d x (t_more f (bracket (get_or w (at + 4) 0) U.g U.closed.e))) some p;
  }

-- ---- a call, whose name stands after its `<`
module _ {w : List ℕ} {at left : ℕ} (R : Ready w at) (begun : term_at w at ≡ Call) (some : left ≡ 0 → ⊥) (R' : Ready w (at + 6)) (name : get_or w (at + 6) 0 ≡ tok_identifier) where
  abbrev called : Place → Terms → Terms → ℕ → State
  called x f g e = within (suc (left - 1)) x (t_more f (call (get_or w (at + 4) 0) (get_or w (at + 6 + 2) 0) (get_or w (at + 6 + 3) 0) g e))

  abbrev inside : Place → Terms → Place
  inside x f = in_call x f (get_or w (at + 4) 0) (get_or w (at + 6 + 2) 0) (get_or w (at + 6 + 3) 0)

  opened : (x : Place) (f : Terms) → Same w at (within left x f) (at + 6 + 6) (within (left - 1) (inside x f) t0)
  opened x f p = call_open w at R left x f begun some p ∙ call_name w (at + 6) R' (left - 1) x f (get_or w (at + 4) 0) name p

  pub call_no : {a b c d e : ℕ} → ClosedNo w (at + 6 + 6) (left - 1) tok_r_angle a b c d e → (x : Place) (f : Terms) → Refuses w at (within left x f) a b c d e
  call_no h x f p = opened x f p ∙ h (inside x f) (λ (g : Terms) (a e : ℕ). called x f g e) (λ h t y z. refl) p

  pub call_of_terms : (n : ℕ) {B B₁ B₂ : List ℕ} {q j m start len from to : ℕ} → UntilAt w B B₁ (at + 6 + 6) (n + 1) n (left - 1) tok_r_angle j m →
      start ≡ get_or w (at + 6 + 2) 0 → len ≡ get_or w (at + 6 + 3) 0 → from ≡ get_or w (at + 4) 0 → to ≡ end_before w j →
      B₂ ≡ put_node B₁ n (node node_call 0 start len from to m q) → TermGot w B B₂ at n q left j m
  call_of_terms n {B} {B₁} {B₂} {q} {j} {m} {start} {len} {from} {to} U s l a e put = record {
    x = call (get_or w (at + 4) 0) (get_or w (at + 6 + 2) 0) (get_or w (at + 6 + 3) 0) U.g U.closed.e;
    on = let h = U.closed.on in omega arith;
    few = U.few;
    rows = whole_call _ _ n U.g U.count q _ _ B (let h = U.rows in let k = U.closed.last in cc);
    count = size_call _ _ n U.g U.count _ _;
    first = refl;
    last = U.closed.last;
    means = λ x f p. opened x f p
        ∙ U.closed.means (inside x f) (λ (g : Terms) (a e : ℕ). called x f g e) (λ h t y z. refl) p
        ∙ leveled w j left (λ (d : ℕ). within d x (t_more f (call (get_or w (at + 4) 0) (get_or w (at + 6 + 2) 0) (get_or w (at + 6 + 3) 0) U.g U.closed.e))) some p;
  }
