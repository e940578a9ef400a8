-- Contracts of the functions that parse terms. They begin at the place p: at the word `at` of the tokens w, with row n, under the parent q; an answer gives the word j and the row m after.
use Rattle.std.specs.Prelude.{◌≡◌, ℕ, ◌+◌, ◌≤◌, ◌<◌, Bool, true, false, List, length, get_or, Result}
use Rattle.refal_ast.specs.Kinds.{tok_colon}
use Rattle.refal_ast.specs.Limits.{most_levels}
use Rattle.refal_ast.specs.Tokens.{Token}
use Rattle.refal_ast.specs.Tree.{Term, Terms, t0, t_more, Program, size_term, size_t}
use Rattle.refal_parser.specs.Begins.{NoTerm}
use Rattle.refal_parser.specs.Machine.{Argument, Place, State, within, Outcome, refuse, Step, expected, among, closing, only, either, start_term, end_term, first_start, last_end, asked, end_of, step}
use Rattle.refal_parser.specs.Ready.{tok, term_at, after_from, after_to, end_before, Few}
use Rattle.refal_parser.specs.Writers.{w_term, w_t, w_terms}
use Rattle.refal_parser.specs.Post.{Cases, runs, Same, Refuses, after, Joint}
use Rattle.refal_parser.specs.Got.{got_told, kept_told}
use Rattle.refal_parser.specs.declared.place.Place.{Place as ThePlace}
use Rattle.refal_parser.specs.declared.place.Level.{Level}
use Rattle.refal_parser.specs.declared.answers.SyntaxError.{SyntaxError}

-- ---- terms up to a token that begins none
pub record TermsAt (w B B' : List ℕ) (at n q left j m : ℕ) : Type 0 where
  pub g : Terms
  pub none : term_at w j ≡ NoTerm
  pub on : at ≤ j
  pub few : Few m j 2
  pub rows : B' ≡ w_t g n q B
  pub count : m ≡ n + size_t g
  pub first : first_start g (get_or w (j + 4) 0) ≡ get_or w (at + 4) 0
  pub last : last_end g (end_before w at) ≡ end_before w j
  pub means : (c : Place) → Same w at (within left c t0) j (within left c g)

-- a refusal in terms, whatever they stand in
abbrev pub TermsNo : List ℕ → ℕ → ℕ → ℕ → ℕ → ℕ → ℕ → ℕ → Type 0
TermsNo w at left a b c d e = (x : Place) → Refuses w at (within left x t0) a b c d e

abbrev pub TermsPost : ThePlace → List ℕ → List ℕ → Level → Result ThePlace SyntaxError → Type 0
TermsPost p B B' l r = Cases p.tokens.now (got_told r) (TermsAt p.tokens.now B B' p.at p.row l.parent l.left) (TermsNo p.tokens.now p.at l.left)

-- its loop
pub record TermsInv (w B B' : List ℕ) (at n q left i m : ℕ) : Type 0 where
  pub g : Terms
  pub on : at ≤ i
  pub few : Few m i 2
  pub same : length B' ≡ length B
  pub rows : B' ≡ w_t g n q B
  pub count : m ≡ n + size_t g
  pub first : first_start g (get_or w (i + 4) 0) ≡ get_or w (at + 4) 0
  pub last : last_end g (end_before w at) ≡ end_before w i
  pub means : (c : Place) → Same w at (within left c t0) i (within left c g)

-- ---- the kind that closes terms
abbrev pub Closing : List ℕ → ℕ → ℕ → State → Program → Outcome
Closing w at want st p = after w at p (closing want (only want st) (tok w at) (after_from w at) (after_to w at))

pub record ClosesAt (w : List ℕ) (at m want j m' : ℕ) : Type 0 where
  pub next : j ≡ at + 6
  pub rows : m' ≡ m
  pub last : get_or w (at + 5) 0 ≡ end_before w j
  pub means : (st : State) (p : Program) → Closing w at want st p ≡ runs w j p st

abbrev pub ClosesNo : List ℕ → ℕ → ℕ → ℕ → ℕ → ℕ → ℕ → ℕ → Type 0
ClosesNo w at want a b c d e = (st : State) (p : Program) → Closing w at want st p ≡ refuse a b c d e

abbrev pub ClosesPost : ThePlace → ℕ → Result ThePlace SyntaxError → Type 0
ClosesPost p want r = Cases p.tokens.now (got_told r) (ClosesAt p.tokens.now p.at p.row want) (ClosesNo p.tokens.now p.at want)

-- ---- terms and the kind that closes them: a place c whose terms f, closed by a token with the span a, e, lead to the state st f a e
abbrev pub Ends : ℕ → Place → ℕ → (Terms → ℕ → ℕ → State) → Type 0
Ends left c want st = (f : Terms) (t : Token) (x y : ℕ) → end_of left c f t x y ≡ closing want (only want (st f t.from t.to)) t x y

pub record Closed (w : List ℕ) (at left want : ℕ) (g : Terms) (j : ℕ) : Type 0 where
  pub a : ℕ
  pub e : ℕ
  pub on : at < j
  pub first : first_start g a ≡ get_or w (at + 4) 0
  pub last : e ≡ end_before w j
  pub means : (c : Place) (st : Terms → ℕ → ℕ → State) → Ends left c want st → Same w at (within left c t0) j (st g a e)

abbrev pub ClosedNo : List ℕ → ℕ → ℕ → ℕ → ℕ → ℕ → ℕ → ℕ → ℕ → Type 0
ClosedNo w at left want a b c d e =
    (x : Place) (st : Terms → ℕ → ℕ → State) → Ends left x want st → Refuses w at (within left x t0) a b c d e

pub record UntilAt (w B B' : List ℕ) (at n q left want j m : ℕ) : Type 0 where
  pub g : Terms
  pub closed : Closed w at left want g j
  pub few : Few m j 0
  pub rows : B' ≡ w_t g n q B
  pub count : m ≡ n + size_t g

abbrev pub UntilPost : ThePlace → List ℕ → List ℕ → Level → ℕ → Result ThePlace SyntaxError → Type 0
UntilPost p B B' l want r = Cases p.tokens.now (got_told r) (UntilAt p.tokens.now B B' p.at p.row l.parent l.left want) (ClosedNo p.tokens.now p.at l.left want)

-- ---- an argument and its `:`, with a Terms row, row n: a place c whose terms, closed by `:`, lead to the state st
abbrev pub Asks : ℕ → Place → (Argument → State) → Type 0
Asks left c st = (f : Terms) (t : Token) (x y : ℕ) → end_of left c f t x y ≡ closing tok_colon (only tok_colon (st (asked f t.from t.to))) t x y

pub record ArgumentAt (w B B' : List ℕ) (at n q left j m : ℕ) : Type 0 where
  pub g : Argument
  pub on : at < j
  pub few : Few m j 0
  pub rows : B' ≡ w_terms g.terms n q B
  pub count : m ≡ n + 1 + size_t g.terms
  pub first : g.from ≡ get_or w (at + 4) 0
  pub last : g.to ≡ end_before w j
  pub means : (c : Place) (st : Argument → State) → Asks left c st → Same w at (within left c t0) j (st g)

abbrev pub ArgumentNo : List ℕ → ℕ → ℕ → ℕ → ℕ → ℕ → ℕ → ℕ → Type 0
ArgumentNo w at left a b c d e = (x : Place) (st : Argument → State) → Asks left x st → Refuses w at (within left x t0) a b c d e

abbrev pub ArgumentPost : ThePlace → List ℕ → List ℕ → Level → Result ThePlace SyntaxError → Type 0
ArgumentPost p B B' l r = Cases p.tokens.now (got_told r) (ArgumentAt p.tokens.now B B' p.at p.row l.parent l.left) (ArgumentNo p.tokens.now p.at l.left)

-- ---- a term, whose row is row n
pub record TermGot (w B B' : List ℕ) (at n q left j m : ℕ) : Type 0 where
  pub x : Term
  pub on : at < j
  pub few : Few m j 0
  pub rows : B' ≡ w_term x n q B
  pub count : m ≡ n + size_term x
  pub first : start_term x ≡ get_or w (at + 4) 0
  pub last : end_term x ≡ end_before w j
  pub means : (c : Place) (f : Terms) → Same w at (within left c f) j (within left c (t_more f x))

abbrev pub TermNo : List ℕ → ℕ → ℕ → ℕ → ℕ → ℕ → ℕ → ℕ → Type 0
TermNo w at left a b c d e = (x : Place) (f : Terms) → Refuses w at (within left x f) a b c d e

abbrev pub TermPost : ThePlace → List ℕ → List ℕ → Level → Result ThePlace SyntaxError → Type 0
TermPost p B B' l r = Cases p.tokens.now (got_told r) (TermGot p.tokens.now B B' p.at p.row l.parent l.left) (TermNo p.tokens.now p.at l.left)

-- ---- after terms or a block: one of two kinds
-- a refusal after terms, and after a block
pub record FollowsNo (w : List ℕ) (at : ℕ) (terms : Bool) (also want a b c x y : ℕ) : Type 0 where
  pub of_terms : terms ≡ true → (u v : Step) (p : Program) →
      after w at p (closing want (either also u want v) (tok w at) (after_from w at) (after_to w at)) ≡ refuse a b c x y
  pub of_block : terms ≡ false → (u v : Step) (p : Program) → after w at p (among (either also u want v) (tok w at) (expected want (tok w at))) ≡ refuse a b c x y

abbrev pub FollowsPost : ThePlace → Bool → ℕ → ℕ → Result (Unit {0}) SyntaxError → Type 0
FollowsPost p terms also want r = Cases p.tokens.now (kept_told p r) (λ j m. Joint p.tokens.now j also want) (FollowsNo p.tokens.now p.at terms also want)

-- ---- terms up to one of two kinds, with a Terms row, row n: a place c that its terms f leave by one of them, and a state that goes on by the same
pub record Turns (left : ℕ) (c : Place) (also want : ℕ) (st : Terms → State) : Type 0 where
  pub u : Terms → Token → ℕ → Step
  pub v : Terms → Token → ℕ → Step
  pub place : (f : Terms) (t : Token) (x y : ℕ) → end_of left c f t x y ≡ closing want (either also (u f t x) want (v f t x)) t x y
  pub state : (f : Terms) (t : Token) (x y : ℕ) → step most_levels (st f) t x y ≡ among (either also (u f t x) want (v f t x)) t (expected want t)

pub record ClauseAt (w B B' : List ℕ) (at n q left also want j m : ℕ) : Type 0 where
  pub g : Terms
  pub on : at ≤ j
  pub few : Few m j 2
  pub rows : B' ≡ w_terms g n q B
  pub count : m ≡ n + 1 + size_t g
  pub last : last_end g (end_before w at) ≡ end_before w j
  pub joint : Joint w j also want
  pub means : (c : Place) (st : Terms → State) → Turns left c also want st → Same w at (within left c t0) j (st g)

abbrev pub ClauseNo : List ℕ → ℕ → ℕ → ℕ → ℕ → ℕ → ℕ → ℕ → ℕ → ℕ → Type 0
ClauseNo w at left also want a b c d e = (x : Place) (st : Terms → State) → Turns left x also want st → Refuses w at (within left x t0) a b c d e

abbrev pub ClausePost : ThePlace → List ℕ → List ℕ → Level → ℕ → ℕ → Result ThePlace SyntaxError → Type 0
ClausePost p B B' l also want r = Cases p.tokens.now (got_told r) (ClauseAt p.tokens.now B B' p.at p.row l.parent l.left also want) (ClauseNo p.tokens.now p.at l.left also want)
