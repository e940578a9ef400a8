-- The code's states, in the numbers of States.
use Rattle.std.specs.Prelude.{◌≡◌, ℕ, ◌≤◌, ◌<◌, Bool, true, false, Option, MatchOption, Result, MatchResult, eqb, refl}
use Rattle.std.proofs.Common.{arith, ne_eqb, lit≤}
use Rattle.refal_ast.specs.Kinds.{node_call}
use Rattle.refal_tree.specs.States.{at_items, at_name, at_names, at_sentences, at_pattern, at_conditions, at_condition, at_colon, at_terms, at_argument, at_ending, closed, may_stand, state_next, pick_state}
use Rattle.refal_tree.specs.Forest.{Row}
use Rattle.refal_tree.specs.Rules.{row_ok}
use Rattle.refal_tree.specs.declared.states.UnknownState.{UnknownState}
use Rattle.refal_tree.specs.declared.states.State.{State}
use Rattle.refal_tree.specs.declared.states.State.TheVariants as state

abbrev pub state_code : State → ℕ
state_code state.Items = at_items
state_code state.Name = at_name
state_code state.Names = at_names
state_code state.Sentences = at_sentences
state_code state.Pattern = at_pattern
state_code state.Conditions = at_conditions
state_code state.Condition = at_condition
state_code state.Colon = at_colon
state_code state.Terms = at_terms
state_code state.Argument = at_argument
state_code state.Ending = at_ending
state_code state.Closed = closed

-- the result is the state with this number, or an error with a word that is the number of no state
abbrev pub DecodesState : ℕ → Result State UnknownState → Type 0
DecodesState word r = MatchResult r (λ state. state_code state ≡ word) (λ e. (e.0 ≡ word) × (1 ≤ word → closed < word))

-- the result is the state after a row of the kind k and the detail d in the state st, and None where no such row may stand
abbrev pub Follows : ℕ → ℕ → ℕ → Option State → Type 0
Follows st k d r = MatchOption r (may_stand st k ≡ false) (λ s. (may_stand st k ≡ true) × (state_code s ≡ state_next st k d))

-- the result is the state after the row r in the state st, so many levels being left, and None where it may not stand there
abbrev pub Stands : ℕ → ℕ → Row → Option State → Type 0
Stands st left r o = MatchOption o (row_ok st left r ≡ false) (λ s. (row_ok st left r ≡ true) × (state_code s ≡ state_next st r.kind r.detail))

-- ---- a word that is the number of no kind
pick_same : (b : Bool) (x : ℕ) → pick_state b x x ≡ x
pick_same true x = refl
pick_same false x = refl

-- it is not that of a kind
pub not_kind : (k : ℕ) → (1 ≤ k → node_call < k) → (m : ℕ) → 1 ≤ m → m ≤ node_call → eqb k m ≡ false
not_kind k h m lo hi = ne_eqb k m (λ e. omega arith)

pub no_kind : (st k : ℕ) → (1 ≤ k → node_call < k) → may_stand st k ≡ false
no_kind st k h =
    let n : (m : ℕ) → 1 ≤ m → m ≤ node_call → eqb k m ≡ false = not_kind k h in
    simp (n 1 (lit≤ tt) (lit≤ tt), n 2 (lit≤ tt) (lit≤ tt), n 3 (lit≤ tt) (lit≤ tt), n 4 (lit≤ tt) (lit≤ tt), n 5 (lit≤ tt) (lit≤ tt), n 6 (lit≤ tt) (lit≤ tt), n 7 (lit≤ tt) (lit≤ tt), n 8 (lit≤ tt) (lit≤ tt), n 9 (lit≤ tt) (lit≤ tt), n 10 (lit≤ tt) (lit≤ tt), n 11 (lit≤ tt) (lit≤ tt), n 12 (lit≤ tt) (lit≤ tt), n 13 (lit≤ tt) (lit≤ tt), n 14 (lit≤ tt) (lit≤ tt), pick_same)
