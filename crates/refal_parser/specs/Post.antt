-- Parts of the contracts of the parser's functions: answers, and the machine at a word.
use Rattle.std.specs.Prelude.{◌≡◌, ℕ, ◌+◌, List, get_or}
use Rattle.refal_ast.specs.Tree.{Program}
use Rattle.refal_ast.specs.Limits.{most_levels}
use Rattle.refal_parser.specs.Machine.{State, Outcome, refuse, Step, follow, run}
use Rattle.refal_parser.specs.Ready.{rest, after_from, after_to}
use Rattle.refal_parser.specs.Got.{Got, At, No}

-- what holds of an answer, by what it is: a place is one in the tokens w
pub record Cases (w : List ℕ) (r : Got) (P : ℕ → ℕ → Type 0) (Q : ℕ → ℕ → ℕ → ℕ → ℕ → Type 0) : Type 0 where
  pub same : (u : List ℕ) (j m : ℕ) → r ≡ At u j m → u ≡ w
  pub at : (u : List ℕ) (j m : ℕ) → r ≡ At u j m → P j m
  pub no : (a b c d e : ℕ) → r ≡ No a b c d e → Q a b c d e

-- the machine from word i on, after the items p, in the state st
abbrev pub runs : List ℕ → ℕ → Program → State → Outcome
runs w i p st = run most_levels (rest w i) p st

-- from word i on in the state st it comes to the same as from word j on in the state st'
abbrev pub Same : List ℕ → ℕ → State → ℕ → State → Type 0
Same w i st j st' = (p : Program) → runs w i p st ≡ runs w j p st'

-- from word i on in the state st it comes to a refusal
abbrev pub Refuses : List ℕ → ℕ → State → ℕ → ℕ → ℕ → ℕ → ℕ → Type 0
Refuses w i st a b c d e = (p : Program) → runs w i p st ≡ refuse a b c d e

-- what comes of the step x where the next token is at word j, and of the step x at the token at word i
abbrev pub leads : List ℕ → ℕ → Program → Step → Outcome
leads w j p x = follow p x (λ p' st. runs w j p' st)

abbrev pub after : List ℕ → ℕ → Program → Step → Outcome
after w i p x = leads w (i + 6) p x

-- a token of one of two kinds stands at word j
abbrev pub Joint : List ℕ → ℕ → ℕ → ℕ → Type 0
Joint w j also want = (get_or w j 0 ≡ also → ⊥) → get_or w j 0 ≡ want

-- a refusal that shows the token after the one at word i, and one that shows the one at word i
abbrev pub taken_at : List ℕ → ℕ → ℕ → ℕ → Got
taken_at w i number want = No number want (get_or w i 0) (after_from w i) (after_to w i)

abbrev pub present_at : List ℕ → ℕ → ℕ → ℕ → Got
present_at w i number want = No number want (get_or w i 0) (get_or w (i + 4) 0) (get_or w (i + 5) 0)
