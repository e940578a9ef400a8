-- The variables of both files, after all of 60 and 61 (02, card 5): none may be used unbound.
use Rattle.std.specs.Prelude.{ℕ, List, Option, None, Some}
use Rattle.refal_ast.specs.Nodes.{node_at}
use Rattle.refal_ast.specs.Answers.{refusal, Answer, Done, Refused}
use Rattle.refal_bound.specs.Bound.{first_unbound}

-- the row of such a variable, if there is one
abbrev pub Found : Type 0
Found = Option ℕ

-- 62, shown at the first variable of a file that is used unbound, if there is one
abbrev pub shown_unbound : ℕ → List ℕ → Found → Answer → Answer
shown_unbound file w None rest = rest
shown_unbound file w (Some u) rest = Refused (refusal 62 0 file (node_at w u).from (node_at w u).to 0)

abbrev pub bound : ℕ → List ℕ → List ℕ → Answer → Answer
bound file w src rest = shown_unbound file w (first_unbound w src) rest

-- where the calls are resolved, file one's variables, then file two's
abbrev pub both_bound : List ℕ → List ℕ → List ℕ → List ℕ → Answer → Answer
both_bound w₁ s₁ w₂ s₂ (Done n) = bound 1 w₁ s₁ (bound 2 w₂ s₂ (Done n))
both_bound w₁ s₁ w₂ s₂ (Refused r) = Refused r
