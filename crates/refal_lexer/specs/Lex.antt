-- What reading gives: tokens, and how it stops.
use Rattle.std.specs.Prelude.{ℕ, List, [], ◌∷◌, ◌++◌, length}
use Rattle.refal_ast.specs.Kinds.{tok_eof}
use Rattle.refal_ast.specs.Answers.{refusal, Answer, Done, Refused}
use Rattle.refal_ast.specs.Tokens.{Token, token}

-- how reading stops: at the end, or with a refusal's number and span
pub data Stop : Type 0 where
  fine : Stop
  bad : ℕ → ℕ → ℕ → Stop

pub record Out : Type 0 where
  pub tokens : List Token
  pub stop : Stop

abbrev pub more : Token → Out → Out
more t o = record { tokens = t ∷ o.tokens; stop = o.stop }

abbrev pub more_all : List Token → Out → Out
more_all ts o = record { tokens = ts ++ o.tokens; stop = o.stop }

abbrev pub stop_bad : ℕ → ℕ → ℕ → Out
stop_bad number from to = record { tokens = []; stop = bad number from to }

abbrev pub eof_at : ℕ → Out
eof_at at = record { tokens = token tok_eof 0 0 0 at at ∷ []; stop = fine }

abbrev pub stopped : Stop → ℕ → Answer
stopped fine n = Done n
stopped (bad number from to) n = Refused (refusal number 0 0 from to 0)

abbrev pub stop_answer : Out → Answer
stop_answer o = stopped o.stop (length o.tokens)
