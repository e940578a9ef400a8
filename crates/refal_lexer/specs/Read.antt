-- Reading: the answer, and the words that it leaves.
use Rattle.std.specs.Prelude.{ℕ, ◌*◌, ◌/◌, List, ◌++◌, leb, ltb, length, drop, replicate}
use Rattle.refal_text.specs.Pick.{pick}
use Rattle.refal_text.specs.Utf8.{well_to}
use Rattle.refal_ast.specs.Answers.{refusal, Answer, Done, Refused}
use Rattle.refal_ast.specs.Tokens.{Token, flat}
use Rattle.refal_lexer.specs.Lex.{Out, stop_answer}
use Rattle.refal_lexer.specs.Source.{source}

-- 25: more tokens than rows
abbrev pub fitted : Answer → ℕ → Answer
fitted (Done n) room = pick (leb n room) (Done n) (Refused (refusal 25 0 0 0 0 n))
fitted (Refused r) room = Refused r

-- 1: too long; 2: not UTF-8; then what stops the reading o of s, or the number of its tokens
abbrev pub answer_by : Out → List ℕ → ℕ → Answer
answer_by o s words =
    pick (ltb 16777216 (length s)) (Refused (refusal 1 0 0 0 0 0))
    (pick (ltb (well_to 0 s) (length s)) (Refused (refusal 2 0 0 (well_to 0 s) (well_to 0 s) 0))
    (fitted (stop_answer o) (words / 6)))

-- the words lent: the tokens' rows, and behind them what was there; all 0 on a refusal
abbrev pub kept : Answer → List Token → List ℕ → List ℕ
kept (Done n) ts old = flat ts ++ drop (6 * n) old
kept (Refused r) ts old = replicate (length old) 0

abbrev pub rows_by : Out → List ℕ → List ℕ → List ℕ
rows_by o s m = kept (answer_by o s (length m)) o.tokens m

abbrev pub read_answer : List ℕ → ℕ → Answer
read_answer s words = answer_by (source s) s words

abbrev pub read_rows : List ℕ → List ℕ → List ℕ
read_rows s m = rows_by (source s) s m
