-- An answer as the seven words that C and Rust see.
use Rattle.std.specs.Prelude.{ℕ, List, [], ◌∷◌}
use Rattle.refal_ast.specs.Answers.{Answer, Done, Refused}

-- refusal number (0: done), count, expected, found, span start, span end, need
abbrev pub answer_words : Answer → List ℕ
answer_words (Done n) = 0 ∷ n ∷ 0 ∷ 0 ∷ 0 ∷ 0 ∷ 0 ∷ []
answer_words (Refused r) = r.number ∷ 0 ∷ r.expected ∷ r.found ∷ r.start ∷ r.end ∷ r.need ∷ []
