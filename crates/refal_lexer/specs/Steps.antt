-- What putting tokens answers, and what it leaves in the words.
use Rattle.std.specs.Prelude.{ℕ, ◌+◌, Bool, false, List, length, ltb, eqb}
use Rattle.refal_ast.specs.Answers.{refusal, Answer, Done, Refused}
use Rattle.refal_lexer.specs.Puts.{put_tokens}
use Rattle.refal_lexer.specs.declared.Cursor.{Cursor}
use Rattle.refal_lexer.specs.Scans.{Step, On, Stop, Scan}
use Rattle.refal_text.specs.Pick.{pick}
use Rattle.refal_lexer.specs.Literals.{Lit, closed, newline, unclosed}
use Rattle.refal_lexer.specs.Tokens.{Found, found, refused, one}

abbrev pub cursor : ℕ → ℕ → Bool → Cursor
cursor at row line = record { at = at; row = row; line = line }

-- behind the tokens found, which start at row `row`: their end, the row behind them, and no line's start
abbrev pub step_of : Found → ℕ → Step
step_of (found ts end) row = On (cursor end (row + length ts) false)
step_of (refused number start end) row = Stop number start end

abbrev pub rows_of : Found → List ℕ → ℕ → List ℕ
rows_of (found ts end) rows row = put_tokens rows row ts
rows_of (refused number start end) rows row = rows

abbrev pub answer_of : Step → Answer
answer_of (On c) = Done c.row
answer_of (Stop number start end) = Refused (refusal number 0 0 start end 0)

abbrev pub stop_of : Scan → ℕ → Step
stop_of s row = step_of (one s) row

-- a literal's close, after n characters and len bytes
abbrev pub close_of : ℕ → ℕ → ℕ → ℕ → Step
close_of at row n len = pick (ltb 255 n) (Stop 20 at (at + len)) (pick (eqb n 0) (Stop 21 at (at + len)) (On (cursor (at + len) (row + n) false)))

abbrev pub end_of : ℕ → ℕ → Lit → Step
end_of at row (closed n len) = close_of at row n len
end_of at row (newline len) = Stop 22 at (at + len)
end_of at row (unclosed len) = Stop 23 at (at + len)
