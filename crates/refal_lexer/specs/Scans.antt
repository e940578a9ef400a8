-- What the scans give: a token or a refusal's number and span, what stands before a token, and what putting tokens answers.
use Rattle.std.specs.Prelude.{ℕ, Bool}
use Rattle.refal_lexer.specs.declared.Cursor.{Cursor}

-- a token, by its kind, detail, the start and length of its text, and its span; or a refusal's number and span
pub data Scan : Type 0 where
  Token : ℕ → ℕ → ℕ → ℕ → ℕ → ℕ → Scan
  Bad : ℕ → ℕ → ℕ → Scan

-- a comment of so many bytes; or none, or one that is open, without an end
pub data Comment : Type 0 where
  Long : ℕ → Comment
  Bare : Bool → Comment

-- a token's place, and whether a star would start a comment there; or the span of a block comment without an end
pub data Blank : Type 0 where
  Past : ℕ → Bool → Blank
  Open : ℕ → ℕ → Blank

-- where reading goes on, or a refusal's number and span
pub data Step : Type 0 where
  On : Cursor → Step
  Stop : ℕ → ℕ → ℕ → Step
