-- Character boundaries, and what it is to stand on them: a token, what reading gives, what it answers. That they do: ReadBoundaries.
use Rattle.std.specs.Prelude.{ℕ, suc, ◌+◌, ◌*◌, List, [], ◌∷◌, ◌≡◌, length, take, drop}
use Rattle.refal_text.specs.Utf8.{decode, well_to}
use Rattle.refal_ast.specs.Tokens.{Token, tokens_of}
use Rattle.refal_ast.specs.Answers.{Answer, Done, Refused}
use Rattle.refal_lexer.specs.Lex.{Stop, fine, bad, Out}

-- an offset of s that is reached from 0 by whole characters: 0, or past the character at the front of s, of n + 1 bytes, a boundary of what stands behind it
pub data Boundary : List ℕ → ℕ → Type 0 where
  first : {s : List ℕ} → Boundary s 0
  later : {s : List ℕ} {i : ℕ} (n : ℕ) → (decode s).len ≡ suc n → Boundary (drop (suc n) s) i → Boundary s (suc n + i)

-- all of s is well-formed
abbrev pub Well : List ℕ → Type 0
Well s = well_to 0 s ≡ length s

-- a token's span, and its text, which is 0 and 0 where it has none
pub record OnBoundaries (s : List ℕ) (t : Token) : Type 0 where
  pub from : Boundary s t.from
  pub to : Boundary s t.to
  pub start : Boundary s t.start
  pub end : Boundary s (t.start + t.len)

pub data AllOn (s : List ℕ) : List Token → Type 0 where
  all_none : AllOn s []
  all_more : {t : Token} {ts : List Token} → OnBoundaries s t → AllOn s ts → AllOn s (t ∷ ts)

-- the span of the refusal that stops the reading
abbrev pub StopOn : List ℕ → Stop → Type 0
StopOn s fine = Unit {0}
StopOn s (bad number from to) = Boundary s from × Boundary s to

pub record OutOn (s : List ℕ) (o : Out) : Type 0 where
  pub tokens : AllOn s o.tokens
  pub stop : StopOn s o.stop

-- an answer: the rows left, and s is then well-formed; or the refusal's span
abbrev pub AnswerOn : List ℕ → List ℕ → Answer → Type 0
AnswerOn s rows (Done n) = Well s × AllOn s (tokens_of (take (6 * n) rows))
AnswerOn s rows (Refused r) = Boundary s r.start × Boundary s r.end
