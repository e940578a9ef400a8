-- The letters of the kinds of variables.
use Rattle.std.specs.Prelude.{◌≡◌, ℕ, Result, MatchResult}
use Rattle.refal_ast.specs.Encode.{letter_of}
use Rattle.refal_ast.specs.declared.tree.VariableKind.{VariableKind}
use Rattle.refal_ast.specs.declared.tree.UnknownLetter.{UnknownLetter}

-- the result is the kind with this letter, or an error with a word that is the letter of no kind
abbrev pub DecodesLetter : ℕ → Result VariableKind UnknownLetter → Type 0
DecodesLetter letter r =
    MatchResult r (λ kind. letter_of kind ≡ letter) (λ e. (e.0 ≡ letter) × (letter ≡ 115 → ⊥) × (letter ≡ 116 → ⊥) × (letter ≡ 101 → ⊥))
