-- Texts of spelled tokens, one token after another, and of none.
use Rattle.std.specs.Prelude.{ℕ, List, [], ◌∷◌, ◌++◌, ◌≡◌, refl}
use Rattle.std.proofs.Common.{sym}
use Rattle.refal_spelling.specs.Spell.{Spelled, text}
use Rattle.refal_writer.specs.Puts.{Puts}
use Rattle.refal_writer.specs.Token.{text_append}

-- one token and then others
pub opened : (t : Spelled) (us : List Spelled) → text (t ∷ []) ++ text us ≡ text (t ∷ us)
opened t us = sym (text_append (t ∷ []) us)

-- no tokens
pub empty_puts : (o : List ℕ) → Puts (text []) 0 o o
unfolding text
empty_puts o = record { count = refl; bytes = refl }
