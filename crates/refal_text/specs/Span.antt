-- How many bytes of a class stand at the front of a list of bytes.
use Rattle.std.specs.Prelude.{ℕ, suc, Bool, List, [], ◌∷◌}
use Rattle.refal_text.specs.Pick.{pick}

abbrev pub span : (ℕ → Bool) → List ℕ → ℕ
span p [] = 0
span p (b ∷ s) = pick (p b) (suc (span p s)) 0
