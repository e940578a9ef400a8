-- One of two things, by a test.
use Rattle.std.specs.Prelude.{Bool, true, false, ◌≡◌, refl}

abbrev pub pick : {A : Type 0} → Bool → A → A → A
pick true a b = a
pick false a b = b

-- what holds of both, each where it is picked, holds of what is picked
pub split : {A : Type 0} (P : A → Type 0) (t : Bool) (x y : A) → (t ≡ true → P x) → (t ≡ false → P y) → P (pick t x y)
split P true x y f g = f refl
split P false x y f g = g refl
