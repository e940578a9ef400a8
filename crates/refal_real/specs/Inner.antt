-- What the laws of the inner functions speak of: where a real's parts stand, and by how much its exponent moves the power.
use Rattle.std.specs.Prelude.{ℕ, Bool}

-- its whole digits from `from` up to `whole`, its fraction's, behind the point, up to `to`, and its exponent up to its end
pub record Places : Type 0 where
  pub from : ℕ
  pub whole : ℕ
  pub to : ℕ

pub data Spelled : Type 0 where
  Real : Places → Spelled
  Other : Spelled

-- whether a power of ten goes down, and by how much it goes; or that the digits, leading zeros aside, are more than 9
pub data Scale : Type 0 where
  By : Bool → ℕ → Scale
  Over : Scale
