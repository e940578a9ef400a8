-- White space: the 25 code points with the Unicode property White_Space.
use Rattle.std.specs.Prelude.{ℕ, Bool, ◌&&◌, ◌||◌, leb, eqb}

abbrev pub white_space : ℕ → Bool
white_space x =
    (((((((((((leb 9 x && leb x 13)
    || eqb x 32)
    || eqb x 133)
    || eqb x 160)
    || eqb x 5760)
    || (leb 8192 x && leb x 8202))
    || eqb x 8232)
    || eqb x 8233)
    || eqb x 8239)
    || eqb x 8287)
    || eqb x 12288)
