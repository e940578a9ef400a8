-- UTF-8 by Unicode's table 3-7: the character at the front of a list of bytes, and how far the bytes are well-formed.
use Rattle.std.specs.Prelude.{ℕ, zero, suc, ◌+◌, ◌-◌, ◌*◌, Bool, ◌&&◌, List, [], ◌∷◌, leb, ltb, eqb, get_or}
use Rattle.refal_text.specs.Pick.{pick}
use Rattle.refal_text.specs.declared.Char.{Char}

abbrev pub char : ℕ → ℕ → Char
char x n = record { code = x; len = n }

-- no character
abbrev pub ill : Char
ill = char 0 0

abbrev pub ascii : ℕ → Bool
ascii b = ltb b 128

-- a byte that continues a character
abbrev pub cont : ℕ → Bool
cont b = leb 128 b && leb b 191

-- how many one bits a byte begins with
abbrev pub leads : ℕ → ℕ
leads a =
    pick (ltb a 128) 0
    (pick (ltb a 192) 1
    (pick (ltb a 224) 2
    (pick (ltb a 240) 3
    (pick (ltb a 248) 4
    (pick (ltb a 252) 5
    (pick (ltb a 254) 6
    (pick (ltb a 255) 7
    8)))))))

-- the second byte that table 3-7 has after the lead byte a: after E0, ED, F0 and F4 fewer than after the others
abbrev pub second : ℕ → ℕ → Bool
second a b =
    pick (eqb a 224) (leb 160 b && leb b 191)
    (pick (eqb a 237) (leb 128 b && leb b 159)
    (pick (eqb a 240) (leb 144 b && leb b 191)
    (pick (eqb a 244) (leb 128 b && leb b 143)
    (leb 128 b && leb b 191))))

-- the code points that the bits of two, three and four bytes spell
abbrev pub code2 : ℕ → ℕ → ℕ
code2 a b = (a - 192) * 64 + (b - 128)

abbrev pub code3 : ℕ → ℕ → ℕ → ℕ
code3 a b c = (a - 224) * 4096 + (b - 128) * 64 + (c - 128)

abbrev pub code4 : ℕ → ℕ → ℕ → ℕ → ℕ
code4 a b c d = (a - 240) * 262144 + (b - 128) * 4096 + (c - 128) * 64 + (d - 128)

-- the table's rows of two bytes (lead byte C2 to DF), three (E0 to EF) and four (F0 to F4), where the lead byte says how many
abbrev pub well2 : ℕ → ℕ → Bool
well2 a b = leb 194 a && cont b

abbrev pub well3 : ℕ → ℕ → ℕ → Bool
well3 a b c = second a b && cont c

abbrev pub well4 : ℕ → ℕ → ℕ → ℕ → Bool
well4 a b c d = (leb a 244 && second a b) && (cont c && cont d)

abbrev pub two : ℕ → ℕ → Char
two a b = pick (well2 a b) (char (code2 a b) 2) ill

abbrev pub three : ℕ → ℕ → ℕ → Char
three a b c = pick (well3 a b c) (char (code3 a b c) 3) ill

abbrev pub four : ℕ → ℕ → ℕ → ℕ → Char
four a b c d = pick (well4 a b c d) (char (code4 a b c d) 4) ill

abbrev pub by_lead : ℕ → ℕ → ℕ → ℕ → ℕ → Char
by_lead n a b c d =
    pick (eqb n 0) (char a 1)
    (pick (eqb n 2) (two a b)
    (pick (eqb n 3) (three a b c)
    (pick (eqb n 4) (four a b c d)
    ill)))

abbrev pub char_of : ℕ → ℕ → ℕ → ℕ → Char
char_of a b c d = by_lead (leads a) a b c d

-- the character at the front of s; a length of 0 says that none is there. A byte that is missing counts as 0, which continues nothing
unfoldable pub decode : List ℕ → Char
decode [] = ill
decode (b ∷ s) = char_of b (get_or s 0 0) (get_or s 1 0) (get_or s 2 0)

-- how many bytes of s are well-formed, after `skip` more bytes of a character
abbrev pub go_on : ℕ → (ℕ → ℕ) → ℕ
go_on zero f = 0
go_on (suc n) f = suc (f n)

unfoldable pub well_to : ℕ → List ℕ → ℕ
well_to skip [] = 0
well_to zero (b ∷ s) = go_on (decode (b ∷ s)).len (λ k. well_to k s)
well_to (suc k) (b ∷ s) = suc (well_to k s)
