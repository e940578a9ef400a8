-- A name's bucket: of names with equal canonical forms it is one and the same. Nothing else is promised of it.
use Rattle.std.specs.Prelude.{ℕ, ◌+◌, ◌*◌, ◌%◌, ◌/◌, ◌≤◌, ◌<◌, true, List, [], ◌∷◌, ◌≡◌, refl, length, drop, get_or}
use Rattle.std.proofs.Common.{ap, sym, arith, mul-lt-mul_of_pos_right, div-lt_iff_lt-mul, mod-lt, add-one, drop_of_length-le, drop-cons}
use Rattle.refal_ast.specs.Names.{name_byte, canonical_name, names_equal, names_equal_lem}

-- the bytes of the canonical form go into a number of 32 bits, the first byte first
abbrev pub mix : ℕ → ℕ → ℕ
mix x b = (x * 16777619 + b) % 4294967296

unfoldable pub hash_from : ℕ → List ℕ → ℕ
hash_from x [] = x
hash_from x (b ∷ s) = hash_from (mix x b) s

abbrev pub hash_of : List ℕ → ℕ
hash_of name = hash_from 2166136261 (canonical_name name)

-- the number is spread to its upper bits, which the count of buckets cuts
unfoldable pub bucket_of : ℕ → List ℕ → ℕ
bucket_of b name = hash_of name * 2654435769 % 4294967296 * b / 4294967296

-- ---- laws
pub equal_buckets : (b : ℕ) (key name : List ℕ) → names_equal key name ≡ true → bucket_of b name ≡ bucket_of b key
unfolding bucket_of
equal_buckets b key name e = ap (λ (s : List ℕ). hash_from 2166136261 s * 2654435769 % 4294967296 * b / 4294967296) (sym (names_equal_lem key name e))

-- the hashing loop: what is left from i on goes into the number
pub hash_step : (s : List ℕ) (i x : ℕ) → i < length s → hash_from (mix x (name_byte (get_or s i 0))) (canonical_name (drop (i + 1) s)) ≡ hash_from x (canonical_name (drop i s))
unfolding hash_from canonical_name
hash_step s i x l = rw (drop-cons s i 0 l, add-one i) refl

pub hash_end : (s : List ℕ) (i x : ℕ) → length s ≤ i → hash_from x (canonical_name (drop i s)) ≡ x
unfolding hash_from canonical_name
hash_end s i x l = rw (drop_of_length-le s l) refl

pub cut_below : (y b : ℕ) → y < 4294967296 → 0 < b → y * b / 4294967296 < b
cut_below y b h k =
    (div-lt_iff_lt-mul (let z : 0 < 4294967296 = omega arith in z)).1
    (let f : y * b < 4294967296 * b = mul-lt-mul_of_pos_right h k in let z : y * b < b * 4294967296 = omega arith in z)

pub bucket_is : (b h r : ℕ) (name : List ℕ) → h ≡ hash_of name → r ≡ h * 2654435769 % 4294967296 * b / 4294967296 → r ≡ bucket_of b name
unfolding bucket_of
bucket_is b h r name e f = rw (← e) f

pub bucket_below : (b : ℕ) (name : List ℕ) → 0 < b → bucket_of b name < b
unfolding bucket_of
bucket_below b name h = cut_below (hash_of name * 2654435769 % 4294967296) b (mod-lt (hash_of name * 2654435769) (let z : 0 < 4294967296 = omega arith in z)) h
