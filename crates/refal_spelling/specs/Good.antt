-- The spelled tokens that reading gives: each kind with its detail and its word.
use Rattle.std.specs.Prelude.{ℕ, suc, ◌≤◌, Bool, true, false, List, [], ◌∷◌, ◌++◌, ◌≡◌, length}
use Rattle.refal_text.specs.Encode.{Scalar}
use Rattle.refal_ast.specs.Kinds.{tok_entry, tok_extern, tok_identifier, tok_variable, tok_number, tok_char, tok_l_brace, tok_semicolon}
use Rattle.refal_lexer.specs.Classes.{upper, digit, name_byte, variable}
use Rattle.refal_lexer.specs.Numbers.{value}
use Rattle.refal_spelling.specs.Spell.{Spelled, spelled}

-- every byte of s passes the test
pub data Every (p : ℕ → Bool) : List ℕ → Type 0 where
  none : Every p []
  also : (b : ℕ) (s : List ℕ) → p b ≡ true → Every p s → Every p (b ∷ s)

-- ---- numbers
-- a sign, where one may stand, or none
pub data Sign (signed : Bool) : List ℕ → Type 0 where
  unsigned : Sign signed []
  plus : signed ≡ true → Sign signed (43 ∷ [])
  minus : signed ≡ true → Sign signed (45 ∷ [])

-- a mark with digits behind it, before which a sign stands where one may, or nothing
pub data Part (mark : ℕ) (signed : Bool) : List ℕ → Type 0 where
  absent : Part mark signed []
  digits : (sign : List ℕ) (b : ℕ) (s : List ℕ) → Sign signed sign → digit b ≡ true → Every digit s → Part mark signed (mark ∷ sign ++ (b ∷ s))

-- a macrodigit: digits alone, unsigned, worth at most 4294967295; or a real: a point's part or an E's part, or both
pub data Number : List ℕ → Type 0 where
  macrodigit : (b : ℕ) (s : List ℕ) → digit b ≡ true → Every digit s → value 0 (b ∷ s) ≤ 4294967295 → Number (b ∷ s)
  real : (sign : List ℕ) (b : ℕ) (s ps qs : List ℕ) → Sign true sign → digit b ≡ true → Every digit s → Part 46 false ps → Part 69 true qs → 1 ≤ length (ps ++ qs)
      → Number (sign ++ (b ∷ s ++ (ps ++ qs)))

-- ---- all kinds but Eof
pub data Good : Spelled → Type 0 where
  entry : Good (spelled tok_entry 0 [])
  extern : Good (spelled tok_extern 0 [])
  identifier : (b : ℕ) (s : List ℕ) → upper b ≡ true → Every name_byte s → suc (length s) ≤ 15 → Good (spelled tok_identifier 0 (b ∷ s))
  variable_of : (v : ℕ) (w : List ℕ) → variable v ≡ true → Every name_byte w → 1 ≤ length w → length w ≤ 15 → Good (spelled tok_variable v w)
  number : (w : List ℕ) → Number w → Good (spelled tok_number 0 w)
  character : (x : ℕ) → Scalar x → (x ≡ 10 → ⊥) → Good (spelled tok_char x [])
  mark : (k : ℕ) → tok_l_brace ≤ k → k ≤ tok_semicolon → Good (spelled k 0 [])

pub data AllGood : List Spelled → Type 0 where
  no_more : AllGood []
  and_more : {t : Spelled} {ts : List Spelled} → Good t → AllGood ts → AllGood (t ∷ ts)
