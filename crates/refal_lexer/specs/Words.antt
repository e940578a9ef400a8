-- Names, variables and directives. Each scan starts at offset `at`, where s stands.
use Rattle.std.specs.Prelude.{ℕ, ◌+◌, Bool, true, false, ◌&&◌, ◌||◌, List, [], ◌∷◌, leb, eqb, length, drop, get_or}
use Rattle.refal_text.specs.Pick.{pick}
use Rattle.refal_text.specs.Span.{span}
use Rattle.refal_ast.specs.Kinds.{tok_entry, tok_extern, tok_identifier, tok_variable}
use Rattle.refal_lexer.specs.Classes.{name_byte, upper, digit, letter}
use Rattle.refal_lexer.specs.Scans.{Scan, Token, Bad}

-- s begins with w
abbrev pub prefix : List ℕ → List ℕ → Bool
prefix [] s = true
prefix (a ∷ w) [] = false
prefix (a ∷ w) (b ∷ s) = eqb a b && prefix w s

-- the first n bytes of s are w
abbrev pub word_is : List ℕ → ℕ → List ℕ → Bool
word_is w n s = eqb n (length w) && prefix w s

-- ENTRY, EXTERN, EXTRN, EXTERNAL
abbrev pub entry_word : ℕ → List ℕ → Bool
entry_word n s = word_is (69 ∷ 78 ∷ 84 ∷ 82 ∷ 89 ∷ []) n s

abbrev pub extern_word : ℕ → List ℕ → Bool
extern_word n s =
    (word_is (69 ∷ 88 ∷ 84 ∷ 69 ∷ 82 ∷ 78 ∷ []) n s
    || word_is (69 ∷ 88 ∷ 84 ∷ 82 ∷ 78 ∷ []) n s)
    || word_is (69 ∷ 88 ∷ 84 ∷ 69 ∷ 82 ∷ 78 ∷ 65 ∷ 76 ∷ []) n s

-- a name that starts with A to Z, of n bytes
abbrev pub name_of : ℕ → ℕ → Scan
name_of at n = pick (leb n 15) (Token tok_identifier 0 at n at (at + n)) (Bad 15 at (at + n))

abbrev pub name_scan : ℕ → List ℕ → Scan
name_scan at s = name_of at (1 + span name_byte (drop 1 s))

-- a name that starts otherwise
abbrev pub other_scan : ℕ → List ℕ → Scan
other_scan at s = Bad 14 at (at + (1 + span name_byte (drop 1 s)))

-- the index of n bytes behind the letter b and a point
abbrev pub index_of : ℕ → ℕ → ℕ → Scan
index_of at b n =
    pick (eqb n 0) (Bad 12 at (at + 2))
    (pick (leb n 15) (Token tok_variable b (at + 2) n at (at + (2 + n)))
    (Bad 13 at (at + (2 + n))))

-- s, t or e
abbrev pub variable_scan : ℕ → List ℕ → Scan
variable_scan at s =
    pick (eqb (get_or s 1 0) 46) (index_of at (get_or s 0 0) (span name_byte (drop 2 s)))
    (pick (upper (get_or s 1 0) || digit (get_or s 1 0)) (Token tok_variable (get_or s 0 0) (at + 1) 1 at (at + 2))
    (other_scan at s))

-- `$` and the n ASCII letters behind it, where s stands
abbrev pub directive_of : ℕ → ℕ → List ℕ → Scan
directive_of at n s =
    pick (entry_word n s) (Token tok_entry 0 0 0 at (at + (1 + n)))
    (pick (extern_word n s) (Token tok_extern 0 0 0 at (at + (1 + n)))
    (Bad 11 at (at + (1 + n))))

abbrev pub directive_scan : ℕ → List ℕ → Scan
directive_scan at s = directive_of at (span letter (drop 1 s)) (drop 1 s)
