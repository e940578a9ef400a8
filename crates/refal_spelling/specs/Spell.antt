-- How tokens are spelled in a written text: each flattened token, then one space (document 01 "Writing").
use Rattle.std.specs.Prelude.{ℕ, List, [], ◌∷◌, ◌++◌, eqb, take, drop}
use Rattle.refal_text.specs.Pick.{pick}
use Rattle.refal_text.specs.Encode.{encode}
use Rattle.refal_ast.specs.Kinds.{tok_entry, tok_extern, tok_identifier, tok_variable, tok_number, tok_char, tok_l_brace, tok_r_brace}
use Rattle.refal_ast.specs.Kinds.{tok_l_paren, tok_r_paren, tok_l_angle, tok_r_angle, tok_comma, tok_colon, tok_equals, tok_semicolon}
use Rattle.refal_ast.specs.Flatten.{Flat}

-- a token as spelled: its kind, its detail, and the bytes of its text
pub record Spelled : Type 0 where
  pub kind : ℕ
  pub detail : ℕ
  pub word : List ℕ

abbrev pub spelled : ℕ → ℕ → List ℕ → Spelled
spelled kind detail word = record { kind = kind; detail = detail; word = word }

-- the bytes of src from start, len of them
abbrev pub text_at : List ℕ → ℕ → ℕ → List ℕ
text_at src start len = take len (drop start src)

-- a flattened token as spelled in its source
abbrev pub view : List ℕ → Flat → Spelled
view src f = spelled f.kind f.detail (text_at src f.start f.len)

abbrev pub views : List ℕ → List Flat → List Spelled
views src [] = []
views src (f ∷ fs) = view src f ∷ views src fs

-- ---- the spellings
-- $ENTRY
abbrev pub entry_spelling : List ℕ
entry_spelling = 36 ∷ 69 ∷ 78 ∷ 84 ∷ 82 ∷ 89 ∷ []

-- $EXTRN
abbrev pub extern_spelling : List ℕ
extern_spelling = 36 ∷ 69 ∷ 88 ∷ 84 ∷ 82 ∷ 78 ∷ []

-- a character within apostrophes: an apostrophe is doubled, any other is in UTF-8
unfoldable pub body : ℕ → List ℕ
body x = pick (eqb x 39) (39 ∷ 39 ∷ []) (encode x)

-- a Char stands alone in apostrophes
abbrev pub quoted : ℕ → List ℕ
quoted x = 39 ∷ body x ++ (39 ∷ [])

-- a variable is dotted: its letter, a point, its index
abbrev pub dotted : ℕ → List ℕ → List ℕ
dotted letter index = letter ∷ 46 ∷ index

-- the byte of a token that is a mark: { } ( ) < > , : = ;
abbrev pub mark_byte : ℕ → ℕ
mark_byte k =
    pick (eqb k tok_l_brace) 123
    (pick (eqb k tok_r_brace) 125
    (pick (eqb k tok_l_paren) 40
    (pick (eqb k tok_r_paren) 41
    (pick (eqb k tok_l_angle) 60
    (pick (eqb k tok_r_angle) 62
    (pick (eqb k tok_comma) 44
    (pick (eqb k tok_colon) 58
    (pick (eqb k tok_equals) 61
    (pick (eqb k tok_semicolon) 59
    0)))))))))

unfoldable pub spelling : Spelled → List ℕ
spelling t =
    pick (eqb t.kind tok_entry) entry_spelling
    (pick (eqb t.kind tok_extern) extern_spelling
    (pick (eqb t.kind tok_identifier) t.word
    (pick (eqb t.kind tok_number) t.word
    (pick (eqb t.kind tok_variable) (dotted t.detail t.word)
    (pick (eqb t.kind tok_char) (quoted t.detail)
    (mark_byte t.kind ∷ []))))))

-- each token's spelling, then one space
unfoldable pub text : List Spelled → List ℕ
text [] = []
text (t ∷ ts) = (spelling t ++ (32 ∷ [])) ++ text ts
