-- The text of flattened tokens, what the writers of tokens ask of a token, and the text of each kind of token.
use Rattle.std.specs.Prelude.{ℕ, List, [], ◌∷◌, ◌++◌, ◌≡◌}
use Rattle.std.proofs.Common.{append_assoc, append-nil, ap, ◌∙◌}
use Rattle.std.proofs.Math.Path.{refl, sym}
use Rattle.refal_ast.specs.Kinds.{tok_identifier, tok_variable, tok_number}
use Rattle.refal_ast.specs.Flatten.{Flat}
use Rattle.refal_spelling.specs.Spell.{Spelled, spelled, view, views, spelling, text, dotted}

-- a list of flattened tokens, written with the source src
abbrev pub text_of : List ℕ → List Flat → List ℕ
text_of src fs = text (views src fs)

-- one token, written: its spelling and a space
abbrev pub token_text : Spelled → List ℕ
token_text t = text (t ∷ [])

-- ---- two lists of tokens
pub text_append : (ts us : List Spelled) → text (ts ++ us) ≡ text ts ++ text us
unfolding text
text_append [] us = refl
text_append (t ∷ ts) us =
    ap (λ (l : List ℕ). (spelling t ++ 32 ∷ []) ++ l) (text_append ts us) ∙ sym (append_assoc (spelling t ++ 32 ∷ []) (text ts) (text us))

views_append : (src : List ℕ) (fs gs : List Flat) → views src (fs ++ gs) ≡ views src fs ++ views src gs
views_append src [] gs = refl
views_append src (f ∷ fs) gs = ap (λ (l : List Spelled). view src f ∷ l) (views_append src fs gs)

pub text_of_append : (src : List ℕ) (fs gs : List Flat) → text_of src (fs ++ gs) ≡ text_of src fs ++ text_of src gs
text_of_append src fs gs = ap text (views_append src fs gs) ∙ text_append (views src fs) (views src gs)

-- ---- a word of the source and a space: the text of a name, of a number and, behind a letter and a point, of a variable
alone : (l : List ℕ) → l ++ 32 ∷ [] ≡ (l ++ 32 ∷ []) ++ []
alone l = sym (append-nil (l ++ 32 ∷ []))

module _ (k d : ℕ) (w : List ℕ) where
  pub name_text : k ≡ tok_identifier → w ++ 32 ∷ [] ≡ token_text (spelled k d w)
  unfolding spelling text
  name_text e = rw e (alone w)

  pub number_text : k ≡ tok_number → w ++ 32 ∷ [] ≡ token_text (spelled k d w)
  unfolding spelling text
  number_text e = rw e (alone w)

-- as the tokens of a tree have them
module _ (w : List ℕ) where
  pub name_is : w ++ 32 ∷ [] ≡ token_text (spelled tok_identifier 0 w)
  name_is = name_text tok_identifier 0 w refl

  pub number_is : w ++ 32 ∷ [] ≡ token_text (spelled tok_number 0 w)
  number_is = number_text tok_number 0 w refl

  pub variable_is : (d : ℕ) → d ∷ 46 ∷ (w ++ 32 ∷ []) ≡ token_text (spelled tok_variable d w)
  unfolding spelling text
  variable_is d = alone (dotted d w)
