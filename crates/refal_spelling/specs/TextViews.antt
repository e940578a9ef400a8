-- The tokens of a written text, viewed in that text, are the tokens that it spells.
use Rattle.std.specs.Prelude.{ℕ, ◌+◌, List, ◌∷◌, ◌++◌, ◌≡◌, length, take, drop}
use Rattle.std.proofs.Math.Path.{refl, ap}
use Rattle.std.proofs.Common.{ap₂, sym, ◌∙◌, drop-drop}
use Rattle.std.proofs.Math.Seq.{take-append_seam, drop-append_seam}
use Rattle.refal_ast.specs.Tokens.{Token}
use Rattle.refal_ast.specs.Flatten.{flat_of, flats_of}
use Rattle.refal_spelling.specs.Spell.{Spelled, spelled, text_at, view, views, dotted, spelling, text}
use Rattle.refal_spelling.specs.Places.{token_at, tokens_at}
use Rattle.refal_spelling.specs.Good.{Good, entry, extern, identifier, variable_of, number, character, mark, AllGood, no_more, and_more}
use Rattle.refal_spelling.specs.TextReads.{mark_token, spaced}

module _ (src : List ℕ) (at : ℕ) (rest : List ℕ) where
  -- a word at a token's start, and an index behind its letter and point
  word_at_lem : (w : List ℕ) → drop at src ≡ w ++ rest → text_at src at (length w) ≡ w
  word_at_lem w e = ap (take (length w)) e ∙ take-append_seam w rest

  index_at : (v : ℕ) (w : List ℕ) → drop at src ≡ dotted v w ++ rest → text_at src (at + 2) (length w) ≡ w
  index_at v w e = ap (take (length w)) (sym (drop-drop 2 at src) ∙ ap (drop 2) e) ∙ take-append_seam w rest

  view_one : (t : Spelled) → Good t → drop at src ≡ spelling t ++ rest → view src (flat_of (token_at at t)) ≡ t
  unfolding spelling token_at
  view_one t entry e = refl
  view_one t extern e = refl
  view_one t (identifier b s u a h) e = ap (spelled 3 0) (word_at_lem (b ∷ s) e)
  view_one t (variable_of v w u a lo hi) e = ap (spelled 4 v) (index_at v w e)
  view_one t (number w h) e = ap (spelled 5 0) (word_at_lem w e)
  view_one t (character x sc n) e = refl
  view_one t (mark k lo hi) e = ap (λ (x : Token). view src (flat_of x)) (mark_token at k lo)

-- behind a token and its space
drop_spaced : (src : List ℕ) (at : ℕ) (l rest : List ℕ) → drop at src ≡ l ++ (32 ∷ rest) → drop (at + length l + 1) src ≡ rest
drop_spaced src at l rest e = sym (drop-drop 1 (at + length l) src) ∙ ap (drop 1) (sym (drop-drop (length l) at src) ∙ ap (drop (length l)) e ∙ drop-append_seam l (32 ∷ rest))

pub views_text : (ts : List Spelled) → AllGood ts → (src : List ℕ) (at : ℕ) (r : List ℕ) → drop at src ≡ text ts ++ r → views src (flats_of (tokens_at at ts)) ≡ ts
unfolding tokens_at
views_text ts no_more src at r e = refl
views_text ts (and_more {t = t} {ts = us} g a) src at r e =
    let f : drop at src ≡ spelling t ++ (32 ∷ (text us ++ r)) = e ∙ spaced t us r in
    ap₂ (λ (x : Spelled) (xs : List Spelled). x ∷ xs) (view_one src at (32 ∷ (text us ++ r)) t g f)
    (views_text us a src (at + length (spelling t) + 1) r (drop_spaced src at (spelling t) (text us ++ r) f))
