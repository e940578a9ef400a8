-- Flattened tokens of a source: their texts stand in the source, unused text words are 0, and they are spelled well.
use Rattle.std.specs.Prelude.{ℕ, ◌+◌, ◌≤◌, List, [], ◌∷◌, ◌++◌, ◌≡◌, refl, true, ◌&&◌, ◌||◌, eqb, length}
use Rattle.std.proofs.Common.{ap}
use Rattle.refal_ast.specs.Check.{uses_text}
use Rattle.refal_ast.specs.Flatten.{Flat, flatten_item, flatten_p, Loose, loose_none, loose_semicolon, loose_item}
use Rattle.refal_ast.specs.Tree.{Program}
use Rattle.refal_spelling.specs.Spell.{Spelled, view, views}
use Rattle.refal_spelling.specs.Good.{Good, AllGood, no_more, and_more}

pub record Sound (src : List ℕ) (f : Flat) : Type 0 where
  pub inside : f.start + f.len ≤ length src
  pub unused : uses_text f.kind || (eqb f.start 0 && eqb f.len 0) ≡ true
  pub good : Good (view src f)

pub data AllSound (src : List ℕ) : List Flat → Type 0 where
  sound_none : AllSound src []
  sound_more : {f : Flat} {fs : List Flat} → Sound src f → AllSound src fs → AllSound src (f ∷ fs)

-- as spelled, they are good
pub sound_good : (src : List ℕ) (fs : List Flat) → AllSound src fs → AllGood (views src fs)
sound_good src fs sound_none = no_more
sound_good src fs (sound_more {fs = gs} h a) = and_more h.good (sound_good src gs a)

-- ---- lists put together
pub sound_append : (src : List ℕ) (fs gs : List Flat) → AllSound src fs → AllSound src gs → AllSound src (fs ++ gs)
sound_append src fs gs sound_none b = b
sound_append src fs gs (sound_more {fs = hs} h a) b = sound_more h (sound_append src hs gs a b)

pub sound_left : (src : List ℕ) (fs gs : List Flat) → AllSound src (fs ++ gs) → AllSound src fs
sound_left src [] gs a = sound_none
sound_left src (f ∷ fs) gs (sound_more h a) = sound_more h (sound_left src fs gs a)

pub sound_right : (src : List ℕ) (fs gs : List Flat) → AllSound src (fs ++ gs) → AllSound src gs
sound_right src [] gs a = a
sound_right src (f ∷ fs) gs (sound_more h a) = sound_right src fs gs a

pub views_append : (src : List ℕ) (fs gs : List Flat) → views src (fs ++ gs) ≡ views src fs ++ views src gs
views_append src [] gs = refl
views_append src (f ∷ fs) gs = ap (λ (l : List Spelled). view src f ∷ l) (views_append src fs gs)

pub good_append : (ts us : List Spelled) → AllGood ts → AllGood us → AllGood (ts ++ us)
good_append ts us no_more b = b
good_append ts us (and_more {ts = vs} h a) b = and_more h (good_append vs us a b)

-- a tree that flattens to a list but for semicolons outside items: its own flattening is as sound
pub loose_sound : (src : List ℕ) (p : Program) (l : List Flat) → Loose p l → AllSound src l → AllSound src (flatten_p p)
unfolding flatten_p
loose_sound src p l loose_none a = a
loose_sound src p l (loose_semicolon {p = q} {l = m} h) a = loose_sound src q m h (sound_left src m _ a)
loose_sound src p l (loose_item {p = q} {l = m} {x = x} h) a =
    sound_append src (flatten_p q) (flatten_item x) (loose_sound src q m h (sound_left src m (flatten_item x) a)) (sound_right src m (flatten_item x) a)
