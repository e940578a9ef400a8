-- The test of refusal 41 holds exactly of the words that reading gives for the kind.
use Rattle.std.specs.Prelude.{ℕ, suc, ◌+◌, ◌<◌, ◌≤◌, Bool, true, false, ◌&&◌, List, [], ◌∷◌, ◌++◌, ◌≡◌, refl, leb, eqb, length, take}
use Rattle.std.proofs.Common.{arith, zero-add, le-leb, leb-true, leb-false, eq-eqb, ne_eqb, eqb-true, true≢false, append-nil, ap, sym, subst, ◌∙◌, length-append}
use Rattle.std.proofs.Math.Decide.{dec_le}
use Rattle.std.proofs.lemmas.Bool.{lt-leb, eqb-false}
use Rattle.std.proofs.Math.Seq.{take-append_seam}
use Rattle.refal_rows.specs.Tests.{and_left, and_right, range_lo, range_hi}
use Rattle.refal_text.specs.Pick.{split}
use Rattle.refal_text.specs.Span.{span}
use Rattle.refal_ast.specs.Kinds.{tok_identifier, tok_variable, tok_number}
use Rattle.refal_lexer.specs.Classes.{name_byte, variable}
use Rattle.refal_lexer.specs.Words.{index_of}
use Rattle.refal_lexer.specs.Tokens.{token_scan}
use Rattle.refal_lexer.specs.Scans.{Scan, Token}
use Rattle.refal_spelling.specs.Spell.{spelled}
use Rattle.refal_spelling.specs.Spells.{token_to, spells, spells_index, is_index}
use Rattle.refal_spelling.specs.Good.{Every, Good, identifier, variable_of, number, mark}
use Rattle.refal_spelling.specs.Runs.{at_end, every_span, span_every}
use Rattle.refal_spelling.specs.ScanWords.{number_some, scan_identifier, scan_number}
use Rattle.refal_spelling.specs.Sees.{Sees, a_bad, a_plain, a_word, sees}

-- ---- from the test to the good word
take_all : (w : List ℕ) → take (length w) w ≡ w
take_all w = ap (take (length w)) (sym (append-nil w)) ∙ take-append_seam w []

no_token : {A : Type 0} → false ≡ true → A
no_token h = absurd (true≢false (sym h))

-- a kind that always has a word, which stands where the token starts
record Worded (kind : ℕ) : Type 0 where
  plain : Good (spelled kind 0 []) → ⊥
  other : kind ≡ tok_variable → ⊥
  detail : (d : ℕ) (w : List ℕ) → Good (spelled kind d w) → Good (spelled kind 0 w)

nil_of : (l : List ℕ) → length l ≡ 0 → l ≡ []
nil_of [] e = refl
nil_of (x ∷ l) e = absurd (omega arith)

whole : (b : ℕ) (s pre w rest : List ℕ) → b ∷ s ≡ pre ++ (w ++ rest) → pre ≡ [] → length pre + length w ≡ suc (length s) → w ≡ b ∷ s
whole b s pre w rest f p n =
    let l₁ : length pre ≡ 0 = ap length p in
    let g : b ∷ s ≡ w ++ rest = f ∙ ap (λ (l : List ℕ). l ++ (w ++ rest)) p in
    let l₂ : suc (length s) ≡ length w + length rest = ap length g ∙ length-append w rest in
    let z : rest ≡ [] = nil_of rest (omega arith) in
    sym (g ∙ ap (λ (l : List ℕ). w ++ l) z ∙ append-nil w)

good_of : (kind b : ℕ) (s : List ℕ) → Worded kind → (r : Scan) → Sees 0 b s r → token_to kind (suc (length s)) r ≡ true → Good (spelled kind 0 (b ∷ s))
good_of kind b s k r a_bad h = no_token h
good_of kind b s k r (a_plain {kind = j} {e = e} g) h =
    let i : j ≡ kind = eqb-true _ _ (and_left (eqb j kind) (eqb e (suc (length s))) h) in
    absurd (k.plain (subst (λ (x : ℕ). Good (spelled x 0 [])) i g))
good_of kind b s k r (a_word {kind = j} {detail = d} {start = st} {len = n} {e = e} pre w rest f p l m c u g) h =
    let i : j ≡ kind = eqb-true _ _ (and_left (eqb j kind) (eqb e (suc (length s))) h) in
    let o : e ≡ suc (length s) = eqb-true _ _ (and_right (eqb j kind) (eqb e (suc (length s))) h) in
    let o' : pre ≡ [] = c (λ z. k.other (sym i ∙ z)) in
    let v : w ≡ b ∷ s = whole b s pre w rest f o' (omega arith) in
    k.detail d (b ∷ s) (subst (λ (x : List ℕ). Good (spelled kind d x)) v (subst (λ (x : ℕ). Good (spelled x d w)) i g))

spells_worded : (kind : ℕ) → Worded kind → (w : List ℕ) → spells kind w ≡ true → Good (spelled kind 0 w)
unfolding spells
spells_worded kind k [] h = no_token h
spells_worded kind k (b ∷ s) h = good_of kind b s k (token_scan 0 (b ∷ s)) (sees 0 b s) h

worded_identifier : Worded tok_identifier
worded_identifier = record { plain = no_plain; other = λ e. omega arith; detail = same }
  where
    no_plain : Good (spelled tok_identifier 0 []) → ⊥
    no_plain (mark k l h) = omega arith

    same : (d : ℕ) (w : List ℕ) → Good (spelled tok_identifier d w) → Good (spelled tok_identifier 0 w)
    same d w (identifier b s u a h) = identifier b s u a h
    same d w (mark k l h) = absurd (omega arith)

worded_number : Worded tok_number
worded_number = record { plain = no_plain; other = λ e. omega arith; detail = same }
  where
    no_plain : Good (spelled tok_number 0 []) → ⊥
    no_plain (number w h) = let l = number_some [] h in omega arith
    no_plain (mark k l h) = omega arith

    same : (d : ℕ) (w : List ℕ) → Good (spelled tok_number d w) → Good (spelled tok_number 0 w)
    same d w (number v h) = number v h
    same d w (mark k l h) = absurd (omega arith)

pub spells_identifier : (w : List ℕ) → spells tok_identifier w ≡ true → Good (spelled tok_identifier 0 w)
spells_identifier w h = spells_worded tok_identifier worded_identifier w h

pub spells_number : (w : List ℕ) → spells tok_number w ≡ true → Good (spelled tok_number 0 w)
spells_number w h = spells_worded tok_number worded_number w h

-- ---- and back
told : (kind d st n m : ℕ) → m ≡ n → token_to kind n (Token kind d st n st m) ≡ true
told kind d st n m e = rw (eq-eqb kind kind refl, eq-eqb m n e) refl

pub identifier_spells : (d : ℕ) (w : List ℕ) → Good (spelled tok_identifier d w) → spells tok_identifier w ≡ true
unfolding spells
identifier_spells d w (identifier b s u a h) =
    ap (λ (l : List ℕ). token_to tok_identifier (suc (length s)) (token_scan 0 (b ∷ l))) (sym (append-nil s))
    ∙ ap (token_to tok_identifier (suc (length s))) (scan_identifier 0 b s [] u a h at_end)
    ∙ told tok_identifier 0 0 (suc (length s)) (0 + suc (length s)) (zero-add _)
identifier_spells d w (mark k l h) = absurd (omega arith)

pub number_spells : (d : ℕ) (w : List ℕ) → Good (spelled tok_number d w) → spells tok_number w ≡ true
unfolding spells
number_spells d w (number v h) =
    ap (λ (l : List ℕ). token_to tok_number (length v) (token_scan 0 l)) (sym (append-nil v))
    ∙ ap (token_to tok_number (length v)) (scan_number v h 0 [] at_end)
    ∙ told tok_number 0 0 (length v) (0 + length v) (zero-add _)
number_spells d w (mark k l h) = absurd (omega arith)

-- ---- indices
module _ (n m : ℕ) where
  index_yes : 1 ≤ m → m ≤ 15 → n ≡ m → (leb 1 m && leb m 15) && eqb n m ≡ true
  index_yes lo hi e = rw (le-leb _ _ lo, le-leb _ _ hi, eq-eqb n m e) refl

  index_no : (1 ≤ m → m ≤ 15 → n ≡ m → ⊥) → (leb 1 m && leb m 15) && eqb n m ≡ false
  index_no f = go (dec_le 1 m) (dec_le m 15)
    where
      go : Dec (1 ≤ m) → Dec (m ≤ 15) → (leb 1 m && leb m 15) && eqb n m ≡ false
      go (yes lo) (yes hi) = rw (le-leb _ _ lo, le-leb _ _ hi, ne_eqb n m (f lo hi)) refl
      go (yes lo) (no hi) = let z : 15 < m = omega arith in rw (le-leb _ _ lo, lt-leb _ _ z) refl
      go (no lo) d = let z : m < 1 = omega arith in rw (lt-leb _ _ z) refl

  index_same : token_to tok_variable (suc (suc m)) (index_of 0 115 n) ≡ (leb 1 m && leb m 15) && eqb n m
  index_same =
      split P (eqb n 0) _ _ (λ z. let y : n ≡ 0 = eqb-true _ _ z in sym (index_no (λ lo hi e. omega arith))) (λ z.
      let y : n ≡ 0 → ⊥ = eqb-false n 0 z in
      split P (leb n 15) _ _ (λ h. let i : n ≤ 15 = leb-true _ _ h in here (eqb n m) refl y i) (λ h.
      let i : 15 < n = leb-false _ _ h in
      sym (index_no (λ lo hi e. omega arith))))
    where
      P : Scan → Type 0
      P r = token_to tok_variable (suc (suc m)) r ≡ (leb 1 m && leb m 15) && eqb n m

      here : (t : Bool) → eqb n m ≡ t → (n ≡ 0 → ⊥) → n ≤ 15 → eqb (0 + (2 + n)) (suc (suc m)) ≡ (leb 1 m && leb m 15) && eqb n m
      here true e y i = let f : n ≡ m = eqb-true _ _ e in eq-eqb (0 + (2 + n)) (suc (suc m)) (omega arith) ∙ sym (index_yes (omega arith) (omega arith) f)
      here false e y i = let f : n ≡ m → ⊥ = eqb-false n m e in ne_eqb (0 + (2 + n)) (suc (suc m)) (λ z. f (omega arith)) ∙ sym (index_no (λ lo hi g. f g))

-- the test after `s.` is the direct one
pub spells_index_lem : (w : List ℕ) → spells_index w ≡ is_index w
unfolding spells
spells_index_lem w = index_same (span name_byte w) (length w)

pub index_good : (v : ℕ) (w : List ℕ) → variable v ≡ true → spells_index w ≡ true → Good (spelled tok_variable v w)
index_good v w h e =
    let f : is_index w ≡ true = sym (spells_index_lem w) ∙ e in
    let r = and_left (leb 1 (length w) && leb (length w) 15) (eqb (span name_byte w) (length w)) f in
    let n : span name_byte w ≡ length w = eqb-true _ _ (and_right (leb 1 (length w) && leb (length w) 15) (eqb (span name_byte w) (length w)) f) in
    let t : take (span name_byte w) w ≡ w = ap (λ (k : ℕ). take k w) n ∙ take_all w in
    variable_of v w h (subst (Every name_byte) t (every_span name_byte w)) (range_lo 1 (length w) 15 r) (range_hi 1 (length w) 15 r)

pub good_index : (v : ℕ) (w : List ℕ) → Good (spelled tok_variable v w) → (variable v ≡ true) × (spells_index w ≡ true)
good_index v w (variable_of x u h a lo hi) =
    let n : span name_byte u ≡ length u = ap (span name_byte) (sym (append-nil u)) ∙ span_every name_byte u [] a refl in
    (h, spells_index_lem u ∙ index_yes (span name_byte u) (length u) lo hi n)
good_index v w (mark k l h) = absurd (omega arith)
