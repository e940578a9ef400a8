-- The front of blanks: one space or none, and then a byte with which neither white space nor a comment begins, or the blanks from there on.
use Rattle.std.specs.Prelude.{ℕ, suc, ◌+◌, ◌<◌, ◌≤◌, Bool, true, false, not, ◌&&◌, ◌||◌, List, [], ◌∷◌, ◌≡◌, refl, T, eqb, drop, get_or}
use Rattle.std.proofs.Math.Decide.{dec_le}
use Rattle.std.proofs.Common.{add-zero, add-one, arith, eqb-true, le-leb, true≢false, ap, ap₂, sym, ◌∙◌, get_or-drop}
use Rattle.std.proofs.lemmas.Bool.{not-true}
use Rattle.std.proofs.Math.Bool.{and-true}
use Rattle.refal_rows.specs.Tests.{each_below, and_left, and_right}
use Rattle.refal_text.specs.Pick.{pick}
use Rattle.refal_lexer.specs.Classes.{blank, class_of, c_white, c_star, c_slash, c_wide}
use Rattle.refal_lexer.specs.Blanks.{white_len}
use Rattle.refal_lexer.specs.Carried.{line_after, blanks_from}
use Rattle.refal_lexer.specs.BlankLaws.{ascii_white, ascii_none}
use Rattle.refal_lexer.specs.Scans.{Past}

-- whether white space or a comment can begin with a byte of class k
abbrev pub begins_blank : ℕ → Bool
begins_blank k = (eqb k c_white || eqb k c_wide) || (eqb k c_star || eqb k c_slash)

-- one space or none at the front of s: how many bytes
abbrev pub space_len : List ℕ → ℕ
space_len s = pick (eqb (get_or s 0 0) 32) 1 0

-- the flag behind n spaces, one or none, at `at`
abbrev pub line_behind : ℕ → ℕ → Bool → Bool
line_behind n at line = line && (eqb n 0 || not (eqb at 0))

space_on : (at : ℕ) (line : Bool) (s : List ℕ) → blanks_from 0 (at + space_len s) (line_behind (space_len s) at line) (drop (space_len s) s) ≡ blanks_from 0 at line s
unfolding blanks_from
space_on at line [] = ap₂ (λ (k : ℕ) (l : Bool). blanks_from 0 k l []) (add-zero at) (and-true line)
space_on at line (b ∷ s) = go (eqb b 32) refl
  where
    go : (t : Bool) → eqb b 32 ≡ t → blanks_from 0 (at + pick t 1 0) (line_behind (pick t 1 0) at line) (drop (pick t 1 0) (b ∷ s)) ≡ blanks_from 0 at line (b ∷ s)
    go false e = ap₂ (λ (k : ℕ) (l : Bool). blanks_from 0 k l (b ∷ s)) (add-zero at) (and-true line)
    go true e =
        let z : b ≡ 32 = eqb-true b 32 e in
        let w : 1 ≡ white_len (b ∷ s) = (ascii_white (b ∷ s) (omega arith) (omega arith) (ap blank z)).0 in
        ap (λ (k : ℕ). blanks_from 0 k (line && not (eqb at 0)) s) (add-one at)
        ∙ ap (λ (x : ℕ). blanks_from 0 (suc at) (line_after x at line) s) (sym z)
        ∙ sym (rw (sym w) refl)

-- ---- a byte with which no blank begins is below 128, and no white space, star or slash
quiet : ℕ → Bool
quiet b = pick (begins_blank (class_of b)) true (not (blank b) && (not (eqb b 42) && not (eqb b 47)))

low : (b : ℕ) → begins_blank (class_of b) ≡ false → b < 128
low b h = go (dec_le 128 b)
  where
    go : Dec (128 ≤ b) → b < 128
    go (no l) = omega arith
    go (yes l) = let z : begins_blank (class_of b) ≡ true = rw (le-leb 128 b l) refl in absurd (true≢false (sym z ∙ h))

quiet_is : (b : ℕ) → begins_blank (class_of b) ≡ false → not (blank b) && (not (eqb b 42) && not (eqb b 47)) ≡ true
unfolding quiet
quiet_is b h = go (begins_blank (class_of b)) h (not (blank b) && (not (eqb b 42) && not (eqb b 47))) (each_below quiet 128 tt b (low b h))
  where
    go : (x : Bool) → x ≡ false → (y : Bool) → T (pick x true y) → y ≡ true
    go true e y t = absurd (true≢false e)
    go false e true t = refl
    go false e false t = absurd t

none_begins : (at : ℕ) (line : Bool) (s : List ℕ) → begins_blank (class_of (get_or s 0 0)) ≡ false → Past at line ≡ blanks_from 0 at line s
unfolding blanks_from
none_begins at line [] h = refl
none_begins at line (b ∷ s) h =
    let q = quiet_is b h in
    let r = and_right (not (blank b)) _ q in
    let w : 0 ≡ white_len (b ∷ s) = (ascii_none (b ∷ s) (omega arith) (low b h) (not-true _ (and_left (not (blank b)) _ q))).0 in
    let star : eqb b 42 ≡ false = not-true _ (and_left (not (eqb b 42)) _ r) in
    let slash : eqb b 47 ≡ false = not-true _ (and_right (not (eqb b 42)) _ r) in
    sym (rw (sym w, star, slash) refl)

-- ---- the ways out of `blanks`: n spaces, one or none, then the byte b, of class k
module _ (s : List ℕ) (at : ℕ) (line : Bool) (n : ℕ) (l : Bool) (en : n ≡ space_len s) (el : l ≡ line_behind n at line) where
  pub front_on : blanks_from 0 (at + n) l (drop n s) ≡ blanks_from 0 at line s
  front_on = ap (λ (x : Bool). blanks_from 0 (at + n) x (drop n s)) el ∙ ap (λ (k : ℕ). blanks_from 0 (at + k) (line_behind k at line) (drop k s)) en ∙ space_on at line s

  pub front_none : (b k : ℕ) (more : Bool) → b ≡ get_or s n 0 → k ≡ class_of b → more ≡ begins_blank k → more ≡ false → Past (at + n) l ≡ blanks_from 0 at line s
  front_none b k more eb ek em e =
      let g : get_or (drop n s) 0 0 ≡ b = get_or-drop n s 0 0 ∙ ap (λ (j : ℕ). get_or s j 0) (add-zero n) ∙ sym eb in
      none_begins (at + n) l (drop n s) (ap (λ (x : ℕ). begins_blank (class_of x)) g ∙ ap begins_blank (sym ek) ∙ sym em ∙ e) ∙ front_on
