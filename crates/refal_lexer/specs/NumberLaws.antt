-- Laws of numbers.
use Rattle.std.specs.Prelude.{ℕ, suc, ◌+◌, ◌-◌, ◌<◌, ◌≤◌, ◌*◌, List, [], ◌∷◌, Bool, true, false, ◌&&◌, ◌≡◌, refl, leb, ltb, length, drop, get_or, Option, Some, None}
use Rattle.std.proofs.Common.{le-leb, eq-eqb, ne_eqb, add-zero, le_refl, add-one, arith, true≢false, ap, ◌∙◌, sym, drop_of_length-le, drop-cons}
use Rattle.std.proofs.lemmas.Bool.{lt-leb}
use Rattle.std.proofs.Math.Decide.{dec_le}
use Rattle.refal_rows.specs.Tests.{and_right}
use Rattle.refal_text.specs.Pick.{pick, split}
use Rattle.refal_lexer.specs.Classes.{digit, sign}
use Rattle.refal_lexer.specs.Numbers.{value, macrodigit, ends, sign_bytes, part, point_at, exponent_at, whole_scan, number_of, digits_end, number_scan, Part}
use Rattle.refal_lexer.specs.BlankLaws.{nonzero_in}
use Rattle.refal_lexer.specs.Scans.{Scan, Token, Bad}

-- what the code counts: past 4294967295 it stays where it is
abbrev pub digit_step : ℕ → ℕ → ℕ
digit_step v b = pick (leb v 4294967295) (v * 10 + (b - 48)) v

abbrev pub worth : ℕ → List ℕ → ℕ
worth v [] = v
worth v (b ∷ s) = pick (digit b) (worth (digit_step v b) s) v

value_grows : (v : ℕ) (s : List ℕ) → v ≤ value v s
value_grows v [] = le_refl v
value_grows v (b ∷ s) = go (digit b) (value_grows (v * 10 + (b - 48)) s)
  where
    go : (t : Bool) → v * 10 + (b - 48) ≤ value (v * 10 + (b - 48)) s → v ≤ pick t (value (v * 10 + (b - 48)) s) v
    go true h = omega arith
    go false h = le_refl v

worth_stays : (v : ℕ) (s : List ℕ) → 4294967295 < v → worth v s ≡ v
worth_stays v [] h = refl
worth_stays v (b ∷ s) h = go (digit b) (worth_stays v s h)
  where
    go : (t : Bool) → worth v s ≡ v → pick t (worth (digit_step v b) s) v ≡ v
    go true e = rw (lt-leb _ _ h) e
    go false e = refl

-- the code's count passes 4294967295 just where the digits' worth does
pub worth_value : (v : ℕ) (s : List ℕ) → leb (worth v s) 4294967295 ≡ leb (value v s) 4294967295
worth_value v [] = refl
worth_value v (b ∷ s) = go (digit b) (dec_le v 4294967295) (worth_value (v * 10 + (b - 48)) s)
  where
    go : (t : Bool) → Dec (v ≤ 4294967295) → leb (worth (v * 10 + (b - 48)) s) 4294967295 ≡ leb (value (v * 10 + (b - 48)) s) 4294967295
        → leb (pick t (worth (digit_step v b) s) v) 4294967295 ≡ leb (pick t (value (v * 10 + (b - 48)) s) v) 4294967295
    go false d ih = refl
    go true (yes l) ih = rw (le-leb _ _ l) ih
    go true (no l) ih =
        let h : 4294967295 < v = omega arith in
        let g = value_grows (v * 10 + (b - 48)) s in
        let k : 4294967295 < value (v * 10 + (b - 48)) s = omega arith in
        rw (lt-leb _ _ h, worth_stays v s h, lt-leb _ _ h) (sym (lt-leb _ _ k))

-- a number, where it is 4294967295 at most
abbrev pub fit : ℕ → Option ℕ
fit v = pick (leb v 4294967295) (Some v) None

worth_fits : (v : ℕ) (s : List ℕ) → fit (worth v s) ≡ fit (value v s)
worth_fits v [] = refl
worth_fits v (b ∷ s) = go (digit b) (dec_le v 4294967295) (worth_fits (v * 10 + (b - 48)) s)
  where
    go : (t : Bool) → Dec (v ≤ 4294967295) → fit (worth (v * 10 + (b - 48)) s) ≡ fit (value (v * 10 + (b - 48)) s)
        → fit (pick t (worth (digit_step v b) s) v) ≡ fit (pick t (value (v * 10 + (b - 48)) s) v)
    go false d ih = refl
    go true (yes l) ih = rw (le-leb _ _ l) ih
    go true (no l) ih =
        let h : 4294967295 < v = omega arith in
        let g = value_grows (v * 10 + (b - 48)) s in
        let k : 4294967295 < value (v * 10 + (b - 48)) s = omega arith in
        rw (lt-leb _ _ h, worth_stays v s h, lt-leb _ _ h, lt-leb _ _ k) refl

-- the code's count tells the macrodigit
pub worth_fit : (s : List ℕ) → fit (worth 0 s) ≡ macrodigit s
worth_fit s = worth_fits 0 s

pub worth_end : (v : ℕ) (s : List ℕ) (i : ℕ) → length s ≤ i → worth v (drop i s) ≡ v
worth_end v s i h = rw (drop_of_length-le s h)

pub worth_stop : (v : ℕ) (s : List ℕ) (i : ℕ) → i < length s → digit (get_or s i 0) ≡ false → worth v (drop i s) ≡ v
worth_stop v s i h e = rw (drop-cons s i 0, e)

pub worth_step : (v : ℕ) (s : List ℕ) (i : ℕ) → i < length s → digit (get_or s i 0) ≡ true → worth (digit_step v (get_or s i 0)) (drop (i + 1) s) ≡ worth v (drop i s)
worth_step v s i h e = rw (drop-cons s i 0 h, e, add-one i)

-- ---- the part at i that a mark begins

-- the bytes of a sign, by the byte b at i
pub sign_here : (signed : Bool) (s : List ℕ) (i b : ℕ) → b ≡ get_or s i 0 → signed && sign b ≡ true → (i < length s) × (i + 1 ≡ i + sign_bytes signed (drop i s))
sign_here signed s i b e t =
    let u : sign (get_or s i 0) ≡ true = sym (ap sign e) ∙ and_right signed (sign b) t in
    let h : i < length s = nonzero_in s i (λ z. absurd (true≢false (sym u ∙ ap sign z))) in
    (h, sym (rw (drop-cons s i 0 h, sym (ap (λ (x : ℕ). signed && sign x) e) ∙ t) refl))

pub sign_none : (signed : Bool) (s : List ℕ) (i b : ℕ) → b ≡ get_or s i 0 → signed && sign b ≡ false → i ≡ i + sign_bytes signed (drop i s)
sign_none signed s i b e t = go (dec_le (suc i) (length s))
  where
    go : Dec (suc i ≤ length s) → i ≡ i + sign_bytes signed (drop i s)
    go (yes h) = sym (rw (drop-cons s i 0 h, sym (ap (λ (x : ℕ). signed && sign x) e) ∙ t) (add-zero i))
    go (no h) = sym (rw (drop_of_length-le s (let l : length s ≤ i = omega arith in l)) (add-zero i))

pub sign_le : (signed : Bool) (t : List ℕ) → sign_bytes signed t ≤ length t
sign_le signed [] = le_refl 0
sign_le signed (b ∷ t) = split (λ (n : ℕ). n ≤ suc (length t)) (signed && sign b) 1 0 (λ _. omega arith) (λ _. omega arith)

pub part_none : (mark : ℕ) (signed : Bool) (s : List ℕ) (i : ℕ) → (get_or s i 0 ≡ mark → ⊥) → ends i false ≡ part mark signed i (drop i s)
part_none mark signed s i e = go (dec_le (suc i) (length s))
  where
    go : Dec (suc i ≤ length s) → ends i false ≡ part mark signed i (drop i s)
    go (yes h) = sym (rw (drop-cons s i 0 h, ne_eqb _ _ e) refl)
    go (no h) = sym (rw (drop_of_length-le s (let l : length s ≤ i = omega arith in l)) refl)

-- ---- a number whose digits end at n, with the parts p and e behind
module _ (s : List ℕ) (at from n : ℕ) (p : Part) (en : n ≡ digits_end from s) (ep : p ≡ point_at n s) where
  point_is : p ≡ point_at (digits_end from s) s
  point_is = ep ∙ ap (λ (k : ℕ). point_at k s) en

  number_is : (e : Part) → e ≡ exponent_at p.end s → number_of at from n (value 0 (drop from s)) p e ≡ number_scan at from s
  number_is e f =
      let g : e ≡ exponent_at (point_at (digits_end from s) s).end s = f ∙ ap (λ (x : Part). exponent_at x.end s) point_is in
      ap (λ (x : Part). number_of at from n (value 0 (drop from s)) p x) g
      ∙ ap (λ (x : Part). number_of at from n (value 0 (drop from s)) x (exponent_at (point_at (digits_end from s) s).end s)) point_is
      ∙ ap (λ (k : ℕ). number_of at from k (value 0 (drop from s)) (point_at (digits_end from s) s) (exponent_at (point_at (digits_end from s) s).end s)) en

  pub number_point : p.bare ≡ true → Bad 16 at (at + p.end) ≡ number_scan at from s
  number_point z = sym (rw z refl) ∙ number_is (exponent_at p.end s) refl

  pub number_e : (e : Part) → p.bare ≡ false → e ≡ exponent_at p.end s → e.bare ≡ true → Bad 17 at (at + e.end) ≡ number_scan at from s
  number_e e z f y = sym (rw (z, y) refl) ∙ number_is e f

  pub number_whole : (e : Part) (w : ℕ) (r : Scan) → p.bare ≡ false → e ≡ exponent_at p.end s → e.bare ≡ false → e.end ≡ n → w ≡ worth 0 (drop from s) → r ≡ whole_scan at from n w
      → r ≡ number_scan at from s
  number_whole e w r z f y x g k =
      k
      ∙ ap (λ (t : Bool). pick (ltb 0 from) (Bad 18 at (at + n)) (pick t (Token 5 0 at n at (at + n)) (Bad 19 at (at + n)))) (ap (λ (v : ℕ). leb v 4294967295) g ∙ worth_value 0 (drop from s))
      ∙ sym (rw (z, y, eq-eqb _ _ x) refl)
      ∙ number_is e f

  pub number_real : (e : Part) → p.bare ≡ false → e ≡ exponent_at p.end s → e.bare ≡ false → (e.end ≡ n → ⊥) → Token 5 0 at e.end at (at + e.end) ≡ number_scan at from s
  number_real e z f y x = sym (rw (z, y, ne_eqb _ _ x) refl) ∙ number_is e f
