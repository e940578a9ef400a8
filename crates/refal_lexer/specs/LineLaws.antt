-- Laws of `line_start`: what white space, and a byte that is none, make of it.
use Rattle.std.specs.Prelude.{ℕ, zero, suc, ◌+◌, ◌<◌, ◌≤◌, Bool, true, false, not, ◌&&◌, ◌||◌, List, [], ◌∷◌, ◌++◌, ◌≡◌, refl, ltb, eqb, length, take, get_or}
use Rattle.std.proofs.Common.{arith, ne_eqb, lt-ltb, ltb-true, eqb-true, true≢false, ap, ap₂, sym, ◌∙◌, length-append, get_or-append-add, get_or-take, length-take-le}
use Rattle.std.proofs.Math.Decide.{dec_le}
use Rattle.std.proofs.lemmas.Bool.{lt-leb}
use Rattle.refal_rows.specs.Tests.{range_lo}
use Rattle.std.proofs.Math.ListN.{get_or-append}
use Rattle.refal_text.specs.Pick.{pick}
use Rattle.refal_text.specs.Utf8.{char, ill, cont, leads, well2, well3, well4, code2, code3, code4, two, three, four, by_lead, decode}
use Rattle.refal_text.specs.Utf8Laws.{decode_ascii}
use Rattle.refal_text.specs.White.{white_space}
use Rattle.refal_text.specs.declared.Char.{Char}
use Rattle.refal_lexer.specs.Carried.{line_after}
use Rattle.refal_lexer.specs.Blanks.{white_len}
use Rattle.refal_lexer.specs.BoundaryLaws.{past_in, decode_front, decode_behind}
use Rattle.refal_lexer.specs.Stars.{newline_in, behind_last, white_step, only_white, line_start}

-- ---- a character's own bytes decide it
len_is : (t : Bool) (x n k : ℕ) → (pick t (char x n) ill).len ≡ suc k → n ≡ suc k
len_is true x n k e = e
len_is false x n k e = absurd (omega arith)

char_by : (n a b c d b' c' d' k : ℕ) → (by_lead n a b c d).len ≡ suc k → (1 ≤ k → b' ≡ b) → (2 ≤ k → c' ≡ c) → (3 ≤ k → d' ≡ d) → by_lead n a b' c' d' ≡ by_lead n a b c d
char_by n a b c d b' c' d' k = go (eqb n 0) (eqb n 2) (eqb n 3) (eqb n 4)
  where
    go : (p q r t : Bool) → (pick p (char a 1) (pick q (two a b) (pick r (three a b c) (pick t (four a b c d) ill)))).len ≡ suc k → (1 ≤ k → b' ≡ b) → (2 ≤ k → c' ≡ c) → (3 ≤ k → d' ≡ d)
        → pick p (char a 1) (pick q (two a b') (pick r (three a b' c') (pick t (four a b' c' d') ill))) ≡ pick p (char a 1) (pick q (two a b) (pick r (three a b c) (pick t (four a b c d) ill)))
    go true q r t e f g h = refl
    go false true r t e f g h = let l : 2 ≡ suc k = len_is (well2 a b) (code2 a b) 2 k e in ap (two a) (f (omega arith))
    go false false true t e f g h = let l : 3 ≡ suc k = len_is (well3 a b c) (code3 a b c) 3 k e in ap₂ (three a) (f (omega arith)) (g (omega arith))
    go false false false true e f g h =
        let l : 4 ≡ suc k = len_is (well4 a b c d) (code4 a b c d) 4 k e in
        ap₂ (λ (x y : ℕ). four a x y d') (f (omega arith)) (g (omega arith)) ∙ ap (four a b c) (h (omega arith))
    go false false false false e f g h = refl

decode_cut : (b : ℕ) (s t : List ℕ) (k : ℕ) → (decode (b ∷ s)).len ≡ suc k → ((j : ℕ) → j < k → get_or t j 0 ≡ get_or s j 0) → decode (b ∷ t) ≡ decode (b ∷ s)
unfolding decode
decode_cut b s t k e f =
    char_by (leads b) b (get_or s 0 0) (get_or s 1 0) (get_or s 2 0) (get_or t 0 0) (get_or t 1 0) (get_or t 2 0) k e (λ l. f 0 (omega arith)) (λ l. f 1 (omega arith)) (λ l. f 2 (omega arith))

pick_some : (t : Bool) (n k : ℕ) → pick t n 0 ≡ suc k → n ≡ suc k
pick_some true n k e = e
pick_some false n k e = absurd (omega arith)

pub white_len_lem : (s : List ℕ) (k : ℕ) → white_len s ≡ suc k → (decode s).len ≡ suc k
white_len_lem s k e = pick_some (white_space (decode s).code) (decode s).len k e

white_cut : (b : ℕ) (s t : List ℕ) (k : ℕ) → white_len (b ∷ s) ≡ suc k → ((j : ℕ) → j < k → get_or t j 0 ≡ get_or s j 0) → white_len (b ∷ t) ≡ suc k
white_cut b s t k e f = ap (λ (c : Char). pick (white_space c.code) c.len 0) (decode_cut b s t k (white_len_lem (b ∷ s) k e) f) ∙ e

pub white_in : (b : ℕ) (s : List ℕ) (k : ℕ) → white_len (b ∷ s) ≡ suc k → k ≤ length s
white_in b s k e = let h = past_in k (b ∷ s) (white_len_lem (b ∷ s) k e) in omega arith

-- what stands behind, and continues no character, does not alter the white space at the front
white_before : (c : ℕ) (x w : List ℕ) → cont (get_or w 0 0) ≡ false → white_len (c ∷ (x ++ w)) ≡ white_len (c ∷ x)
white_before c x w h = go (white_len (c ∷ x)) (white_len (c ∷ (x ++ w))) refl refl
  where
    short : (k : ℕ) → (decode (c ∷ (x ++ w))).len ≡ suc k → Dec (k ≤ length x) → k ≤ length x
    short k e (yes l) = l
    short k e (no l) =
        let t : cont (get_or (x ++ w) (length x + 0) 0) ≡ true = decode_behind c k (length x + 0) (x ++ w) e (omega arith) in
        absurd (true≢false (sym t ∙ ap cont (get_or-append-add x w 0 0) ∙ h))

    go : (m n : ℕ) → white_len (c ∷ x) ≡ m → white_len (c ∷ (x ++ w)) ≡ n → white_len (c ∷ (x ++ w)) ≡ white_len (c ∷ x)
    go (suc k) n e f = let l = white_in c x k e in white_cut c x (x ++ w) k e (λ j i. get_or-append x w 0 j (omega arith)) ∙ sym e
    go zero (suc k) e f =
        let l = short k (white_len_lem (c ∷ (x ++ w)) k f) (dec_le k (length x)) in
        let z = white_cut c (x ++ w) x k f (λ j i. sym (get_or-append x w 0 j (omega arith))) in
        absurd (omega arith)
    go zero zero e f = f ∙ sym e

-- ---- white space only
only_append : (k : ℕ) (x w : List ℕ) → k ≤ length x → cont (get_or w 0 0) ≡ false → only_white k (x ++ w) ≡ only_white k x && only_white 0 w
unfolding only_white
only_append zero [] w l h = refl
only_append (suc k) [] w l h = absurd (omega arith)
only_append (suc k) (c ∷ x) w l h = only_append k x w (omega arith) h
only_append zero (c ∷ x) w l h = ap (λ (n : ℕ). white_step n (λ k. only_white k (x ++ w))) (white_before c x w h) ∙ go (white_len (c ∷ x)) refl (λ k i. only_append k x w i h)
  where
    go : (n : ℕ) → white_len (c ∷ x) ≡ n → ((k : ℕ) → k ≤ length x → only_white k (x ++ w) ≡ only_white k x && only_white 0 w)
        → white_step n (λ k. only_white k (x ++ w)) ≡ white_step n (λ k. only_white k x) && only_white 0 w
    go zero e ih = refl
    go (suc k) e ih = ih k (white_in c x k e)

only_skip : (s : List ℕ) → only_white (length s) s ≡ true
unfolding only_white
only_skip [] = refl
only_skip (b ∷ s) = only_skip s

-- a white-space character, cut out
only_white_lem : (b : ℕ) (s : List ℕ) (k : ℕ) → white_len (b ∷ s) ≡ suc k → only_white 0 (b ∷ take k s) ≡ true
unfolding only_white
only_white_lem b s k e =
    ap (λ (n : ℕ). white_step n (λ j. only_white j (take k s))) (white_cut b s (take k s) k e (λ j i. get_or-take k s j 0 i))
    ∙ ap (λ (n : ℕ). only_white n (take k s)) (sym (length-take-le k s (white_in b s k e)))
    ∙ only_skip (take k s)

-- a byte that is no white space
abbrev pub Ink : ℕ → Type 0
Ink b = (ltb b 128 ≡ true) × (white_space b ≡ false)

low_cont : (b : ℕ) → ltb b 128 ≡ true → cont b ≡ false
low_cont b h = let k : b < 128 = ltb-true b 128 h in simp (lt-leb 128 b k)

only_ink : (b : ℕ) (s : List ℕ) → Ink b → only_white 0 (b ∷ s) ≡ false
unfolding only_white
only_ink b s i = ap (λ (c : Char). white_step (pick (white_space c.code) c.len 0) (λ k. only_white k s)) (decode_ascii b s i.0) ∙ rw i.1 refl

-- ---- newlines
newline_append : (x y : List ℕ) → newline_in y ≡ false → newline_in (x ++ y) ≡ newline_in x
newline_append [] y h = h
newline_append (b ∷ x) y h = ap (λ (t : Bool). eqb b 10 || t) (newline_append x y h)

behind_append : (x y : List ℕ) → newline_in x ≡ true → newline_in y ≡ false → behind_last (x ++ y) ≡ behind_last x ++ y
behind_append [] y h n = absurd (true≢false (sym h))
behind_append (b ∷ x) y h n = ap (λ (t : Bool). pick t (behind_last (x ++ y)) (x ++ y)) (newline_append x y n) ∙ go (newline_in x) refl (λ e. behind_append x y e n)
  where
    go : (t : Bool) → newline_in x ≡ t → (newline_in x ≡ true → behind_last (x ++ y) ≡ behind_last x ++ y) → pick t (behind_last (x ++ y)) (x ++ y) ≡ pick t (behind_last x) x ++ y
    go true e ih = ih e
    go false e ih = refl

some_length : (x y : List ℕ) (b : ℕ) → eqb (length (x ++ (b ∷ y))) 0 ≡ false
some_length x y b = ne_eqb (length (x ++ (b ∷ y))) 0 (λ (e : length (x ++ (b ∷ y)) ≡ 0). let l = length-append x (b ∷ y) in absurd (omega arith))

-- bytes behind x without a newline
line_append : (x y : List ℕ) (b : ℕ) → newline_in (b ∷ y) ≡ false → cont b ≡ false → line_start (x ++ (b ∷ y)) ≡ newline_in x && (only_white 0 (behind_last x) && only_white 0 (b ∷ y))
line_append x y b n c = ap (λ (t : Bool). pick t (only_white 0 (behind_last (x ++ (b ∷ y)))) (eqb (length (x ++ (b ∷ y))) 0)) (newline_append x (b ∷ y) n) ∙ go (newline_in x) refl
  where
    go : (t : Bool) → newline_in x ≡ t → pick t (only_white 0 (behind_last (x ++ (b ∷ y)))) (eqb (length (x ++ (b ∷ y))) 0) ≡ t && (only_white 0 (behind_last x) && only_white 0 (b ∷ y))
    go true e = ap (only_white 0) (behind_append x (b ∷ y) e n) ∙ only_append 0 (behind_last x) (b ∷ y) (omega arith) c
    go false e = some_length x y b

and_none : (x y : Bool) → x && (y && false) ≡ false
and_none true true = refl
and_none true false = refl
and_none false y = refl

-- ink ends a line's start, and what follows on the line does not bring it back
pub line_ink : (x y : List ℕ) (b : ℕ) → Ink b → newline_in (b ∷ y) ≡ false → line_start (x ++ (b ∷ y)) ≡ false
line_ink x y b i n =
    line_append x y b n (low_cont b i.0)
    ∙ ap (λ (t : Bool). newline_in x && (only_white 0 (behind_last x) && t)) (only_ink b y i)
    ∙ and_none (newline_in x) (only_white 0 (behind_last x))

-- ---- a white-space character: what `line_after` says
or_true : (t : Bool) → t || true ≡ true
or_true true = refl
or_true false = refl

newline_last : (x : List ℕ) → newline_in (x ++ (10 ∷ [])) ≡ true
newline_last [] = refl
newline_last (b ∷ x) = ap (λ (t : Bool). eqb b 10 || t) (newline_last x) ∙ or_true (eqb b 10)

behind_none : (x : List ℕ) → behind_last (x ++ (10 ∷ [])) ≡ []
behind_none [] = refl
behind_none (b ∷ x) = ap (λ (t : Bool). pick t (behind_last (x ++ (10 ∷ []))) (x ++ (10 ∷ []))) (newline_last x) ∙ behind_none x

line_newline : (x : List ℕ) → line_start (x ++ (10 ∷ [])) ≡ true
unfolding only_white
line_newline x = ap₂ (λ (t : Bool) (l : List ℕ). pick t (only_white 0 l) (eqb (length (x ++ (10 ∷ []))) 0)) (newline_last x) (behind_none x)

-- bytes that continue a character are no newlines
cont_clean : (t : List ℕ) → ((j : ℕ) → j < length t → cont (get_or t j 0) ≡ true) → newline_in t ≡ false
cont_clean [] h = refl
cont_clean (c ∷ t) h =
    let l : 128 ≤ c = range_lo 128 c 191 (h 0 (omega arith)) in
    rw (ne_eqb c 10 (λ e. absurd (omega arith))) (cont_clean t (λ j i. h (suc j) (omega arith)))

line_flag : (x : List ℕ) → newline_in x && (only_white 0 (behind_last x) && true) ≡ line_start x && not (eqb (length x) 0)
line_flag [] = refl
line_flag (b ∷ x) = go (newline_in (b ∷ x)) (only_white 0 (behind_last (b ∷ x))) (eqb (suc (length x)) 0) (ne_eqb (suc (length x)) 0 (λ e. absurd (omega arith)))
  where
    go : (t o z : Bool) → z ≡ false → t && (o && true) ≡ pick t o z && not z
    go true o false e = refl
    go false o false e = refl
    go t o true e = absurd (true≢false e)

pub line_white : (x : List ℕ) (b : ℕ) (s : List ℕ) (k : ℕ) → white_len (b ∷ s) ≡ suc k → line_start (x ++ (b ∷ take k s)) ≡ line_after b (length x) (line_start x)
line_white x b s k e = go (eqb b 10) refl
  where
    go : (t : Bool) → eqb b 10 ≡ t → line_start (x ++ (b ∷ take k s)) ≡ t || (line_start x && not (eqb (length x) 0))
    go true f =
        let i : b ≡ 10 = eqb-true b 10 f in
        let m : (decode (b ∷ s)).len ≡ 1 = ap (λ (c : Char). c.len) (decode_ascii b s (lt-ltb b 128 (omega arith))) in
        let z : k ≡ 0 = let n = white_len_lem (b ∷ s) k e in omega arith in
        ap₂ (λ (c n : ℕ). line_start (x ++ (c ∷ take n s))) i z ∙ line_newline x
    go false f =
        let d = white_len_lem (b ∷ s) k e in
        let l = white_in b s k e in
        let g = length-take-le k s l in
        let n : newline_in (take k s) ≡ false = cont_clean (take k s) (λ j i. ap cont (get_or-take k s j 0 (omega arith)) ∙ decode_behind b k j s d (omega arith)) in
        line_append x (take k s) b (ap₂ (λ (u v : Bool). u || v) f n) (decode_front b k s d)
        ∙ ap (λ (t : Bool). newline_in x && (only_white 0 (behind_last x) && t)) (only_white_lem b s k e)
        ∙ line_flag x
