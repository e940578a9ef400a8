-- Numbers: a good word with its end behind it is scanned whole, and what is scanned as a number is a good word.
use Rattle.std.specs.Prelude.{ℕ, suc, ◌+◌, ◌≤◌, Bool, true, false, ◌&&◌, List, [], ◌∷◌, ◌++◌, ◌≡◌, refl, leb, ltb, eqb, length, take, drop}
use Rattle.std.proofs.Common.{arith, add-zero, zero-add, ltb-false, leb-true, eqb-true, eq-eqb, ne_eqb, le-leb, append_assoc, ap, ap₂, sym, subst, ◌∙◌, length-append, take-append-drop, drop-drop, take-add, length-take-le}
use Rattle.std.proofs.lemmas.Bool.{eqb-false}
use Rattle.std.proofs.Math.Bool.{and-false}
use Rattle.std.proofs.Math.Seq.{drop-append_seam}
use Rattle.refal_rows.specs.Tests.{range_lo, and_left, and_right}
use Rattle.refal_text.specs.Pick.{pick, split}
use Rattle.refal_text.specs.Span.{span}
use Rattle.refal_ast.specs.Kinds.{tok_number}
use Rattle.refal_lexer.specs.Classes.{digit, sign}
use Rattle.refal_lexer.specs.Numbers.{value, ends, digits_at, sign_bytes, point_at, exponent_at, digits_end, number_of, number_scan, Part as Found}
use Rattle.refal_lexer.specs.Numbers.{part as part_at}
use Rattle.refal_lexer.specs.EndLaws.{either}
use Rattle.refal_lexer.specs.PlaceLaws.{part_in}
use Rattle.refal_lexer.specs.Scans.{Scan, Token, Bad}
use Rattle.refal_spelling.specs.Good.{Every, also, Sign, unsigned, plus, minus, Part, absent, digits, Number, macrodigit, real}
use Rattle.refal_spelling.specs.Runs.{Ends, at_end, at_space, span_ends, every_span, length_span, span_every, value_every, value_span}

-- ---- a number by its parts, whose digits, at the front of r, start at `from`
-- the part at the front of s: how many bytes it has, and whether no digit stands in it
abbrev part : ℕ → Bool → List ℕ → Found
part mark signed s = part_at mark signed 0 s

-- the same i bytes on
abbrev on : ℕ → Found → Found
on i p = ends (i + p.end) p.bare

part_on : (mark : ℕ) (signed : Bool) (i : ℕ) (t : List ℕ) → part_at mark signed i t ≡ on i (part mark signed t)
part_on mark signed i [] = ap (λ (k : ℕ). ends k false) (sym (add-zero i))
part_on mark signed i (b ∷ t) = go (eqb b mark) (sign_bytes signed t) (span digit (drop (sign_bytes signed t) t))
  where
    go : (u : Bool) (m n : ℕ) → pick u (ends (i + 1 + m + n) (eqb n 0)) (ends i false) ≡ on i (pick u (ends (0 + 1 + m + n) (eqb n 0)) (ends 0 false))
    go true m n = ap (λ (k : ℕ). ends k (eqb n 0)) (omega arith)
    go false m n = ap (λ (k : ℕ). ends k false) (sym (add-zero i))

-- n digits, worth v, then the parts p and e
abbrev number_by : ℕ → ℕ → ℕ → ℕ → Found → Found → Scan
number_by at from n v p e = number_of at from (from + n) v (on (from + n) p) (on (from + n + p.end) e)

abbrev pub number_ends : ℕ → ℕ → List ℕ → Scan
number_ends at from r =
    number_by at from (span digit r) (value 0 r) (part 46 false (drop (span digit r) r))
    (part 69 true (drop (span digit r + (part 46 false (drop (span digit r) r)).end) r))

pub number_ends_lem : (at from : ℕ) (t r : List ℕ) → drop from t ≡ r → number_scan at from t ≡ number_ends at from r
number_ends_lem at from t r er =
    let n = span digit r in
    let d : digits_end from t ≡ from + n = ap (λ (x : List ℕ). from + span digit x) er in
    let behind : (k : ℕ) → drop (from + k) t ≡ drop k r = λ k. sym (drop-drop k from t) ∙ ap (drop k) er in
    let p : point_at (digits_end from t) t ≡ on (from + n) (part 46 false (drop n r)) =
    ap (λ (k : ℕ). point_at k t) d ∙ part_on 46 false (from + n) (drop (from + n) t) ∙ ap (λ (x : List ℕ). on (from + n) (part 46 false x)) (behind n) in
    let o = (part 46 false (drop n r)).end in
    let z : from + n + o ≡ from + (n + o) = omega arith in
    let e : exponent_at (from + n + o) t ≡ on (from + n + o) (part 69 true (drop (n + o) r)) =
    part_on 69 true (from + n + o) (drop (from + n + o) t) ∙ ap (λ (x : List ℕ). on (from + n + o) (part 69 true x)) (ap (λ (k : ℕ). drop k t) z ∙ behind (n + o)) in
    ap (λ (x : List ℕ). number_of at from (digits_end from t) (value 0 x) (point_at (digits_end from t) t) (exponent_at (point_at (digits_end from t) t).end t)) er
    ∙ ap (λ (x : Found). number_of at from (digits_end from t) (value 0 r) x (exponent_at x.end t)) p
    ∙ ap₂ (λ (k : ℕ) (x : Found). number_of at from k (value 0 r) (on (from + n) (part 46 false (drop n r))) x) d e

-- without a sign, and with one
pub unsigned_ends : (at : ℕ) (s : List ℕ) → number_scan at 0 s ≡ number_ends at 0 s
unsigned_ends at s = number_ends_lem at 0 s s refl

pub signed_ends : (at b : ℕ) (s : List ℕ) → number_scan at 1 (b ∷ s) ≡ number_ends at 1 s
signed_ends at b s = number_ends_lem at 1 (b ∷ s) s refl

-- ---- from a good word to its scan
-- a number's parts, wherever they are known
scan_parts : (at from : ℕ) (s : List ℕ) (n v : ℕ) (p e : Found) → span digit s ≡ n → part 46 false (drop n s) ≡ p → part 69 true (drop (n + p.end) s) ≡ e → value 0 s ≡ v
    → number_ends at from s ≡ number_by at from n v p e
scan_parts at from s n v p e e₁ e₂ e₃ e₄ = rw (e₁, e₂, e₃, e₄) refl

number_whole : (at n v : ℕ) → v ≤ 4294967295 → number_by at 0 n v (ends 0 false) (ends 0 false) ≡ Token tok_number 0 at n at (at + n)
number_whole at n v h =
    let z : 0 + n ≡ n = zero-add n in
    rw (eq-eqb (0 + n + 0 + 0) (0 + n) (omega arith), le-leb _ _ h, z) refl

number_real : (at from n v p q m : ℕ) → 1 ≤ p + q → from + n + p + q ≡ m → number_by at from n v (ends p false) (ends q false) ≡ Token tok_number 0 at m at (at + m)
number_real at from n v p q m h e = rw (ne_eqb (from + n + p + q) (from + n) (λ i. absurd (omega arith)), e) refl

-- a digit is no sign
digit_sign : (b : ℕ) → digit b ≡ true → sign b ≡ false
digit_sign b d = let l : 48 ≤ b = range_lo 48 b 57 d in rw (ne_eqb b 43 (λ e. absurd (omega arith)), ne_eqb b 45 (λ e. absurd (omega arith))) refl

sign_is : (signed : Bool) (l : List ℕ) (b : ℕ) (s : List ℕ) → Sign signed l → digit b ≡ true → sign_bytes signed (l ++ (b ∷ s)) ≡ length l
sign_is signed l b s unsigned d = rw (digit_sign b d, and-false signed) refl
sign_is signed l b s (plus e) d = rw e refl
sign_is signed l b s (minus e) d = rw e refl

-- the digits behind a sign, with something else behind them
signed_digits : (signed : Bool) (l : List ℕ) (b : ℕ) (s r : List ℕ) → Sign signed l → digit b ≡ true → Every digit s → span digit r ≡ 0
    → digits_at (0 + 1 + sign_bytes signed ((l ++ (b ∷ s)) ++ r)) (drop (sign_bytes signed ((l ++ (b ∷ s)) ++ r)) ((l ++ (b ∷ s)) ++ r)) ≡ ends (suc (length (l ++ (b ∷ s)))) false
signed_digits signed l b s r g d a z =
    let m : sign_bytes signed ((l ++ (b ∷ s)) ++ r) ≡ length l = ap (sign_bytes signed) (append_assoc l (b ∷ s) r) ∙ sign_is signed l b (s ++ r) g d in
    let t : drop (length l) ((l ++ (b ∷ s)) ++ r) ≡ b ∷ s ++ r = ap (drop (length l)) (append_assoc l (b ∷ s) r) ∙ drop-append_seam l (b ∷ s ++ r) in
    let n : span digit (b ∷ s ++ r) ≡ suc (length s) = span_every digit (b ∷ s) r (also b s d a) z in
    let k : 0 + 1 + length l + suc (length s) ≡ suc (length (l ++ (b ∷ s))) = let h = length-append l (b ∷ s) in omega arith in
    ap (λ (j : ℕ). digits_at (0 + 1 + j) (drop j ((l ++ (b ∷ s)) ++ r))) m
    ∙ ap (digits_at (0 + 1 + length l)) t
    ∙ ap (λ (j : ℕ). ends (0 + 1 + length l + j) (eqb j 0)) n
    ∙ ap₂ ends k (ne_eqb (suc (length s)) 0 (λ e. absurd (omega arith)))

-- what a part leaves behind it begins with no digit, and not with the next mark
part_stops : (mark : ℕ) (signed : Bool) (ps r : List ℕ) → digit mark ≡ false → Part mark signed ps → span digit r ≡ 0 → span digit (ps ++ r) ≡ 0
part_stops mark signed ps r h absent e = e
part_stops mark signed ps r h (digits l b s g d a) e = rw h

part_is : (mark : ℕ) (signed : Bool) (ps r : List ℕ) → Part mark signed ps → span digit r ≡ 0 → part mark signed r ≡ ends 0 false → part mark signed (ps ++ r) ≡ ends (length ps) false
part_is mark signed ps r absent e f = f
part_is mark signed ps r (digits l b s g d a) e f = rw (eq-eqb mark mark refl) (signed_digits signed l b s r g d a e)

part_not : (mark : ℕ) (signed : Bool) (ps r : List ℕ) (m : ℕ) (other : Bool) → eqb m mark ≡ false → Part m other ps → part mark signed r ≡ ends 0 false → part mark signed (ps ++ r) ≡ ends 0 false
part_not mark signed ps r m other h absent f = f
part_not mark signed ps r m other h (digits l b s g d a) f = rw h

part_ends : (mark : ℕ) (signed : Bool) (r : List ℕ) → eqb 32 mark ≡ false → Ends r → part mark signed r ≡ ends 0 false
part_ends mark signed r h at_end = refl
part_ends mark signed r h (at_space t) = rw h

module _ (ds ps qs r : List ℕ) (hd : Every digit ds) (hp : Part 46 false ps) (hq : Part 69 true qs) (hr : Ends r) where
  stops₂ : span digit (qs ++ r) ≡ 0
  stops₂ = part_stops 69 true qs r refl hq (span_ends digit r refl hr)

  stops₁ : span digit (ps ++ (qs ++ r)) ≡ 0
  stops₁ = part_stops 46 false ps (qs ++ r) refl hp stops₂

  is_n : span digit (ds ++ (ps ++ (qs ++ r))) ≡ length ds
  is_n = span_every digit ds (ps ++ (qs ++ r)) hd stops₁

  is_p : part 46 false (drop (length ds) (ds ++ (ps ++ (qs ++ r)))) ≡ ends (length ps) false
  is_p =
      ap (part 46 false) (drop-append_seam ds (ps ++ (qs ++ r)))
      ∙ part_is 46 false ps (qs ++ r) hp stops₂ (part_not 46 false qs r 69 true refl hq (part_ends 46 false r refl hr))

  is_q : part 69 true (drop (length ds + length ps) (ds ++ (ps ++ (qs ++ r)))) ≡ ends (length qs) false
  is_q =
      ap (part 69 true) (sym (drop-drop (length ps) (length ds) (ds ++ (ps ++ (qs ++ r))))
      ∙ ap (drop (length ps)) (drop-append_seam ds (ps ++ (qs ++ r))) ∙ drop-append_seam ps (qs ++ r))
      ∙ part_is 69 true qs r hq (span_ends digit r refl hr) (part_ends 69 true r refl hr)

  scan_number_of : (at from : ℕ) → number_ends at from (ds ++ (ps ++ (qs ++ r))) ≡ number_by at from (length ds) (value 0 ds) (ends (length ps) false) (ends (length qs) false)
  scan_number_of at from =
      scan_parts at from (ds ++ (ps ++ (qs ++ r))) (length ds) (value 0 ds) (ends (length ps) false) (ends (length qs) false) is_n is_p is_q
      (value_every 0 ds (ps ++ (qs ++ r)) hd stops₁)

-- a macrodigit, and a real whose sign has `from` bytes
pub scan_macrodigit : (at : ℕ) (ds r : List ℕ) → Every digit ds → value 0 ds ≤ 4294967295 → Ends r → number_ends at 0 (ds ++ r) ≡ Token tok_number 0 at (length ds) at (at + length ds)
scan_macrodigit at ds r a h e = scan_number_of ds [] [] r a absent absent e at 0 ∙ number_whole at (length ds) (value 0 ds) h

pub scan_real : (at from m : ℕ) (ds ps qs r : List ℕ) → Every digit ds → Part 46 false ps → Part 69 true qs → 1 ≤ length (ps ++ qs) → Ends r → from + length (ds ++ (ps ++ qs)) ≡ m
    → number_ends at from ((ds ++ (ps ++ qs)) ++ r) ≡ Token tok_number 0 at m at (at + m)
scan_real at from m ds ps qs r a hp hq h e i =
    let l₁ = length-append ds (ps ++ qs) in
    let l₂ = length-append ps qs in
    ap (number_ends at from) (append_assoc ds (ps ++ qs) r ∙ ap (λ (l : List ℕ). ds ++ l) (append_assoc ps qs r))
    ∙ scan_number_of ds ps qs r a hp hq e at from
    ∙ number_real at from (length ds) (value 0 ds) (length ps) (length qs) m (omega arith) (omega arith)

-- ---- from a scan to a good word
sign_view : (signed : Bool) (s : List ℕ) → Sign signed (take (sign_bytes signed s) s)
sign_view signed [] = unsigned
sign_view signed (b ∷ s) = split (λ (n : ℕ). Sign signed (take n (b ∷ s))) (signed && sign b) 1 0 (λ t.
    either (eqb b 43) (eqb b 45)
    (λ e. subst (λ (x : ℕ). Sign signed (x ∷ [])) (sym (eqb-true b 43 e)) (plus (and_left signed (sign b) t)))
    (λ e. subst (λ (x : ℕ). Sign signed (x ∷ [])) (sym (eqb-true b 45 e)) (minus (and_left signed (sign b) t))) (and_right signed (sign b) t)) (λ _. unsigned)

-- a part at the front of s in which a digit stands, or which is not there
part_view : (mark : ℕ) (signed : Bool) (s : List ℕ) → (part mark signed s).bare ≡ false → Part mark signed (take (part mark signed s).end s)
part_view mark signed [] h = absent
part_view mark signed (b ∷ s) h = go (eqb b mark) refl h
  where
    more : (l t : List ℕ) → Sign signed l → eqb (span digit t) 0 ≡ false → Part mark signed (mark ∷ l ++ take (span digit t) t)
    more l [] g h = absurd (eqb-false 0 0 h refl)
    more l (c ∷ t) g h = at (digit c) refl h
      where
        at : (u : Bool) → digit c ≡ u → eqb (pick u (suc (span digit t)) 0) 0 ≡ false → Part mark signed (mark ∷ l ++ take (pick u (suc (span digit t)) 0) (c ∷ t))
        at true e h = digits l c (take (span digit t) t) g e (every_span digit t)
        at false e h = absurd (eqb-false 0 0 h refl)

    go : (u : Bool) → eqb b mark ≡ u → (pick u (digits_at (0 + 1 + sign_bytes signed s) (drop (sign_bytes signed s) s)) (ends 0 false)).bare ≡ false
        → Part mark signed (take (pick u (digits_at (0 + 1 + sign_bytes signed s) (drop (sign_bytes signed s) s)) (ends 0 false)).end (b ∷ s))
    go true e h =
        let n = span digit (drop (sign_bytes signed s) s) in
        let z : 0 + 1 + sign_bytes signed s + n ≡ suc (sign_bytes signed s + n) = omega arith in
        subst (Part mark signed) (ap₂ (λ (x : ℕ) (t : List ℕ). x ∷ t) (sym (eqb-true _ _ e)) (sym (take-add (sign_bytes signed s) n s)) ∙ ap (λ (k : ℕ). take k (b ∷ s)) (sym z))
        (more (take (sign_bytes signed s) s) (drop (sign_bytes signed s) s) (sign_view signed s) h)
    go false e h = absent

length_part : (mark : ℕ) (signed : Bool) (s : List ℕ) → length (take (part mark signed s).end s) ≡ (part mark signed s).end
length_part mark signed s = length-take-le (part mark signed s).end s (let h = (part_in mark signed 0 s).1 in omega arith)

-- a scan of a number that starts at `at` in the bytes l
pub data SeesNumber (at : ℕ) (l : List ℕ) : Scan → Type 0 where
  no_number : {n e : ℕ} → SeesNumber at l (Bad n at e)
  a_number : {len end : ℕ} (w rest : List ℕ) → l ≡ w ++ rest → len ≡ length w → end ≡ at + length w → Number w → SeesNumber at l (Token tok_number 0 at len at end)

module _ (at from : ℕ) (l : List ℕ) (g : Sign true l) (lf : from ≡ length l) (b : ℕ) (s : List ℕ) (d : digit b ≡ true) where
  -- the digits, the point's part, E's part, and what is behind them
  abbrev n : ℕ
  n = span digit (b ∷ s)

  abbrev p : Found
  p = part 46 false (drop n (b ∷ s))

  abbrev q : Found
  q = part 69 true (drop p.end (drop n (b ∷ s)))

  abbrev ds : List ℕ
  ds = take (span digit s) s

  abbrev ps : List ℕ
  ps = take p.end (drop n (b ∷ s))

  abbrev qs : List ℕ
  qs = take q.end (drop p.end (drop n (b ∷ s)))

  abbrev rest : List ℕ
  rest = drop q.end (drop p.end (drop n (b ∷ s)))

  digits_are : take n (b ∷ s) ≡ b ∷ ds
  digits_are = rw d

  digits_count : n ≡ suc (length ds)
  digits_count = rw (d, length_span digit s) refl

  parts_are : b ∷ s ≡ (b ∷ ds) ++ (ps ++ (qs ++ rest))
  parts_are =
      sym (take-append-drop n (b ∷ s))
      ∙ ap₂ (λ (x y : List ℕ). x ++ y) digits_are
      (sym (take-append-drop p.end (drop n (b ∷ s))) ∙ ap (λ (y : List ℕ). ps ++ y) (sym (take-append-drop q.end (drop p.end (drop n (b ∷ s))))))

  sees_real : p.bare ≡ false → q.bare ≡ false → (from + n + p.end + q.end ≡ from + n → ⊥)
      → SeesNumber at (l ++ (b ∷ s)) (Token tok_number 0 at (from + n + p.end + q.end) at (at + (from + n + p.end + q.end)))
  sees_real hp hq h =
      let w : List ℕ = l ++ (b ∷ ds ++ (ps ++ qs)) in
      let a₁ : length w ≡ length l + length (b ∷ ds ++ (ps ++ qs)) = length-append l (b ∷ ds ++ (ps ++ qs)) in
      let a₂ : length (b ∷ ds ++ (ps ++ qs)) ≡ suc (length ds) + length (ps ++ qs) = length-append (b ∷ ds) (ps ++ qs) in
      let a₃ : length (ps ++ qs) ≡ length ps + length qs = length-append ps qs in
      let a₄ : length ps ≡ p.end = length_part 46 false (drop n (b ∷ s)) in
      let a₅ : length qs ≡ q.end = length_part 69 true (drop p.end (drop n (b ∷ s))) in
      let a₆ = digits_count in
      let z : from + n + p.end + q.end ≡ length w = omega arith in
      let some : p.end + q.end ≡ 0 → ⊥ = λ i. h (omega arith) in
      let f : l ++ (b ∷ s) ≡ w ++ rest
      = ap (λ (t : List ℕ). l ++ t) (parts_are ∙ ap (λ (t : List ℕ). (b ∷ ds) ++ t) (sym (append_assoc ps qs rest)) ∙ sym (append_assoc (b ∷ ds) (ps ++ qs) rest))
      ∙ sym (append_assoc l (b ∷ ds ++ (ps ++ qs)) rest) in
      a_number {len = from + n + p.end + q.end} {end = at + (from + n + p.end + q.end)} w rest f z (ap (λ (k : ℕ). at + k) z)
      (real l b ds ps qs g d (every_span digit s) (part_view 46 false (drop n (b ∷ s)) hp) (part_view 69 true (drop p.end (drop n (b ∷ s))) hq) (omega arith))

  sees_whole : from ≤ 0 → value 0 (b ∷ s) ≤ 4294967295 → SeesNumber at (l ++ (b ∷ s)) (Token tok_number 0 at (from + n) at (at + (from + n)))
  sees_whole h v =
      let f : l ≡ [] = none l g (let z : length l ≡ 0 = omega arith in z) in
      let a₂ = digits_count in
      let z : from + n ≡ suc (length ds) = omega arith in
      let i : value 0 (b ∷ ds) ≡ value 0 (b ∷ s) = ap (value 0) (sym digits_are) ∙ value_span 0 (b ∷ s) in
      let j : l ++ (b ∷ s) ≡ (b ∷ ds) ++ (ps ++ (qs ++ rest)) = ap (λ (t : List ℕ). t ++ (b ∷ s)) f ∙ parts_are in
      a_number {len = from + n} {end = at + (from + n)} (b ∷ ds) (ps ++ (qs ++ rest)) j z (ap (λ (k : ℕ). at + k) z) (macrodigit b ds d (every_span digit s) (omega arith))
    where
      none : (l : List ℕ) → Sign true l → length l ≡ 0 → l ≡ []
      none l unsigned e = refl
      none l (plus t) e = absurd (omega arith)
      none l (minus t) e = absurd (omega arith)

  sees_by : SeesNumber at (l ++ (b ∷ s)) (number_by at from n (value 0 (b ∷ s)) p q)
  sees_by =
      split S p.bare _ _ (λ _. no_number) (λ h₁.
      split S q.bare _ _ (λ _. no_number) (λ h₂.
      split S (eqb (from + n + p.end + q.end) (from + n)) _ _ (λ _.
      split S (ltb 0 from) _ _ (λ _. no_number) (λ h₄.
      split S (leb (value 0 (b ∷ s)) 4294967295) _ _ (λ h₅. sees_whole (ltb-false _ _ h₄) (leb-true _ _ h₅)) (λ _. no_number))) (λ h₃.
      sees_real h₁ h₂ (eqb-false (from + n + p.end + q.end) (from + n) h₃))))
    where
      S : Scan → Type 0
      S = SeesNumber at (l ++ (b ∷ s))

  pub sees_number : SeesNumber at (l ++ (b ∷ s)) (number_ends at from (b ∷ s))
  sees_number =
      subst (λ (t : List ℕ). SeesNumber at (l ++ (b ∷ s)) (number_by at from n (value 0 (b ∷ s)) p (part 69 true t))) (drop-drop p.end n (b ∷ s)) sees_by
