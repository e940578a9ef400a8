-- A normal form written out, and laws of its text: what its parts are, and what their form is.
use Rattle.std.specs.Prelude.{ℕ, zero, suc, ◌+◌, ◌-◌, ◌/◌, ◌%◌, ◌≤◌, ◌<◌, Bool, true, false, ◌&&◌, List, [], ◌∷◌, ◌++◌, ◌≡◌, refl, eqb, leb, ltb, length, take, drop}
use Rattle.std.proofs.Common.{true≢false, append-nil, ap, sym, ◌∙◌, arith, mod-lt, div-add-mod', div-lt_iff_lt-mul, ltb-true, ne_eqb, le-leb, leb-true, lt-ltb, le-ltb}
use Rattle.refal_text.specs.Pick.{pick}
use Rattle.refal_text.specs.Span.{span}
use Rattle.refal_lexer.specs.Classes.{digit}
use Rattle.refal_real.specs.Parts.{first, unsigned, run, past, Parts, parts, fraction_at}
use Rattle.refal_real.specs.Value.{tens, num, all}
use Rattle.refal_real.specs.Form.{less, trim, Form, form, normal}
use Rattle.refal_real.specs.Tens.{Digits, Led, Ended, Clean, clean, num_less, digits_less, tens_suc, tens_zero, tens_pos}
use Rattle.refal_real.specs.Loops.{nine}

-- ---- the definitions
-- a form that is normal: its digits neither begin nor end with zero, its power has no minus where it is 0, and without digits it is zero's
pub record Normal (f : Form) : Type 0 where
  pub clean : Clean f.digits
  pub power : f.down ≡ true → 0 < f.power
  pub zero_form : f.digits ≡ [] → f ≡ record { minus = false; digits = []; down = false; power = 0 }

-- a sign as written: a plus may be left out
pub data Signed : Bool → List ℕ → Type 0 where
  left_out : Signed false []
  plus : Signed false (43 ∷ [])
  minus : Signed true (45 ∷ [])

-- digits of a number, at most 9 of them
pub record Spells (x : List ℕ) (n : ℕ) : Type 0 where
  pub some : 0 < length x
  pub few : length x ≤ 9
  pub digits : Digits x
  pub is : num x ≡ n

-- digits, and 0 where there are none
abbrev pub shown : List ℕ → List ℕ
shown [] = 48 ∷ []
shown (b ∷ s) = b ∷ s

-- sign, digits, E, the power's sign and digits
abbrev pub written : List ℕ → List ℕ → List ℕ → List ℕ → List ℕ
written s d z x = s ++ (shown d ++ (69 ∷ (z ++ x)))

-- ---- digits that a text begins with
digit_yes : (b : ℕ) → 48 ≤ b → b ≤ 57 → digit b ≡ true
digit_yes b l h = rw (le-leb 48 b l, le-leb b 57 h) refl

pub digits_run : (s : List ℕ) → Digits (run s)
unfolding run
digits_run [] = tt
digits_run (b ∷ s) = go (leb 48 b) refl (leb b 57) refl (digits_run s)
  where
    go : (x : Bool) → leb 48 b ≡ x → (y : Bool) → leb b 57 ≡ y → Digits (take (span digit s) s) → Digits (take (pick (x && y) (suc (span digit s)) 0) (b ∷ s))
    go true p true q ih = (leb-true 48 b p, leb-true b 57 q, ih)
    go true p false q ih = tt
    go false p true q ih = tt
    go false p false q ih = tt

digits_append : (s t : List ℕ) → Digits s → Digits t → Digits (s ++ t)
digits_append [] t d e = e
digits_append (b ∷ s) t d e = (d.0, d.1, digits_append s t d.2 e)

pub digits_parts : (t : List ℕ) → Digits (all (parts t))
unfolding parts
digits_parts t = digits_append (run (unsigned t)) (fraction_at (past (unsigned t))) (digits_run (unsigned t)) (go (eqb (first (past (unsigned t))) 46))
  where
    go : (x : Bool) → Digits (pick x (run (drop 1 (past (unsigned t)))) [])
    go true = digits_run (drop 1 (past (unsigned t)))
    go false = tt

run_none : (t : List ℕ) → digit (first t) ≡ false → (run t ≡ []) × (past t ≡ t)
unfolding run past
run_none [] h = (refl, refl)
run_none (b ∷ t) h = (rw h refl, rw h refl)

run_append : (s t : List ℕ) → Digits s → digit (first t) ≡ false → (run (s ++ t) ≡ s) × (past (s ++ t) ≡ t)
unfolding run past
run_append [] t d h = run_none t h
run_append (b ∷ s) t d h =
    let i = run_append s t d.2 h in
    let e = digit_yes b d.0 d.1 in
    (rw (e, i.0) refl, rw (e, i.1) refl)

run_all : (s : List ℕ) → Digits s → (run s ≡ s) × (past s ≡ [])
run_all s d = rw (append-nil s) at (run_append s [] d refl)

unsigned_signed : {m : Bool} {s : List ℕ} → Signed m s → (b : ℕ) (t : List ℕ) → 48 ≤ b → (unsigned (s ++ (b ∷ t)) ≡ b ∷ t) × (eqb (first (s ++ (b ∷ t))) 45 ≡ m)
unsigned_signed left_out b t h =
    let x = ne_eqb b 43 (λ e. omega arith) in
    let y = ne_eqb b 45 (λ e. omega arith) in
    (rw (x, y) refl, y)
unsigned_signed plus b t h = (refl, refl)
unsigned_signed minus b t h = (refl, refl)

abbrev read : Bool → List ℕ → Bool → List ℕ → Parts
read m w e x = record { minus = m; whole = w; fraction = []; down = e; exponent = x }

pub parts_written : (m e : Bool) (s z : List ℕ) → Signed m s → Signed e z → (b : ℕ) (d : List ℕ) (c : ℕ) (x : List ℕ) → Digits (b ∷ d) → Digits (c ∷ x)
    → parts (s ++ ((b ∷ d) ++ (69 ∷ (z ++ (c ∷ x))))) ≡ read m (b ∷ d) e (c ∷ x)
unfolding parts
parts_written m e s z p q b d c x g h =
    let u = unsigned_signed p b (d ++ (69 ∷ (z ++ (c ∷ x)))) g.0 in
    let r = run_append (b ∷ d) (69 ∷ (z ++ (c ∷ x))) g refl in
    let v = unsigned_signed q c x h.0 in
    let y = run_all (c ∷ x) h in
    rw (u.0, u.1, r.0, r.1, v.0, v.1, y.0) refl

-- ---- its form
trim_ended : (s : List ℕ) → Ended s → trim s ≡ s
unfolding trim
trim_ended [] h = refl
trim_ended (b ∷ []) h = rw (ne_eqb b 48 h) refl
trim_ended (b ∷ c ∷ t) h = rw (trim_ended (c ∷ t) h) refl

less_led : (s : List ℕ) → Led s → less s ≡ s
unfolding less
less_led [] h = refl
less_led (b ∷ t) h = rw (ne_eqb b 48 h) refl

pub form_read : (m e : Bool) (b : ℕ) (d x : List ℕ) → Clean (b ∷ d) → (e ≡ true → 0 < num x) → normal (read m (b ∷ d) e x) ≡ record { minus = m; digits = b ∷ d; down = e; power = num x }
form_read m e b d x k h = rw (append-nil d, trim_ended (b ∷ d) k.ended, less_led (b ∷ d) k.led) (go e h)
  where
    go : (e : Bool) → (e ≡ true → 0 < num x) → form m (b ∷ d) (pick e 0 (num x) + (length (b ∷ d) - length (b ∷ d))) (0 + pick e (num x) 0) ≡ record { minus = m; digits = b ∷ d; down = e; power = num x }
    go true h =
        let u = 0 + (length (b ∷ d) - length (b ∷ d)) in
        let l : ltb u (0 + num x) ≡ true = lt-ltb u (0 + num x) (omega (arith, h refl)) in
        let r : (u - (0 + num x)) + ((0 + num x) - u) ≡ num x = omega arith in
        rw (l, r) refl
    go false h =
        let u = num x + (length (b ∷ d) - length (b ∷ d)) in
        let l : ltb u (0 + 0) ≡ false = le-ltb u (0 + 0) (omega arith) in
        let r : (u - (0 + 0)) + ((0 + 0) - u) ≡ num x = omega arith in
        rw (l, r) refl

pub form_zero : (m e : Bool) (x : List ℕ) → normal (read m (48 ∷ []) e x) ≡ record { minus = false; digits = []; down = false; power = 0 }
unfolding less trim
form_zero m e x = refl

-- every form of a text is normal
normal_form : (m : Bool) (s : List ℕ) (u d : ℕ) → Clean s → Normal (form m s u d)
normal_form m [] u d k = record { clean = k; power = λ e. absurd (true≢false (sym e)); zero_form = λ _. refl }
normal_form m (b ∷ t) u d k = record {
  clean = k;
  power = λ e. omega (arith, ltb-true u d e);
  zero_form = λ e. let o : ◌≡◌ {A = ℕ} 0 1 = cc in absurd (omega arith);
}

pub normal_normal : (t : List ℕ) → Normal (normal (parts t))
normal_normal t = normal_form _ _ _ _ (clean (all (parts t)) (digits_parts t))

pub length_less : (s : List ℕ) → length (less s) ≤ length s
unfolding less
length_less [] = omega arith
length_less (b ∷ t) = go (eqb b 48) (length_less t)
  where
    go : (v : Bool) → length (less t) ≤ length t → length (pick v (less t) (b ∷ t)) ≤ suc (length t)
    go true h = omega arith
    go false h = omega arith

-- ---- every power of at most 9 digits can be spelled
-- the last k digits of a number
unfoldable pub pad : ℕ → ℕ → List ℕ
pad zero n = []
pad (suc k) n = (48 + n / tens k) ∷ pad k (n % tens k)

unfoldable pub decimal : ℕ → List ℕ
decimal n = shown (less (pad 9 n))

length_pad : (k n : ℕ) → length (pad k n) ≡ k
unfolding pad
length_pad zero n = refl
length_pad (suc k) n = ap suc (length_pad k (n % tens k))

digits_pad : (k n : ℕ) → n < tens k → Digits (pad k n)
unfolding pad
digits_pad zero n h = tt
digits_pad (suc k) n h =
    let q : n / tens k < 10 = (div-lt_iff_lt-mul (tens_pos k)).1 (omega (arith, tens_suc k)) in
    (omega arith, omega arith, digits_pad k (n % tens k) (mod-lt n (tens_pos k)))

num_pad : (k n : ℕ) → n < tens k → num (pad k n) ≡ n
unfolding pad num
num_pad zero n h = omega (arith, tens_zero)
num_pad (suc k) n h =
    let i = num_pad k (n % tens k) (mod-lt n (tens_pos k)) in
    let a : 48 + n / tens k - 48 ≡ n / tens k = omega arith in
    rw (a, length_pad k (n % tens k), i) (div-add-mod' n (tens k))

spells_shown : (s : List ℕ) (n : ℕ) → Digits s → num s ≡ n → length s ≤ 9 → Spells (shown s) n
unfolding num less
spells_shown [] n d e l = record { some = omega arith; few = omega arith; digits = (omega arith, omega arith, tt); is = rw tens_zero e }
spells_shown (b ∷ t) n d e l = record { some = omega arith; few = omega arith; digits = d; is = e }

pub spells_decimal : (n : ℕ) → n < 1000000000 → Spells (decimal n) n
unfolding decimal
spells_decimal n h =
    let g : n < tens 9 = omega (arith, nine) in
    spells_shown (less (pad 9 n)) n (digits_less (pad 9 n) (digits_pad 9 n g)) (num_less (pad 9 n) ∙ num_pad 9 n g) (omega (arith, length_less (pad 9 n), length_pad 9 n))
