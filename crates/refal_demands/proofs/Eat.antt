-- The machine takes the first token of a list of which the flattened form is known.
use mathlib.Core.Path.{◌≡◌, sym, ap, ◌∙◌}
use Prim.Native.Nat.{ℕ}
use mathlib.Core.List.{List, [], ◌∷◌}
use native.Mathlib.Omega.{arith}
use Rattle.refal_ast.specs.Tokens.{Token, token}
use Rattle.refal_ast.specs.Flatten.{Flat, flat_of, flats_of}
use Rattle.refal_ast.specs.Tree.{Program}
use Rattle.refal_parser.specs.Machine.{State, Outcome, Step, step, follow, next_from, next_to, run}

-- the token of which the flattened form and the span are given
abbrev pub made : Flat → ℕ → ℕ → Token
made c a b = token c.kind c.detail c.start c.len a b

-- the machine with L levels, after the items p
abbrev pub run_at : ℕ → Program → List Token → State → Outcome
run_at L p ts st = run L ts p st

-- what follows a step, on the rest of the tokens
abbrev pub afterwards : ℕ → Program → List Token → Step → Outcome
afterwards L p rest x = follow p x (λ p' st'. run L rest p' st')

abbrev pub step_on : ℕ → List Token → State → Token → Step
step_on L rest st t = step L st t (next_from t rest) (next_to t rest)

-- the first token of a list whose flattened form is known
pub record First (ts : List Token) (c : Flat) (r : List Flat) : Type 0 where
  pub a : ℕ
  pub b : ℕ
  pub rest : List Token
  pub is : ts ≡ made c a b ∷ rest
  pub after : flats_of rest ≡ r

nil≢cons : {A : Type 0} (c : Flat) (r : List Flat) → [] ≡ c ∷ r → A
nil≢cons c r e = let z : ◌≡◌ {A = ℕ} 0 1 = cc in let y : ⊥ = omega arith in absurd y

pub first : (ts : List Token) (c : Flat) (r : List Flat) → flats_of ts ≡ c ∷ r → First ts c r
first [] c r e = nil≢cons c r e
first (t ∷ ts) c r e =
    let h : flat_of t ≡ c = cc in
    record { a = t.from; b = t.to; rest = ts; is = ap (λ (z : Flat). made z t.from t.to ∷ ts) h; after = cc }

pub eat : {A : Type 0} (L : ℕ) (p : Program) (ts : List Token) (c : Flat) (r : List Flat) (st : State) → flats_of ts ≡ c ∷ r
    → ((a b : ℕ) (rest : List Token) → flats_of rest ≡ r → run_at L p ts st ≡ afterwards L p rest (step_on L rest st (made c a b)) → A) → A
unfolding run
eat L p ts c r st e k = let h = first ts c r e in k h.a h.b h.rest h.after (ap (λ (l : List Token). run_at L p l st) h.is)

-- two states that do the same at the first token
pub alike : (L : ℕ) (p : Program) (ts : List Token) (c : Flat) (r : List Flat) (st st' : State) → flats_of ts ≡ c ∷ r
    → ((a b x y : ℕ) → step L st (made c a b) x y ≡ step L st' (made c a b) x y) → run_at L p ts st ≡ run_at L p ts st'
unfolding run
alike L p ts c r st st' e u =
    let h = first ts c r e in
    let t = made c h.a h.b in
    ap (λ (l : List Token). run_at L p l st) h.is
    ∙ ap (λ (z : Step). afterwards L p h.rest z) (u h.a h.b (next_from t h.rest) (next_to t h.rest))
    ∙ sym (ap (λ (l : List Token). run_at L p l st') h.is)
