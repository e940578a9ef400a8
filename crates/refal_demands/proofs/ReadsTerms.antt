-- The machine reads terms that flatten to what is there, spans aside.
use mathlib.Core.Path.{◌≡◌, refl, ap, ◌∙◌}
use Prim.Native.Nat.{ℕ, zero, suc, ◌≤◌}
use mathlib.Core.List.{List, ◌∷◌}
use native.Mathlib.Omega.{arith}
use Rattle.refal_ast.specs.Kinds.{tok_l_paren, tok_r_paren}
use Rattle.refal_ast.specs.Kinds.{tok_l_angle, tok_r_angle}
use Rattle.refal_ast.specs.Tokens.{Token}
use Rattle.refal_ast.specs.Tree.{Leaf, symbol, variable, Term, leaf, bracket, call, Terms, t0, t_more, Program, depth_term, depth_t}
use Rattle.refal_ast.specs.Flatten.{Flat, mark, name_of, flats_of, flat_leaf}
use Rattle.refal_ast.specs.declared.tree.Symbol.TheVariants.{Char, Identifier, Number}
use Rattle.refal_ast.specs.declared.tree.VariableKind.TheVariants.{Symbol as kind_s, Term as kind_t, Expression as kind_e}
use Rattle.refal_parser.specs.Machine.{Place, in_bracket, in_call}
use Rattle.refal_parser.specs.Machine.{within, calling}
use Rattle.refal_parser.specs.Machine.{Step, go}
use Rattle.refal_demands.proofs.Flats.{flat_term, flat_t}
use Rattle.refal_demands.proofs.Respan.{respan_t, erase_term, erase_t}
use Rattle.refal_demands.proofs.Eat.{run_at, afterwards, eat, made, step_on}

pub record ReadsT (L : ℕ) (p : Program) (ts : List Token) (d : ℕ) (x : Place) (f : Terms) (r : List Flat) : Type 0 where
  pub g : Terms
  pub rest : List Token
  pub same : erase_t g ≡ erase_t f
  pub after : flats_of rest ≡ r
  pub means : run_at L p ts (within d x t0) ≡ run_at L p rest (within d x g)

pub use_t : {L : ℕ} {p : Program} {ts : List Token} {d : ℕ} {x : Place} {f : Terms} {r : List Flat} {A : Type 0} → ReadsT L p ts d x f r
    → ((g : Terms) (rest : List Token) → erase_t g ≡ erase_t f → flats_of rest ≡ r → run_at L p ts (within d x t0) ≡ run_at L p rest (within d x g) → A) → A
use_t R k = k R.g R.rest R.same R.after R.means

step_leaf : (L : ℕ) (rest : List Token) (z : Leaf) (d : ℕ) (x : Place) (f : Terms) (a b : ℕ) → step_on L rest (within d x f) (made (flat_leaf z) a b) ≡ go (within d x (t_more f (leaf z a b)))
step_leaf L rest (symbol (Char c)) d x f a b = refl
step_leaf L rest (symbol (Identifier s l)) d x f a b = refl
step_leaf L rest (symbol (Number s l)) d x f a b = refl
step_leaf L rest (variable kind_s s l) d x f a b = refl
step_leaf L rest (variable kind_t s l) d x f a b = refl
step_leaf L rest (variable kind_e s l) d x f a b = refl

-- one term, after the terms f
record ReadsOne (L : ℕ) (p : Program) (ts : List Token) (d : ℕ) (c : Place) (f : Terms) (x : Term) (r : List Flat) : Type 0 where
  y : Term
  rest : List Token
  same : erase_term y ≡ erase_term x
  after : flats_of rest ≡ r
  means : run_at L p ts (within d c f) ≡ run_at L p rest (within d c (t_more f y))

mutual
  unfolding flat_t depth_t respan_t

  reads_term : (x : Term) (L : ℕ) (p : Program) (ts : List Token) (d : ℕ) (c : Place) (f : Terms) (r : List Flat) → depth_term x ≤ d → flats_of ts ≡ flat_term x r → ReadsOne L p ts d c f x r
  reads_term (leaf z a b) L p ts d c f r l e =
      eat L p ts (flat_leaf z) r (within d c f) e (λ a₁ b₁ ts₁ k₁ e₁.
      record { y = leaf z a₁ b₁; rest = ts₁; same = refl; after = k₁; means = e₁ ∙ ap (λ (y : Step). afterwards L p ts₁ y) (step_leaf L ts₁ z d c f a₁ b₁) })
  reads_term (bracket a g b) L p ts zero c f r l e = let z : ⊥ = omega arith in absurd z
  reads_term (bracket a g b) L p ts (suc d) c f r l e =
      eat L p ts (mark tok_l_paren) (flat_t g (mark tok_r_paren ∷ r)) (within (suc d) c f) e (λ a₁ b₁ ts₁ k₁ e₁.
      use_t (reads_t g L p ts₁ d (in_bracket c f a₁) (mark tok_r_paren ∷ r) (omega arith) k₁) (λ g₂ ts₂ m₂ k₂ e₂.
      eat L p ts₂ (mark tok_r_paren) r (within d (in_bracket c f a₁) g₂) k₂ (λ a₃ b₃ ts₃ k₃ e₃.
      record { y = bracket a₁ g₂ b₃; rest = ts₃; same = ap (λ (y : Terms). bracket 0 y 0) m₂; after = k₃; means = e₁ ∙ e₂ ∙ e₃ })))
  reads_term (call a s n g b) L p ts zero c f r l e = let z : ⊥ = omega arith in absurd z
  reads_term (call a s n g b) L p ts (suc d) c f r l e =
      eat L p ts (mark tok_l_angle) (name_of s n ∷ flat_t g (mark tok_r_angle ∷ r)) (within (suc d) c f) e (λ a₁ b₁ ts₁ k₁ e₁.
      eat L p ts₁ (name_of s n) (flat_t g (mark tok_r_angle ∷ r)) (calling d c f a₁) k₁ (λ a₂ b₂ ts₂ k₂ e₂.
      use_t (reads_t g L p ts₂ d (in_call c f a₁ s n) (mark tok_r_angle ∷ r) (omega arith) k₂) (λ g₃ ts₃ m₃ k₃ e₃.
      eat L p ts₃ (mark tok_r_angle) r (within d (in_call c f a₁ s n) g₃) k₃ (λ a₄ b₄ ts₄ k₄ e₄.
      record { y = call a₁ s n g₃ b₄; rest = ts₄; same = ap (λ (y : Terms). call 0 s n y 0) m₃; after = k₄; means = e₁ ∙ e₂ ∙ e₃ ∙ e₄ }))))

  pub reads_t : (f : Terms) (L : ℕ) (p : Program) (ts : List Token) (d : ℕ) (c : Place) (r : List Flat) → depth_t f ≤ d → flats_of ts ≡ flat_t f r → ReadsT L p ts d c f r
  reads_t t0 L p ts d c r l e = record { g = t0; rest = ts; same = refl; after = e; means = refl }
  reads_t (t_more f x) L p ts d c r l e =
      use_t (reads_t f L p ts d c (flat_term x r) (omega arith) e) (λ f₁ ts₁ m₁ k₁ e₁.
      let R = reads_term x L p ts₁ d c f₁ r (omega arith) k₁ in
      record {
        g = t_more f₁ R.y;
        rest = R.rest;
        same = ap (λ (y : Terms). t_more y (erase_term R.y)) m₁ ∙ ap (λ (y : Term). t_more (erase_t f) y) R.same;
        after = R.after;
        means = e₁ ∙ R.means;
      })
