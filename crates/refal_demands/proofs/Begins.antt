-- What terms begin with: a term's first token, or what comes after them. So a state between parts goes on as one within terms does.
use mathlib.Core.Path.{◌≡◌, refl, sym, ap, ◌∙◌}
use Prim.Native.Nat.{ℕ}
use mathlib.Core.List.{List, ◌∷◌}
use borrow.Author.Tests.{ne_eqb}
use Rattle.refal_ast.specs.Kinds.{tok_identifier, tok_variable, tok_number, tok_char, tok_l_brace, tok_r_brace, tok_l_paren, tok_r_paren}
use Rattle.refal_ast.specs.Kinds.{tok_l_angle, tok_r_angle, tok_comma, tok_colon, tok_eof}
use Rattle.refal_ast.specs.Tokens.{Token}
use Rattle.refal_ast.specs.Tree.{Leaf, symbol, variable, Term, leaf, bracket, call, Terms, t0, t_more, condition, Conditions, c0, c_more, Sentences, Program}
use Rattle.refal_ast.specs.Flatten.{Flat, mark, name_of, flats_of, flat_leaf}
use Rattle.refal_ast.specs.declared.tree.Symbol.TheVariants.{Char, Identifier, Number}
use Rattle.refal_parser.specs.Machine.{Begun, Argument, Block, Place, pattern, matching, result, State, between, within, matched, equated, Step, step, next_from, next_to, run}
use Rattle.refal_demands.proofs.Flats.{flat_term, flat_t, flat_right, flat_c}
use Rattle.refal_demands.proofs.Eat.{run_at, afterwards, first, made}

-- a kind that is neither n nor m
abbrev pub Not : ℕ → ℕ → ℕ → Type 0
Not n m k = (k ≡ n → ⊥) × (k ≡ m → ⊥)

-- no term begins with n or m
abbrev pub NoTerms : ℕ → ℕ → Type 0
NoTerms n m = Not n m tok_identifier × Not n m tok_variable × Not n m tok_number × Not n m tok_char × Not n m tok_l_paren × Not n m tok_l_angle

pub record Begins (n m : ℕ) (l : List Flat) : Type 0 where
  pub c : Flat
  pub r : List Flat
  pub is : l ≡ c ∷ r
  pub starts : Not n m c.kind

begins_leaf : (n m : ℕ) (z : Leaf) → NoTerms n m → Not n m (flat_leaf z).kind
begins_leaf n m (symbol (Char c)) u = u.3
begins_leaf n m (symbol (Identifier s l)) u = u.0
begins_leaf n m (symbol (Number s l)) u = u.2
begins_leaf n m (variable v s l) u = u.1

begins_term : (x : Term) (n m : ℕ) (r : List Flat) → NoTerms n m → Begins n m (flat_term x r)
unfolding flat_t
begins_term (leaf z a b) n m r u = record { c = flat_leaf z; r = r; is = refl; starts = begins_leaf n m z u }
begins_term (bracket a f b) n m r u = record { c = mark tok_l_paren; r = flat_t f (mark tok_r_paren ∷ r); is = refl; starts = u.4 }
begins_term (call a s l f b) n m r u = record { c = mark tok_l_angle; r = name_of s l ∷ flat_t f (mark tok_r_angle ∷ r); is = refl; starts = u.5 }

-- terms before a list
pub begins : (f : Terms) (n m : ℕ) (l : List Flat) → NoTerms n m → Begins n m l → Begins n m (flat_t f l)
unfolding flat_t
begins t0 n m l u B = B
begins (t_more f x) n m l u B = begins f n m (flat_term x l) u (begins_term x n m l u)

pub begins_with : (n m : ℕ) (c : Flat) (r : List Flat) → Not n m c.kind → Begins n m (c ∷ r)
begins_with n m c r h = record { c = c; r = r; is = refl; starts = h }

begins_conditions : (cs : Conditions) (n m : ℕ) (c : Flat) (r : List Flat) → Not n m tok_comma → Not n m c.kind → Begins n m (flat_c cs (c ∷ r))
unfolding flat_c
begins_conditions c0 n m c r v h = begins_with n m c r h
begins_conditions (c_more cs (condition a f x b)) n m c r v h = begins_conditions cs n m (mark tok_comma) (flat_t f (mark tok_colon ∷ flat_right x (c ∷ r))) v v

-- a pattern and conditions
pub begins_head : (cs : Conditions) (f : Terms) (n m : ℕ) (c : Flat) (r : List Flat) → NoTerms n m → Not n m tok_comma → Not n m c.kind → Begins n m (flat_t f (flat_c cs (c ∷ r)))
begins_head cs f n m c r u v h = begins f n m (flat_c cs (c ∷ r)) u (begins_conditions cs n m c r v h)

-- a state that does as terms in the place `at a` do, at a token that starts at a and is of neither of two kinds
pub enter : (L : ℕ) (p : Program) (n m : ℕ) (ts : List Token) (l : List Flat) (d : ℕ) (st : State) (at : ℕ → Place)
    → ((t : Token) (x y : ℕ) → Not n m t.kind → step L st t x y ≡ step L (within d (at t.from) t0) t x y) → Begins n m l → flats_of ts ≡ l
    → (a : ℕ) × (run_at L p ts st ≡ run_at L p ts (within d (at a) t0))
unfolding run
enter L p n m ts l d st at u B e =
    let h = first ts B.c B.r (e ∙ B.is) in
    let t = made B.c h.a h.b in (
      h.a,
      ap (λ (z : List Token). run_at L p z st) h.is
          ∙ ap (λ (z : Step). afterwards L p h.rest z) (u t (next_from t h.rest) (next_to t h.rest) B.starts)
          ∙ ap (λ (z : List Token). run_at L p z (within d (at h.a) t0)) (sym h.is),
    )

pub enters_pattern : (L : ℕ) (d : ℕ) (b : Block) (s : Sentences) (t : Token) (x y : ℕ) → Not tok_r_brace tok_eof t.kind
    → step L (between d b s) t x y ≡ step L (within d (pattern b s t.from) t0) t x y
enters_pattern L d b s t x y h = rw (ne_eqb t.kind tok_r_brace h.0, ne_eqb t.kind tok_eof h.1) refl

pub enters_matching : (L : ℕ) (d : ℕ) (b : Block) (s : Begun) (o : ℕ) (g : Argument) (t : Token) (x y : ℕ)
    → Not tok_l_brace tok_l_brace t.kind → step L (matched d b s o g) t x y ≡ step L (within d (matching b s o g) t0) t x y
enters_matching L d b s o g t x y h = rw (ne_eqb t.kind tok_l_brace h.0) refl

pub enters_result : (L : ℕ) (d : ℕ) (b : Block) (s : Begun) (q : ℕ) (t : Token) (x y : ℕ)
    → Not tok_comma tok_comma t.kind → step L (equated d b s q) t x y ≡ step L (within d (result b s q) t0) t x y
enters_result L d b s q t x y h = rw (ne_eqb t.kind tok_comma h.0) refl
