-- What check 30 gives of a token: its unused fields are 0, so that its flattened form is known from its kind.
use mathlib.Core.Path.{◌≡◌, sym, ap, ◌∙◌}
use Prim.Native.Nat.{ℕ}
use mathlib.Core.Bool.{true, ◌&&◌}
use mathlib.Core.List.{List, [], ◌∷◌}
use native.Mathlib.Omega.{arith}
use lib.Dec.{leb, eqb}
use borrow.Author.Tests.{eqb-true}
use Rattle.refal_rows.specs.Tests.{and_left, and_right, range_hi}
use Rattle.refal_ast.specs.Kinds.{tok_char, tok_eof}
use Rattle.refal_ast.specs.Tokens.{Token}
use Rattle.refal_ast.specs.Check.{scalar, good_fields, good_token, ok_tokens}
use Rattle.refal_ast.specs.Flatten.{flat_token, mark, flat_of}

-- a token's fields are good
abbrev pub Fields : Token → Type 0
Fields t = good_fields t.kind t.detail t.start t.len ≡ true

zero_of : (a : ℕ) → eqb a 0 ≡ true → a ≡ 0
zero_of a h = eqb-true a 0 h

-- a kind that uses neither text nor detail
pub plain : (t : Token) (k : ℕ) → ((d s l : ℕ) → good_fields k d s l ≡ (eqb d 0 && (eqb s 0 && eqb l 0))) → Fields t → t.kind ≡ k → flat_of t ≡ mark k
plain t k u h e =
    let g : eqb t.detail 0 && (eqb t.start 0 && eqb t.len 0) ≡ true = sym (u t.detail t.start t.len) ∙ ap (λ (z : ℕ). good_fields z t.detail t.start t.len) (sym e) ∙ h in
    let i = and_right (eqb t.detail 0) (eqb t.start 0 && eqb t.len 0) g in
    let d₀ = zero_of t.detail (and_left (eqb t.detail 0) (eqb t.start 0 && eqb t.len 0) g) in
    let s₀ = zero_of t.start (and_left (eqb t.start 0) (eqb t.len 0) i) in
    let l₀ = zero_of t.len (and_right (eqb t.start 0) (eqb t.len 0) i) in
    ap (λ (z : ℕ). flat_token z t.detail t.start t.len) e
    ∙ ap (λ (z : ℕ). flat_token k z t.start t.len) d₀
    ∙ ap (λ (z : ℕ). flat_token k 0 z t.len) s₀
    ∙ ap (λ (z : ℕ). flat_token k 0 0 z) l₀

-- a kind that uses its text only: Identifier, Number
pub texted : (t : Token) (k : ℕ) → ((d s l : ℕ) → good_fields k d s l ≡ (eqb d 0 && true)) → Fields t → t.kind ≡ k → flat_of t ≡ flat_token k 0 t.start t.len
texted t k u h e =
    let g : eqb t.detail 0 && true ≡ true = sym (u t.detail t.start t.len) ∙ ap (λ (z : ℕ). good_fields z t.detail t.start t.len) (sym e) ∙ h in
    ap (λ (z : ℕ). flat_token z t.detail t.start t.len) e
    ∙ ap (λ (z : ℕ). flat_token k z t.start t.len) (zero_of t.detail (and_left (eqb t.detail 0) true g))

-- a kind that uses its detail only: Char
pub detailed : (t : Token) → Fields t → t.kind ≡ tok_char → flat_of t ≡ flat_token tok_char t.detail 0 0
detailed t h e =
    let g : scalar t.detail && (eqb t.start 0 && eqb t.len 0) ≡ true = ap (λ (z : ℕ). good_fields z t.detail t.start t.len) (sym e) ∙ h in
    let i = and_right (scalar t.detail) (eqb t.start 0 && eqb t.len 0) g in
    ap (λ (z : ℕ). flat_token z t.detail t.start t.len) e
    ∙ ap (λ (z : ℕ). flat_token tok_char t.detail z t.len) (zero_of t.start (and_left (eqb t.start 0) (eqb t.len 0) i))
    ∙ ap (λ (z : ℕ). flat_token tok_char t.detail 0 z) (zero_of t.len (and_right (eqb t.start 0) (eqb t.len 0) i))

-- tokens with good fields, of which the last, and no other, is Eof
abbrev pub Ends : List Token → Type 0
Ends [] = ⊥
Ends (t ∷ []) = Fields t × (t.kind ≡ tok_eof)
Ends (t ∷ u ∷ ts) = Fields t × (t.kind ≡ tok_eof → ⊥) × Ends (u ∷ ts)

pub ends : (ts : List Token) → ok_tokens ts ≡ true → Ends ts
unfolding ok_tokens
ends [] h = let z : ◌≡◌ {A = ℕ} 0 1 = cc in let y : ⊥ = omega arith in absurd y
ends (t ∷ []) h =
    let k = and_left (eqb t.kind tok_eof) (good_fields t.kind t.detail t.start t.len) h in
    (and_right (eqb t.kind tok_eof) (good_fields t.kind t.detail t.start t.len) h, eqb-true t.kind tok_eof k)
ends (t ∷ u ∷ ts) h =
    let g = and_left (good_token t) (ok_tokens (u ∷ ts)) h in
    let k = range_hi 1 t.kind 16 (and_left (leb 1 t.kind && leb t.kind 16) (good_fields t.kind t.detail t.start t.len) g) in (
      and_right (leb 1 t.kind && leb t.kind 16) (good_fields t.kind t.detail t.start t.len) g,
      (λ e. omega arith),
      ends (u ∷ ts) (and_right (good_token t) (ok_tokens (u ∷ ts)) h),
    )
