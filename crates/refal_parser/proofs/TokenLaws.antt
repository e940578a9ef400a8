-- Tokens at a word of the rows.
use mathlib.Core.Path.{◌≡◌, refl, sym, ap, ◌∙◌}
use Prim.Native.Nat.{ℕ, suc, ◌+◌, ◌-◌, ◌≤◌, ◌<◌}
use mathlib.Core.List.{List, [], ◌∷◌}
use mathlib.Core.Bool.{true, false, not, ◌&&◌, true≢false}
use native.Mathlib.Omega.{arith}
use lib.ListN.{length, get_or, drop, length-drop}
use lib.Seq.{drop-cons}
use lib.Dec.{leb, eqb}
use borrow.Author.Tests.{leb-true, eqb-true}
use Rattle.refal_rows.specs.Tests.{and_left, and_right}
use Rattle.std.proofs.Common.{rules, cond, Result, Ok, Err}
use Rattle.std.specs.Prelude.{IsOk}
use denote.Enum.Bare.{sameb, same_true, same_false, differs_true, differs_false}
use Rattle.refal_ast.specs.contracts.kinds.TokenKind.{the_type}
use Rattle.refal_ast.specs.Kinds.{tok_eof}
use Rattle.refal_ast.specs.KindCodes.{token_code, DecodesToken}
use Rattle.refal_ast.specs.Tokens.{Token, tokens_of}
use Rattle.refal_ast.specs.declared.kinds.UnknownKind.{UnknownKind}
use Rattle.refal_ast.specs.declared.kinds.TokenKind.{TokenKind}
use Rattle.refal_ast.specs.declared.kinds.TokenKind.TheVariants as kind
use Rattle.refal_ast.specs.Check.{good_token, ok_tokens}
use Rattle.refal_parser.specs.Machine.{next_from, next_to}
use Rattle.refal_parser.specs.Ready.{rest, tok, after_from, after_to, end_before, Ready}

-- six words and what follows
drop6 : (w : List ℕ) (at : ℕ) → at + 5 < length w →
    drop at w ≡ get_or w at 0 ∷ get_or w (at + 1) 0 ∷ get_or w (at + 2) 0 ∷ get_or w (at + 3) 0 ∷ get_or w (at + 4) 0 ∷ get_or w (at + 5) 0 ∷ drop (at + 6) w
drop6 w at h =
    let e1 : at + 1 ≡ suc at = omega arith in
    let e2 : at + 2 ≡ suc (suc at) = omega arith in
    let e3 : at + 3 ≡ suc (suc (suc at)) = omega arith in
    let e4 : at + 4 ≡ suc (suc (suc (suc at))) = omega arith in
    let e5 : at + 5 ≡ suc (suc (suc (suc (suc at)))) = omega arith in
    let e6 : at + 6 ≡ suc (suc (suc (suc (suc (suc at))))) = omega arith in
    rw (e1, e2, e3, e4, e5, e6)
    (drop-cons w at 0 (omega arith)
    ∙ ap (λ (l : List ℕ). get_or w at 0 ∷ l) (drop-cons w (suc at) 0 (omega arith)
    ∙ ap (λ (l : List ℕ). get_or w (suc at) 0 ∷ l) (drop-cons w (suc (suc at)) 0 (omega arith)
    ∙ ap (λ (l : List ℕ). get_or w (suc (suc at)) 0 ∷ l) (drop-cons w (suc (suc (suc at))) 0 (omega arith)
    ∙ ap (λ (l : List ℕ). get_or w (suc (suc (suc at))) 0 ∷ l) (drop-cons w (suc (suc (suc (suc at)))) 0 (omega arith)
    ∙ ap (λ (l : List ℕ). get_or w (suc (suc (suc (suc at)))) 0 ∷ l) (drop-cons w (suc (suc (suc (suc (suc at))))) 0 (omega arith)))))))

-- the token at a word, and those after it
pub rest_step : (w : List ℕ) (at : ℕ) → at + 5 < length w → rest w at ≡ tok w at ∷ rest w (at + 6)
unfolding tokens_of
rest_step w at h = ap tokens_of (drop6 w at h)

-- words short of a row hold no token
few_none : (l : List ℕ) → length l < 6 → tokens_of l ≡ []
unfolding tokens_of
few_none [] h = refl
few_none (k ∷ []) h = refl
few_none (k ∷ a ∷ []) h = refl
few_none (k ∷ a ∷ b ∷ []) h = refl
few_none (k ∷ a ∷ b ∷ c ∷ []) h = refl
few_none (k ∷ a ∷ b ∷ c ∷ d ∷ []) h = refl
few_none (k ∷ a ∷ b ∷ c ∷ d ∷ e ∷ w) h = let z : ⊥ = omega arith in absurd z

pub rest_none : (w : List ℕ) (at : ℕ) → length w < at + 6 → rest w at ≡ []
rest_none w at h = few_none (drop at w) (omega (arith, length-drop at w))

-- the tests of a list of tokens
ok_length : (l : List ℕ) → ok_tokens (tokens_of l) ≡ true → 5 < length l
unfolding ok_tokens tokens_of
ok_length [] e = absurd (true≢false (sym e))
ok_length (k ∷ []) e = absurd (true≢false (sym e))
ok_length (k ∷ a ∷ []) e = absurd (true≢false (sym e))
ok_length (k ∷ a ∷ b ∷ []) e = absurd (true≢false (sym e))
ok_length (k ∷ a ∷ b ∷ c ∷ []) e = absurd (true≢false (sym e))
ok_length (k ∷ a ∷ b ∷ c ∷ d ∷ []) e = absurd (true≢false (sym e))
ok_length (k ∷ a ∷ b ∷ c ∷ d ∷ f ∷ w) e = omega arith

ok_next : (t : Token) (ts : List Token) → ok_tokens (t ∷ ts) ≡ true → (t.kind ≡ tok_eof → ⊥) → ok_tokens ts ≡ true
unfolding ok_tokens
ok_next t [] e n = absurd (n (eqb-true t.kind tok_eof (and_left _ _ e)))
ok_next t (u ∷ ts) e n = and_right (good_token t) (ok_tokens (u ∷ ts)) e

ok_eof : (t : Token) (ts : List Token) → ok_tokens (t ∷ ts) ≡ true → t.kind ≡ tok_eof → ts ≡ []
unfolding ok_tokens
ok_eof t [] e k = refl
ok_eof t (u ∷ ts) e k =
    let g : good_token t ≡ true = and_left (good_token t) (ok_tokens (u ∷ ts)) e in
    let r : leb 1 t.kind && leb t.kind 16 ≡ true = and_left _ _ g in
    let l : t.kind ≤ 16 = leb-true t.kind 16 (and_right (leb 1 t.kind) _ r) in
    let z : ⊥ = omega arith in
    absurd z

pub ready : (w : List ℕ) (at : ℕ) → ok_tokens (rest w at) ≡ true → length w ≤ 100663302 → Ready w at
ready w at e h = record { toks = e; room = omega (arith, ok_length (drop at w) e, length-drop at w); short = h }

-- after a token that is not Eof stands a token
pub ready_next : (w : List ℕ) (at : ℕ) → Ready w at → (get_or w at 0 ≡ tok_eof → ⊥) → Ready w (at + 6)
ready_next w at r n = ready w (at + 6) (ok_next (tok w at) (rest w (at + 6)) (ap ok_tokens (sym (rest_step w at r.room)) ∙ r.toks) n) r.short

-- the kinds that such a token may have
ok_kind : (t : Token) (ts : List Token) → ok_tokens (t ∷ ts) ≡ true → (1 ≤ t.kind) × (t.kind ≤ 17)
unfolding ok_tokens
ok_kind t [] e = let k = eqb-true t.kind tok_eof (and_left _ _ e) in (omega arith, omega arith)
ok_kind t (u ∷ ts) e =
    let g : good_token t ≡ true = and_left (good_token t) (ok_tokens (u ∷ ts)) e in
    let r : leb 1 t.kind && leb t.kind 16 ≡ true = and_left _ _ g in
    let l : 1 ≤ t.kind = leb-true 1 t.kind (and_left _ (leb t.kind 16) r) in
    let h : t.kind ≤ 16 = leb-true t.kind 16 (and_right (leb 1 t.kind) _ r) in
    (l, omega arith)

pub known : (w : List ℕ) (at : ℕ) → Ready w at → (r : Result TokenKind UnknownKind) → DecodesToken (get_or w at 0) r → IsOk r
known w at r (Ok k) d = search rules
known w at r (Err e) d =
    let k = ok_kind (tok w at) (rest w (at + 6)) (ap ok_tokens (sym (rest_step w at r.room)) ∙ r.toks) in
    absurd (omega (arith, d.1 k.0, k.1))

pub rest_eof : (w : List ℕ) (at : ℕ) → Ready w at → get_or w at 0 ≡ tok_eof → rest w (at + 6) ≡ []
rest_eof w at r k = ok_eof (tok w at) (rest w (at + 6)) (ap ok_tokens (sym (rest_step w at r.room)) ∙ r.toks) k

-- the span of the token after
pub from_next : (w : List ℕ) (at : ℕ) → Ready w (at + 6) → after_from w at ≡ get_or w (at + 6 + 4) 0
from_next w at r = ap (λ (l : List Token). next_from (tok w at) l) (rest_step w (at + 6) r.room)

pub to_next : (w : List ℕ) (at : ℕ) → Ready w (at + 6) → after_to w at ≡ get_or w (at + 6 + 5) 0
to_next w at r = ap (λ (l : List Token). next_to (tok w at) l) (rest_step w (at + 6) r.room)

pub from_eof : (w : List ℕ) (at : ℕ) → Ready w at → get_or w at 0 ≡ tok_eof → after_from w at ≡ get_or w (at + 4) 0
from_eof w at r k = ap (λ (l : List Token). next_from (tok w at) l) (rest_eof w at r k)

pub to_eof : (w : List ℕ) (at : ℕ) → Ready w at → get_or w at 0 ≡ tok_eof → after_to w at ≡ get_or w (at + 5) 0
to_eof w at r k = ap (λ (l : List Token). next_to (tok w at) l) (rest_eof w at r k)

-- ---- a token that was read
-- the kind with a number
kind_of : ℕ → TokenKind
kind_of x =
    cond (eqb x 1) kind.Entry (cond (eqb x 2) kind.Extern (cond (eqb x 3) kind.Identifier (cond (eqb x 4) kind.Variable (cond (eqb x 5) kind.Number
    (cond (eqb x 6) kind.Char (cond (eqb x 7) kind.LBrace (cond (eqb x 8) kind.RBrace (cond (eqb x 9) kind.LParen (cond (eqb x 10) kind.RParen
    (cond (eqb x 11) kind.LAngle (cond (eqb x 12) kind.RAngle (cond (eqb x 13) kind.Comma (cond (eqb x 14) kind.Colon (cond (eqb x 15) kind.Equals
    (cond (eqb x 16) kind.Semicolon kind.Eof)))))))))))))))

kind_back : (k : TokenKind) → kind_of (token_code k) ≡ k
unfolding kind_of
kind_back kind.Entry = refl
kind_back kind.Extern = refl
kind_back kind.Identifier = refl
kind_back kind.Variable = refl
kind_back kind.Number = refl
kind_back kind.Char = refl
kind_back kind.LBrace = refl
kind_back kind.RBrace = refl
kind_back kind.LParen = refl
kind_back kind.RParen = refl
kind_back kind.LAngle = refl
kind_back kind.RAngle = refl
kind_back kind.Comma = refl
kind_back kind.Colon = refl
kind_back kind.Equals = refl
kind_back kind.Semicolon = refl
kind_back kind.Eof = refl

pub same_code : (k l : TokenKind) → token_code k ≡ token_code l → k ≡ l
same_code k l e = sym (kind_back k) ∙ ap kind_of e ∙ kind_back l

-- what `==` and `!=` say of two kinds
pub same_kind : {k l : TokenKind} → true ≡ sameb the_type k l → k ≡ l
same_kind {k} {l} e = same_true the_type (search rules) k l (sym e)

pub other_kind : {k l : TokenKind} → false ≡ sameb the_type k l → k ≡ l → ⊥
other_kind {k} {l} e = same_false the_type k l (sym e)

pub alike_kind : {k l : TokenKind} → false ≡ not (sameb the_type k l) → k ≡ l
alike_kind {k} {l} e = differs_false the_type (search rules) k l (sym e)

pub unlike_kind : {k l : TokenKind} → true ≡ not (sameb the_type k l) → k ≡ l → ⊥
unlike_kind {k} {l} e = differs_true the_type k l (sym e)

-- a kind k is another, by its number x, or not
pub is_kind : {x : ℕ} {k l : TokenKind} → token_code k ≡ x → k ≡ l → x ≡ token_code l
is_kind r e = sym r ∙ ap token_code e

pub not_kind : {x : ℕ} {k l : TokenKind} → token_code k ≡ x → (k ≡ l → ⊥) → x ≡ token_code l → ⊥
not_kind {x} {k} {l} r n e = n (same_code k l (r ∙ e))

-- the end of the token before
pub end_before_lem : (w : List ℕ) (at : ℕ) → get_or w (at + 5) 0 ≡ end_before w (at + 6)
end_before_lem w at = ap (λ (i : ℕ). get_or w i 0) (let e : at + 5 ≡ at + 6 - 1 = omega arith in e)
