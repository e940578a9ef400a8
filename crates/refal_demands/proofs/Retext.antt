-- A tree with other texts: for tokens that agree with a tree's flattening in kind and detail there is a tree, as deep and of as many rows,
-- that flattens to them.
use mathlib.Core.Path.{◌≡◌, refl, sym, ap, subst, ◌∙◌}
use Prim.Native.Nat.{ℕ}
use mathlib.Core.Bool.{Bool, true, false, ◌&&◌, ◌||◌}
use mathlib.Core.List.{List, [], ◌∷◌, ◌++◌, append-nil}
use native.Mathlib.Omega.{arith}
use lib.Dec.{eqb}
use borrow.Author.Tests.{eqb-true}
use Rattle.refal_rows.specs.Tests.{and_left, and_right}
use Rattle.refal_ast.specs.Kinds.{tok_entry, tok_extern, tok_identifier, tok_variable, tok_number, tok_char, tok_l_brace, tok_r_brace, tok_l_paren, tok_r_paren, tok_l_angle, tok_r_angle}
use Rattle.refal_ast.specs.Kinds.{tok_comma, tok_colon, tok_equals, tok_semicolon}
use Rattle.refal_ast.specs.Check.{uses_text}
use Rattle.refal_ast.specs.Encode.{letter_of}
use Rattle.refal_ast.specs.Tree.{Leaf, symbol, variable, Term, leaf, bracket, call, Terms, t0, t_more, Right, r_terms, r_block, Condition, condition, Conditions, c0, c_more}
use Rattle.refal_ast.specs.Tree.{End, e_terms, e_block, Sentence, sentence, Sentences, s0, s_more, Body, b_all, b_off, Names, n_one, n_more, Item, declaration, function, Program, p0, p_more}
use Rattle.refal_ast.specs.Tree.{size_term, size_t, size_right, size_condition, size_c, size_end, size_sentence, size_s, size_b, size_n, size_item, size_p}
use Rattle.refal_ast.specs.Tree.{depth_term, depth_t, depth_right, depth_condition, depth_c, depth_end, depth_sentence, depth_s, depth_b, depth_item, depth_p}
use Rattle.refal_ast.specs.Flatten.{Flat, flat_token, mark, name_of, flat_leaf, flat_entry, flat_off, flatten_p}
use Rattle.refal_ast.specs.declared.tree.Symbol.TheVariants.{Char, Identifier, Number}
use Rattle.refal_demands.proofs.Flats.{flat_term, flat_t, flat_right, flat_condition, flat_c, flat_end, flat_sentence, flat_s, flat_b, flat_n, flat_item, flat_p, flat_p_is}

-- d has the kind and the detail of c, and no text where its kind uses none
pub record Alike (c d : Flat) : Type 0 where
  pub kind : d.kind ≡ c.kind
  pub detail : d.detail ≡ c.detail
  pub unused : uses_text d.kind || (eqb d.start 0 && eqb d.len 0) ≡ true

pub data AllAlike : List Flat → List Flat → Type 0 where
  alike_none : AllAlike [] []
  alike_more : {c d : Flat} {l m : List Flat} → Alike c d → AllAlike l m → AllAlike (c ∷ l) (d ∷ m)

-- ---- the first token of a list
no_text : (d : Flat) (k : ℕ) → uses_text k ≡ false → d.kind ≡ k → uses_text d.kind || (eqb d.start 0 && eqb d.len 0) ≡ true → d ≡ flat_token k d.detail 0 0
no_text d k u e n =
    let X : Bool = eqb d.start 0 && eqb d.len 0 in
    let g : X ≡ true = ap (λ (b : Bool). b || X) (sym u) ∙ ap (λ (z : ℕ). uses_text z || X) (sym e) ∙ n in
    ap (λ (z : ℕ). flat_token z d.detail d.start d.len) e
    ∙ ap (λ (z : ℕ). flat_token k d.detail z d.len) (eqb-true d.start 0 (and_left (eqb d.start 0) (eqb d.len 0) g))
    ∙ ap (λ (z : ℕ). flat_token k d.detail 0 z) (eqb-true d.len 0 (and_right (eqb d.start 0) (eqb d.len 0) g))

a_text : (c d : Flat) → Alike c d → d ≡ flat_token c.kind c.detail d.start d.len
a_text c d a = ap (λ (z : ℕ). flat_token z d.detail d.start d.len) a.kind ∙ ap (λ (z : ℕ). flat_token c.kind z d.start d.len) a.detail

module _ {A : Type 0} where
  -- a token that has no text is itself
  same : (c : Flat) → uses_text c.kind ≡ false → c.start ≡ 0 → c.len ≡ 0 → (r m : List Flat) → AllAlike (c ∷ r) m
      → ((m' : List Flat) → m ≡ c ∷ m' → AllAlike r m' → A) → A
  same c u s l r m (alike_more {d = d} {m = m'} a h) k =
      k m'
      (ap (λ (z : Flat). z ∷ m')
      (no_text d c.kind u a.kind a.unused
      ∙ ap (λ (z : ℕ). flat_token c.kind z 0 0) a.detail
      ∙ ap (λ (z : ℕ). flat_token c.kind c.detail z 0) (sym s)
      ∙ ap (λ (z : ℕ). flat_token c.kind c.detail c.start z) (sym l)))
      h

  name : (s l : ℕ) (r m : List Flat) → AllAlike (name_of s l ∷ r) m → ((s' l' : ℕ) (m' : List Flat) → m ≡ name_of s' l' ∷ m' → AllAlike r m' → A) → A
  name s l r m (alike_more {d = d} {m = m'} a h) k = k d.start d.len m' (ap (λ (z : Flat). z ∷ m') (a_text (name_of s l) d a)) h

  one_leaf : (x : Leaf) (r m : List Flat) → AllAlike (flat_leaf x ∷ r) m → ((y : Leaf) (m' : List Flat) → m ≡ flat_leaf y ∷ m' → AllAlike r m' → A) → A
  one_leaf (symbol (Char x)) r m h k = same (flat_token tok_char x 0 0) refl refl refl r m h (λ m' e h'. k (symbol (Char x)) m' e h')
  one_leaf (symbol (Identifier s l)) r m (alike_more {d = d} {m = m'} a h) k =
      k (symbol (Identifier d.start d.len)) m' (ap (λ (z : Flat). z ∷ m') (a_text (flat_token tok_identifier 0 s l) d a)) h
  one_leaf (symbol (Number s l)) r m (alike_more {d = d} {m = m'} a h) k =
      k (symbol (Number d.start d.len)) m' (ap (λ (z : Flat). z ∷ m') (a_text (flat_token tok_number 0 s l) d a)) h
  one_leaf (variable v s l) r m (alike_more {d = d} {m = m'} a h) k =
      k (variable v d.start d.len) m' (ap (λ (z : Flat). z ∷ m') (a_text (flat_token tok_variable (letter_of v) s l) d a)) h

-- a `;` that is there, or left off
semicolon : {A : Type 0} (off : Bool) (r m : List Flat) → AllAlike (flat_off off ++ r) m → ((m' : List Flat) → m ≡ flat_off off ++ m' → AllAlike r m' → A) → A
semicolon true r m h k = k m refl h
semicolon false r m h k = same (mark tok_semicolon) refl refl refl r m h k

-- ---- a part X of a tree, before the tokens r, with the texts of m
record Anew {X : Type 0} (flat : X → List Flat → List Flat) (depth size : X → ℕ) (f : X) (r m : List Flat) : Type 0 where
  g : X
  rest : List Flat
  is : m ≡ flat g rest
  like : AllAlike r rest
  deep : depth g ≡ depth f
  rows : size g ≡ size f

anew : {X A : Type 0} {flat : X → List Flat → List Flat} {depth size : X → ℕ} {f : X} {r m : List Flat} → Anew flat depth size f r m
    → ((g : X) (rest : List Flat) → m ≡ flat g rest → AllAlike r rest → depth g ≡ depth f → size g ≡ size f → A) → A
anew R k = k R.g R.rest R.is R.like R.deep R.rows

mutual
  unfolding flat_t depth_t size_t

  retext_term : (x : Term) (r m : List Flat) → AllAlike (flat_term x r) m → Anew flat_term depth_term size_term x r m
  retext_term (leaf x a b) r m h = one_leaf x r m h (λ y m₁ e₁ h₁. record { g = leaf y a b; rest = m₁; is = e₁; like = h₁; deep = refl; rows = refl })
  retext_term (bracket a f b) r m h =
      same (mark tok_l_paren) refl refl refl (flat_t f (mark tok_r_paren ∷ r)) m h (λ m₁ e₁ h₁.
      anew (retext_t f (mark tok_r_paren ∷ r) m₁ h₁) (λ f₂ m₂ e₂ h₂ d₂ s₂.
      same (mark tok_r_paren) refl refl refl r m₂ h₂ (λ m₃ e₃ h₃.
      record {
        g = bracket a f₂ b;
        rest = m₃;
        is = e₁ ∙ ap (λ (l : List Flat). mark tok_l_paren ∷ l) (e₂ ∙ ap (flat_t f₂) e₃);
        like = h₃;
        deep = omega arith;
        rows = omega arith;
      })))
  retext_term (call a s l f b) r m h =
      same (mark tok_l_angle) refl refl refl (name_of s l ∷ flat_t f (mark tok_r_angle ∷ r)) m h (λ m₁ e₁ h₁.
      name s l (flat_t f (mark tok_r_angle ∷ r)) m₁ h₁ (λ s' l' m₂ e₂ h₂.
      anew (retext_t f (mark tok_r_angle ∷ r) m₂ h₂) (λ f₃ m₃ e₃ h₃ d₃ s₃.
      same (mark tok_r_angle) refl refl refl r m₃ h₃ (λ m₄ e₄ h₄.
      record {
        g = call a s' l' f₃ b;
        rest = m₄;
        is = e₁ ∙ ap (λ (l : List Flat). mark tok_l_angle ∷ l) (e₂ ∙ ap (λ (l : List Flat). name_of s' l' ∷ l) (e₃ ∙ ap (flat_t f₃) e₄));
        like = h₄;
        deep = omega arith;
        rows = omega arith;
      }))))

  retext_t : (f : Terms) (r m : List Flat) → AllAlike (flat_t f r) m → Anew flat_t depth_t size_t f r m
  retext_t t0 r m h = record { g = t0; rest = m; is = refl; like = h; deep = refl; rows = refl }
  retext_t (t_more f x) r m h =
      anew (retext_t f (flat_term x r) m h) (λ f₁ m₁ e₁ h₁ d₁ s₁.
      anew (retext_term x r m₁ h₁) (λ x₂ m₂ e₂ h₂ d₂ s₂.
      record { g = t_more f₁ x₂; rest = m₂; is = e₁ ∙ ap (flat_t f₁) e₂; like = h₂; deep = omega arith; rows = omega arith }))

mutual
  unfolding flat_c depth_c size_c

  retext_right : (x : Right) (r m : List Flat) → AllAlike (flat_right x r) m → Anew flat_right depth_right size_right x r m
  retext_right (r_terms f) r m h =
      anew (retext_t f r m h) (λ f₁ m₁ e₁ h₁ d₁ s₁. record { g = r_terms f₁; rest = m₁; is = e₁; like = h₁; deep = d₁; rows = omega arith })
  retext_right (r_block a v b) r m h =
      same (mark tok_l_brace) refl refl refl (flat_b v (mark tok_r_brace ∷ r)) m h (λ m₁ e₁ h₁.
      anew (retext_b v (mark tok_r_brace ∷ r) m₁ h₁) (λ v₂ m₂ e₂ h₂ d₂ s₂.
      same (mark tok_r_brace) refl refl refl r m₂ h₂ (λ m₃ e₃ h₃.
      record {
        g = r_block a v₂ b;
        rest = m₃;
        is = e₁ ∙ ap (λ (l : List Flat). mark tok_l_brace ∷ l) (e₂ ∙ ap (flat_b v₂) e₃);
        like = h₃;
        deep = omega arith;
        rows = omega arith;
      })))

  retext_condition : (x : Condition) (r m : List Flat) → AllAlike (flat_condition x r) m → Anew flat_condition depth_condition size_condition x r m
  retext_condition (condition a f x b) r m h =
      same (mark tok_comma) refl refl refl (flat_t f (mark tok_colon ∷ flat_right x r)) m h (λ m₁ e₁ h₁.
      anew (retext_t f (mark tok_colon ∷ flat_right x r) m₁ h₁) (λ f₂ m₂ e₂ h₂ d₂ s₂.
      same (mark tok_colon) refl refl refl (flat_right x r) m₂ h₂ (λ m₃ e₃ h₃.
      anew (retext_right x r m₃ h₃) (λ x₄ m₄ e₄ h₄ d₄ s₄.
      record {
        g = condition a f₂ x₄ b;
        rest = m₄;
        is = e₁ ∙ ap (λ (l : List Flat). mark tok_comma ∷ l) (e₂ ∙ ap (flat_t f₂) (e₃ ∙ ap (λ (l : List Flat). mark tok_colon ∷ l) e₄));
        like = h₄;
        deep = omega arith;
        rows = omega arith;
      }))))

  retext_c : (cs : Conditions) (r m : List Flat) → AllAlike (flat_c cs r) m → Anew flat_c depth_c size_c cs r m
  retext_c c0 r m h = record { g = c0; rest = m; is = refl; like = h; deep = refl; rows = refl }
  retext_c (c_more cs x) r m h =
      anew (retext_c cs (flat_condition x r) m h) (λ c₁ m₁ e₁ h₁ d₁ s₁.
      anew (retext_condition x r m₁ h₁) (λ x₂ m₂ e₂ h₂ d₂ s₂.
      record { g = c_more c₁ x₂; rest = m₂; is = e₁ ∙ ap (flat_c c₁) e₂; like = h₂; deep = omega arith; rows = omega arith }))

  retext_end : (x : End) (r m : List Flat) → AllAlike (flat_end x r) m → Anew flat_end depth_end size_end x r m
  retext_end (e_terms f) r m h =
      anew (retext_t f r m h) (λ f₁ m₁ e₁ h₁ d₁ s₁. record { g = e_terms f₁; rest = m₁; is = e₁; like = h₁; deep = d₁; rows = omega arith })
  retext_end (e_block a f v b) r m h =
      let z = mark tok_colon ∷ mark tok_l_brace ∷ flat_b v (mark tok_r_brace ∷ r) in
      same (mark tok_comma) refl refl refl (flat_t f z) m h (λ m₁ e₁ h₁.
      anew (retext_t f z m₁ h₁) (λ f₂ m₂ e₂ h₂ d₂ s₂.
      same (mark tok_colon) refl refl refl (mark tok_l_brace ∷ flat_b v (mark tok_r_brace ∷ r)) m₂ h₂ (λ m₃ e₃ h₃.
      same (mark tok_l_brace) refl refl refl (flat_b v (mark tok_r_brace ∷ r)) m₃ h₃ (λ m₄ e₄ h₄.
      anew (retext_b v (mark tok_r_brace ∷ r) m₄ h₄) (λ v₅ m₅ e₅ h₅ d₅ s₅.
      same (mark tok_r_brace) refl refl refl r m₅ h₅ (λ m₆ e₆ h₆.
      record {
        g = e_block a f₂ v₅ b;
        rest = m₆;
        is = e₁ ∙ ap (λ (l : List Flat). mark tok_comma ∷ l) (e₂ ∙ ap (flat_t f₂) (e₃ ∙ ap (λ (l : List Flat). mark tok_colon ∷ l)
            (e₄ ∙ ap (λ (l : List Flat). mark tok_l_brace ∷ l) (e₅ ∙ ap (flat_b v₅) e₆))));
        like = h₆;
        deep = omega arith;
        rows = omega arith;
      }))))))

  retext_sentence : (off : Bool) (x : Sentence) (r m : List Flat) → AllAlike (flat_sentence off x r) m → Anew (flat_sentence off) depth_sentence size_sentence x r m
  retext_sentence off (sentence a f cs x b) r m h =
      anew (retext_t f (flat_c cs (mark tok_equals ∷ flat_end x (flat_off off ++ r))) m h) (λ f₁ m₁ e₁ h₁ d₁ s₁.
      anew (retext_c cs (mark tok_equals ∷ flat_end x (flat_off off ++ r)) m₁ h₁) (λ c₂ m₂ e₂ h₂ d₂ s₂.
      same (mark tok_equals) refl refl refl (flat_end x (flat_off off ++ r)) m₂ h₂ (λ m₃ e₃ h₃.
      anew (retext_end x (flat_off off ++ r) m₃ h₃) (λ x₄ m₄ e₄ h₄ d₄ s₄.
      semicolon off r m₄ h₄ (λ m₅ e₅ h₅.
      record {
        g = sentence a f₁ c₂ x₄ b;
        rest = m₅;
        is = e₁ ∙ ap (flat_t f₁) (e₂ ∙ ap (flat_c c₂) (e₃ ∙ ap (λ (l : List Flat). mark tok_equals ∷ l) (e₄ ∙ ap (flat_end x₄) e₅)));
        like = h₅;
        deep = omega arith;
        rows = omega arith;
      })))))

  retext_s : (s : Sentences) (r m : List Flat) → AllAlike (flat_s s r) m → Anew flat_s depth_s size_s s r m
  retext_s s0 r m h = record { g = s0; rest = m; is = refl; like = h; deep = refl; rows = refl }
  retext_s (s_more s x) r m h =
      anew (retext_s s (flat_sentence false x r) m h) (λ s₁ m₁ e₁ h₁ d₁ n₁.
      anew (retext_sentence false x r m₁ h₁) (λ x₂ m₂ e₂ h₂ d₂ n₂.
      record { g = s_more s₁ x₂; rest = m₂; is = e₁ ∙ ap (flat_s s₁) e₂; like = h₂; deep = omega arith; rows = omega arith }))

  retext_b : (v : Body) (r m : List Flat) → AllAlike (flat_b v r) m → Anew flat_b depth_b size_b v r m
  retext_b (b_all s) r m h =
      anew (retext_s s r m h) (λ s₁ m₁ e₁ h₁ d₁ n₁. record { g = b_all s₁; rest = m₁; is = e₁; like = h₁; deep = d₁; rows = n₁ })
  retext_b (b_off s x) r m h =
      anew (retext_s s (flat_sentence true x r) m h) (λ s₁ m₁ e₁ h₁ d₁ n₁.
      anew (retext_sentence true x r m₁ h₁) (λ x₂ m₂ e₂ h₂ d₂ n₂.
      record { g = b_off s₁ x₂; rest = m₂; is = e₁ ∙ ap (flat_s s₁) e₂; like = h₂; deep = omega arith; rows = omega arith }))

-- names nest nothing
flat_depth_n : Names → ℕ
flat_depth_n ns = 0

retext_n : (ns : Names) (r m : List Flat) → AllAlike (flat_n ns r) m → Anew flat_n flat_depth_n size_n ns r m
unfolding flat_n size_n flat_depth_n
retext_n (n_one s l) r m h =
    name s l r m h (λ s₁ l₁ m₁ e₁ h₁. record { g = n_one s₁ l₁; rest = m₁; is = e₁; like = h₁; deep = refl; rows = refl })
retext_n (n_more ns s l) r m h =
    anew (retext_n ns (mark tok_comma ∷ name_of s l ∷ r) m h) (λ n₁ m₁ e₁ h₁ d₁ s₁.
    same (mark tok_comma) refl refl refl (name_of s l ∷ r) m₁ h₁ (λ m₂ e₂ h₂.
    name s l r m₂ h₂ (λ s' l' m₃ e₃ h₃.
    record { g = n_more n₁ s' l'; rest = m₃; is = e₁ ∙ ap (flat_n n₁) (e₂ ∙ ap (λ (z : List Flat). mark tok_comma ∷ z) e₃); like = h₃; deep = refl; rows = omega arith })))

entry : {A : Type 0} (x : Bool) (r m : List Flat) → AllAlike (flat_entry x ++ r) m → ((m' : List Flat) → m ≡ flat_entry x ++ m' → AllAlike r m' → A) → A
entry true r m h k = same (mark tok_entry) refl refl refl r m h k
entry false r m h k = k m refl h

retext_item : (x : Item) (r m : List Flat) → AllAlike (flat_item x r) m → Anew flat_item depth_item size_item x r m
retext_item (declaration a ns b) r m h =
    same (mark tok_extern) refl refl refl (flat_n ns (mark tok_semicolon ∷ r)) m h (λ m₁ e₁ h₁.
    anew (retext_n ns (mark tok_semicolon ∷ r) m₁ h₁) (λ s₂ m₂ e₂ h₂ d₂ n₂.
    same (mark tok_semicolon) refl refl refl r m₂ h₂ (λ m₃ e₃ h₃.
    record {
      g = declaration a s₂ b;
      rest = m₃;
      is = e₁ ∙ ap (λ (l : List Flat). mark tok_extern ∷ l) (e₂ ∙ ap (flat_n s₂) e₃);
      like = h₃;
      deep = refl;
      rows = omega arith;
    })))
retext_item (function a x s l v b) r m h =
    entry x (name_of s l ∷ mark tok_l_brace ∷ flat_b v (mark tok_r_brace ∷ r)) m h (λ m₁ e₁ h₁.
    name s l (mark tok_l_brace ∷ flat_b v (mark tok_r_brace ∷ r)) m₁ h₁ (λ s' l' m₂ e₂ h₂.
    same (mark tok_l_brace) refl refl refl (flat_b v (mark tok_r_brace ∷ r)) m₂ h₂ (λ m₃ e₃ h₃.
    anew (retext_b v (mark tok_r_brace ∷ r) m₃ h₃) (λ v₄ m₄ e₄ h₄ d₄ n₄.
    same (mark tok_r_brace) refl refl refl r m₄ h₄ (λ m₅ e₅ h₅.
    record {
      g = function a x s' l' v₄ b;
      rest = m₅;
      is = e₁ ∙ ap (λ (z : List Flat). flat_entry x ++ z)
          (e₂ ∙ ap (λ (z : List Flat). name_of s' l' ∷ z) (e₃ ∙ ap (λ (z : List Flat). mark tok_l_brace ∷ z) (e₄ ∙ ap (flat_b v₄) e₅)));
      like = h₅;
      deep = omega arith;
      rows = omega arith;
    })))))

retext_p : (p : Program) (r m : List Flat) → AllAlike (flat_p p r) m → Anew flat_p depth_p size_p p r m
unfolding flat_p depth_p size_p
retext_p p0 r m h = record { g = p0; rest = m; is = refl; like = h; deep = refl; rows = refl }
retext_p (p_more p x) r m h =
    anew (retext_p p (flat_item x r) m h) (λ p₁ m₁ e₁ h₁ d₁ n₁.
    anew (retext_item x r m₁ h₁) (λ x₂ m₂ e₂ h₂ d₂ n₂.
    record { g = p_more p₁ x₂; rest = m₂; is = e₁ ∙ ap (flat_p p₁) e₂; like = h₂; deep = omega arith; rows = omega arith }))

-- a tree with the texts of m
pub record Retext (p : Program) (m : List Flat) : Type 0 where
  pub g : Program
  pub is : flatten_p g ≡ m
  pub deep : depth_p g ≡ depth_p p
  pub rows : size_p g ≡ size_p p

none_left : (m : List Flat) → AllAlike [] m → m ≡ []
none_left m alike_none = refl

pub retext : (p : Program) (m : List Flat) → AllAlike (flatten_p p) m → Retext p m
retext p m h =
    anew (retext_p p [] m (moved (sym (flat_p_is p [] ∙ append-nil (flatten_p p))) h)) (λ q l e a d n.
    record { g = q; is = sym (e ∙ ap (flat_p q) (none_left l a) ∙ flat_p_is q [] ∙ append-nil (flatten_p q)); deep = d; rows = n })
  where
    moved : {k l : List Flat} → k ≡ l → AllAlike k m → AllAlike l m
    moved e a = subst (λ (z : List Flat). AllAlike z m) e a
