-- Where some tree flattens to the tokens and is no deeper than the levels, the machine accepts with that tree, spans aside.
use mathlib.Core.Path.{◌≡◌, refl, sym, ap, ◌∙◌}
use Prim.Native.Nat.{ℕ, ◌≤◌}
use mathlib.Core.List.{List, [], ◌∷◌, ◌++◌, append_assoc}
use mathlib.Core.Bool.{Bool, true, false}
use native.Mathlib.Omega.{arith}
use Rattle.refal_ast.specs.Kinds.{tok_entry, tok_extern, tok_l_brace, tok_r_brace}
use Rattle.refal_ast.specs.Kinds.{tok_comma, tok_semicolon, tok_eof}
use Rattle.refal_ast.specs.Tokens.{Token}
use Rattle.refal_ast.specs.Tree.{Body}
use Rattle.refal_ast.specs.Tree.{Names, n_one, n_more, Item, declaration, function, Program, p0, p_more, depth_item, depth_p}
use Rattle.refal_ast.specs.Flatten.{Flat, mark, name_of, flats_of, flat_entry, flatten_item}
use Rattle.refal_ast.specs.Flatten.{Loose, loose_none, loose_semicolon, loose_item}
use Rattle.refal_parser.specs.Machine.{Heading, body, outside, wants_name, wants_more, named, entered, headed, tree, run}
use Rattle.refal_demands.proofs.Flats.{flat_b, flat_n, flat_item, flat_item_is}
use Rattle.refal_demands.proofs.Respan.{respan_p, erase_item, erase_p}
use Rattle.refal_demands.proofs.Eat.{run_at, eat}
use Rattle.refal_demands.proofs.ReadsSentences.{reads_b, use_b}

-- ---- names, which have no spans
record ReadsN (L : ℕ) (p : Program) (ts : List Token) (a : ℕ) (ns : Names) (r : List Flat) : Type 0 where
  rest : List Token
  after : flats_of rest ≡ r
  means : run_at L p ts (wants_name a) ≡ run_at L p rest (named a ns)

use_n : {L : ℕ} {p : Program} {ts : List Token} {a : ℕ} {ns : Names} {r : List Flat} {A : Type 0} → ReadsN L p ts a ns r
    → ((rest : List Token) → flats_of rest ≡ r → run_at L p ts (wants_name a) ≡ run_at L p rest (named a ns) → A)
    → A
use_n R k = k R.rest R.after R.means

reads_n : (ns : Names) (L : ℕ) (p : Program) (ts : List Token) (a : ℕ) (r : List Flat) → flats_of ts ≡ flat_n ns r → ReadsN L p ts a ns r
unfolding flat_n
reads_n (n_one s l) L p ts a r e = eat L p ts (name_of s l) r (wants_name a) e (λ a₁ b₁ ts₁ k₁ e₁. record { rest = ts₁; after = k₁; means = e₁ })
reads_n (n_more ns s l) L p ts a r e =
    let R = reads_n ns L p ts a (mark tok_comma ∷ name_of s l ∷ r) e in
    eat L p R.rest (mark tok_comma) (name_of s l ∷ r) (named a ns) R.after (λ a₁ b₁ ts₁ k₁ e₁.
    eat L p ts₁ (name_of s l) r (wants_more a ns) k₁ (λ a₂ b₂ ts₂ k₂ e₂.
    record { rest = ts₂; after = k₂; means = R.means ∙ e₁ ∙ e₂ }))

-- ---- items
-- a function's head: Entry where it is an entry, and its name
reads_head : {A : Type 0} (x : Bool) (L : ℕ) (p : Program) (ts : List Token) (m n : ℕ) (r : List Flat) → flats_of ts ≡ flat_entry x ++ (name_of m n ∷ r)
    → ((a : ℕ) (rest : List Token) → flats_of rest ≡ r → run_at L p ts outside ≡ run_at L p rest (headed (record { from = a; entry = x; start = m; len = n })) → A)
    → A
reads_head true L p ts m n r e k =
    eat L p ts (mark tok_entry) (name_of m n ∷ r) outside e (λ a₁ b₁ ts₁ k₁ e₁.
    eat L p ts₁ (name_of m n) r (entered a₁) k₁ (λ a₂ b₂ ts₂ k₂ e₂. k a₁ ts₂ k₂ (e₁ ∙ e₂)))
reads_head false L p ts m n r e k = eat L p ts (name_of m n) r outside e (λ a₁ b₁ ts₁ k₁ e₁. k a₁ ts₁ k₁ e₁)

-- an item after the items p
record ReadsI (L : ℕ) (p : Program) (ts : List Token) (x : Item) (r : List Flat) : Type 0 where
  y : Item
  rest : List Token
  same : erase_item y ≡ erase_item x
  after : flats_of rest ≡ r
  means : run_at L p ts outside ≡ run_at L (p_more p y) rest outside

reads_i : (x : Item) (L : ℕ) (p : Program) (ts : List Token) (r : List Flat) → depth_item x ≤ L → flats_of ts ≡ flat_item x r → ReadsI L p ts x r
reads_i (declaration a ns b) L p ts r l e =
    eat L p ts (mark tok_extern) (flat_n ns (mark tok_semicolon ∷ r)) outside e (λ a₁ b₁ ts₁ k₁ e₁.
    use_n (reads_n ns L p ts₁ a₁ (mark tok_semicolon ∷ r) k₁) (λ ts₂ k₂ e₂.
    eat L p ts₂ (mark tok_semicolon) r (named a₁ ns) k₂ (λ a₃ b₃ ts₃ k₃ e₃.
    record { y = declaration a₁ ns b₃; rest = ts₃; same = refl; after = k₃; means = e₁ ∙ e₂ ∙ e₃ })))
reads_i (function a x m n v b) L p ts r l e =
    reads_head x L p ts m n (mark tok_l_brace ∷ flat_b v (mark tok_r_brace ∷ r)) e (λ a₀ ts₀ k₀ e₀.
    let h : Heading = record { from = a₀; entry = x; start = m; len = n } in
    eat L p ts₀ (mark tok_l_brace) (flat_b v (mark tok_r_brace ∷ r)) (headed h) k₀ (λ a₁ b₁ ts₁ k₁ e₁.
    use_b (reads_b v L p ts₁ L (body h) r l k₁) (λ v₂ b₂ ts₂ m₂ k₂ e₂.
    record { y = function a₀ x m n v₂ b₂; rest = ts₂; same = ap (λ (y : Body). function 0 x m n y 0) m₂; after = k₂; means = e₀ ∙ e₁ ∙ e₂ })))

-- ---- programs
record ReadsP (L : ℕ) (ts : List Token) (s : Program) (r : List Flat) : Type 0 where
  t : Program
  rest : List Token
  same : erase_p t ≡ erase_p s
  after : flats_of rest ≡ r
  means : run_at L p0 ts outside ≡ run_at L t rest outside

use_p : {L : ℕ} {ts : List Token} {s : Program} {r : List Flat} {A : Type 0} → ReadsP L ts s r
    → ((t : Program) (rest : List Token) → erase_p t ≡ erase_p s → flats_of rest ≡ r → run_at L p0 ts outside ≡ run_at L t rest outside → A) → A
use_p R k = k R.t R.rest R.same R.after R.means

reads_p : {s : Program} {l : List Flat} → Loose s l → (L : ℕ) (ts : List Token) (r : List Flat) → depth_p s ≤ L → flats_of ts ≡ l ++ r → ReadsP L ts s r
unfolding depth_p respan_p
reads_p loose_none L ts r d e = record { t = p0; rest = ts; same = refl; after = e; means = refl }
reads_p (loose_semicolon {l = l} q) L ts r d e =
    use_p (reads_p q L ts (mark tok_semicolon ∷ r) d (e ∙ append_assoc l (mark tok_semicolon ∷ []) r)) (λ t₁ ts₁ m₁ k₁ e₁.
    eat L t₁ ts₁ (mark tok_semicolon) r outside k₁ (λ a₂ b₂ ts₂ k₂ e₂.
    record { t = t₁; rest = ts₂; same = m₁; after = k₂; means = e₁ ∙ e₂ }))
reads_p (loose_item {p = p} {l = l} {x = x} q) L ts r d e =
    use_p (reads_p q L ts (flatten_item x ++ r) (omega arith) (e ∙ append_assoc l (flatten_item x) r)) (λ t₁ ts₁ m₁ k₁ e₁.
    let R = reads_i x L t₁ ts₁ r (omega arith) (k₁ ∙ sym (flat_item_is x r)) in
    record {
      t = p_more t₁ R.y;
      rest = R.rest;
      same = ap (λ (y : Program). p_more y (erase_item R.y)) m₁ ∙ ap (λ (y : Item). p_more (erase_p p) y) R.same;
      after = R.after;
      means = e₁ ∙ R.means;
    })

pub record Accepts (L : ℕ) (ts : List Token) (s : Program) : Type 0 where
  pub t : Program
  pub means : run L ts p0 outside ≡ tree t
  pub same : erase_p t ≡ erase_p s

pub complete : {s : Program} {l : List Flat} → Loose s l → (L : ℕ) (ts : List Token) → depth_p s ≤ L → flats_of ts ≡ l ++ (mark tok_eof ∷ []) → Accepts L ts s
complete q L ts d e =
    use_p (reads_p q L ts (mark tok_eof ∷ []) d e) (λ t₁ ts₁ m₁ k₁ e₁.
    eat L t₁ ts₁ (mark tok_eof) [] outside k₁ (λ a₂ b₂ ts₂ k₂ e₂. record { t = t₁; means = e₁ ∙ e₂; same = m₁ }))
