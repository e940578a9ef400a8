-- The machine reads conditions and sentences that flatten to what is there, spans aside.
use mathlib.Core.Path.{◌≡◌, refl, ap, ◌∙◌}
use Prim.Native.Nat.{ℕ, zero, suc, ◌≤◌}
use mathlib.Core.Bool.{Bool, true, false}
use mathlib.Core.List.{List, ◌∷◌}
use native.Mathlib.Omega.{arith}
use Rattle.refal_ast.specs.Kinds.{tok_l_brace, tok_r_brace}
use Rattle.refal_ast.specs.Kinds.{tok_comma, tok_colon, tok_equals, tok_semicolon, tok_eof}
use Rattle.refal_ast.specs.Tokens.{Token}
use Rattle.refal_ast.specs.Tree.{Terms, t0, Right, r_terms, r_block, Condition, condition, Conditions, c0, c_more, End, e_terms, e_block, Sentence, sentence, Sentences, s0, s_more, Body, b_all, b_off, Program}
use Rattle.refal_ast.specs.Tree.{depth_t, depth_c, depth_end, depth_sentence, depth_s, depth_b}
use Rattle.refal_ast.specs.Flatten.{Flat, mark, flats_of}
use Rattle.refal_parser.specs.Machine.{Begun, Argument, Block, in_condition, in_ending, pattern, argument, matching, result, ending, State, between, within}
use Rattle.refal_parser.specs.Machine.{matched, conditioned, equated, blocked, ended, Step, go, first_start, last_end, asked, begun, with_condition, to_terms, to_block, leave, step, next_from}
use Rattle.refal_demands.proofs.Flats.{flat_t, flat_c, flat_end, flat_sentence, flat_s, flat_b}
use Rattle.refal_demands.proofs.Respan.{respan_c, respan_s, erase_t, erase_c, erase_end, erase_sentence, erase_s, erase_b}
use Rattle.refal_demands.proofs.Eat.{run_at, afterwards, eat, made, step_on, alike}
use Rattle.refal_demands.proofs.ReadsTerms.{reads_t, use_t}
use Rattle.refal_demands.proofs.Begins.{Not, begins, begins_with, begins_head, enter, enters_matching, enters_pattern, enters_result}

-- ---- conditions, with the token after them: the comma of another condition or of none, or `=`
data Sep : Type 0 where
  comma : Sep
  equals : Sep

abbrev sep_kind : Sep → ℕ
sep_kind comma = tok_comma
sep_kind equals = tok_equals

-- where that token leads; x is where the token after the comma starts, or the end of the `=`
abbrev beyond : Sep → ℕ → Block → Begun → ℕ → State
beyond comma d b s x = within d (argument b s x) t0
beyond equals d b s x = equated d b s x

record ReadsC (L : ℕ) (p : Program) (ts : List Token) (d : ℕ) (b : Block) (s : Sentences) (st : ℕ) (f : Terms) (cs : Conditions) (q : Sep) (r : List Flat) : Type 0 where
  g : Terms
  hs : Conditions
  x : ℕ
  rest : List Token
  same_t : erase_t g ≡ erase_t f
  same_c : erase_c hs ≡ erase_c cs
  after : flats_of rest ≡ r
  means : run_at L p ts (within d (pattern b s st) t0) ≡ run_at L p rest (beyond q d b (begun s st g hs) x)

use_c : {L : ℕ} {p : Program} {ts : List Token} {d : ℕ} {b : Block} {s : Sentences} {st : ℕ} {f : Terms} {cs : Conditions} {q : Sep} {r : List Flat} {A : Type 0}
    → ReadsC L p ts d b s st f cs q r
    → ((g : Terms) (hs : Conditions) (x : ℕ) (rest : List Token) → erase_t g ≡ erase_t f → erase_c hs ≡ erase_c cs → flats_of rest ≡ r
    → run_at L p ts (within d (pattern b s st) t0) ≡ run_at L p rest (beyond q d b (begun s st g hs) x) → A)
    → A
use_c R k = k R.g R.hs R.x R.rest R.same_t R.same_c R.after R.means

record ReadsS (L : ℕ) (p : Program) (ts : List Token) (d : ℕ) (b : Block) (s : Sentences) (r : List Flat) : Type 0 where
  t : Sentences
  rest : List Token
  same : erase_s t ≡ erase_s s
  after : flats_of rest ≡ r
  means : run_at L p ts (between d b s0) ≡ run_at L p rest (between d b t)

use_s : {L : ℕ} {p : Program} {ts : List Token} {d : ℕ} {b : Block} {s : Sentences} {r : List Flat} {A : Type 0} → ReadsS L p ts d b s r
    → ((t : Sentences) (rest : List Token) → erase_s t ≡ erase_s s → flats_of rest ≡ r → run_at L p ts (between d b s0) ≡ run_at L p rest (between d b t) → A)
    → A
use_s R k = k R.t R.rest R.same R.after R.means

-- a body, with the `}` after it
pub record ReadsB (L : ℕ) (p : Program) (ts : List Token) (d : ℕ) (b : Block) (v : Body) (r : List Flat) : Type 0 where
  pub t : Body
  pub e : ℕ
  pub rest : List Token
  pub same : erase_b t ≡ erase_b v
  pub after : flats_of rest ≡ r
  pub means : run_at L p ts (between d b s0) ≡ afterwards L p rest (leave d b t e)

pub use_b : {L : ℕ} {p : Program} {ts : List Token} {d : ℕ} {b : Block} {v : Body} {r : List Flat} {A : Type 0} → ReadsB L p ts d b v r
    → ((t : Body) (e : ℕ) (rest : List Token) → erase_b t ≡ erase_b v → flats_of rest ≡ r → run_at L p ts (between d b s0) ≡ afterwards L p rest (leave d b t e) → A)
    → A
use_b R k = k R.t R.e R.rest R.same R.after R.means

step_pattern : (L : ℕ) (rest : List Token) (q : Sep) (d : ℕ) (b : Block) (s : Sentences) (st : ℕ) (f : Terms) (a e : ℕ)
    → (x : ℕ) × (step_on L rest (within d (pattern b s st) f) (made (mark (sep_kind q)) a e) ≡ go (beyond q d b (begun s st f c0) x))
step_pattern L rest comma d b s st f a e = (next_from (made (mark tok_comma) a e) rest, refl)
step_pattern L rest equals d b s st f a e = (e, refl)

step_matching : (L : ℕ) (rest : List Token) (q : Sep) (d : ℕ) (b : Block) (s : Begun) (o : ℕ) (g : Argument) (h : Terms) (a e : ℕ)
    → (x : ℕ) × (step_on L rest (within d (matching b s o g) h) (made (mark (sep_kind q)) a e) ≡ go (beyond q d b (with_condition s (to_terms o g h)) x))
step_matching L rest comma d b s o g h a e = (next_from (made (mark tok_comma) a e) rest, refl)
step_matching L rest equals d b s o g h a e = (e, refl)

step_conditioned : (L : ℕ) (rest : List Token) (q : Sep) (d : ℕ) (b : Block) (s : Begun) (a e : ℕ)
    → (x : ℕ) × (step_on L rest (conditioned d b s) (made (mark (sep_kind q)) a e) ≡ go (beyond q d b s x))
step_conditioned L rest comma d b s a e = (next_from (made (mark tok_comma) a e) rest, refl)
step_conditioned L rest equals d b s a e = (e, refl)

-- what is shown of conditions, and of sentences
abbrev AllC : Conditions → Type 0
AllC cs = (f : Terms) (L : ℕ) (p : Program) (ts : List Token) (d : ℕ) (b : Block) (s : Sentences) (st : ℕ) (q : Sep) (r : List Flat) → depth_t f ≤ d → depth_c cs ≤ d
    → flats_of ts ≡ flat_t f (flat_c cs (mark (sep_kind q) ∷ r)) → ReadsC L p ts d b s st f cs q r

abbrev pub AllB : Body → Type 0
AllB v = (L : ℕ) (p : Program) (ts : List Token) (d : ℕ) (b : Block) (r : List Flat) → depth_b v ≤ d → flats_of ts ≡ flat_b v (mark tok_r_brace ∷ r) → ReadsB L p ts d b v r

abbrev AllS : Sentences → Type 0
AllS s = (L : ℕ) (p : Program) (ts : List Token) (d : ℕ) (b : Block) (r : List Flat) → depth_s s ≤ d → flats_of ts ≡ flat_s s r → ReadsS L p ts d b s r

reads_c0 : AllC c0
unfolding flat_c respan_c
reads_c0 f L p ts d b s st q r l l' e =
    use_t (reads_t f L p ts d (pattern b s st) (mark (sep_kind q) ∷ r) l e) (λ f₁ ts₁ m₁ k₁ e₁.
    eat L p ts₁ (mark (sep_kind q)) r (within d (pattern b s st) f₁) k₁ (λ a₂ b₂ ts₂ k₂ e₂.
    let z = step_pattern L ts₂ q d b s st f₁ a₂ b₂ in
    record { g = f₁; hs = c0; x = z.0; rest = ts₂; same_t = m₁; same_c = refl; after = k₂; means = e₁ ∙ e₂ ∙ ap (λ (y : Step). afterwards L p ts₂ y) z.1 }))

reads_c_terms : (cs : Conditions) (a : ℕ) (h i : Terms) (z : ℕ) → AllC cs → AllC (c_more cs (condition a h (r_terms i) z))
unfolding flat_c depth_c respan_c
reads_c_terms cs a h i z ih f L p ts d b s st q r l l' e =
    use_c (ih f L p ts d b s st comma (flat_t h (mark tok_colon ∷ flat_t i (mark (sep_kind q) ∷ r))) l (omega arith) e) (λ f₁ h₁ x₁ ts₁ m₁ n₁ k₁ e₁.
    use_t (reads_t h L p ts₁ d (argument b (begun s st f₁ h₁) x₁) (mark tok_colon ∷ flat_t i (mark (sep_kind q) ∷ r)) (omega arith) k₁) (λ h₂ ts₂ m₂ k₂ e₂.
    eat L p ts₂ (mark tok_colon) (flat_t i (mark (sep_kind q) ∷ r)) (within d (argument b (begun s st f₁ h₁) x₁) h₂) k₂ (λ a₃ b₃ ts₃ k₃ e₃.
    let w = enter L p tok_l_brace tok_l_brace ts₃ (flat_t i (mark (sep_kind q) ∷ r)) d (matched d b (begun s st f₁ h₁) x₁ (asked h₂ a₃ b₃)) (λ a'. matching b (begun s st f₁ h₁) x₁ (asked h₂ a₃ b₃))
    (enters_matching L d b (begun s st f₁ h₁) x₁ (asked h₂ a₃ b₃)) (begins i tok_l_brace tok_l_brace (mark (sep_kind q) ∷ r) (omega arith) (begins_with tok_l_brace tok_l_brace (mark (sep_kind q)) r (sep_brace q))) k₃ in
    use_t (reads_t i L p ts₃ d (matching b (begun s st f₁ h₁) x₁ (asked h₂ a₃ b₃)) (mark (sep_kind q) ∷ r) (omega arith) k₃) (λ i₄ ts₄ m₄ k₄ e₄.
    eat L p ts₄ (mark (sep_kind q)) r (within d (matching b (begun s st f₁ h₁) x₁ (asked h₂ a₃ b₃)) i₄) k₄ (λ a₅ b₅ ts₅ k₅ e₅.
    let v = step_matching L ts₅ q d b (begun s st f₁ h₁) x₁ (asked h₂ a₃ b₃) i₄ a₅ b₅ in
    record {
      g = f₁;
      hs = c_more h₁ (to_terms x₁ (asked h₂ a₃ b₃) i₄);
      x = v.0;
      rest = ts₅;
      same_t = m₁;
      same_c =
          ap (λ (y : Conditions). c_more y (condition 0 (erase_t h₂) (r_terms (erase_t i₄)) 0)) n₁
          ∙ ap (λ (y : Terms). c_more (erase_c cs) (condition 0 y (r_terms (erase_t i₄)) 0)) m₂
          ∙ ap (λ (y : Terms). c_more (erase_c cs) (condition 0 (erase_t h) (r_terms y) 0)) m₄;
      after = k₅;
      means = e₁ ∙ e₂ ∙ e₃ ∙ w.1 ∙ e₄ ∙ e₅ ∙ ap (λ (y : Step). afterwards L p ts₅ y) v.1;
    })))))
  where
    sep_brace : (q : Sep) → Not tok_l_brace tok_l_brace (sep_kind q)
    sep_brace comma = omega arith
    sep_brace equals = omega arith

reads_c_block : (cs : Conditions) (a : ℕ) (h : Terms) (o : ℕ) (v : Body) (z₁ z : ℕ) → AllC cs → AllB v → AllC (c_more cs (condition a h (r_block o v z₁) z))
unfolding flat_c depth_c respan_c
reads_c_block cs a h o v z₁ z ih iv f L p ts zero b s st q r l l' e = let y : ⊥ = omega arith in absurd y
reads_c_block cs a h o v z₁ z ih iv f L p ts (suc d) b s st q r l l' e =
    let r₄ = mark tok_r_brace ∷ mark (sep_kind q) ∷ r in
    use_c (ih f L p ts (suc d) b s st comma (flat_t h (mark tok_colon ∷ mark tok_l_brace ∷ flat_b v r₄)) l (omega arith) e) (λ f₁ h₁ x₁ ts₁ m₁ n₁ k₁ e₁.
    use_t (reads_t h L p ts₁ (suc d) (argument b (begun s st f₁ h₁) x₁) (mark tok_colon ∷ mark tok_l_brace ∷ flat_b v r₄) (omega arith) k₁) (λ h₂ ts₂ m₂ k₂ e₂.
    eat L p ts₂ (mark tok_colon) (mark tok_l_brace ∷ flat_b v r₄) (within (suc d) (argument b (begun s st f₁ h₁) x₁) h₂) k₂ (λ a₃ b₃ ts₃ k₃ e₃.
    eat L p ts₃ (mark tok_l_brace) (flat_b v r₄) (matched (suc d) b (begun s st f₁ h₁) x₁ (asked h₂ a₃ b₃)) k₃ (λ a₄ b₄ ts₄ k₄ e₄.
    use_b (iv L p ts₄ d (in_condition b (begun s st f₁ h₁) x₁ (asked h₂ a₃ b₃)) (mark (sep_kind q) ∷ r) (omega arith) k₄) (λ v₅ b₆ ts₆ m₅ k₆ e₆.
    eat L p ts₆ (mark (sep_kind q)) r (conditioned (suc d) b (with_condition (begun s st f₁ h₁) (to_block x₁ (asked h₂ a₃ b₃) v₅ b₆))) k₆ (λ a₇ b₇ ts₇ k₇ e₇.
    let w = step_conditioned L ts₇ q (suc d) b (with_condition (begun s st f₁ h₁) (to_block x₁ (asked h₂ a₃ b₃) v₅ b₆)) a₇ b₇ in
    record {
      g = f₁;
      hs = c_more h₁ (to_block x₁ (asked h₂ a₃ b₃) v₅ b₆);
      x = w.0;
      rest = ts₇;
      same_t = m₁;
      same_c =
          ap (λ (y : Conditions). c_more y (condition 0 (erase_t h₂) (r_block 0 (erase_b v₅) 0) 0)) n₁
          ∙ ap (λ (y : Terms). c_more (erase_c cs) (condition 0 y (r_block 0 (erase_b v₅) 0) 0)) m₂
          ∙ ap (λ (y : Body). c_more (erase_c cs) (condition 0 (erase_t h) (r_block 0 y 0) 0)) m₅;
      after = k₇;
      means = e₁ ∙ e₂ ∙ e₃ ∙ e₄ ∙ e₆ ∙ e₇ ∙ ap (λ (y : Step). afterwards L p ts₇ y) w.1;
    }))))))

-- ---- a sentence's pattern and conditions, and its `=`, which ends at q
record ReadsH (L : ℕ) (p : Program) (ts : List Token) (d : ℕ) (b : Block) (s : Sentences) (f : Terms) (cs : Conditions) (r : List Flat) : Type 0 where
  st : ℕ
  g : Terms
  hs : Conditions
  q : ℕ
  rest : List Token
  same_t : erase_t g ≡ erase_t f
  same_c : erase_c hs ≡ erase_c cs
  after : flats_of rest ≡ r
  means : run_at L p ts (between d b s) ≡ run_at L p rest (equated d b (begun s st g hs) q)

use_h : {L : ℕ} {p : Program} {ts : List Token} {d : ℕ} {b : Block} {s : Sentences} {f : Terms} {cs : Conditions} {r : List Flat} {A : Type 0}
    → ReadsH L p ts d b s f cs r
    → ((st : ℕ) (g : Terms) (hs : Conditions) (q : ℕ) (rest : List Token) → erase_t g ≡ erase_t f → erase_c hs ≡ erase_c cs → flats_of rest ≡ r
    → run_at L p ts (between d b s) ≡ run_at L p rest (equated d b (begun s st g hs) q) → A)
    → A
use_h R k = k R.st R.g R.hs R.q R.rest R.same_t R.same_c R.after R.means

reads_h : (cs : Conditions) → AllC cs → (f : Terms) (L : ℕ) (p : Program) (ts : List Token) (d : ℕ) (b : Block) (s : Sentences) (r : List Flat) → depth_t f ≤ d
    → depth_c cs ≤ d → flats_of ts ≡ flat_t f (flat_c cs (mark tok_equals ∷ r)) → ReadsH L p ts d b s f cs r
reads_h cs ih f L p ts d b s r l l' e =
    let n = enter L p tok_r_brace tok_eof ts (flat_t f (flat_c cs (mark tok_equals ∷ r))) d (between d b s) (λ a. pattern b s a)
    (enters_pattern L d b s) (begins_head cs f tok_r_brace tok_eof (mark tok_equals) r (omega arith) (omega arith) (omega arith)) e in
    use_c (ih f L p ts d b s n.0 equals r l l' e) (λ g hs x rest m m' k e₁.
    record { st = n.0; g = g; hs = hs; q = x; rest = rest; same_t = m; same_c = m'; after = k; means = n.1 ∙ e₁ })

-- ---- what stands after the `=`, up to the `;`, or the `}` of the block where that is left off
abbrev close_kind : Bool → ℕ
close_kind true = tok_r_brace
close_kind false = tok_semicolon

record ReadsE (L : ℕ) (p : Program) (ts : List Token) (d : ℕ) (b : Block) (s : Begun) (q : ℕ) (x : End) (off : Bool) (r : List Flat) : Type 0 where
  y : End
  e : ℕ
  rest : List Token
  same : erase_end y ≡ erase_end x
  after : flats_of rest ≡ mark (close_kind off) ∷ r
  means : run_at L p ts (equated d b s q) ≡ run_at L p rest (ended d b s y e)

use_e : {L : ℕ} {p : Program} {ts : List Token} {d : ℕ} {b : Block} {s : Begun} {q : ℕ} {x : End} {off : Bool} {r : List Flat} {A : Type 0} → ReadsE L p ts d b s q x off r
    → ((y : End) (e : ℕ) (rest : List Token) → erase_end y ≡ erase_end x → flats_of rest ≡ mark (close_kind off) ∷ r → run_at L p ts (equated d b s q) ≡ run_at L p rest (ended d b s y e) → A)
    → A
use_e R k = k R.y R.e R.rest R.same R.after R.means

abbrev AllE : End → Type 0
AllE x = (off : Bool) (L : ℕ) (p : Program) (ts : List Token) (d : ℕ) (b : Block) (s : Begun) (q : ℕ) (r : List Flat) → depth_end x ≤ d
    → flats_of ts ≡ flat_end x (mark (close_kind off) ∷ r) → ReadsE L p ts d b s q x off r

-- result terms before a token that closes the sentence are what it ends in
result_ended : (off : Bool) (L d : ℕ) (b : Block) (s : Begun) (q : ℕ) (g : Terms) (a e x y : ℕ)
    → step L (within d (result b s q) g) (made (mark (close_kind off)) a e) x y ≡ step L (ended d b s (e_terms g) (last_end g q)) (made (mark (close_kind off)) a e) x y
result_ended true L d b s q g a e x y = refl
result_ended false L d b s q g a e x y = refl

close_comma : (off : Bool) → Not tok_comma tok_comma (close_kind off)
close_comma true = omega arith
close_comma false = omega arith

reads_e_terms : (g : Terms) → AllE (e_terms g)
unfolding flat_c depth_c respan_c
reads_e_terms g off L p ts d b s q r l e =
    let c = mark (close_kind off) in
    let w = enter L p tok_comma tok_comma ts (flat_t g (c ∷ r)) d (equated d b s q) (λ a'. result b s q)
    (enters_result L d b s q) (begins g tok_comma tok_comma (c ∷ r) (omega arith) (begins_with tok_comma tok_comma c r (close_comma off))) e in
    use_t (reads_t g L p ts d (result b s q) (c ∷ r) l e) (λ g₁ ts₁ m₁ k₁ e₁.
    record {
      y = e_terms g₁;
      e = last_end g₁ q;
      rest = ts₁;
      same = ap e_terms m₁;
      after = k₁;
      means = w.1 ∙ e₁ ∙ alike L p ts₁ c r (within d (result b s q) g₁) (ended d b s (e_terms g₁) (last_end g₁ q)) k₁ (result_ended off L d b s q g₁);
    })

reads_e_block : (o : ℕ) (g : Terms) (v : Body) (z : ℕ) → AllB v → AllE (e_block o g v z)
unfolding flat_c depth_c respan_c
reads_e_block o g v z iv off L p ts zero b s q r l e = let y : ⊥ = omega arith in absurd y
reads_e_block o g v z iv off L p ts (suc d) b s q r l e =
    let r₆ = mark tok_r_brace ∷ mark (close_kind off) ∷ r in
    eat L p ts (mark tok_comma) (flat_t g (mark tok_colon ∷ mark tok_l_brace ∷ flat_b v r₆)) (equated (suc d) b s q) e (λ a₃ b₃ ts₃ k₃ e₃.
    use_t (reads_t g L p ts₃ (suc d) (ending b s) (mark tok_colon ∷ mark tok_l_brace ∷ flat_b v r₆) (omega arith) k₃) (λ g₄ ts₄ m₄ k₄ e₄.
    eat L p ts₄ (mark tok_colon) (mark tok_l_brace ∷ flat_b v r₆) (within (suc d) (ending b s) g₄) k₄ (λ a₅ b₅ ts₅ k₅ e₅.
    eat L p ts₅ (mark tok_l_brace) (flat_b v r₆) (blocked (suc d) b s (asked g₄ a₅ b₅)) k₅ (λ a₆ b₆ ts₆ k₆ e₆.
    use_b (iv L p ts₆ d (in_ending b s (asked g₄ a₅ b₅)) (mark (close_kind off) ∷ r) (omega arith) k₆) (λ v₇ b₈ ts₈ m₇ k₈ e₈.
    record {
      y = e_block (first_start g₄ a₅) g₄ v₇ b₈;
      e = b₈;
      rest = ts₈;
      same = ap (λ (y : Terms). e_block 0 y (erase_b v₇) 0) m₄ ∙ ap (λ (y : Body). e_block 0 (erase_t g) y 0) m₇;
      after = k₈;
      means = e₃ ∙ e₄ ∙ e₅ ∙ e₆ ∙ e₈;
    })))))

-- ---- a sentence, up to the same
record ReadsX (L : ℕ) (p : Program) (ts : List Token) (d : ℕ) (b : Block) (s : Sentences) (x : Sentence) (off : Bool) (r : List Flat) : Type 0 where
  st : ℕ
  g : Terms
  hs : Conditions
  y : End
  e : ℕ
  rest : List Token
  same : (z : ℕ) → erase_sentence (sentence st g hs y z) ≡ erase_sentence x
  after : flats_of rest ≡ mark (close_kind off) ∷ r
  means : run_at L p ts (between d b s) ≡ run_at L p rest (ended d b (begun s st g hs) y e)

use_x : {L : ℕ} {p : Program} {ts : List Token} {d : ℕ} {b : Block} {s : Sentences} {x : Sentence} {off : Bool} {r : List Flat} {A : Type 0} → ReadsX L p ts d b s x off r
    → ((st : ℕ) (g : Terms) (hs : Conditions) (y : End) (e : ℕ) (rest : List Token) → ((z : ℕ) → erase_sentence (sentence st g hs y z) ≡ erase_sentence x)
    → flats_of rest ≡ mark (close_kind off) ∷ r → run_at L p ts (between d b s) ≡ run_at L p rest (ended d b (begun s st g hs) y e) → A)
    → A
use_x R k = k R.st R.g R.hs R.y R.e R.rest R.same R.after R.means

abbrev AllX : Sentence → Type 0
AllX x = (off : Bool) (L : ℕ) (p : Program) (ts : List Token) (d : ℕ) (b : Block) (s : Sentences) (r : List Flat) → depth_sentence x ≤ d
    → flats_of ts ≡ flat_sentence true x (mark (close_kind off) ∷ r) → ReadsX L p ts d b s x off r

reads_sentence_lem : (a : ℕ) (f : Terms) (cs : Conditions) (x : End) (z : ℕ) → AllC cs → AllE x → AllX (sentence a f cs x z)
unfolding flat_c depth_c respan_c
reads_sentence_lem a f cs x z ic ix off L p ts d b s r l e =
    let c = mark (close_kind off) in
    use_h (reads_h cs ic f L p ts d b s (flat_end x (c ∷ r)) (omega arith) (omega arith) e) (λ st f₁ c₁ q₁ ts₁ m₁ n₁ k₁ e₁.
    use_e (ix off L p ts₁ d b (begun s st f₁ c₁) q₁ r (omega arith) k₁) (λ y₂ z₂ ts₂ m₂ k₂ e₂.
    record {
      st = st;
      g = f₁;
      hs = c₁;
      y = y₂;
      e = z₂;
      rest = ts₂;
      same = λ z'.
          ap (λ (y : Terms). sentence 0 y (erase_c c₁) (erase_end y₂) 0) m₁
          ∙ ap (λ (y : Conditions). sentence 0 (erase_t f) y (erase_end y₂) 0) n₁
          ∙ ap (λ (y : End). sentence 0 (erase_t f) (erase_c cs) y 0) m₂;
      after = k₂;
      means = e₁ ∙ e₂;
    }))

-- ---- sentences, and a body
reads_s0 : AllS s0
unfolding flat_s
reads_s0 L p ts d b r l e = record { t = s0; rest = ts; same = refl; after = e; means = refl }

-- a sentence with its `;`
with_semicolon : (x : Sentence) (r : List Flat) → flat_sentence false x r ≡ flat_sentence true x (mark tok_semicolon ∷ r)
unfolding flat_s
with_semicolon (sentence a f cs x b) r = refl

reads_s_more : (s : Sentences) (x : Sentence) → AllS s → AllX x → AllS (s_more s x)
unfolding flat_s depth_s respan_s
reads_s_more s x is ix L p ts d b r l e =
    use_s (is L p ts d b (flat_sentence false x r) (omega arith) e) (λ s₁ ts₁ m₁ k₁ e₁.
    use_x (ix false L p ts₁ d b s₁ r (omega arith) (k₁ ∙ with_semicolon x r)) (λ st g hs y e' ts₂ m₂ k₂ e₂.
    eat L p ts₂ (mark tok_semicolon) r (ended d b (begun s₁ st g hs) y e') k₂ (λ a₃ b₃ ts₃ k₃ e₃.
    record {
      t = s_more s₁ (sentence st g hs y b₃);
      rest = ts₃;
      same = ap (λ (z : Sentences). s_more z (erase_sentence (sentence st g hs y b₃))) m₁ ∙ ap (λ (z : Sentence). s_more (erase_s s) z) (m₂ b₃);
      after = k₃;
      means = e₁ ∙ e₂ ∙ e₃;
    })))

reads_all : (s : Sentences) → AllS s → AllB (b_all s)
unfolding flat_s depth_s respan_s
reads_all s is L p ts d b r l e =
    use_s (is L p ts d b (mark tok_r_brace ∷ r) l e) (λ s₁ ts₁ m₁ k₁ e₁.
    eat L p ts₁ (mark tok_r_brace) r (between d b s₁) k₁ (λ a₂ b₂ ts₂ k₂ e₂.
    record { t = b_all s₁; e = b₂; rest = ts₂; same = ap b_all m₁; after = k₂; means = e₁ ∙ e₂ }))

reads_off : (s : Sentences) (x : Sentence) → AllS s → AllX x → AllB (b_off s x)
unfolding flat_s depth_s respan_s
reads_off s x is ix L p ts d b r l e =
    use_s (is L p ts d b (flat_sentence true x (mark tok_r_brace ∷ r)) (omega arith) e) (λ s₁ ts₁ m₁ k₁ e₁.
    use_x (ix true L p ts₁ d b s₁ r (omega arith) k₁) (λ st g hs y e' ts₂ m₂ k₂ e₂.
    eat L p ts₂ (mark tok_r_brace) r (ended d b (begun s₁ st g hs) y e') k₂ (λ a₃ b₃ ts₃ k₃ e₃.
    record {
      t = b_off s₁ (sentence st g hs y e');
      e = b₃;
      rest = ts₃;
      same = ap (λ (z : Sentences). b_off z (erase_sentence (sentence st g hs y e'))) m₁ ∙ ap (λ (z : Sentence). b_off (erase_s s) z) (m₂ e');
      after = k₃;
      means = e₁ ∙ e₂ ∙ e₃;
    })))

-- what is shown of a part that stands after others
abbrev AllRight : Right → Type 0
AllRight x = (cs : Conditions) (a : ℕ) (f : Terms) (b : ℕ) → AllC cs → AllC (c_more cs (condition a f x b))

abbrev AllCondition : Condition → Type 0
AllCondition x = (cs : Conditions) → AllC cs → AllC (c_more cs x)

mutual
  reads_right : (x : Right) → AllRight x
  reads_right (r_terms g) = λ cs a f b ic. reads_c_terms cs a f g b ic
  reads_right (r_block o v e) = λ cs a f b ic. reads_c_block cs a f o v e b ic (reads_b v)

  reads_condition : (x : Condition) → AllCondition x
  reads_condition (condition a f x b) = λ cs ic. reads_right x cs a f b ic

  reads_c : (cs : Conditions) → AllC cs
  reads_c c0 = reads_c0
  reads_c (c_more cs x) = reads_condition x cs (reads_c cs)

  reads_end : (x : End) → AllE x
  reads_end (e_terms g) = reads_e_terms g
  reads_end (e_block o g v e) = reads_e_block o g v e (reads_b v)

  reads_sentence : (x : Sentence) → AllX x
  reads_sentence (sentence a f cs x b) = reads_sentence_lem a f cs x b (reads_c cs) (reads_end x)

  reads_s : (s : Sentences) → AllS s
  reads_s s0 = reads_s0
  reads_s (s_more s x) = reads_s_more s x (reads_s s) (reads_sentence x)

  pub reads_b : (v : Body) → AllB v
  reads_b (b_all s) = reads_all s (reads_s s)
  reads_b (b_off s x) = reads_off s x (reads_s s) (reads_sentence x)
