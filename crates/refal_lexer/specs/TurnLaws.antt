-- Laws of the loop: blanks lead to tokens, a refusal or the end.
use Rattle.std.specs.Prelude.{ℕ, zero, suc, ◌+◌, ◌-◌, ◌<◌, ◌≤◌, Bool, true, false, List, [], ◌∷◌, ◌≡◌, refl, length, drop, get_or}
use Rattle.std.proofs.Common.{add-zero, arith, ap, ap₂, sym, subst, ◌∙◌, length-drop, drop_of_length-le, drop-cons, drop-drop}
use Rattle.refal_ast.specs.Answers.{Answer}
use Rattle.refal_lexer.specs.Carried.{line_after, stop_at, go_on, blanks_from, lex_by}
use Rattle.refal_lexer.specs.Blanks.{white_len, comment_at, on_white, on_comment}
use Rattle.refal_lexer.specs.Lex.{Out, more_all, stop_bad, eof_at, stop_answer}
use Rattle.refal_lexer.specs.LineLaws.{white_in}
use Rattle.refal_lexer.specs.Puts.{put_tokens}
use Rattle.refal_lexer.specs.LexLaws.{Leads, leads_rows, leads_bad}
use Rattle.refal_lexer.specs.Scans.{Comment, Long, Bare, Blank, Past, Open, On, Stop}
use Rattle.refal_lexer.specs.declared.Cursor.{Cursor}
use Rattle.refal_lexer.specs.Tokens.{Found, found, refused, token_at}
use Rattle.refal_lexer.specs.Source.{on_found}
use Rattle.refal_lexer.specs.Steps.{cursor, step_of, rows_of, answer_of}
use Rattle.refal_lexer.specs.BlankLaws.{comment_in}
use Rattle.refal_lexer.specs.PlaceLaws.{FoundIn, found_in}

-- what stands at p, where no blank does
abbrev pub end_or : ℕ → List ℕ → Out
end_or p [] = eof_at p
end_or p (b ∷ s) = on_found p (token_at p (b ∷ s)) (λ k. lex_by k (suc p) false s)

abbrev pub Led : Out → ℕ → ℕ → List ℕ → Blank → Type 0
Led o k at s (Past p l) = (at + k ≤ p) × (p ≤ at + length s) × (o ≡ end_or p (drop (p - at) s))
Led o k at s (Open start end) = o ≡ stop_bad 24 start end

later : (o : Out) (k at b : ℕ) (s : List ℕ) (w : Blank) → Led o k (suc at) s w → Led o (suc k) at (b ∷ s) w
later o k at b s (Past p l) h =
    let lo = h.0 in
    let hi = h.1 in
    let z : suc (p - suc at) ≡ p - at = omega arith in
    (omega arith, omega arith, h.2 ∙ ap (λ (n : ℕ). end_or p (drop n (b ∷ s))) z)
later o k at b s (Open start end) h = h

fewer : (o : Out) (k at : ℕ) (s : List ℕ) (w : Blank) → Led o (suc k) at s w → Led o 0 at s w
fewer o k at s (Past p l) h = let lo = h.0 in (omega arith, h.1, h.2)
fewer o k at s (Open start end) h = h

pub leads_blanks : (k at : ℕ) (line : Bool) (s : List ℕ) → k ≤ length s → Led (lex_by k at line s) k at s (blanks_from k at line s)
unfolding lex_by blanks_from
leads_blanks k at line [] h = let z : at - at ≡ 0 = omega arith in (omega arith, omega arith, rw z refl)
leads_blanks (suc k) at line (b ∷ s) h = later (lex_by k (suc at) line s) k at b s (blanks_from k (suc at) line s) (leads_blanks k (suc at) line s (omega arith))
leads_blanks zero at line (b ∷ s) h =
    white (white_len (b ∷ s)) refl (λ k l. leads_blanks k (suc at) (line_after b at line) s l) (λ k l. leads_blanks k (suc at) false s l)
  where
    Go : (line' : Bool) → Type 0
    Go line' = (k : ℕ) → k ≤ length s → Led (lex_by k (suc at) line' s) k (suc at) s (blanks_from k (suc at) line' s)

    T : Out
    T = on_found at (token_at at (b ∷ s)) (λ k. lex_by k (suc at) false s)

    sooner : (k : ℕ) (l : Bool) → Led (lex_by k (suc at) l s) k (suc at) s (blanks_from k (suc at) l s) → Led (lex_by k (suc at) l s) 0 at (b ∷ s) (blanks_from k (suc at) l s)
    sooner k l g = fewer (lex_by k (suc at) l s) k at (b ∷ s) (blanks_from k (suc at) l s) (later (lex_by k (suc at) l s) k at b s (blanks_from k (suc at) l s) g)

    comment : (c : Comment) → comment_at line (b ∷ s) ≡ c → Go false
        → Led (on_comment c (λ n. lex_by (n - 1) (suc at) false s) (stop_bad 24 at (at + suc (length s))) T) 0 at (b ∷ s) (go_on c (λ n. blanks_from (n - 1) (suc at) false s) (stop_at c at line (at + suc (length s))))
    comment (Long n) e g =
        let m = comment_in line (b ∷ s) n (omega arith) e in
        let hi = m.1 in
        sooner (n - 1) false (g (n - 1) (omega arith))
    comment (Bare true) e g = refl
    comment (Bare false) e g = let z : at - at ≡ 0 = omega arith in (omega arith, omega arith, rw z refl)

    white : (n : ℕ) → white_len (b ∷ s) ≡ n → Go (line_after b at line) → Go false
        → Led (on_white n (λ k. lex_by k (suc at) (line_after b at line) s)
        (on_comment (comment_at line (b ∷ s)) (λ n. lex_by (n - 1) (suc at) false s) (stop_bad 24 at (at + suc (length s))) T)) 0 at (b ∷ s)
        (on_white n (λ k. blanks_from k (suc at) (line_after b at line) s) (go_on (comment_at line (b ∷ s)) (λ n. blanks_from (n - 1) (suc at) false s) (stop_at (comment_at line (b ∷ s)) at line (at + suc (length s)))))
    white zero e g g' = comment (comment_at line (b ∷ s)) refl g'
    white (suc k) e g g' = sooner k (line_after b at line) (g k (white_in b s k e))

-- ---- the ways through a turn of the loop
pub lex_skip : (k at : ℕ) (line : Bool) (s : List ℕ) → k ≤ length s → lex_by k at line s ≡ lex_by 0 (at + k) line (drop k s)
unfolding lex_by
lex_skip zero at line s h = rw (add-zero at) refl
lex_skip (suc k) at line [] h = absurd (omega arith)
lex_skip (suc k) at line (b ∷ s) h = lex_skip k (suc at) line s (omega arith) ∙ ap (λ (j : ℕ). lex_by 0 j line (drop k s)) (omega arith)

-- the rest t of s, at x, is that from `at` on
abbrev pub RestAt : List ℕ → ℕ → ℕ → List ℕ → Type 0
RestAt s at x t = (x ≡ at) × (t ≡ drop (at - 0) s)

rest_drop : (s : List ℕ) (at x : ℕ) (t : List ℕ) → RestAt s at x t → t ≡ drop at s
rest_drop s at x t r = r.1 ∙ ap (λ (n : ℕ). drop n s) (omega arith)

-- where a rest is not empty, what starts there is what stands in s
pub start_at : (s : List ℕ) (at x : ℕ) (t : List ℕ) → RestAt s at x t → (y : ℕ) (u : List ℕ) → (u ≡ t) × (y ≡ x) → 0 < length u → (at < length s) × (token_at y u ≡ token_at at (drop at s))
start_at s at x t r y u e h =
    let f : u ≡ drop at s = e.0 ∙ rest_drop s at x t r in
    let l : length u ≡ length s - at = ap length f ∙ length-drop at s in
    (omega arith, ap₂ token_at (e.1 ∙ r.0) f)

-- where it is, the source ends
pub end_at : (s : List ℕ) (at x : ℕ) (t : List ℕ) → RestAt s at x t → length t ≡ 0 → length s ≤ at
end_at s at x t r h =
    let l : length t ≡ length s - at = ap length (rest_drop s at x t r) ∙ length-drop at s in
    omega arith

module _ (s : List ℕ) (at : ℕ) (line : Bool) (w : Blank) (h : at ≤ length s) (x : ℕ) (t : List ℕ) (r : RestAt s at x t) (e : w ≡ blanks_from 0 x line t) where
  led : (x : Blank) → w ≡ x → Led (lex_by 0 at line (drop at s)) 0 at (drop at s) x
  led x f = subst (Led (lex_by 0 at line (drop at s)) 0 at (drop at s)) (sym (e ∙ ap₂ (λ (n : ℕ) (y : List ℕ). blanks_from 0 n line y) (r.0) (rest_drop s at _ _ r)) ∙ f) (leads_blanks 0 at line (drop at s) (omega arith))

  pub blanks_never : (start end : ℕ) → w ≡ Open start end → lex_by 0 at line (drop at s) ≡ stop_bad 24 start end
  blanks_never start end f = led (Open start end) f

  pub blanks_past : (p : ℕ) (l : Bool) → w ≡ Past p l → (at ≤ p) × (p ≤ length s) × (lex_by 0 at line (drop at s) ≡ end_or p (drop p s))
  blanks_past p l f =
      let g = led (Past p l) f in
      let lo = g.0 in
      let hi = g.1 in
      let d = length-drop at s in
      let z : at + (p - at) ≡ p = omega arith in
      (omega arith, omega arith, g.2 ∙ ap (end_or p) (drop-drop (p - at) at s ∙ ap (λ (n : ℕ). drop n s) z))

pub end_here : (s : List ℕ) (p : ℕ) → length s ≤ p → end_or p (drop p s) ≡ eof_at p
end_here s p h = rw (drop_of_length-le s h) refl

-- ---- F is what stands at p
module _ (s : List ℕ) (p row : ℕ) (F : Found) (h : p < length s) (e : F ≡ token_at p (drop p s)) where
  found_here : end_or p (drop p s) ≡ on_found p F (λ k. lex_by k (suc p) false (drop (suc p) s))
  found_here = go (drop p s) (drop-cons s p 0 h) e
    where
      go : (t : List ℕ) → t ≡ get_or s p 0 ∷ drop (suc p) s → F ≡ token_at p t → end_or p t ≡ on_found p F (λ k. lex_by k (suc p) false (drop (suc p) s))
      go t f g = ap (end_or p) f ∙ ap (λ (x : Found). on_found p x (λ k. lex_by k (suc p) false (drop (suc p) s))) (ap (token_at p) (sym f) ∙ sym g)

  in_here : (x : Found) → F ≡ x → FoundIn p (length s) x
  in_here x f =
      let d = length-drop p s in
      subst (λ (n : ℕ). FoundIn p n x) (let z : p + length (drop p s) ≡ length s = omega arith in z) (subst (FoundIn p (p + length (drop p s))) (sym e ∙ f) (found_in p (drop p s) (omega arith)))

  -- tokens: their rows, and on behind them
  pub turn_on : (o₀ : Out) (m m' m₀ : List ℕ) (c : Cursor) → step_of F row ≡ On c → m' ≡ rows_of F m row → Leads (end_or p (drop p s)) o₀ m m₀ row → row ≤ p
      → (p < c.at) × (c.at ≤ length s) × (c.row ≤ c.at) × Leads (lex_by 0 c.at c.line (drop c.at s)) o₀ m' m₀ c.row
  turn_on o₀ m m' m₀ c f g L r = go F refl found_here f g
    where
      Q : Cursor → Type 0
      Q c = (p < c.at) × (c.at ≤ length s) × (c.row ≤ c.at) × Leads (lex_by 0 c.at c.line (drop c.at s)) o₀ m' m₀ c.row

      go : (x : Found) → F ≡ x → end_or p (drop p s) ≡ on_found p x (λ k. lex_by k (suc p) false (drop (suc p) s)) → step_of x row ≡ On c → m' ≡ rows_of x m row → Q c
      go (found ts end) i j f g =
          let k = in_here (found ts end) i in
          let lo = k.0 in
          let hi = k.1 in
          let few = k.2 in
          let d = length-drop (suc p) s in
          let z : suc p + (end - suc p) ≡ end = omega arith in
          let t : lex_by (end - suc p) (suc p) false (drop (suc p) s) ≡ lex_by 0 end false (drop end s) = lex_skip (end - suc p) (suc p) false (drop (suc p) s) (omega arith)
          ∙ ap₂ (λ (x : ℕ) (y : List ℕ). lex_by 0 x false y) z (drop-drop (end - suc p) (suc p) s ∙ ap (λ (n : ℕ). drop n s) z) in
          let a : cursor end (row + length ts) false ≡ c = cc in
          subst Q a (
            lo,
            hi,
            omega arith,
            leads_rows _ (lex_by 0 end false (drop end s)) o₀ ts m m' m₀ row (row + length ts) (j ∙ ap (more_all ts) t) g refl L,
          )
      go (refused number start end) i j f g = let z : ◌≡◌ {A = ℕ} 0 1 = cc in absurd (omega arith)

  -- a refusal
  pub turn_stop : (o₀ : Out) (m m' m₀ : List ℕ) (number start end : ℕ) (a : Answer) → a ≡ answer_of (Stop number start end) → step_of F row ≡ Stop number start end → m' ≡ rows_of F m row
      → Leads (end_or p (drop p s)) o₀ m m₀ row → (a ≡ stop_answer o₀) × (m' ≡ put_tokens m₀ 0 o₀.tokens)
  turn_stop o₀ m m' m₀ number start end a b f g L = go F found_here f g
    where
      go : (x : Found) → end_or p (drop p s) ≡ on_found p x (λ k. lex_by k (suc p) false (drop (suc p) s)) → step_of x row ≡ Stop number start end → m' ≡ rows_of x m row → (a ≡ stop_answer o₀) × (m' ≡ put_tokens m₀ 0 o₀.tokens)
      go (found ts end') j f g = let z : ◌≡◌ {A = ℕ} 0 1 = cc in absurd (omega arith)
      go (refused number' start' end') j f g =
          let x : stop_bad number' start' end' ≡ stop_bad number start end = cc in
          let k = leads_bad _ o₀ m m₀ row number start end a b (j ∙ x) L in
          (k.0, g ∙ k.1)
