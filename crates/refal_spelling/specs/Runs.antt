-- Laws of runs of bytes of one class, with what ends a word behind them: nothing, or a space.
use Rattle.std.specs.Prelude.{ℕ, suc, ◌+◌, ◌-◌, ◌*◌, Bool, true, false, List, [], ◌∷◌, ◌++◌, ◌≡◌, refl, length, take}
use Rattle.std.proofs.Common.{arith, ap}
use Rattle.refal_text.specs.Pick.{pick}
use Rattle.refal_text.specs.Span.{span}
use Rattle.refal_lexer.specs.Classes.{digit}
use Rattle.refal_lexer.specs.Numbers.{value}
use Rattle.refal_spelling.specs.Good.{Every, none, also}

-- what may stand behind a word
pub data Ends : List ℕ → Type 0 where
  at_end : Ends []
  at_space : (r : List ℕ) → Ends (32 ∷ r)

-- a class that has no space stops there
pub span_ends : (p : ℕ → Bool) (r : List ℕ) → p 32 ≡ false → Ends r → span p r ≡ 0
span_ends p r e at_end = refl
span_ends p r e (at_space t) = rw e

pub every_span : (p : ℕ → Bool) (s : List ℕ) → Every p (take (span p s) s)
every_span p [] = none
every_span p (b ∷ s) = go (p b) refl (every_span p s)
  where
    go : (t : Bool) → p b ≡ t → Every p (take (span p s) s) → Every p (take (pick t (suc (span p s)) 0) (b ∷ s))
    go true e h = also b (take (span p s) s) e h
    go false e h = none

pub length_span : (p : ℕ → Bool) (s : List ℕ) → length (take (span p s) s) ≡ span p s
length_span p [] = refl
length_span p (b ∷ s) = go (p b) (length_span p s)
  where
    go : (t : Bool) → length (take (span p s) s) ≡ span p s → length (take (pick t (suc (span p s)) 0) (b ∷ s)) ≡ pick t (suc (span p s)) 0
    go true h = ap suc h
    go false h = refl

pub span_every : (p : ℕ → Bool) (s r : List ℕ) → Every p s → span p r ≡ 0 → span p (s ++ r) ≡ length s
span_every p s r none e = e
span_every p s r (also b t h a) e = rw h (ap suc (span_every p t r a e))

pub every_map : (p q : ℕ → Bool) → ((b : ℕ) → p b ≡ true → q b ≡ true) → (s : List ℕ) → Every p s → Every q s
every_map p q f s none = none
every_map p q f s (also b t h a) = also b t (f b h) (every_map p q f t a)

pub every_append : (p : ℕ → Bool) (s t : List ℕ) → Every p s → Every p t → Every p (s ++ t)
every_append p s t none g = g
every_append p s t (also b u h a) g = also b (u ++ t) h (every_append p u t a g)

-- digits with something else behind them are worth what they are worth alone
pub value_every : (v : ℕ) (s r : List ℕ) → Every digit s → span digit r ≡ 0 → value v (s ++ r) ≡ value v s
value_every v s r none e = stop r e
  where
    stop : (r : List ℕ) → span digit r ≡ 0 → value v r ≡ v
    stop [] e = refl
    stop (b ∷ r) e = go (digit b) e
      where
        go : (t : Bool) → pick t (suc (span digit r)) 0 ≡ 0 → pick t (value (v * 10 + (b - 48)) r) v ≡ v
        go true f = absurd (omega arith)
        go false f = refl
value_every v s r (also b t h a) e = rw h (value_every (v * 10 + (b - 48)) t r a e)

pub value_span : (v : ℕ) (s : List ℕ) → value v (take (span digit s) s) ≡ value v s
value_span v [] = refl
value_span v (b ∷ s) = go (digit b) refl (value_span (v * 10 + (b - 48)) s)
  where
    go : (t : Bool) → digit b ≡ t → value (v * 10 + (b - 48)) (take (span digit s) s) ≡ value (v * 10 + (b - 48)) s
        → value v (take (pick t (suc (span digit s)) 0) (b ∷ s)) ≡ pick t (value (v * 10 + (b - 48)) s) v
    go true e h = rw e h
    go false e h = refl
