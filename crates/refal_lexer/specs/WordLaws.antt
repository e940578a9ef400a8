-- Laws of directives: what a word declares.
use Rattle.std.specs.Prelude.{ℕ, zero, suc, ◌+◌, ◌-◌, ◌≤◌, List, [], ◌∷◌, Bool, true, false, ◌&&◌, ◌≡◌, refl, eqb, length, take, drop}
use Rattle.std.proofs.Common.{eqb-true, arith, ap, ◌∙◌, length-drop, length-take-le}
use Rattle.refal_text.specs.Pick.{pick}
use Rattle.refal_text.specs.Span.{span}
use Rattle.refal_ast.specs.Kinds.{tok_entry, tok_extern}
use Rattle.refal_lexer.specs.Classes.{letter}
use Rattle.refal_lexer.specs.Words.{entry_word, extern_word, directive_scan, prefix, word_is}
use Rattle.refal_lexer.specs.Scans.{Token, Bad}

-- the kind that the first n bytes of s declare as a directive's word, 0 where they declare none
abbrev pub word_kind : ℕ → List ℕ → ℕ
word_kind n s = pick (entry_word n s) tok_entry (pick (extern_word n s) tok_extern 0)

-- a word is told by its bytes alone
prefix_cut : (w : List ℕ) (n : ℕ) (s : List ℕ) → length w ≤ n → prefix w (take n s) ≡ prefix w s
prefix_cut [] n s h = refl
prefix_cut (a ∷ w) zero s h = absurd (omega arith)
prefix_cut (a ∷ w) (suc n) [] h = refl
prefix_cut (a ∷ w) (suc n) (b ∷ s) h = ap (λ (t : Bool). eqb a b && t) (prefix_cut w n s (omega arith))

word_cut : (w : List ℕ) (n : ℕ) (s : List ℕ) → word_is w n (take n s) ≡ word_is w n s
word_cut w n s = go (eqb n (length w)) refl
  where
    go : (t : Bool) → eqb n (length w) ≡ t → t && prefix w (take n s) ≡ t && prefix w s
    go true e = let z : n ≡ length w = eqb-true n (length w) e in prefix_cut w n s (omega arith)
    go false e = refl

kind_cut : (n : ℕ) (s : List ℕ) → n ≤ length s → word_kind (length (take n s)) (take n s) ≡ word_kind n s
kind_cut n s h = rw (length-take-le n s h) (rw (word_cut (69 ∷ 78 ∷ 84 ∷ 82 ∷ 89 ∷ []) n s, word_cut (69 ∷ 88 ∷ 84 ∷ 69 ∷ 82 ∷ 78 ∷ []) n s, word_cut (69 ∷ 88 ∷ 84 ∷ 82 ∷ 78 ∷ []) n s, word_cut (69 ∷ 88 ∷ 84 ∷ 69 ∷ 82 ∷ 78 ∷ 65 ∷ 76 ∷ []) n s) refl)

-- ---- a directive of m bytes, whose word declares the kind k, which is 0 for none
module _ (at m k : ℕ) (s : List ℕ) (e : m ≡ 1 + span letter (drop 1 s)) (h : m ≤ length s) (f : k ≡ word_kind (length (take (m - 1) (drop 1 s))) (take (m - 1) (drop 1 s))) where
  abbrev n : ℕ
  n = span letter (drop 1 s)

  kind_is : k ≡ word_kind n (drop 1 s)
  kind_is =
      let d = length-drop 1 s in
      let z : m - 1 ≡ n = omega arith in
      f ∙ kind_cut (m - 1) (drop 1 s) (omega arith) ∙ ap (λ (j : ℕ). word_kind j (drop 1 s)) z

  pub directive_some : 1 ≤ k → Token k 0 0 0 at (at + m) ≡ directive_scan at s
  directive_some l = ap (λ (j : ℕ). Token k 0 0 0 at (at + j)) e ∙ go (entry_word n (drop 1 s)) (extern_word n (drop 1 s)) kind_is
    where
      go : (t u : Bool) → k ≡ pick t 1 (pick u 2 0) → Token k 0 0 0 at (at + (1 + n)) ≡ pick t (Token 1 0 0 0 at (at + (1 + n))) (pick u (Token 2 0 0 0 at (at + (1 + n))) (Bad 11 at (at + (1 + n))))
      go true u g = ap (λ (j : ℕ). Token j 0 0 0 at (at + (1 + n))) g
      go false true g = ap (λ (j : ℕ). Token j 0 0 0 at (at + (1 + n))) g
      go false false g = absurd (omega arith)

  pub directive_none : k ≡ 0 → Bad 11 at (at + m) ≡ directive_scan at s
  directive_none z = ap (λ (j : ℕ). Bad 11 at (at + j)) e ∙ go (entry_word n (drop 1 s)) (extern_word n (drop 1 s)) kind_is
    where
      go : (t u : Bool) → k ≡ pick t 1 (pick u 2 0) → Bad 11 at (at + (1 + n)) ≡ pick t (Token 1 0 0 0 at (at + (1 + n))) (pick u (Token 2 0 0 0 at (at + (1 + n))) (Bad 11 at (at + (1 + n))))
      go true u g = absurd (omega arith)
      go false true g = absurd (omega arith)
      go false false g = refl
