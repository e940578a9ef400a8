-- What parsing gives from an item's edge on depends only on the tokens from there on; its rows come after those of the items before.
use mathlib.Core.Path.{◌≡◌, refl, sym, ap, ◌∙◌}
use Prim.Native.Nat.{ℕ, ◌+◌, ◌≤◌}
use mathlib.Core.List.{List, [], ◌∷◌, ◌++◌, append_assoc, append-nil}
use native.Mathlib.Omega.{arith}
use Rattle.refal_ast.specs.Tokens.{Token}
use Rattle.refal_ast.specs.Tree.{Program, p0, p_more, size_p}
use Rattle.refal_ast.specs.Nodes.{no_parent}
use Rattle.refal_ast.specs.Encode.{enc_item, enc_p}
use Rattle.refal_parser.specs.Machine.{State, outside, Step, go, made, over, stop, step, follow, next_from, next_to, run}
use Rattle.refal_demands.specs.Edge.{join_p, before, shift}
use Rattle.refal_demands.proofs.Moved.{rows_shifted}

-- The state holds nothing of the items before, so what they are changes nothing but what stands before.
run_after : (L : ℕ) (ts : List Token) (p q : Program) (st : State) → run L ts (join_p p q) st ≡ before p (run L ts q st)
unfolding run join_p
run_after L [] p q st = refl
run_after L (t ∷ ts) p q st = go_on (step L st t (next_from t ts) (next_to t ts)) (run_after L ts p)
  where
    go_on : (z : Step) → ((q' : Program) (st' : State) → run L ts (join_p p q') st' ≡ before p (run L ts q' st'))
        → follow (join_p p q) z (λ p' st'. run L ts p' st') ≡ before p (follow q z (λ p' st'. run L ts p' st'))
    go_on (go st') h = h q st'
    go_on (made x) h = h (p_more q x) outside
    go_on over h = refl
    go_on (stop a b c d e) h = refl

-- Between items, after those of p, the machine gives what it gives on the same tokens with no item before, with the items of p put before.
pub edge : (L : ℕ) (ts : List Token) (p : Program) → run L ts p outside ≡ before p (run L ts p0 outside)
unfolding join_p
edge L ts p = run_after L ts p p0 outside

pub size_join : (p q : Program) → size_p (join_p p q) ≡ size_p p + size_p q
unfolding size_p join_p
size_join p p0 = omega arith
size_join p (p_more q x) = let h = size_join p q in omega arith

-- And its rows are the rows of p, then the rows that are its own, numbered from there.
pub rows_join : (p q : Program) (n : ℕ) → enc_p (join_p p q) n ≡ enc_p p n ++ enc_p q (n + size_p p)
unfolding size_p join_p enc_p
rows_join p p0 n = sym (append-nil (enc_p p n))
rows_join p (p_more q x) n =
    let e : n + size_p (join_p p q) ≡ n + size_p p + size_p q = let h = size_join p q in omega arith in
    ap (λ (l : List ℕ). l ++ enc_item x (n + size_p (join_p p q))) (rows_join p q n)
    ∙ ap (λ (k : ℕ). (enc_p p n ++ enc_p q (n + size_p p)) ++ enc_item x k) e
    ∙ append_assoc (enc_p p n) (enc_p q (n + size_p p)) (enc_item x (n + size_p p + size_p q))

-- In all: the rows of the items before, then the rows of what stands from there on as a list of its own, shifted.
pub edge_rows : (p q : Program) → size_p q ≤ no_parent → enc_p (join_p p q) 0 ≡ enc_p p 0 ++ shift (size_p p) (enc_p q 0)
edge_rows p q l = rows_join p q 0 ∙ ap (λ (l : List ℕ). enc_p p 0 ++ l) (ap (λ (n : ℕ). enc_p q n) e ∙ rows_shifted q 0 (size_p p) (omega arith))
  where
    e : 0 + size_p p ≡ size_p p + 0
    e = omega arith
