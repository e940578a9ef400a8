-- Nodes are bounded by tokens: a tree has at most twice as many rows as the tokens, Eof aside, that it flattens to.
use mathlib.Core.Path.{◌≡◌, refl, ap}
use Prim.Native.Nat.{ℕ, ◌+◌, ◌*◌, ◌%◌, ◌≤◌}
use mathlib.Core.List.{List, [], ◌∷◌}
use mathlib.Core.Bool.{Bool, true, false, ◌&&◌}
use native.Mathlib.Omega.{arith}
use lib.Dec.{leb, eqb}
use lib.ListN.{length, length-append}
use borrow.Author.Tests.{leb-true}
use Rattle.refal_rows.specs.Tests.{and_left, and_right}
use Rattle.refal_ast.specs.Kinds.{tok_eof}
use Rattle.refal_ast.specs.Tokens.{Token, tokens_of}
use Rattle.refal_ast.specs.Check.{ok_tokens, well_formed}
use Rattle.refal_ast.specs.Tree.{Term, leaf, bracket, call, Terms, t0, t_more, Right, r_terms, r_block, Condition, condition, Conditions, c0, c_more}
use Rattle.refal_ast.specs.Tree.{End, e_terms, e_block, Sentence, sentence, Sentences, s0, s_more, Body, b_all, b_off, Names, n_one, n_more, Item, declaration, function, Program}
use Rattle.refal_ast.specs.Tree.{size_term, size_t, size_right, size_condition, size_c, size_end, size_sentence, size_s, size_b, size_n, size_item, size_p}
use Rattle.refal_ast.specs.Flatten.{Flat, mark, flats_of, flatten_term, flatten_t, flatten_right, flatten_condition, flatten_c, flatten_end, flatten_sentence, flatten_s, flatten_b, flatten_n, flatten_item}
use Rattle.refal_ast.specs.Flatten.{Loose, loose_none, loose_semicolon, loose_item}
use Rattle.refal_parser.specs.Machine.{tree}
use Rattle.refal_parser.specs.Parse.{parsed}
use Rattle.refal_demands.proofs.Theorems.{good, soundness}

mutual
  unfolding size_t flatten_t

  bound_term : (x : Term) → size_term x ≤ length (flatten_term x)
  bound_term (leaf x a b) = omega arith
  bound_term (bracket a f b) = let h = bound_t f in simp length-append (omega arith)
  bound_term (call a s l f b) = let h = bound_t f in simp length-append (omega arith)

  bound_t : (f : Terms) → size_t f ≤ length (flatten_t f)
  bound_t t0 = omega arith
  bound_t (t_more f x) = let h = bound_t f in let i = bound_term x in simp length-append (omega arith)

abbrev spare : Bool → ℕ
spare true = 1
spare false = 0

-- what stands after `:` and after `=` has a row more than these bounds; the `:` and the `=` make it good
mutual
  unfolding size_c flatten_c

  bound_right : (x : Right) → size_right x ≤ 1 + 2 * length (flatten_right x)
  bound_right (r_terms f) = let h = bound_t f in omega arith
  bound_right (r_block a v b) = let h = bound_b v in simp length-append (omega arith)

  bound_condition : (x : Condition) → size_condition x ≤ 2 * length (flatten_condition x)
  bound_condition (condition a f x b) = let h = bound_t f in let i = bound_right x in simp length-append (omega arith)

  bound_c : (cs : Conditions) → size_c cs ≤ 2 * length (flatten_c cs)
  bound_c c0 = omega arith
  bound_c (c_more cs x) = let h = bound_c cs in let i = bound_condition x in simp length-append (omega arith)

  bound_end : (x : End) → size_end x ≤ 1 + 2 * length (flatten_end x)
  bound_end (e_terms f) = let h = bound_t f in omega arith
  bound_end (e_block a f v b) = let h = bound_t f in let i = bound_b v in simp length-append (omega arith)

  -- a sentence without its `;` has a row more than these bounds; the braces that it stands in make it good
  bound_sentence : (x : Sentence) (off : Bool) → size_sentence x ≤ spare off + 2 * length (flatten_sentence off x)
  bound_sentence (sentence a f cs x b) true = let h = bound_t f in let i = bound_c cs in let j = bound_end x in simp length-append (omega arith)
  bound_sentence (sentence a f cs x b) false = let h = bound_t f in let i = bound_c cs in let j = bound_end x in simp length-append (omega arith)

  bound_s : (s : Sentences) → size_s s ≤ 2 * length (flatten_s s)
  bound_s s0 = omega arith
  bound_s (s_more s x) = let h = bound_s s in let i = bound_sentence x false in simp length-append (omega arith)

  bound_b : (v : Body) → size_b v ≤ 1 + 2 * length (flatten_b v)
  bound_b (b_all s) = let h = bound_s s in omega arith
  bound_b (b_off s x) = let h = bound_s s in let i = bound_sentence x true in simp length-append (omega arith)

bound_n : (ns : Names) → size_n ns ≤ length (flatten_n ns)
unfolding size_n flatten_n
bound_n (n_one s l) = omega arith
bound_n (n_more ns s l) = let h = bound_n ns in simp length-append (omega arith)

bound_item : (x : Item) → size_item x ≤ 2 * length (flatten_item x)
bound_item (declaration a ns b) = let h = bound_n ns in simp length-append (omega arith)
bound_item (function a x s l v b) = let h = bound_b v in simp length-append (omega arith)

-- a tree has at most twice as many rows as the tokens that it flattens to
pub bound : {p : Program} {l : List Flat} → Loose p l → size_p p ≤ 2 * length l
unfolding size_p
bound loose_none = omega arith
bound (loose_semicolon h) = let i = bound h in simp length-append (omega arith)
bound (loose_item {x = x} h) = let i = bound h in let j = bound_item x in simp length-append (omega arith)

length_flats : (ts : List Token) → length (flats_of ts) ≡ length ts
length_flats [] = refl
length_flats (t ∷ ts) = let h = length_flats ts in omega arith

-- six words a token
pub few_tokens : (w : List ℕ) → 6 * length (tokens_of w) ≤ length w
unfolding tokens_of
few_tokens [] = omega arith
few_tokens (k ∷ []) = omega arith
few_tokens (k ∷ d ∷ []) = omega arith
few_tokens (k ∷ d ∷ s ∷ []) = omega arith
few_tokens (k ∷ d ∷ s ∷ l ∷ []) = omega arith
few_tokens (k ∷ d ∷ s ∷ l ∷ a ∷ []) = omega arith
few_tokens (k ∷ d ∷ s ∷ l ∷ a ∷ b ∷ w) = let h = few_tokens w in omega arith

-- the parser's tree has at most twice as many rows as there are tokens, Eof aside
pub nodes_bounded : (w : List ℕ) (t : Program) → parsed w ≡ tree t → size_p t + 2 ≤ 2 * length (tokens_of w)
nodes_bounded w t e =
    let s = soundness w t e in
    let l = bound s.2 in
    let k = ap length s.1 in
    let n = length_flats (tokens_of w) in
    let m = length-append s.0 (mark tok_eof ∷ []) in
    omega arith

small : (w : List ℕ) → well_formed w ≡ true → length w ≤ 6 * 16777217
unfolding well_formed
small w g =
    leb-true (length w) (6 * 16777217)
    (and_right (eqb (length w % 6) 0) (leb (length w) (6 * 16777217))
    (and_left (eqb (length w % 6) 0 && leb (length w) (6 * 16777217)) (ok_tokens (tokens_of w)) g))

-- and no more than writing takes
pub nodes_few : (w : List ℕ) (t : Program) → parsed w ≡ tree t → size_p t ≤ 33554432
nodes_few w t e = let h = nodes_bounded w t e in let i = few_tokens w in let j = small w (good w t e) in omega arith
