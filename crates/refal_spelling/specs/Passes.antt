-- The rows that reading gives pass parsing's check 30.
use Rattle.std.specs.Prelude.{ℕ, ◌+◌, ◌*◌, ◌%◌, ◌≤◌, Bool, true, ◌&&◌, ◌||◌, List, [], ◌∷◌, ◌++◌, ◌≡◌, refl, eqb, length, drop, replicate}
use Rattle.std.proofs.Common.{arith, le-leb, eq-eqb, ap, sym, ◌∙◌}
use Rattle.std.proofs.lemmas.Bool.{lt-leb}
use Rattle.std.proofs.lemmas.List.{length-replicate}
use Rattle.std.proofs.Math.Seq.{drop-append_seam}
use Rattle.refal_ast.specs.Kinds.{tok_eof}
use Rattle.refal_ast.specs.Check.{scalar, uses_text, good_token, ok_tokens, well_formed}
use Rattle.refal_ast.specs.Tokens.{Token, token, flat, tokens_of, tokens_flat, length_flat}
use Rattle.refal_ast.specs.Flatten.{flats_of}
use Rattle.refal_lexer.specs.Lex.{fine}
use Rattle.refal_lexer.specs.Carried.{lex_by}
use Rattle.refal_spelling.specs.Spell.{Spelled}
use Rattle.refal_spelling.specs.Good.{Good, entry, extern, identifier, variable_of, number, character, mark}
use Rattle.refal_spelling.specs.Sound.{AllSound, sound_more}
use Rattle.refal_spelling.specs.ScanWords.{variable_low}
use Rattle.refal_spelling.specs.ReadsGood.{reading, parted}
use Rattle.refal_spelling.specs.TextReads.{mark_not}
use Rattle.refal_spelling.specs.Few.{few_tokens}

low_scalar : (x : ℕ) → x ≤ 1000 → scalar x ≡ true
low_scalar x h = rw (le-leb x 1114111 (omega arith), lt-leb 55296 x (omega arith)) refl

-- a good token, whose text words are 0 where its kind uses none
passes : (t : Spelled) → Good t → (start len from to : ℕ) → uses_text t.kind || (eqb start 0 && eqb len 0) ≡ true → good_token (token t.kind t.detail start len from to) ≡ true
passes t entry start len from to h = h
passes t extern start len from to h = h
passes t (identifier b s u a l) start len from to h = refl
passes t (variable_of v w u a lo hi) start len from to h = let l = variable_low v u in rw (low_scalar v (omega arith)) refl
passes t (number w n) start len from to h = refl
passes t (character x sc n) start len from to h = rw (le-leb x 1114111 sc.top, sc.plain) h
passes t (mark k lo hi) start len from to h =
    let n₃ = mark_not k 3 lo (omega arith) in
    let n₄ = mark_not k 4 lo (omega arith) in
    let n₅ = mark_not k 5 lo (omega arith) in
    let n₆ = mark_not k 6 lo (omega arith) in
    let g : uses_text k || (eqb start 0 && eqb len 0) ≡ eqb start 0 && eqb len 0 = rw (n₃, n₄, n₅) refl in
    rw (le-leb 1 k (omega arith), le-leb k 16 hi, n₃, n₄, n₅, n₆) (sym g ∙ h)

all_pass : (src : List ℕ) (ts : List Token) (at : ℕ) → AllSound src (flats_of ts) → ok_tokens (ts ++ (token tok_eof 0 0 0 at at ∷ [])) ≡ true
unfolding ok_tokens
all_pass src [] at a = refl
all_pass src (t ∷ []) at (sound_more h a) = rw (passes _ h.good t.start t.len t.from t.to h.unused) refl
all_pass src (t ∷ u ∷ ts) at (sound_more h a) = rw (passes _ h.good t.start t.len t.from t.to h.unused) (all_pass src (u ∷ ts) at a)

-- check 30 passes the tokens of every source, from any place of it on: what stood before makes no difference
pub lex_passes : (skip at : ℕ) (line : Bool) (s : List ℕ) → (lex_by skip at line s).stop ≡ fine → ok_tokens (lex_by skip at line s).tokens ≡ true
lex_passes skip at line s h =
    let before : List ℕ = replicate at 0 in
    let e : drop at (before ++ s) ≡ s = ap (λ (k : ℕ). drop k (before ++ s)) (sym (length-replicate at 0)) ∙ drop-append_seam before s in
    let r = parted (before ++ s) _ (reading (before ++ s) s skip at line e h) in
    ap ok_tokens r.is ∙ all_pass (before ++ s) r.ts r.at r.sound

pub reads_pass : (src : List ℕ) → (lex_by 0 0 true src).stop ≡ fine → length src ≤ 16777216 → well_formed (flat (lex_by 0 0 true src).tokens) ≡ true
unfolding well_formed
reads_pass src h l =
    let ts = (lex_by 0 0 true src).tokens in
    let n : length (flat ts) ≡ 6 * length ts = length_flat ts in
    let f : length ts ≤ length src + 1 = few_tokens src in
    let o : ok_tokens (tokens_of (flat ts)) ≡ true = ap ok_tokens (tokens_flat ts) ∙ lex_passes 0 0 true src h in
    rw (o, eq-eqb (length (flat ts) % 6) 0 (omega arith), le-leb (length (flat ts)) (6 * 16777217) (omega arith)) refl

-- the same, the length first
pub lex_well_formed : (s : List ℕ) → length s ≤ 16777216 → (lex_by 0 0 true s).stop ≡ fine → well_formed (flat (lex_by 0 0 true s).tokens) ≡ true
lex_well_formed s l h = reads_pass s h l
