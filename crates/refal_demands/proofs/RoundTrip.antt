-- The round trip over the parser's tree: the text of its flattening, as spelled, is read and parsed to a tree of the same flattening.
use mathlib.Core.Path.{◌≡◌, refl, sym, ap, subst, ◌∙◌}
use Prim.Native.Nat.{ℕ, ◌+◌, ◌*◌, ◌≤◌}
use mathlib.Core.List.{List, [], ◌∷◌, ◌++◌}
use mathlib.Core.Bool.{Bool, true}
use native.Mathlib.Omega.{arith}
use lib.ListN.{length, length-append}
use borrow.Author.Tests.{le-leb}
use Rattle.refal_ast.specs.Kinds.{tok_eof}
use Rattle.refal_ast.specs.Answers.{refusal, pick_answer, Done, Refused}
use Rattle.refal_ast.specs.Tokens.{Token, flat, tokens_of, tokens_flat}
use Rattle.refal_ast.specs.Check.{well_formed}
use Rattle.refal_ast.specs.Nodes.{node_width}
use Rattle.refal_ast.specs.Encode.{enc_p}
use Rattle.refal_ast.specs.Tree.{Program, size_p, depth_p}
use Rattle.refal_ast.specs.Flatten.{Flat, mark, flat_of, flats_of, flatten_p, Loose}
use Rattle.refal_lexer.specs.Lex.{Out}
use Rattle.refal_lexer.specs.Source.{source}
use Rattle.refal_lexer.specs.StarLaws.{source_is}
use Rattle.refal_ast.specs.Limits.{most_levels}
use Rattle.refal_parser.specs.Machine.{Outcome, tree}
use Rattle.refal_parser.specs.Parse.{parsed, answer_of}
use Rattle.refal_ast.specs.Limits.{most_rows}
use Rattle.refal_tree.specs.Lawful.{lawful, lawful_is}
use Rattle.refal_spelling.specs.Spell.{Spelled, view, views, text}
use Rattle.refal_spelling.specs.Places.{tokens_at}
use Rattle.refal_spelling.specs.Sound.{AllSound, sound_more, sound_good, loose_sound}
use Rattle.refal_spelling.specs.Good.{AllGood}
use Rattle.refal_spelling.specs.RoundTrip.{with_eof, ReadsBack, Suffices, reading_gives_good, text_reads, text_reads_back, length_at, first_rows, first_rows_back}
use Rattle.refal_demands.specs.Trees.{without_last, tokens_before_eof}
use Rattle.refal_demands.specs.RoundTrip.{token_rows, Accepted, tree_rows, RowsSuffice, Again}
use Rattle.refal_demands.proofs.Respan.{size_respan_p}
use Rattle.refal_demands.proofs.FlatSpans.{same_flat, loose_own}
use Rattle.refal_demands.proofs.Retext.{AllAlike, alike_none, alike_more, retext}
use Rattle.refal_demands.proofs.Theorems.{completeness}
use Rattle.refal_demands.proofs.Demand3.{success, parser_tree_lem, words_of_lem, without_last_lem, flattens, is_deep}
use Rattle.refal_demands.proofs.Bound.{nodes_few}

-- ---- lists of tokens that are the same as spelled agree in kind and detail
head_same : {x y : Spelled} {xs ys : List Spelled} → x ∷ xs ≡ y ∷ ys → x ≡ y
head_same e = cc

tail_same : {x y : Spelled} {xs ys : List Spelled} → x ∷ xs ≡ y ∷ ys → xs ≡ ys
tail_same e = cc

not_none : {A : Type 0} {x : Spelled} {xs : List Spelled} → x ∷ xs ≡ [] → A
not_none e = let z : ◌≡◌ {A = ℕ} 0 1 = cc in absurd (omega arith)

none_not : {A : Type 0} {x : Spelled} {xs : List Spelled} → [] ≡ x ∷ xs → A
none_not e = let z : ◌≡◌ {A = ℕ} 0 1 = cc in absurd (omega arith)

alike : (s s' : List ℕ) (l m : List Flat) → views s' m ≡ views s l → AllSound s' m → AllAlike l m
alike s s' [] [] e a = alike_none
alike s s' [] (d ∷ m) e a = not_none e
alike s s' (c ∷ l) [] e a = none_not e
alike s s' (c ∷ l) (d ∷ m) e (sound_more h a) =
    let k : view s' d ≡ view s c = head_same e in
    alike_more (record { kind = ap (λ (x : Spelled). x.kind) k; detail = ap (λ (x : Spelled). x.detail) k; unused = h.unused }) (alike s s' l m (tail_same e) a)

flats_eof : (ts : List Token) (at : ℕ) → flats_of (with_eof ts at) ≡ flats_of ts ++ (mark tok_eof ∷ [])
flats_eof [] at = refl
flats_eof (t ∷ ts) at = ap (λ (l : List Flat). flat_of t ∷ l) (flats_eof ts at)

-- the tokens before Eof, of rows of tokens and Eof
before_eof : (w : List ℕ) (ts : List Token) (at : ℕ) → w ≡ flat (with_eof ts at) → tokens_before_eof w ≡ flats_of ts
before_eof w ts at e = ap without_last (all_flats w ts at e) ∙ without_last_lem (flats_of ts) (mark tok_eof)
  where
    all_flats : (w : List ℕ) (ts : List Token) (at : ℕ) → w ≡ flat (with_eof ts at) → flats_of (tokens_of w) ≡ flats_of ts ++ (mark tok_eof ∷ [])
    all_flats w ts at e = ap (λ (x : List ℕ). flats_of (tokens_of x)) e ∙ ap flats_of (tokens_flat (with_eof ts at)) ∙ flats_eof ts at

-- ---- the parser's tree over reading's tokens
pub record OfReading (s M B : List ℕ) (a : Accepted s M B) : Type 0 where
  pub t : Program
  pub rows : tree_rows a ≡ enc_p t 0
  pub size : a.m ≡ size_p t
  pub deep : depth_p t ≤ most_levels
  pub few : size_p t ≤ most_rows
  pub sound : AllSound s (flatten_p t)

pub of_reading : (s M B : List ℕ) (a : Accepted s M B) → OfReading s M B a
of_reading s M B a =
    let w = token_rows s M a.n in
    let S = success (parsed w) B a.m a.parses in
    let g = reading_gives_good s M a.n a.reads in
    let e : tokens_before_eof w ≡ flats_of g.ts = before_eof w g.ts g.at (first_rows s M a.n g) in
    record {
      t = S.t;
      rows = parser_tree_lem w B a.m S.t S.is S.size S.room;
      size = S.size;
      deep = is_deep w S.t S.is;
      few = nodes_few w S.t S.is;
      sound = loose_sound s S.t (tokens_before_eof w) (flattens w S.t S.is) (subst (AllSound s) (sym e) g.sound);
    }

-- it is lawful
pub lawful_read : (s M B : List ℕ) (a : Accepted s M B) → lawful (tree_rows a) ≡ true
lawful_read s M B a =
    let r = of_reading s M B a in
    (lawful_is (tree_rows a)).1 (record { tree = r.t; words = r.rows; deep = r.deep; few = r.few })

-- ---- its text, read and parsed
pub record ParsedBack (ws : List Spelled) (t : Program) (w : List ℕ) : Type 0 where
  pub u : Program
  pub is : parsed w ≡ tree u
  pub same : views (text ws) (flatten_p u) ≡ ws
  pub size : size_p u ≡ size_p t

parsed_back : (s : List ℕ) (t : Program) (w : List ℕ) (l : List Flat) → depth_p t ≤ most_levels → well_formed w ≡ true → flats_of (tokens_of w) ≡ l ++ (mark tok_eof ∷ [])
    → views (text (views s (flatten_p t))) l ≡ views s (flatten_p t) → AllSound (text (views s (flatten_p t))) l → ParsedBack (views s (flatten_p t)) t w
parsed_back s t w l d g e v a =
    let ws = views s (flatten_p t) in
    let T = retext t l (alike s (text ws) (flatten_p t) l v a) in
    let h = T.deep in
    let c = completeness w T.g l g (omega arith) (subst (Loose T.g) T.is (loose_own T.g)) e in
    record {
      u = c.0;
      is = c.1;
      same = ap (views (text ws)) (same_flat c.0 T.g c.2 ∙ T.is) ∙ v;
      size = sym (size_respan_p (λ (x : ℕ). 0) c.0) ∙ ap size_p c.2 ∙ size_respan_p (λ (x : ℕ). 0) T.g ∙ T.rows;
    }

-- how many tokens reading finds in the text of good ones
pub count_text : (ts : List Spelled) → AllGood ts → length (source (text ts)).tokens ≡ length ts + 1
count_text ts a = ap (λ (o : Out). length o.tokens) (source_is (text ts) ∙ text_reads ts a) ∙ length-append (tokens_at 0 ts) _ ∙ ap (λ (k : ℕ). k + 1) (length_at ts 0)

-- the text of sound tokens of a tree no deeper than 64
pub reads_back : (s : List ℕ) (t : Program) → AllSound s (flatten_p t) → (M : List ℕ) → Suffices (views s (flatten_p t)) M → ReadsBack (views s (flatten_p t)) M
reads_back s t a M f = text_reads_back (views s (flatten_p t)) (sound_good s (flatten_p t) a) M f

pub text_back : (s : List ℕ) (t : Program) → AllSound s (flatten_p t) → depth_p t ≤ most_levels → (M : List ℕ) → ReadsBack (views s (flatten_p t)) M
    → ParsedBack (views s (flatten_p t)) t (token_rows (text (views s (flatten_p t))) M (length (views s (flatten_p t)) + 1))
text_back s t a d M R =
    let ws = views s (flatten_p t) in
    let n = length ws + 1 in
    let g = reading_gives_good (text ws) M n R.answer in
    let w = token_rows (text ws) M n in
    let r : w ≡ flat (with_eof g.ts g.at) = first_rows (text ws) M n g in
    let e : flats_of g.ts ≡ flats_of (tokens_at 0 ws) = sym (before_eof w g.ts g.at r) ∙ before_eof w (tokens_at 0 ws) (length (text ws)) (first_rows_back ws M R) in
    parsed_back s t w (flats_of g.ts) d (ap well_formed r ∙ g.passes)
    (ap (λ (x : List ℕ). flats_of (tokens_of x)) r ∙ ap flats_of (tokens_flat (with_eof g.ts g.at)) ∙ flats_eof g.ts g.at)
    (ap (views (text ws)) e ∙ R.same) g.sound

-- ---- over what the calls answer and leave
done : (o : Outcome) (u : Program) (B : List ℕ) → o ≡ tree u → node_width * size_p u ≤ length B → answer_of o B ≡ Done (size_p u)
done o u B e r = ap (λ (x : Outcome). answer_of x B) e ∙ ap (λ (b : Bool). pick_answer b (Done (size_p u)) (Refused (refusal 38 0 0 0 0 (size_p u)))) (le-leb (node_width * size_p u) (length B) r)

pub round_trip : (s M B : List ℕ) (a : Accepted s M B) (r : OfReading s M B a) (M' B' : List ℕ) → length (text (views s (flatten_p r.t))) ≤ 16777216
    → RowsSuffice (text (views s (flatten_p r.t))) a.m M' B' → Again s (tree_rows a) (text (views s (flatten_p r.t))) M' B'
round_trip s M B a r M' B' l f =
    let t = r.t in
    let ws = views s (flatten_p t) in
    let c = count_text ws (sound_good s (flatten_p t) r.sound) in
    let i = f.tokens in
    let R = reads_back s t r.sound M' (record { short = l; room = omega arith }) in
    again (text_back s t r.sound r.deep M' R) R
  where
    again : ParsedBack (views s (flatten_p r.t)) r.t (token_rows (text (views s (flatten_p r.t))) M' (length (views s (flatten_p r.t)) + 1)) → ReadsBack (views s (flatten_p r.t)) M'
        → Again s (tree_rows a) (text (views s (flatten_p r.t))) M' B'
    again P R =
        let ws = views s (flatten_p r.t) in
        let w = token_rows (text ws) M' (length ws + 1) in
        let i = f.nodes in
        let j = r.size in
        let k = P.size in
        let room : node_width * size_p P.u ≤ length B' = omega arith in
        record {
          accepted = record { n = length ws + 1; m = size_p P.u; reads = R.answer; parses = done (parsed w) P.u B' P.is room };
          rows =
              ap length (parser_tree_lem w B' (size_p P.u) P.u P.is refl room)
              ∙ words_of_lem P.u
              ∙ ap (λ (x : ℕ). node_width * x) k
              ∙ sym (ap length r.rows ∙ words_of_lem r.t);
          same = record {
            first = record { program = r.t; rows = r.rows };
            second = record { program = P.u; rows = parser_tree_lem w B' (size_p P.u) P.u P.is refl room };
            same = sym P.same;
          };
        }
