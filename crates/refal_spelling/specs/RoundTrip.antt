-- The round trip of reading. `read_answer s w` is what `read` answers on the bytes s with w words lent, and `read_rows s m` what it leaves in
-- the words m: its contract equates both. First the statements, then their proofs.
use Rattle.std.specs.Prelude.{ℕ, suc, ◌+◌, ◌*◌, ◌≤◌, true, List, [], ◌∷◌, ◌++◌, ◌≡◌, refl, length, take, drop}
use Rattle.std.proofs.Common.{arith, zero-add, append-nil, ap, sym, ◌∙◌, length-append}
use Rattle.std.proofs.Math.Seq.{take-append_seam}
use Rattle.refal_ast.specs.Kinds.{tok_eof}
use Rattle.refal_ast.specs.Check.{well_formed}
use Rattle.refal_ast.specs.Flatten.{flats_of}
use Rattle.refal_ast.specs.Tokens.{Token, token, flat, length_flat}
use Rattle.refal_ast.specs.Answers.{Done}
use Rattle.refal_lexer.specs.Lex.{Out, more_all, eof_at}
use Rattle.refal_lexer.specs.Carried.{lex_by}
use Rattle.refal_lexer.specs.Read.{read_answer, read_rows}
use Rattle.refal_spelling.specs.Spell.{Spelled, views, text}
use Rattle.refal_spelling.specs.Good.{AllGood}
use Rattle.refal_spelling.specs.Places.{tokens_at}
use Rattle.refal_spelling.specs.Sound.{AllSound, sound_good}
use Rattle.refal_spelling.specs.ReadsGood.{reads_sound}
use Rattle.refal_spelling.specs.Answered.{Answered, answered, answers, rows_left_lem}
use Rattle.refal_spelling.specs.Passes.{reads_pass}
use Rattle.refal_spelling.specs.TextReads.{reads_text}
use Rattle.refal_spelling.specs.TextViews.{views_text}
use Rattle.refal_spelling.specs.TextWell.{text_well}

-- ---- the statements
-- tokens, and Eof behind them at `at`
abbrev pub with_eof : List Token → ℕ → List Token
with_eof ts at = ts ++ (token tok_eof 0 0 0 at at ∷ [])

-- Reading s, where it answers n, leaves in the words m the rows of n - 1 tokens, then Eof's, once. The tokens' texts stand in s and are spelled
-- well there, and the rows pass parsing's check 30.
pub record LeavesGood (s m : List ℕ) (n : ℕ) : Type 0 where
  pub ts : List Token
  pub at : ℕ
  pub count : n ≡ length ts + 1
  pub rows : read_rows s m ≡ flat (with_eof ts at) ++ drop (6 * n) m
  pub sound : AllSound s (flats_of ts)
  pub passes : well_formed (flat (with_eof ts at)) ≡ true

abbrev pub ReadingGivesGood : Type 0
ReadingGivesGood = (s m : List ℕ) (n : ℕ) → read_answer s (length m) ≡ Done n → LeavesGood s m n

-- The text of any good tokens ts is read whole: reading answers their number and Eof, and leaves the rows of tokens that are, as spelled in
-- that text, ts.
pub record ReadsBack (ts : List Spelled) (m : List ℕ) : Type 0 where
  pub answer : read_answer (text ts) (length m) ≡ Done (length ts + 1)
  pub rows : read_rows (text ts) m ≡ flat (with_eof (tokens_at 0 ts) (length (text ts))) ++ drop (6 * (length ts + 1)) m
  pub same : views (text ts) (flats_of (tokens_at 0 ts)) ≡ ts

-- the text is short enough to be read, and the rows lent suffice
pub record Suffices (ts : List Spelled) (m : List ℕ) : Type 0 where
  pub short : length (text ts) ≤ 16777216
  pub room : 6 * (length ts + 1) ≤ length m

abbrev pub TextReadsBack : Type 0
TextReadsBack = (ts : List Spelled) → AllGood ts → (m : List ℕ) → Suffices ts m → ReadsBack ts m

-- So what was read from s, written and read again gives the same tokens, as spelled.
abbrev pub RoundTrip : Type 0
RoundTrip = (s m : List ℕ) (n : ℕ) → read_answer s (length m) ≡ Done n → (g : LeavesGood s m n) (m' : List ℕ) → Suffices (views s (flats_of g.ts)) m' → ReadsBack (views s (flats_of g.ts)) m'

-- ---- the proofs
pub reading_gives_good : ReadingGivesGood
reading_gives_good s m n e =
    let a = answered s (length m) n e in
    let r = reads_sound s a.stops in
    let all = (lex_by 0 0 true s).tokens in
    let c : length all ≡ length r.ts + 1 = ap length r.is ∙ length-append r.ts _ in
    record {
      ts = r.ts;
      at = r.at;
      count = sym a.count ∙ c;
      rows = rows_left_lem s m n e ∙ ap (λ (l : List Token). flat l ++ drop (6 * n) m) r.is;
      sound = r.sound;
      passes = ap (λ (l : List Token). well_formed (flat l)) (sym r.is) ∙ reads_pass s a.stops a.short;
    }

-- the definition of reading, on the text of good tokens
pub text_reads : (ts : List Spelled) → AllGood ts → lex_by 0 0 true (text ts) ≡ more_all (tokens_at 0 ts) (eof_at (length (text ts)))
unfolding lex_by
text_reads ts a =
    ap (lex_by 0 0 true) (sym (append-nil (text ts)))
    ∙ reads_text ts a 0 true []
    ∙ ap (λ (k : ℕ). more_all (tokens_at 0 ts) (eof_at k)) (zero-add (length (text ts)))

pub text_views : (ts : List Spelled) → AllGood ts → views (text ts) (flats_of (tokens_at 0 ts)) ≡ ts
text_views ts a = views_text ts a (text ts) 0 [] (sym (append-nil (text ts)))

pub length_at : (ts : List Spelled) (at : ℕ) → length (tokens_at at ts) ≡ length ts
unfolding tokens_at
length_at [] at = refl
length_at (t ∷ ts) at = ap suc (length_at ts _)

pub text_reads_back : TextReadsBack
text_reads_back ts a m f =
    let l = text_reads ts a in
    let c : length (lex_by 0 0 true (text ts)).tokens ≡ length ts + 1 = ap (λ (o : Out). length o.tokens) l ∙ length-append (tokens_at 0 ts) _ ∙ ap (λ (k : ℕ). k + 1) (length_at ts 0) in
    let w = text_well ts a in
    let i = f.room in
    let g : Answered (text ts) (length m) (length ts + 1) = record {
      short = f.short;
      well = omega arith;
      stops = ap (λ (o : Out). o.stop) l;
      count = c;
      room = omega arith;
    } in
    let e : read_answer (text ts) (length m) ≡ Done (length ts + 1) = answers (text ts) (length m) (length ts + 1) g in
    record {
      answer = e;
      rows = rows_left_lem (text ts) m (length ts + 1) e ∙ ap (λ (o : Out). flat o.tokens ++ drop (6 * (length ts + 1)) m) l;
      same = text_views ts a;
    }

pub round_trip : RoundTrip
round_trip s m n e g m' f = text_reads_back (views s (flats_of g.ts)) (sound_good s (flats_of g.ts) g.sound) m' f

-- the first n rows of what is left are the tokens' own
pub rows_first : (ts : List Token) (r : List ℕ) (n : ℕ) → length ts ≡ n → take (6 * n) (flat ts ++ r) ≡ flat ts
rows_first ts r n e = ap (λ (k : ℕ). take k (flat ts ++ r)) (ap (λ (k : ℕ). 6 * k) (sym e) ∙ sym (length_flat ts)) ∙ take-append_seam (flat ts) r

pub length_with_eof : (ts : List Token) (at : ℕ) → length (with_eof ts at) ≡ length ts + 1
length_with_eof ts at = length-append ts (token tok_eof 0 0 0 at at ∷ [])

-- so parsing is handed these words
pub first_rows : (s m : List ℕ) (n : ℕ) (g : LeavesGood s m n) → take (6 * n) (read_rows s m) ≡ flat (with_eof g.ts g.at)
first_rows s m n g = ap (take (6 * n)) g.rows ∙ rows_first (with_eof g.ts g.at) (drop (6 * n) m) n (length_with_eof g.ts g.at ∙ sym g.count)

pub first_rows_back : (ts : List Spelled) (m : List ℕ) → ReadsBack ts m → take (6 * (length ts + 1)) (read_rows (text ts) m) ≡ flat (with_eof (tokens_at 0 ts) (length (text ts)))
first_rows_back ts m g =
    ap (take (6 * (length ts + 1))) g.rows
    ∙ rows_first (with_eof (tokens_at 0 ts) (length (text ts))) (drop (6 * (length ts + 1)) m) (length ts + 1)
    (length_with_eof (tokens_at 0 ts) (length (text ts)) ∙ ap (λ (k : ℕ). k + 1) (length_at ts 0))
