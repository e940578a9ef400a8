-- A real by itself is read as one Number, and only a real is.
use Rattle.std.specs.Prelude.{ℕ, suc, ◌+◌, ◌-◌, ◌≤◌, true, false, List, [], ◌∷◌, ◌++◌, ◌≡◌, refl, length, take, drop}
use Rattle.std.proofs.Common.{arith, leb-true, append-nil, ap, sym, ◌∙◌}
use Rattle.std.proofs.Math.Seq.{take-length, drop-length}
use Rattle.refal_rows.specs.Tests.{and_left, and_right}
use Rattle.refal_text.specs.Utf8.{well_to}
use Rattle.refal_ast.specs.Kinds.{tok_number}
use Rattle.refal_ast.specs.Limits.{most_bytes}
use Rattle.refal_ast.specs.Tokens.{token, flat}
use Rattle.refal_ast.specs.Answers.{Done}
use Rattle.refal_lexer.specs.Lex.{Out, more, eof_at}
use Rattle.refal_lexer.specs.Carried.{line_after, lex_by}
use Rattle.refal_lexer.specs.Read.{read_answer}
use Rattle.refal_lexer.specs.Tokens.{token_scan}
use Rattle.refal_lexer.specs.TurnCases.{turn_one}
use Rattle.refal_lexer.specs.TurnLaws.{lex_skip}
use Rattle.refal_lexer.specs.Scans as S
use Rattle.refal_spelling.specs.Spell.{spelled, spelling}
use Rattle.refal_spelling.specs.Spells.{spells}
use Rattle.refal_spelling.specs.Spellings.{number_ok}
use Rattle.refal_spelling.specs.Good.{Good, Number, number, mark}
use Rattle.refal_spelling.specs.Runs.{at_end}
use Rattle.refal_spelling.specs.ScanWords.{number_some, scan_number}
use Rattle.refal_spelling.specs.Answered.{Answered, answers, rows_left_lem}
use Rattle.refal_spelling.specs.SpellsLaws.{spells_number}
use Rattle.refal_spelling.specs.TextWell.{token_well}
use Rattle.refal_spelling.specs.Given.{Gives, spells_exactly}
use Rattle.refal_real.specs.Real.{marked}
use Rattle.refal_real.specs.Statements.{Alone, Given, GivenAlone}

-- ---- what `Gives` says
pub given : Given
given t = (
  λ h. ((spells_exactly.numbers t).1 (and_left (number_ok t) (marked t) h), and_right (number_ok t) (marked t) h),
  λ g. rw ((spells_exactly.numbers t).0 g.0, g.1) refl,
)

-- ---- a Number by itself
number_of_lem : (t : List ℕ) → Good (spelled tok_number 0 t) → Number t
number_of_lem t (number v n) = n
number_of_lem t (mark k lo hi) = absurd (omega arith)

-- the tokens of a text that is scanned whole
lex_whole : (t : List ℕ) → token_scan 0 t ≡ S.Token tok_number 0 0 (length t) 0 (0 + length t) → 1 ≤ length t
    → lex_by 0 0 true t ≡ more (token tok_number 0 0 (length t) 0 (length t)) (eof_at (length t))
unfolding lex_by
lex_whole [] e h = absurd (omega arith)
lex_whole (b ∷ s) e h =
    let k : 0 + suc (length s) - suc 0 ≡ length s = omega arith in
    let y : 0 + suc (length s) ≡ suc (length s) = omega arith in
    let z : suc 0 + length s ≡ suc (length s) = omega arith in
    turn_one true 0 b s (λ k. lex_by k (suc 0) (line_after b 0 true) s) (λ k. lex_by k (suc 0) false s) (λ k. lex_by k (suc 0) false s) tok_number 0 0 (suc (length s)) 0 (0 + suc (length s)) e
    ∙ ap (λ (n : ℕ). more (token tok_number 0 0 (suc (length s)) 0 (0 + suc (length s))) (lex_by n (suc 0) false s)) k
    ∙ ap (λ (n : ℕ). more (token tok_number 0 0 (suc (length s)) 0 n) (lex_by (length s) (suc 0) false s)) y
    ∙ ap (more (token tok_number 0 0 (suc (length s)) 0 (suc (length s))))
    (lex_skip (length s) (suc 0) false s (omega arith) ∙ ap (lex_by 0 (suc 0 + length s) false) (drop-length s) ∙ ap eof_at z)

well : (t : List ℕ) → Number t → well_to 0 t ≡ length t
unfolding spelling
well t n = token_well (spelled tok_number 0 t) (number t n)

alone : (t : List ℕ) → Number t → length t ≤ most_bytes → Alone t
alone t n short = record {
  answer = λ rows h. is rows h;
  left = λ rows h. rows_left_lem t rows 2 (is rows h) ∙ ap (λ (o : Out). flat o.tokens ++ drop 12 rows) lexed;
}
  where
    lexed : lex_by 0 0 true t ≡ more (token tok_number 0 0 (length t) 0 (length t)) (eof_at (length t))
    lexed = lex_whole t (ap (token_scan 0) (sym (append-nil t)) ∙ scan_number t n 0 [] at_end) (number_some t n)

    answered : (rows : List ℕ) → 12 ≤ length rows → Answered t (length rows) 2
    answered rows h = record {
      short = short;
      well = let w = well t n in omega arith;
      stops = ap (λ (o : Out). o.stop) lexed;
      count = ap (λ (o : Out). length o.tokens) lexed;
      room = omega arith;
    }

    is : (rows : List ℕ) → 12 ≤ length rows → read_answer t (length rows) ≡ Done 2
    is rows h = answers t (length rows) 2 (answered rows h)

-- rows for two tokens
rows : List ℕ
rows = 0 ∷ 0 ∷ 0 ∷ 0 ∷ 0 ∷ 0 ∷ 0 ∷ 0 ∷ 0 ∷ 0 ∷ 0 ∷ 0 ∷ []

gives : (t : List ℕ) → Alone t → Gives tok_number t
unfolding rows
gives t a = record {
  source = t;
  lent = rows;
  count = 2;
  answer = a.answer rows (omega arith);
  i = 0;
  below = omega arith;
  t = token tok_number 0 0 (length t) 0 (length t);
  row = ap (λ (l : List ℕ). take 6 (drop 0 l)) (a.left rows (omega arith));
  is_kind = refl;
  is_text = take-length t;
}

pub given_alone : GivenAlone
given_alone t = (
  λ h.
      let k = and_left (number_ok t) (marked t) h in
      (alone t (number_of_lem t (spells_number t (and_left _ _ k))) (leb-true _ _ (and_right (spells tok_number t) _ k)), and_right (number_ok t) (marked t) h),
  λ g. (given t).1 (gives t g.0, g.1),
)
