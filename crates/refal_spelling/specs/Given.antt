-- The test of refusal 41 holds exactly of the texts that reading gives, from any source, as that kind.
use Rattle.std.specs.Prelude.{ℕ, zero, suc, ◌+◌, ◌-◌, ◌*◌, ◌<◌, ◌≤◌, true, false, List, [], ◌∷◌, ◌++◌, ◌↔◌, ◌≡◌, refl, length, take, drop}
use Rattle.std.proofs.Common.{arith, le-leb, leb-true, append-nil, ap, sym, subst, ◌∙◌, length-take, length-drop}
use Rattle.std.proofs.Math.Seq.{take-length, drop-length, drop-append-add}
use Rattle.refal_rows.specs.Tests.{and_left, and_right}
use Rattle.refal_text.specs.Utf8.{well_to}
use Rattle.refal_ast.specs.Kinds.{tok_identifier, tok_variable, tok_number, tok_eof}
use Rattle.refal_ast.specs.Limits.{most_bytes}
use Rattle.refal_ast.specs.Flatten.{flat_of}
use Rattle.refal_ast.specs.Tokens.{Token, token, words, flat}
use Rattle.refal_ast.specs.Answers.{Done}
use Rattle.refal_lexer.specs.Lex.{Out, more, eof_at}
use Rattle.refal_lexer.specs.Carried.{line_after, lex_by}
use Rattle.refal_lexer.specs.Read.{read_answer, read_rows}
use Rattle.refal_lexer.specs.Tokens.{token_scan}
use Rattle.refal_lexer.specs.TurnCases.{turn_one}
use Rattle.refal_lexer.specs.TurnLaws.{lex_skip}
use Rattle.refal_lexer.specs.Scans as S
use Rattle.refal_spelling.specs.Spell.{spelled, dotted, text_at, spelling}
use Rattle.refal_spelling.specs.Spells.{spells, spells_index}
use Rattle.refal_spelling.specs.Spellings.{number_ok}
use Rattle.refal_spelling.specs.Good.{Good, identifier, variable_of, number, mark}
use Rattle.refal_spelling.specs.Runs.{at_end}
use Rattle.refal_spelling.specs.ScanWords.{number_some, scan_identifier, scan_index, scan_number}
use Rattle.refal_spelling.specs.Sound.{Sound}
use Rattle.refal_spelling.specs.ReadsGood.{Reading, ends, goes, reading}
use Rattle.refal_spelling.specs.Answered.{Answered, answered, answers, rows_left_lem}
use Rattle.refal_spelling.specs.SpellsLaws.{spells_identifier, identifier_spells, spells_number, number_spells, index_good, good_index}
use Rattle.refal_spelling.specs.TextWell.{token_well}

-- reading a source into rows lent answers how many tokens it has, and one of the rows is that of a token of the kind whose text is the word
pub record Gives (kind : ℕ) (word : List ℕ) : Type 0 where
  pub source : List ℕ
  pub lent : List ℕ
  pub count : ℕ
  pub answer : read_answer source (length lent) ≡ Done count
  pub i : ℕ
  pub below : i < count
  pub t : Token
  pub row : take 6 (drop (6 * i) (read_rows source lent)) ≡ words t
  pub is_kind : t.kind ≡ kind
  pub is_text : text_at source t.start t.len ≡ word

-- ---- the statements
pub record Exactly : Type 0 where
  pub identifiers : (w : List ℕ) → Gives tok_identifier w ↔ (spells tok_identifier w ≡ true)
  pub numbers : (w : List ℕ) → Gives tok_number w ↔ (number_ok w ≡ true)
  pub indices : (w : List ℕ) → Gives tok_variable w ↔ (spells_index w ≡ true)

-- ---- what reading gives is good
-- row i of the rows of tokens is the row of one of them
record Among (ts : List Token) (i : ℕ) (r : List ℕ) : Type 0 where
  before : List Token
  x : Token
  behind : List Token
  is : ts ≡ before ++ (x ∷ behind)
  row : take 6 (drop (6 * i) (flat ts ++ r)) ≡ words x

among : (ts : List Token) (i : ℕ) (r : List ℕ) → i < length ts → Among ts i r
among [] i r h = absurd (omega arith)
among (x ∷ ts) zero r h = record { before = []; x = x; behind = ts; is = refl; row = refl }
among (x ∷ ts) (suc i) r h =
    let A = among ts i r (omega arith) in
    let e : 6 * suc i ≡ length (words x) + 6 * i = omega arith in
    record {
      before = x ∷ A.before;
      x = A.x;
      behind = A.behind;
      is = ap (λ (l : List Token). x ∷ l) A.is;
      row = ap (λ (k : ℕ). take 6 (drop k (words x ++ (flat ts ++ r)))) e ∙ ap (take 6) (drop-append-add (words x) (flat ts ++ r) (6 * i)) ∙ A.row;
    }

same_token : (t u : Token) → words t ≡ words u → t ≡ u
same_token t u e =
    let ek : t.kind ≡ u.kind = cc in
    let ed : t.detail ≡ u.detail = cc in
    let es : t.start ≡ u.start = cc in
    let el : t.len ≡ u.len = cc in
    let ea : t.from ≡ u.from = cc in
    let eb : t.to ≡ u.to = cc in
    λ i. record { kind = ek i; detail = ed i; start = es i; len = el i; from = ea i; to = eb i }

tail : (src : List ℕ) (x : Token) (l : List Token) → Reading src (x ∷ l) → (l ≡ [] → ⊥) → Reading src l
tail src x l (ends at) n = absurd (n refl)
tail src x l (goes h r) n = r

some : (ts : List Token) (t : Token) (us : List Token) → ts ++ (t ∷ us) ≡ [] → ⊥
some [] t us e = let z : ◌≡◌ {A = ℕ} 0 1 = cc in omega arith
some (x ∷ ts) t us e = let z : ◌≡◌ {A = ℕ} 0 1 = cc in omega arith

-- a token that is not Eof is sound
member : (src : List ℕ) (ts : List Token) (t : Token) (us : List Token) → Reading src (ts ++ (t ∷ us)) → (t.kind ≡ tok_eof → ⊥) → Sound src (flat_of t)
member src [] t us (ends at) n = absurd (n refl)
member src [] t us (goes h r) n = h
member src (x ∷ ts) t us r n = member src ts t us (tail src x (ts ++ (t ∷ us)) r (some ts t us)) n

given_good : (kind : ℕ) (w : List ℕ) → (kind ≡ tok_eof → ⊥) → Gives kind w → ((d : ℕ) × Good (spelled kind d w)) × (length w ≤ most_bytes)
given_good kind w n g =
    let s : List ℕ = g.source in
    let ts : List Token = (lex_by 0 0 true s).tokens in
    let a = answered s (length g.lent) g.count g.answer in
    let A = among ts g.i (drop (6 * g.count) g.lent) (let b = g.below in let c = a.count in omega arith) in
    let e : A.x ≡ g.t = same_token A.x g.t (sym A.row ∙ sym (ap (λ (l : List ℕ). take 6 (drop (6 * g.i) l)) (rows_left_lem s g.lent g.count g.answer)) ∙ g.row) in
    let k : A.x.kind ≡ kind = ap (λ (t : Token). t.kind) e ∙ g.is_kind in
    let q : text_at s A.x.start A.x.len ≡ w = ap (λ (t : Token). text_at s t.start t.len) e ∙ g.is_text in
    let r : Reading s (A.before ++ (A.x ∷ A.behind)) = subst (Reading s) A.is (reading s s 0 0 true refl a.stops) in
    let h : Sound s (flat_of A.x) = member s A.before A.x A.behind r (λ z. n (sym k ∙ z)) in
    let l : length (text_at s A.x.start A.x.len) ≤ most_bytes = let i = a.short in simp (length-take, length-drop) (omega arith) in (
      (
        A.x.detail,
        subst (λ (x : List ℕ). Good (spelled kind A.x.detail x)) q
            (subst (λ (k : ℕ). Good (spelled k A.x.detail (text_at s A.x.start A.x.len))) k h.good),
      ),
      subst (λ (x : List ℕ). length x ≤ most_bytes) q l,
    )

-- ---- a good word is given, by itself or, an index, behind a letter and a point
lex_alone : (kind d start len : ℕ) (l : List ℕ) → token_scan 0 l ≡ S.Token kind d start len 0 (0 + length l) → 1 ≤ length l
    → lex_by 0 0 true l ≡ more (token kind d start len 0 (0 + length l)) (eof_at (length l))
unfolding lex_by
lex_alone kind d start len [] e h = absurd (omega arith)
lex_alone kind d start len (b ∷ s) e h =
    let k : 0 + suc (length s) - suc 0 ≡ length s = omega arith in
    let z : suc 0 + length s ≡ suc (length s) = omega arith in
    turn_one true 0 b s (λ k. lex_by k (suc 0) (line_after b 0 true) s) (λ k. lex_by k (suc 0) false s) (λ k. lex_by k (suc 0) false s) kind d start len 0 (0 + suc (length s)) e
    ∙ ap (λ (n : ℕ). more (token kind d start len 0 (0 + suc (length s))) (lex_by n (suc 0) false s)) k
    ∙ ap (more (token kind d start len 0 (0 + suc (length s))))
    (lex_skip (length s) (suc 0) false s (omega arith) ∙ ap (lex_by 0 (suc 0 + length s) false) (drop-length s) ∙ ap eof_at z)

-- rows for two tokens
rows12 : List ℕ
rows12 = 0 ∷ 0 ∷ 0 ∷ 0 ∷ 0 ∷ 0 ∷ 0 ∷ 0 ∷ 0 ∷ 0 ∷ 0 ∷ 0 ∷ []

given_alone : (kind d start len : ℕ) (l w : List ℕ) → token_scan 0 (l ++ []) ≡ S.Token kind d start len 0 (0 + length l) → 1 ≤ length l
    → length l ≤ most_bytes → well_to 0 l ≡ length l → text_at l start len ≡ w → Gives kind w
unfolding rows12
given_alone kind d start len l w e some short well text =
    let o : lex_by 0 0 true l ≡ more (token kind d start len 0 (0 + length l)) (eof_at (length l)) = lex_alone kind d start len l (ap (token_scan 0) (sym (append-nil l)) ∙ e) some in
    let A : Answered l 12 2 = record { short = short; well = omega arith; stops = ap (λ (x : Out). x.stop) o; count = ap (λ (x : Out). length x.tokens) o; room = omega arith } in
    let r : read_answer l (length rows12) ≡ Done 2 = answers l 12 2 A in
    record {
      source = l;
      lent = rows12;
      count = 2;
      answer = r;
      i = 0;
      below = omega arith;
      t = token kind d start len 0 (0 + length l);
      row = ap (λ (m : List ℕ). take 6 (drop 0 m)) (rows_left_lem l rows12 2 r ∙ ap (λ (x : Out). flat x.tokens ++ drop 12 rows12) o);
      is_kind = refl;
      is_text = text;
    }

identifier_given : (w : List ℕ) → Good (spelled tok_identifier 0 w) → Gives tok_identifier w
unfolding spelling
identifier_given w (identifier b s u a h) =
    given_alone tok_identifier 0 0 (suc (length s)) (b ∷ s) (b ∷ s) (scan_identifier 0 b s [] u a h at_end) (omega arith) (omega arith)
    (token_well (spelled tok_identifier 0 (b ∷ s)) (identifier b s u a h)) (take-length (b ∷ s))
identifier_given w (mark k lo hi) = absurd (omega arith)

number_given : (w : List ℕ) → Good (spelled tok_number 0 w) → length w ≤ most_bytes → Gives tok_number w
unfolding spelling
number_given w (number v n) short =
    given_alone tok_number 0 0 (length v) v v (scan_number v n 0 [] at_end) (number_some v n) short (token_well (spelled tok_number 0 v) (number v n)) (take-length v)
number_given w (mark k lo hi) short = absurd (omega arith)

index_given : (v : ℕ) (w : List ℕ) → Good (spelled tok_variable v w) → Gives tok_variable w
unfolding spelling
index_given v w (variable_of x y u a lo hi) =
    given_alone tok_variable x 2 (length y) (dotted x y) y (scan_index 0 x y [] u a lo hi at_end) (omega arith) (omega arith)
    (token_well (spelled tok_variable x y) (variable_of x y u a lo hi)) (take-length y)
index_given v w (mark k lo hi) = absurd (omega arith)

pub spells_exactly : Exactly
spells_exactly = record {
  identifiers = λ w. (λ g. of_identifier w (given_good tok_identifier w (λ e. omega arith) g).0, λ h. identifier_given w (spells_identifier w h));
  numbers = λ w. (λ g. of_number w (given_good tok_number w (λ e. omega arith) g), λ h. number_given w (spells_number w (and_left _ _ h)) (leb-true _ _ (and_right (spells tok_number w) _ h)));
  indices = λ w. (λ g. of_index w (given_good tok_variable w (λ e. omega arith) g).0, λ h. index_given 115 w (index_good 115 w refl h));
}
  where
    of_identifier : (w : List ℕ) → (d : ℕ) × Good (spelled tok_identifier d w) → spells tok_identifier w ≡ true
    of_identifier w p = identifier_spells p.0 w p.1

    of_number : (w : List ℕ) → ((d : ℕ) × Good (spelled tok_number d w)) × (length w ≤ most_bytes) → number_ok w ≡ true
    of_number w p = rw (number_spells p.0.0 w p.0.1, le-leb _ _ p.1) refl

    of_index : (w : List ℕ) → (d : ℕ) × Good (spelled tok_variable d w) → spells_index w ≡ true
    of_index w p = (good_index p.0 w p.1).1
