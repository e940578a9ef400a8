-- Contracts of the functions that parse conditions, sentences and blocks. They begin at the place p: at the word `at` of the tokens w, with row n, under the
-- parent q; an answer gives the word j and the row m after.
use Rattle.std.specs.Prelude.{◌≡◌, ℕ, ◌+◌, ◌-◌, ◌≤◌, ◌<◌, Bool, true, false, List, eqb, length, get_or, Result}
use Rattle.refal_ast.specs.Kinds.{tok_r_brace, tok_comma, tok_equals, tok_semicolon}
use Rattle.refal_ast.specs.Tree.{Terms, t0, Condition, Conditions, c0, End, Sentence, Sentences, s0, s_more, Body, b_all, b_off, Program, size_condition, size_c, size_end, size_sentence, size_b}
use Rattle.refal_parser.specs.Machine.{Begun, Block, pattern, within, between, conditioned, equated, ended, Outcome, refuse, opens, begun, with_condition, leave}
use Rattle.refal_parser.specs.Ready.{tok, end_before, Few}
use Rattle.refal_parser.specs.Writers.{put_node, sentence_row, w_condition, w_c, w_end, w_sentence, w_b}
use Rattle.refal_parser.specs.Post.{Cases, runs, Same, Refuses, leads, after, Joint}
use Rattle.refal_parser.specs.Got.{got_told}
use Rattle.refal_parser.specs.declared.place.Place.{Place}
use Rattle.refal_parser.specs.declared.place.Level.{Level}
use Rattle.refal_parser.specs.declared.answers.SyntaxError.{SyntaxError}

abbrev pub CondNo : List ℕ → ℕ → ℕ → ℕ → ℕ → ℕ → ℕ → ℕ → Type 0
CondNo w at left a b c d e = (y : Block) (r : Begun) → Refuses w at (conditioned left y r) a b c d e

-- ---- a condition, whose comma is at `at`
pub record CondAt (w B B' : List ℕ) (at n q left j m : ℕ) : Type 0 where
  pub x : Condition
  pub on : at < j
  pub few : Few m j 2
  pub rows : B' ≡ w_condition x n q B
  pub count : m ≡ n + size_condition x
  pub joint : Joint w j tok_comma tok_equals
  pub means : (b : Block) (r : Begun) → Same w at (conditioned left b r) j (conditioned left b (with_condition r x))

abbrev pub CondPost : Place → List ℕ → List ℕ → Level → Result Place SyntaxError → Type 0
CondPost p B B' l r = Cases p.tokens.now (got_told r) (CondAt p.tokens.now B B' p.at p.row l.parent l.left) (CondNo p.tokens.now p.at l.left)

-- ---- what stands after a sentence's `=`, up to its `;` or, where that is left off, the `}` of its block
pub record EndingAt (w B B' : List ℕ) (at n q left j m : ℕ) : Type 0 where
  pub x : End
  pub on : at ≤ j
  pub few : Few m j 2
  pub rows : B' ≡ w_end x n q B
  pub count : m ≡ n + size_end x
  pub joint : Joint w j tok_r_brace tok_semicolon
  pub means : (b : Block) (r : Begun) → Same w at (equated left b r (end_before w at)) j (ended left b r x (end_before w j))

abbrev pub EndingNo : List ℕ → ℕ → ℕ → ℕ → ℕ → ℕ → ℕ → ℕ → Type 0
EndingNo w at left a b c d e = (y : Block) (r : Begun) → Refuses w at (equated left y r (end_before w at)) a b c d e

abbrev pub EndingPost : Place → List ℕ → List ℕ → Level → Result Place SyntaxError → Type 0
EndingPost p B B' l r = Cases p.tokens.now (got_told r) (EndingAt p.tokens.now B B' p.at p.row l.parent l.left) (EndingNo p.tokens.now p.at l.left)

-- ---- the row of a sentence whose span begins at a, of which all but its `;` ends before word i: the `;` is left off where a `}` stands there
abbrev pub pick_word : Bool → ℕ → ℕ → ℕ
pick_word true i j = i
pick_word false i j = j

abbrev pub is_off : List ℕ → ℕ → Bool
is_off w i = eqb (get_or w i 0) tok_r_brace

-- the word after the sentence
abbrev pub sentence_end : List ℕ → ℕ → ℕ
sentence_end w i = pick_word (is_off w i) i (i + 6)

abbrev pub sentence_put : List ℕ → List ℕ → ℕ → ℕ → ℕ → ℕ → ℕ → List ℕ
sentence_put w B a i n m q = put_node B n (sentence_row (is_off w i) a (end_before w (sentence_end w i)) m q)

-- ---- a sentence
-- the sentences s with x, whose `;` is left off or not
abbrev pub added : Bool → Sentences → Sentence → Body
added true s x = b_off s x
added false s x = b_all (s_more s x)

-- where a body has been read up to word i and row m: its `}` stands there where a `;` was left off
abbrev pub Stops : Bool → List ℕ → ℕ → ℕ → Type 0
Stops true w i m = (get_or w i 0 ≡ tok_r_brace) × Few m i 2
Stops false w i m = Few m i 0

-- what the machine comes to from there
abbrev pub reached : List ℕ → ℕ → ℕ → Block → Body → Program → Outcome
reached w i d b (b_all s) p = runs w i p (between d b s)
reached w i d b (b_off s x) p = after w i p (leave d b (b_off s x) (get_or w (i + 5) 0))

pub record SentenceAt (w B B' : List ℕ) (at n q left j m : ℕ) : Type 0 where
  pub x : Sentence
  pub off : Bool
  pub on : at < j
  pub stops : Stops off w j m
  pub rows : B' ≡ w_sentence off x n q B
  pub count : m ≡ n + size_sentence x
  pub means : (b : Block) (s : Sentences) (p : Program) →
      runs w at p (within left (pattern b s (get_or w (at + 4) 0)) t0) ≡ reached w j left b (added off s x) p

abbrev pub SentenceNo : List ℕ → ℕ → ℕ → ℕ → ℕ → ℕ → ℕ → ℕ → Type 0
SentenceNo w at left a b c d e = (q : Block) (s : Sentences) → Refuses w at (within left (pattern q s (get_or w (at + 4) 0)) t0) a b c d e

abbrev pub SentencePost : Place → List ℕ → List ℕ → Level → Result Place SyntaxError → Type 0
SentencePost p B B' l r = Cases p.tokens.now (got_told r) (SentenceAt p.tokens.now B B' p.at p.row l.parent l.left) (SentenceNo p.tokens.now p.at l.left)

-- its loop: the conditions from word j on, whose rows begin at row m; B is the rows as the loop begins
pub record CondsInv (w B B' : List ℕ) (j m q left i k : ℕ) : Type 0 where
  pub cs : Conditions
  pub joint : Joint w i tok_comma tok_equals
  pub on : j ≤ i
  pub few : Few k i 2
  pub same : length B' ≡ length B
  pub rows : B' ≡ w_c cs m q B
  pub count : k ≡ m + size_c cs
  pub means : (b : Block) (s : Sentences) (a : ℕ) (f : Terms) → Same w j (conditioned left b (begun s a f c0)) i (conditioned left b (begun s a f cs))

-- ---- the body of a block, whose `{` is at `at`, with its `}`
abbrev pub Opens : List ℕ → ℕ → ℕ → Block → Program → Outcome
Opens w at left b p = after w at p (opens left (tok w at) (λ d. between d b s0))

pub record BlockAt (w B B' : List ℕ) (at n q left j m : ℕ) : Type 0 where
  pub v : Body
  pub e : ℕ
  pub some : left ≡ 0 → ⊥
  pub on : at < j
  pub few : Few m j 0
  pub rows : B' ≡ w_b v n q B
  pub count : m ≡ n + size_b v
  pub last : e ≡ end_before w j
  pub means : (b : Block) (p : Program) → Opens w at left b p ≡ leads w j p (leave (left - 1) b v e)

abbrev pub BlockNo : List ℕ → ℕ → ℕ → ℕ → ℕ → ℕ → ℕ → ℕ → Type 0
BlockNo w at left a b c d e = (q : Block) (p : Program) → Opens w at left q p ≡ refuse a b c d e

abbrev pub BlockPost : Place → List ℕ → List ℕ → Level → Result Place SyntaxError → Type 0
BlockPost p B B' l r = Cases p.tokens.now (got_told r) (BlockAt p.tokens.now B B' p.at p.row l.parent l.left) (BlockNo p.tokens.now p.at l.left)

-- its loop
abbrev pub is_open : Body → Bool
is_open (b_all s) = false
is_open (b_off s x) = true

pub record BlockInv (w B B' : List ℕ) (at n q left i m : ℕ) : Type 0 where
  pub v : Body
  pub on : at < i
  pub stops : Stops (is_open v) w i m
  pub same : length B' ≡ length B
  pub rows : B' ≡ w_b v n q B
  pub count : m ≡ n + size_b v
  pub means : (b : Block) (p : Program) → Opens w at left b p ≡ reached w i (left - 1) b v p
