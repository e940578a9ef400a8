-- What a condition, the end of a sentence, a sentence and a block come to, from the answers of their parts.
use mathlib.Core.Path.{◌≡◌, refl, sym, ap, subst, ◌∙◌}
use Prim.Native.Nat.{ℕ, ◌+◌, ◌-◌}
use mathlib.Core.Bool.{Bool, true, false}
use mathlib.Core.List.{List}
use native.Mathlib.Omega.{arith}
use lib.Dec.{eqb}
use lib.ListN.{length, get_or}
use borrow.Author.Tests.{eqb-true, eqb-false}
use Rattle.refal_ast.specs.Kinds.{tok_l_brace, tok_r_brace, tok_comma, tok_equals, tok_semicolon, tok_eof, node_condition, node_condition_block, node_ending_block}
use Rattle.refal_ast.specs.Tree.{Terms, t0, c0, c_more, e_terms, Sentences, sentence, Body, b_all, b_off, Program, size_s, size_b}
use Rattle.refal_parser.specs.Machine.{Begun, Argument, Block, pattern, argument, matching, result, ending, in_condition, in_ending, within, between, matched, conditioned, equated, blocked, ended}
use Rattle.refal_parser.specs.Machine.{Step, refuse, go, expected, among, either, begun, with_condition, to_terms, to_block, end_block, finished, left_off, leave, last_end}
use Rattle.refal_parser.specs.Ready.{tok, end_before, Few, Ready}
use Rattle.refal_parser.specs.Writers.{put_node, span_row, sentence_row, w_s, w_b}
use Rattle.refal_parser.specs.Post.{runs, Same, Refuses, leads, after, Joint}
use Rattle.refal_parser.specs.PostTerms.{ArgumentNo, ArgumentAt, Turns, ClauseAt, ClauseNo}
use Rattle.refal_parser.specs.PostBlock.{Opens, CondNo, CondAt, EndingAt, EndingNo, pick_word, is_off, sentence_end, sentence_put, added, Stops, reached, SentenceAt, CondsInv, BlockAt, is_open, BlockInv}
use Rattle.refal_parser.proofs.TokenLaws.{ready_next, end_before_lem}
use Rattle.refal_parser.proofs.Rows.{block_condition, terms_condition, block_ending, terms_ending, whole_sentence, more_conditions, more_sentences}
use Rattle.refal_parser.proofs.Rows.{size_block_condition, size_terms_condition, size_block_ending, size_terms_ending, size_sentence_lem, size_conditions, size_sentences}
use Rattle.refal_parser.proofs.Steps.{run_at_lem, other, leveled, cond_start, cond_equals, match_block, match_terms, end_terms_lem, end_start, end_block_lem, end_closed, end_left, block_close, block_eof, block_more}

-- ---- places that their terms leave by one of two kinds, and the states that go on
pub turn_pattern : (left : ℕ) (b : Block) (s : Sentences) (a : ℕ) → Turns left (pattern b s a) tok_comma tok_equals (λ (f : Terms). conditioned left b (begun s a f c0))
turn_pattern left b s a = record {
  u = λ f t x. go (within left (argument b (begun s a f c0) x) t0);
  v = λ f t x. go (equated left b (begun s a f c0) t.to);
  place = λ f t x y. refl;
  state = λ f t x y. refl;
}

turn_matching : (left : ℕ) (b : Block) (r : Begun) (o : ℕ) (g : Argument) → Turns left (matching b r o g) tok_comma tok_equals (λ (f : Terms). conditioned left b (with_condition r (to_terms o g f)))
turn_matching left b r o g = record {
  u = λ f t x. go (within left (argument b (with_condition r (to_terms o g f)) x) t0);
  v = λ f t x. go (equated left b (with_condition r (to_terms o g f)) t.to);
  place = λ f t x y. refl;
  state = λ f t x y. refl;
}

turn_result : (left : ℕ) (b : Block) (r : Begun) (q : ℕ) → Turns left (result b r q) tok_r_brace tok_semicolon (λ (f : Terms). ended left b r (e_terms f) (last_end f q))
turn_result left b r q = record {
  u = λ f t x. leave left b (left_off r (e_terms f) (last_end f q)) t.to;
  v = λ f t x. go (between left b (finished r (e_terms f) t.to));
  place = λ f t x y. refl;
  state = λ f t x y. refl;
}

module _ {w : List ℕ} {at : ℕ} (R : Ready w at) (comma : get_or w at 0 ≡ tok_comma) where
  after_comma : Ready w (at + 6)
  after_comma = ready_next w at R (other _ _ _ comma refl)

  -- ---- a condition: no argument
  pub argument_no : (left : ℕ) {a b c d e : ℕ} → ArgumentNo w (at + 6) left a b c d e → CondNo w at left a b c d e
  argument_no left h b r p =
      cond_start w at R left b r after_comma comma p
      ∙ h (argument b r (get_or w (at + 6 + 4) 0)) (λ (g : Argument). matched left b r (get_or w (at + 6 + 4) 0) g) (λ h t y z. refl) p

  -- ---- an argument
  module _ (n : ℕ) {B B₁ : List ℕ} {left j m : ℕ} (K : ArgumentAt w B B₁ (at + 6) (n + 1) n left j m) (S : Ready w j) where
    argued : (b : Block) (r : Begun) → Same w at (conditioned left b r) j (matched left b r (get_or w (at + 6 + 4) 0) K.g)
    argued b r p =
        cond_start w at R left b r after_comma comma p
        ∙ K.means (argument b r (get_or w (at + 6 + 4) 0)) (λ (g : Argument). matched left b r (get_or w (at + 6 + 4) 0) g) (λ h t y z. refl) p

    -- and a block
    module _ (brace : get_or w j 0 ≡ tok_l_brace) where
      opened : (b : Block) (r : Begun) (p : Program) → runs w at p (conditioned left b r) ≡ Opens w j left (in_condition b r (get_or w (at + 6 + 4) 0) K.g) p
      opened b r p = argued b r p ∙ match_block w j S left b r (get_or w (at + 6 + 4) 0) K.g brace p

      pub block_no : {a b c d e : ℕ} → ((q : Block) (p : Program) → Opens w j left q p ≡ refuse a b c d e) → CondNo w at left a b c d e
      block_no h b r p = opened b r p ∙ h (in_condition b r (get_or w (at + 6 + 4) 0) K.g) p

      module _ {B₂ : List ℕ} {i k : ℕ} (X : BlockAt w B₁ B₂ j (m + 1) m left i k) (Y : Ready w i) where
        block_means : (b : Block) (r : Begun) → Same w at (conditioned left b r) i (conditioned left b (with_condition r (to_block (get_or w (at + 6 + 4) 0) K.g X.v X.e)))
        block_means b r p =
            opened b r p
            ∙ X.means (in_condition b r (get_or w (at + 6 + 4) 0) K.g) p
            ∙ leveled w i left (λ (d : ℕ). conditioned d b (with_condition r (to_block (get_or w (at + 6 + 4) 0) K.g X.v X.e))) X.some p

        pub follow_no : {a b c d e : ℕ} → ((u v : Step) (p : Program) → after w i p (among (either tok_comma u tok_equals v) (tok w i) (expected tok_equals (tok w i))) ≡ refuse a b c d e) → CondNo w at left a b c d e
        follow_no h b r p = block_means b r p ∙ run_at_lem w i Y _ p ∙ h _ _ p

        pub condition_of_block : {q from to : ℕ} {B₃ B₄ : List ℕ} → from ≡ get_or w (at + 6 + 4) 0 → to ≡ end_before w i → B₃ ≡ put_node B₂ m (span_row node_condition_block from to k n) →
            B₄ ≡ put_node B₃ n (span_row node_condition from to k q) → Joint w i tok_comma tok_equals → CondAt w B B₄ at n q left i k
        condition_of_block {q} s e put put' joint = record {
          x = to_block (get_or w (at + 6 + 4) 0) K.g X.v X.e;
          on = let o = K.on in let x = X.on in omega arith;
          few = let v = X.few in omega arith;
          rows = block_condition n q B K.g.terms s (s ∙ sym K.first) (e ∙ sym X.last) K.rows K.count X.v X.rows X.count put put';
          count = size_block_condition _ _ n K.g.terms K.count _ X.v X.count;
          joint = joint;
          means = block_means;
        }

    -- and terms
    module _ (none : get_or w j 0 ≡ tok_l_brace → ⊥) where
      matches : (b : Block) (r : Begun) → Same w at (conditioned left b r) j (within left (matching b r (get_or w (at + 6 + 4) 0) K.g) t0)
      matches b r p = argued b r p ∙ match_terms w j S left b r (get_or w (at + 6 + 4) 0) K.g none p

      pub pattern_no : {a b c d e : ℕ} → ClauseNo w j left tok_comma tok_equals a b c d e → CondNo w at left a b c d e
      pattern_no h b r p = matches b r p ∙ h _ _ (turn_matching left b r (get_or w (at + 6 + 4) 0) K.g) p

      pub condition_of_terms : {B₂ B₃ : List ℕ} {q i k from to : ℕ} → ClauseAt w B₁ B₂ j m n left tok_comma tok_equals i k → from ≡ get_or w (at + 6 + 4) 0 → to ≡ end_before w i →
          B₃ ≡ put_node B₂ n (span_row node_condition from to k q) → CondAt w B B₃ at n q left i k
      condition_of_terms {q = q} Q s e put = record {
        x = to_terms (get_or w (at + 6 + 4) 0) K.g Q.g;
        on = let o = K.on in let q = Q.on in omega arith;
        few = Q.few;
        rows = let l = ap (λ (z : ℕ). last_end Q.g z) K.last ∙ Q.last in
            terms_condition n q B K.g.terms s (e ∙ sym l) K.rows K.count Q.g Q.rows Q.count put;
        count = size_terms_condition _ _ n K.g.terms K.count Q.g Q.count;
        joint = Q.joint;
        means = λ b r p. matches b r p ∙ Q.means _ _ (turn_matching left b r (get_or w (at + 6 + 4) 0) K.g) p;
      }

  -- ---- an ending block: no argument
  pub end_argument_no : (left : ℕ) {a b c d e : ℕ} → ArgumentNo w (at + 6) left a b c d e → EndingNo w at left a b c d e
  end_argument_no left h b r p = end_start w at R left b r (end_before w at) comma p ∙ h (ending b r) (λ (g : Argument). blocked left b r g) (λ h t y z. refl) p

  -- ---- an argument
  module _ (n : ℕ) {B B₁ : List ℕ} {left j m : ℕ} (K : ArgumentAt w B B₁ (at + 6) (n + 1) n left j m) (S : Ready w j) where
    pub end_argued : (b : Block) (r : Begun) → Same w at (equated left b r (end_before w at)) j (blocked left b r K.g)
    end_argued b r p = end_start w at R left b r (end_before w at) comma p ∙ K.means (ending b r) (λ (g : Argument). blocked left b r g) (λ h t y z. refl) p

    -- and a block
    module _ (brace : get_or w j 0 ≡ tok_l_brace) where
      end_opened : (b : Block) (r : Begun) (p : Program) → runs w at p (equated left b r (end_before w at)) ≡ Opens w j left (in_ending b r K.g) p
      end_opened b r p = end_argued b r p ∙ end_block_lem w j S left b r K.g brace p

      pub end_block_no : {a b c d e : ℕ} → ((q : Block) (p : Program) → Opens w j left q p ≡ refuse a b c d e) → EndingNo w at left a b c d e
      end_block_no h b r p = end_opened b r p ∙ h (in_ending b r K.g) p

      module _ {B₂ : List ℕ} {i k : ℕ} (X : BlockAt w B₁ B₂ j m n left i k) (Y : Ready w i) where
        end_blocked : (b : Block) (r : Begun) → Same w at (equated left b r (end_before w at)) i (ended left b r (end_block K.g X.v X.e) X.e)
        end_blocked b r p = end_opened b r p ∙ X.means (in_ending b r K.g) p ∙ leveled w i left (λ (d : ℕ). ended d b r (end_block K.g X.v X.e) X.e) X.some p

        pub end_follow_no : {a b c d e : ℕ} → ((u v : Step) (p : Program) → after w i p (among (either tok_r_brace u tok_semicolon v) (tok w i) (expected tok_semicolon (tok w i))) ≡ refuse a b c d e) →
            EndingNo w at left a b c d e
        end_follow_no h b r p = end_blocked b r p ∙ run_at_lem w i Y _ p ∙ h _ _ p

        pub ending_of_block : {q from to : ℕ} {B₃ : List ℕ} → from ≡ get_or w (at + 6 + 4) 0 → to ≡ end_before w i → B₃ ≡ put_node B₂ n (span_row node_ending_block from to k q) →
            Joint w i tok_r_brace tok_semicolon → EndingAt w B B₃ at n q left i k
        ending_of_block {q} s e put joint = record {
          x = end_block K.g X.v X.e;
          on = let o = K.on in let x = X.on in omega arith;
          few = let v = X.few in omega arith;
          rows = block_ending n q B K.g.terms (s ∙ sym K.first) (e ∙ sym X.last) K.rows K.count X.v X.rows X.count put;
          count = size_block_ending _ _ n K.g.terms K.count X.v X.count;
          joint = joint;
          means = λ b r p. end_blocked b r p ∙ ap (λ (e : ℕ). runs w i p (ended left b r (end_block K.g X.v X.e) e)) X.last;
        }

-- ---- an end of terms
module _ {w : List ℕ} {at : ℕ} (R : Ready w at) (none : get_or w at 0 ≡ tok_comma → ⊥) where
  pub end_terms_no : {left a b c d e : ℕ} → ClauseNo w at left tok_r_brace tok_semicolon a b c d e → EndingNo w at left a b c d e
  end_terms_no {left} h b r p = end_terms_lem w at R left b r (end_before w at) none p ∙ h _ _ (turn_result left b r (end_before w at)) p

  pub ending_of_terms : {B B' : List ℕ} {n q left j m : ℕ} → ClauseAt w B B' at n q left tok_r_brace tok_semicolon j m → EndingAt w B B' at n q left j m
  ending_of_terms {B} {B'} {n} {q} {left} {j} {m} K = record {
    x = e_terms K.g;
    on = K.on;
    few = K.few;
    rows = terms_ending K.g n q B K.rows;
    count = size_terms_ending K.g n K.count;
    joint = K.joint;
    means = λ b r p. end_terms_lem w at R left b r (end_before w at) none p
        ∙ K.means _ _ (turn_result left b r (end_before w at)) p
        ∙ ap (λ (e : ℕ). runs w j p (ended left b r (e_terms K.g) e)) K.last;
  }

-- ---- one condition more
pub one_condition : {w B₀ B B' : List ℕ} {j m q left i k i' k' : ℕ} → length B' ≡ length B → CondAt w B B' i k q left i' k' → CondsInv w B₀ B j m q left i k → CondsInv w B₀ B' j m q left i' k'
one_condition {w} {B₀} {B} {B'} {j} {m} {q} same X I = record {
  cs = c_more I.cs X.x;
  joint = X.joint;
  on = let h = X.on in let g = I.on in omega arith;
  few = X.few;
  same = same ∙ I.same;
  rows = more_conditions m B₀ q I.cs X.x I.count I.rows X.rows;
  count = size_conditions m I.cs X.x I.count X.count;
  means = λ b s a f p. I.means b s a f p ∙ X.means b (begun s a f I.cs) p;
}

-- ---- a sentence: its pattern and conditions
module _ (n : ℕ) {w B B₁ B₂ : List ℕ} {at left j m i k : ℕ} (Q : ClauseAt w B B₁ at (n + 1) n left tok_comma tok_equals j m) (I : CondsInv w B₁ B₂ j m n left i k) where
  abbrev sofar : Sentences → Begun
  sofar s = begun s (get_or w (at + 4) 0) Q.g I.cs

  conditions : (b : Block) (s : Sentences) → Same w at (within left (pattern b s (get_or w (at + 4) 0)) t0) i (conditioned left b (sofar s))
  conditions b s p =
      Q.means _ _ (turn_pattern left b s (get_or w (at + 4) 0)) p
      ∙ I.means b s (get_or w (at + 4) 0) Q.g p

  pub condition_no : {a b c d e : ℕ} → CondNo w i left a b c d e → (q : Block) (s : Sentences) → Refuses w at (within left (pattern q s (get_or w (at + 4) 0)) t0) a b c d e
  condition_no h b s p = conditions b s p ∙ h b (sofar s) p

  -- and its end
  module _ (S : Ready w i) (equals : get_or w i 0 ≡ tok_equals) where
    equals_on : (b : Block) (s : Sentences) → Same w at (within left (pattern b s (get_or w (at + 4) 0)) t0) (i + 6) (equated left b (sofar s) (end_before w (i + 6)))
    equals_on b s p =
        conditions b s p
        ∙ cond_equals w i S left b (sofar s) equals p
        ∙ ap (λ (e : ℕ). runs w (i + 6) p (equated left b (sofar s) e)) (end_before_lem w i)

    pub ending_no : {a b c d e : ℕ} → EndingNo w (i + 6) left a b c d e → (q : Block) (s : Sentences) → Refuses w at (within left (pattern q s (get_or w (at + 4) 0)) t0) a b c d e
    ending_no h b s p = equals_on b s p ∙ h b (sofar s) p

    module _ {B₃ : List ℕ} {j' m' q : ℕ} (N : EndingAt w B₂ B₃ (i + 6) k n left j' m') (Y : Ready w j') where
      -- by whether a `}` stands where the `;` may
      sentence_at : (off : Bool) → eqb (get_or w j' 0) tok_r_brace ≡ off → {B₄ : List ℕ} {next : ℕ} → next ≡ pick_word off j' (j' + 6) →
          B₄ ≡ put_node B₃ n (sentence_row off (get_or w (at + 4) 0) (end_before w (pick_word off j' (j' + 6))) m' q) → SentenceAt w B B₄ at n q left next m'
      sentence_at true e {B₄} {next} z put = subst (λ (x : ℕ). SentenceAt w B B₄ at n q left x m') (sym z) (record {
        x = sentence (get_or w (at + 4) 0) Q.g I.cs N.x (end_before w j');
        off = true;
        on = let h₁ = Q.on in let h₂ = I.on in let h₃ = N.on in omega arith;
        stops = (eqb-true (get_or w j' 0) tok_r_brace e, N.few);
        rows = whole_sentence _ _ n Q.g Q.count true q B I.cs N.x I.count N.count (let h₁ = Q.rows in let h₂ = I.rows in let h₃ = N.rows in cc);
        count = size_sentence_lem _ _ n Q.g Q.count I.cs N.x I.count N.count;
        means = λ b s p. equals_on b s p ∙ N.means b (sofar s) p ∙ end_left w j' Y left b (sofar s) N.x (end_before w j') (eqb-true (get_or w j' 0) tok_r_brace e) p;
      })
      sentence_at false e {B₄} {next} y put =
          let z = N.joint (eqb-false (get_or w j' 0) tok_r_brace e) in
          subst (λ (x : ℕ). SentenceAt w B B₄ at n q left x m') (sym y) (record {
            x = sentence (get_or w (at + 4) 0) Q.g I.cs N.x (get_or w (j' + 5) 0);
            off = false;
            on = let h₁ = Q.on in let h₂ = I.on in let h₃ = N.on in omega arith;
            stops = let f = N.few in omega arith;
            rows = whole_sentence _ _ n Q.g Q.count false q B I.cs N.x I.count N.count (let h₁ = Q.rows in let h₂ = I.rows in let h₃ = N.rows in let h₄ = end_before_lem w j' in cc);
            count = size_sentence_lem _ _ n Q.g Q.count I.cs N.x I.count N.count;
            means = λ b s p. equals_on b s p ∙ N.means b (sofar s) p ∙ end_closed w j' Y left b (sofar s) N.x (end_before w j') z p;
          })

      pub sentence_of_parts : {B₄ : List ℕ} {from next : ℕ} → from ≡ get_or w (at + 4) 0 → next ≡ sentence_end w j' → B₄ ≡ sentence_put w B₃ from j' n m' q → SentenceAt w B B₄ at n q left next m'
      sentence_of_parts s e put = sentence_at (is_off w j') refl e (rw s at put)

-- ---- a block: one sentence more, where neither its `}` nor Eof stands
module _ {w B₀ B : List ℕ} {at n q left i m : ℕ} (R : Ready w i) (I : BlockInv w B₀ B at n q left i m) (unclosed : get_or w i 0 ≡ tok_r_brace → ⊥) (unended : get_or w i 0 ≡ tok_eof → ⊥) where
  -- all its sentences have their `;`
  pub record Sofar : Type 0 where
    pub s : Sentences
    pub few : Few m i 0
    pub rows : B ≡ w_s s n q B₀
    pub count : m ≡ n + size_s s
    pub means : (b : Block) (p : Program) → Opens w at left b p ≡ runs w i p (between (left - 1) b s)

  pub sofar_all : Sofar
  unfolding w_b size_b
  sofar_all = by I.v I.stops I.rows I.count I.means
    where
      by : (v : Body) → Stops (is_open v) w i m → B ≡ w_b v n q B₀ → m ≡ n + size_b v → ((b : Block) (p : Program) → Opens w at left b p ≡ reached w i (left - 1) b v p) → Sofar
      by (b_all s) f r c h = record { s = s; few = f; rows = r; count = c; means = h }
      by (b_off s x) f r c h = absurd (unclosed f.0)

  pub sentence_no : {a b c d e : ℕ} → ((q : Block) (s : Sentences) → Refuses w i (within (left - 1) (pattern q s (get_or w (i + 4) 0)) t0) a b c d e) →
      (q : Block) (p : Program) → Opens w at left q p ≡ refuse a b c d e
  sentence_no h b p = sofar_all.means b p ∙ block_more w i R (left - 1) b sofar_all.s unclosed unended p ∙ h b sofar_all.s p

  pub one_sentence : {B' : List ℕ} {j m' : ℕ} → length B' ≡ length B → SentenceAt w B B' i m q (left - 1) j m' → BlockInv w B₀ B' at n q left j m'
  one_sentence {B'} {j} {m'} same S = record {
    v = added S.off sofar_all.s S.x;
    on = let h = S.on in let g = I.on in omega arith;
    stops = stopped S.off S.stops;
    same = same ∙ I.same;
    rows = more_sentences n B₀ q S.off sofar_all.s S.x sofar_all.count sofar_all.rows S.rows;
    count = size_sentences n S.off sofar_all.s S.x sofar_all.count S.count;
    means = λ b p. sofar_all.means b p ∙ block_more w i R (left - 1) b sofar_all.s unclosed unended p ∙ S.means b sofar_all.s p;
  }
    where
      stopped : (off : Bool) → Stops off w j m' → Stops (is_open (added off sofar_all.s S.x)) w j m'
      stopped true h = h
      stopped false h = h

-- Eof, where its `}` is wanted
pub block_unclosed : {w B₀ B : List ℕ} {at n q left i m : ℕ} (R : Ready w i) (I : BlockInv w B₀ B at n q left i m) → (get_or w i 0 ≡ tok_r_brace → ⊥) → get_or w i 0 ≡ tok_eof →
    (b : Block) (p : Program) → Opens w at left b p ≡ refuse 35 tok_r_brace (get_or w i 0) (get_or w (i + 4) 0) (get_or w (i + 5) 0)
block_unclosed {w} {B₀} {B} {at} {n} {q} {left} {i} {m} R I unclosed eof b p = by I.v I.stops (I.means b p)
  where
    by : (v : Body) → Stops (is_open v) w i m → Opens w at left b p ≡ reached w i (left - 1) b v p → Opens w at left b p ≡ refuse 35 tok_r_brace (get_or w i 0) (get_or w (i + 4) 0) (get_or w (i + 5) 0)
    by (b_all s) f h = h ∙ block_eof w i R (left - 1) b s unclosed eof p
    by (b_off s x) f h = absurd (unclosed f.0)

-- and its `}`
module _ {w : List ℕ} {i : ℕ} (R : Ready w i) (brace : get_or w i 0 ≡ tok_r_brace) where
  closed : (d : ℕ) (b : Block) (v : Body) (p : Program) → reached w i d b v p ≡ leads w (i + 6) p (leave d b v (get_or w (i + 5) 0))
  closed d b (b_all s) p = block_close w i R d b s brace p
  closed d b (b_off s x) p = refl

  low : (v : Body) (m : ℕ) → Stops (is_open v) w i m → Few m (i + 6) 0
  low (b_all s) m f = omega arith
  low (b_off s x) m f = let g = f.1 in omega arith

  pub block_of_sentences : {B B' : List ℕ} {at n q left m : ℕ} → (left ≡ 0 → ⊥) → BlockInv w B B' at n q left i m → BlockAt w B B' at n q left (i + 6) m
  block_of_sentences {B} {B'} {at} {n} {q} {left} {m} some I = record {
    v = I.v;
    e = get_or w (i + 5) 0;
    some = some;
    on = let g = I.on in omega arith;
    few = low I.v m I.stops;
    rows = I.rows;
    count = I.count;
    last = end_before_lem w i;
    means = λ b p. I.means b p ∙ closed (left - 1) b I.v p;
  }
