-- `condition`, `ending`, `sentence` and `block` of refal_parser::place::Place meet their contracts: conditions, sentences and blocks as the machine reads them; the falling number is the depth left with the tokens left.
use Rattle.std.proofs.Common.{refl, ap, ◌∙◌, ℕ, arith}
use Rattle.refal_ast.specs.Tree.{c0, s0, b_all, size_c, size_s}
use Rattle.refal_parser.specs.Got.{At}
use Rattle.refal_parser.specs.Machine.{between}
use Rattle.refal_parser.specs.Writers.{w_c, w_s}
use Rattle.refal_parser.proofs.TokenLaws.{is_kind, not_kind}
use Rattle.refal_parser.proofs.Steps.{got, stays, not_got, is_at, is_no, passed, turned, put_as, other, open_none, open_some, end_unopened}
use Rattle.refal_parser.proofs.BlockLaws.{turn_pattern, argument_no, block_no, follow_no, condition_of_block, pattern_no, condition_of_terms, condition_no, ending_no, sentence_of_parts, one_condition, end_argument_no, end_argued, end_block_no, end_follow_no, ending_of_block, end_terms_no, ending_of_terms, sofar_all, sentence_no, one_sentence, block_unclosed, block_of_sentences}
use Rattle.refal_parser.proofs.place.Place.+block_condition_ending_sentence.Goals as goal

pub block-returns-then-level-eq0 : goal.block-returns-then-level-eq0
block-returns-then-level-eq0 t c = is_no c.present.ensures (λ b. open_none c.args.self.tokens.now c.args.self.at c.args.level.left (λ (d : ℕ). between d b s0) c.if-level-eq0.true)

pub block-next-place-requires : goal.block-next-place-requires
block-next-place-requires t c = other _ _ _ c.requires.1 refl

pub block-loop-place-init : goal.block-loop-place-init
unfolding size_s w_s
block-loop-place-init t c = let N = c.next-place.ensures in
    rw N.1 (refl, record { v = b_all s0; on = omega arith; stops = omega arith; same = refl; rows = refl; count = omega arith; means = λ b. open_some c.args.self.tokens.now c.args.self.at c.args.level.left (λ (d : ℕ). between d b s0) c.if-level-eq0.false })

pub block-next-requires : goal.block-next-requires
block-next-requires t c = other _ _ _ (is_kind c.kind.ensures c.in-RBrace.is) refl

pub block-returns-in-RBrace : goal.block-returns-in-RBrace
block-returns-in-RBrace t c = let I = c.loop-place.invariant in
    rw c.next.ensures.1 (is_at refl I.0 (block_of_sentences (rw I.0 at c.loop-place.place.ready) (is_kind (rw I.0 at c.kind.ensures) c.in-RBrace.is) c.if-level-eq0.false I.1))

pub block-returns-in-Eof : goal.block-returns-in-Eof
block-returns-in-Eof t c = let I = c.loop-place.invariant in
    let k₁₇ = is_kind (rw I.0 at c.kind.ensures) c.in-Eof.is in
    is_no (rw I.0 at c.present-in-Eof.ensures) (block_unclosed (rw I.0 at c.loop-place.place.ready) I.1 (other _ _ _ k₁₇ refl) k₁₇)

pub block-sentence-requires : goal.block-sentence-requires
block-sentence-requires t c = let I = c.loop-place.invariant in
    let K = rw I.0 at c.kind.ensures in
    let R = rw I.0 at c.loop-place.place.ready in
    let S = sofar_all R I.1 (not_kind K c.in_default.not-RBrace) (not_kind K c.in_default.not-Eof) in
    let o = I.1.on in let n = c.if-level-eq0.false in let g = c.args.self.ready in rw I.0 (omega arith, S.few)

pub block-returns-in_err-place-in_default : goal.block-returns-in_err-place-in_default
block-returns-in_err-place-in_default t c = let I = c.loop-place.invariant in
    let K = rw I.0 at c.kind.ensures in
    passed _ _ c.from_residual.ensures.1 (sentence_no (rw I.0 at c.loop-place.place.ready) I.1 (not_kind K c.in_default.not-RBrace) (not_kind K c.in_default.not-Eof)
    (not_got (rw I.0 at c.in_err-place-in_default.ensures)))

pub block-loop-place-smaller : goal.block-loop-place-smaller
block-loop-place-smaller t c = let I = c.loop-place.invariant in
    let E = rw I.0 at c.in_ok-place-in_default.ensures in
    let S = got E in let R = rw (stays E) at c.in_ok-place-in_default.place.ready in let q = S.on in omega arith

pub block-loop-place-preserved : goal.block-loop-place-preserved
block-loop-place-preserved t c = let I = c.loop-place.invariant in
    let K = rw I.0 at c.kind.ensures in
    let X = rw I.0 at c.in_ok-place-in_default.ensures in
    (stays X, one_sentence (rw I.0 at c.loop-place.place.ready) I.1 (not_kind K c.in_default.not-RBrace) (not_kind K c.in_default.not-Eof) c.sentence.auto.rows (got X))

pub condition-next-start-requires : goal.condition-next-start-requires
condition-next-start-requires t c = other _ _ _ c.requires.1 refl

pub condition-argument-requires : goal.condition-argument-requires
condition-argument-requires t c = let h = c.requires.0 in rw c.next-start.ensures.1 (omega arith)

pub condition-returns-in_err-asked : goal.condition-returns-in_err-asked
condition-returns-in_err-asked t c =
    passed _ _ c.from_residual.ensures.1 (argument_no c.args.self.ready c.requires.1 _ (not_got (rw c.next-start.ensures.1 at c.in_err-asked.ensures)))

pub condition-overflow_add-inside : goal.condition-overflow_add-inside
condition-overflow_add-inside t c = let A = got (rw c.next-start.ensures.1 at c.in_ok-asked.ensures) in
    let R = c.in_ok-asked.asked.ready in let o = A.on in let v₁ = A.few in omega arith

pub condition-block-requires : goal.condition-block-requires
condition-block-requires t c = let E = rw c.next-start.ensures.1 at c.in_ok-asked.ensures in
    let A = got E in
    let R = rw (stays E) at c.in_ok-asked.asked.ready in
    let o = A.on in let v₁ = A.few in let g = c.args.self.ready in
    (rw (stays E) (omega arith), (omega arith, is_kind c.kind.ensures c.in-LBrace.is))

pub condition-returns-in_err-end : goal.condition-returns-in_err-end
condition-returns-in_err-end t c = let E = rw c.next-start.ensures.1 at c.in_ok-asked.ensures in
    let s = stays E in
    passed _ _ c.from_residual-in_err-end.ensures.1 (block_no c.args.self.ready c.requires.1 _ (got E) (rw s at c.in_ok-asked.asked.ready) (is_kind (rw s at c.kind.ensures) c.in-LBrace.is) (not_got (rw s at c.in_err-end.ensures)))

pub condition-overflow_cast-within : goal.condition-overflow_cast-within
condition-overflow_cast-within t c = let A = got c.in_ok-asked.ensures in let R = c.in_ok-asked.asked.ready in let v₁ = A.few in omega arith

pub condition-since-part-requires : goal.condition-since-part-requires
condition-since-part-requires t c = let B = got c.in_ok-end.ensures in let Z = c.in_ok-end.end.ready in let q = B.on in let v = B.few in (omega arith, omega arith)

pub condition-since-whole-requires : goal.condition-since-whole-requires
condition-since-whole-requires t c = let B = got c.in_ok-end.ensures in let Z = c.in_ok-end.end.ready in let q = B.on in let v = B.few in (omega arith, omega arith)

pub condition-put-requires : goal.condition-put-requires
condition-put-requires t c = let A = got c.in_ok-asked.ensures in let R = c.in_ok-asked.asked.ready in let v₁ = A.few in omega arith

pub condition-returns-in_err-follows : goal.condition-returns-in_err-follows
condition-returns-in_err-follows t c = let E = rw c.next-start.ensures.1 at c.in_ok-asked.ensures in
    let X = rw (stays E) at c.in_ok-end.ensures in
    passed _ _ c.from_residual-in_err-follows.ensures.1 (follow_no c.args.self.ready c.requires.1 _ (got E) (rw (stays E) at c.in_ok-asked.asked.ready) (is_kind (rw (stays E) at c.kind.ensures) c.in-LBrace.is)
    (got X) (rw (stays X) at c.in_ok-end.end.ready) ((not_got (rw (stays X) at c.in_err-follows.ensures)).of_block refl))

pub condition-returns-in-LBrace : goal.condition-returns-in-LBrace
condition-returns-in-LBrace t c = let E = rw c.next-start.ensures.1 at c.in_ok-asked.ensures in
    let X = rw (stays E) at c.in_ok-end.ensures in
    let s = stays X in
    let F = rw c.next-start.ensures.1 at c.token-from.ensures in
    is_at refl s (condition_of_block c.args.self.ready c.requires.1 _ (got E) (rw (stays E) at c.in_ok-asked.asked.ready) (is_kind (rw (stays E) at c.kind.ensures) c.in-LBrace.is)
    (got X) (rw s at c.in_ok-end.end.ready) F.from refl (put_as _ _ _ c.put.ensures (rw (c.since-part.ensures.1, s) at c.bare.ensures)) (put_as _ _ _ c.put-in-LBrace.ensures (rw (c.since-whole.ensures.1, s) at c.bare-in-LBrace.ensures))
    (got (rw s at c.in_ok-follows.ensures)))

pub condition-clause-requires : goal.condition-clause-requires
condition-clause-requires t c = let A = got c.in_ok-asked.ensures in let R = c.in_ok-asked.asked.ready in let o = A.on in let v₁ = A.few in omega arith

pub condition-returns-in_err-end-2 : goal.condition-returns-in_err-end-2
condition-returns-in_err-end-2 t c = let E = rw c.next-start.ensures.1 at c.in_ok-asked.ensures in
    let s = stays E in
    passed _ _ c.from_residual-in_err-end-2.ensures.1 (pattern_no c.args.self.ready c.requires.1 _ (got E) (rw s at c.in_ok-asked.asked.ready) (not_kind (rw s at c.kind.ensures) c.in_default.not-LBrace)
    (not_got (rw s at c.in_err-end-2.ensures)))

pub condition-since-whole-requires-2 : goal.condition-since-whole-requires-2
condition-since-whole-requires-2 t c = let A = got (rw c.next-start.ensures.1 at c.in_ok-asked.ensures) in
    let Q = got c.in_ok-end-2.ensures in let Z = c.in_ok-end-2.end.ready in let o = A.on in let q = Q.on in let v = Q.few in (omega arith, omega arith)

pub condition-returns : goal.condition-returns
condition-returns t c = let E = rw c.next-start.ensures.1 at c.in_ok-asked.ensures in
    let s = stays E in
    let Q = rw s at c.in_ok-end-2.ensures in
    let F = rw c.next-start.ensures.1 at c.token-from.ensures in
    is_at refl (stays Q) (condition_of_terms c.args.self.ready c.requires.1 _ (got E) (rw s at c.in_ok-asked.asked.ready) (not_kind (rw s at c.kind.ensures) c.in_default.not-LBrace) (got Q) F.from refl
    (put_as _ _ _ c.put-2.ensures (rw (c.since-whole-2.ensures.1, stays Q) at c.bare-2.ensures)))

pub ending-returns-in_default : goal.ending-returns-in_default
ending-returns-in_default t c = let n = not_kind c.kind.ensures c.in_default.not-Comma in
    turned c.clause.ensures (λ j m K. ending_of_terms c.args.self.ready n K) (λ a z k d e no. end_terms_no c.args.self.ready n no)

pub ending-next-start-requires : goal.ending-next-start-requires
ending-next-start-requires t c = other _ _ _ (is_kind c.kind.ensures c.in-Comma.is) refl

pub ending-argument-requires : goal.ending-argument-requires
ending-argument-requires t c = let h = c.requires in rw c.next-start.ensures.1 (omega arith)

pub ending-returns-in_err-asked : goal.ending-returns-in_err-asked
ending-returns-in_err-asked t c =
    passed _ _ c.from_residual.ensures.1 (end_argument_no c.args.self.ready (is_kind c.kind.ensures c.in-Comma.is) _ (not_got (rw c.next-start.ensures.1 at c.in_err-asked.ensures)))

pub ending-returns-in_default-kind : goal.ending-returns-in_default-kind
ending-returns-in_default-kind t c = let E = rw c.next-start.ensures.1 at c.in_ok-asked.ensures in
    let s = stays E in
    let A = got E in
    let S = rw s at c.in_ok-asked.asked.ready in
    let k₁₃ = is_kind c.kind.ensures c.in-Comma.is in
    is_no (rw s at c.present.ensures) (λ b r p. end_argued c.args.self.ready k₁₃ _ A S b r p
    ∙ end_unopened _ _ S _ b r A.g (not_kind (rw s at c.kind-2.ensures) c.in_default-kind.not-LBrace) p)

pub ending-block-requires : goal.ending-block-requires
ending-block-requires t c = let E = rw c.next-start.ensures.1 at c.in_ok-asked.ensures in
    let A = got E in
    let R = rw (stays E) at c.in_ok-asked.asked.ready in
    let o = A.on in let v₁ = A.few in let g = c.args.self.ready in
    (rw (stays E) (omega arith), (omega arith, is_kind c.kind-2.ensures c.in-LBrace.is))

pub ending-returns-in_err-end : goal.ending-returns-in_err-end
ending-returns-in_err-end t c = let E = rw c.next-start.ensures.1 at c.in_ok-asked.ensures in
    let s = stays E in
    passed _ _ c.from_residual-in_err-end.ensures.1 (end_block_no c.args.self.ready (is_kind c.kind.ensures c.in-Comma.is) _ (got E) (rw s at c.in_ok-asked.asked.ready) (is_kind (rw s at c.kind-2.ensures) c.in-LBrace.is)
    (not_got (rw s at c.in_err-end.ensures)))

pub ending-since-whole-requires : goal.ending-since-whole-requires
ending-since-whole-requires t c = let B = got c.in_ok-end.ensures in let Z = c.in_ok-end.end.ready in let q = B.on in let v = B.few in (omega arith, omega arith)

pub ending-returns-in_err-follows : goal.ending-returns-in_err-follows
ending-returns-in_err-follows t c = let E = rw c.next-start.ensures.1 at c.in_ok-asked.ensures in
    let X = rw (stays E) at c.in_ok-end.ensures in
    passed _ _ c.from_residual-in_err-follows.ensures.1 (end_follow_no c.args.self.ready (is_kind c.kind.ensures c.in-Comma.is) _ (got E) (rw (stays E) at c.in_ok-asked.asked.ready)
    (is_kind (rw (stays E) at c.kind-2.ensures) c.in-LBrace.is) (got X) (rw (stays X) at c.in_ok-end.end.ready) ((not_got (rw (stays X) at c.in_err-follows.ensures)).of_block refl))

pub ending-returns : goal.ending-returns
ending-returns t c = let E = rw c.next-start.ensures.1 at c.in_ok-asked.ensures in
    let X = rw (stays E) at c.in_ok-end.ensures in
    let s = stays X in
    let F = rw c.next-start.ensures.1 at c.token-from.ensures in
    is_at refl s (ending_of_block c.args.self.ready (is_kind c.kind.ensures c.in-Comma.is) _ (got E) (rw (stays E) at c.in_ok-asked.asked.ready)
    (is_kind (rw (stays E) at c.kind-2.ensures) c.in-LBrace.is) (got X) (rw s at c.in_ok-end.end.ready) F.from refl
    (put_as _ _ _ c.put.ensures (rw (c.since-whole.ensures.1, s) at c.bare.ensures)) (got (rw s at c.in_ok-follows.ensures)))

pub sentence-returns-in_err-place : goal.sentence-returns-in_err-place
sentence-returns-in_err-place t c = passed _ _ c.from_residual.ensures.1 (λ b s p. not_got c.in_err-place.ensures _ _ (turn_pattern _ b s _) p)

pub sentence-loop-place-init : goal.sentence-loop-place-init
unfolding size_c w_c
sentence-loop-place-init t c = let Q = got c.in_ok-place.ensures in
    (stays c.in_ok-place.ensures, record { cs = c0; joint = Q.joint; on = omega arith; few = Q.few; same = refl; rows = refl; count = omega arith; means = λ b s a f p. refl })

pub sentence-condition-requires : goal.sentence-condition-requires
sentence-condition-requires t c = let I = c.loop-place.invariant in
    let Q = got c.in_ok-place.ensures in
    let o = I.1.on in let q = Q.on in let R = rw I.0 at c.loop-place.place.ready in let g = c.args.self.ready in
    (rw I.0 (omega arith), (I.1.few, is_kind c.kind.ensures c.in-Comma.is))

pub sentence-returns-in_err-place-2 : goal.sentence-returns-in_err-place-2
sentence-returns-in_err-place-2 t c = let I = c.loop-place.invariant in
    passed _ _ c.from_residual-in_err-place-2.ensures.1 (condition_no _ (got c.in_ok-place.ensures) I.1 (not_got (rw I.0 at c.in_err-place-2.ensures)))

pub sentence-loop-place-smaller : goal.sentence-loop-place-smaller
sentence-loop-place-smaller t c = let I = c.loop-place.invariant in
    let E = rw I.0 at c.in_ok-place-2.ensures in
    let X = got E in let R = rw (stays E) at c.in_ok-place-2.place.ready in let q = X.on in omega arith

pub sentence-loop-place-preserved : goal.sentence-loop-place-preserved
sentence-loop-place-preserved t c = let I = c.loop-place.invariant in
    let X = rw I.0 at c.in_ok-place-2.ensures in
    (stays X, one_condition c.condition.auto.rows (got X) I.1)

pub sentence-next-requires : goal.sentence-next-requires
sentence-next-requires t c = let I = c.loop-place.invariant in
    let k₁₅ = I.1.joint (not_kind (rw I.0 at c.kind.ensures) c.in_default.not-Comma) in
    rw I.0 (other _ _ _ k₁₅ refl)

pub sentence-ending-requires : goal.sentence-ending-requires
sentence-ending-requires t c = let I = c.loop-place.invariant in
    let Q = got c.in_ok-place.ensures in
    let o = I.1.on in
    let q = Q.on in
    let R = rw I.0 at c.loop-place.place.ready in
    let v = I.1.few in let g = c.args.self.ready in rw (c.next.ensures.1, I.0) (omega arith, omega arith)

pub sentence-returns-in_err-end : goal.sentence-returns-in_err-end
sentence-returns-in_err-end t c = let I = c.loop-place.invariant in
    passed _ _ c.from_residual-in_err-end.ensures.1 (ending_no _ (got c.in_ok-place.ensures) I.1 (rw I.0 at c.loop-place.place.ready) (I.1.joint (not_kind (rw I.0 at c.kind.ensures) c.in_default.not-Comma))
    (not_got (rw (c.next.ensures.1, I.0) at c.in_err-end.ensures)))

pub sentence-put_sentence-requires : goal.sentence-put_sentence-requires
sentence-put_sentence-requires t c = let I = c.loop-place.invariant in
    let E = rw (c.next.ensures.1, I.0) at c.in_ok-end.ensures in
    let N = got E in
    let R = c.in_ok-end.end.ready in let o = N.on in let v = N.few in let h = c.requires in let g = c.args.self.ready in rw (stays E) (omega arith, N.joint, omega arith, omega arith)

pub sentence-returns : goal.sentence-returns
sentence-returns t c = let I = c.loop-place.invariant in
    let E = rw (c.next.ensures.1, I.0) at c.in_ok-end.ensures in
    let S = rw (stays E) at c.put_sentence.ensures in
    let r = c.put_sentence.result in
    is_at (ap (λ (m : ℕ). At r.tokens.now r.at m) S.row) S.tokens
    (sentence_of_parts _ (got c.in_ok-place.ensures) I.1 (rw I.0 at c.loop-place.place.ready) (I.1.joint (not_kind (rw I.0 at c.kind.ensures) c.in_default.not-Comma)) (got E) (rw (stays E) at c.in_ok-end.end.ready) c.token.ensures.from S.next S.put)
