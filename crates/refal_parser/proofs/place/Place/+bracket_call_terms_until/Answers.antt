-- `bracket`, `call`, `terms` and `until` of refal_parser::place::Place meet their contracts: terms, brackets and calls as the machine reads them; the falling number is the depth left.
use Rattle.std.proofs.Common.{◌≡◌, refl, ap, ◌∙◌, arith, rules}
use Rattle.refal_ast.specs.Tree.{t0, symbol, variable, size_t}
use Rattle.refal_parser.specs.Begins.{Symbol, Variable, UnknownVariable}
use Rattle.refal_parser.specs.Ready.{term_at}
use Rattle.refal_parser.specs.Writers.{w_t}
use Rattle.refal_parser.proofs.TokenLaws.{is_kind, not_kind}
use Rattle.refal_parser.proofs.Steps.{got, stays, not_got, is_at, is_no, passed, turned, put_as, begins, term_not_eof, other, term_step, bracket_deep, call_deep, call_open, call_nameless}
use Rattle.refal_parser.proofs.TermLaws.{one_leaf_lem, one_term, until_no, until_of_terms, bracket_no, bracket_of_terms, call_no, call_of_terms}
use Rattle.refal_parser.proofs.place.Place.+bracket_call_terms_until.Goals as goal

pub bracket-returns-then-level-eq0 : goal.bracket-returns-then-level-eq0
bracket-returns-then-level-eq0 t c = is_no c.present.ensures (λ x f. bracket_deep _ _ c.args.self.ready _ x f c.requires.1 c.if-level-eq0.true)

pub bracket-next-body-requires : goal.bracket-next-body-requires
bracket-next-body-requires t c = term_not_eof c.args.self.tokens.now c.args.self.at (ap begins c.requires.1)

pub bracket-until-requires : goal.bracket-until-requires
bracket-until-requires t c = rw c.next-body.ensures.1 (omega arith, (omega arith, omega arith))

pub bracket-returns-in_err-end : goal.bracket-returns-in_err-end
bracket-returns-in_err-end t c =
    passed _ _ c.from_residual.ensures.1 (bracket_no c.args.self.ready c.requires.1 c.if-level-eq0.false (not_got (rw c.next-body.ensures.1 at c.in_err-end.ensures)))

pub bracket-since-whole-requires : goal.bracket-since-whole-requires
bracket-since-whole-requires t c = let U = got c.in_ok-end.ensures in let R = c.in_ok-end.end.ready in let h = U.closed.on in let f = U.few in (omega arith, omega arith)

pub bracket-returns : goal.bracket-returns
bracket-returns t c = let E = rw c.next-body.ensures.1 at c.in_ok-end.ensures in
    let s = stays E in
    is_at refl s (bracket_of_terms c.args.self.ready c.requires.1 c.if-level-eq0.false _ (got E) c.token.ensures.from refl (put_as _ _ _ c.put.ensures (rw (c.since-whole.ensures.1, s) at c.bare.ensures)))

pub call-returns-then-level-eq0 : goal.call-returns-then-level-eq0
call-returns-then-level-eq0 t c = is_no c.present.ensures (λ x f. call_deep _ _ c.args.self.ready _ x f c.requires.1 c.if-level-eq0.true)

pub call-next-named-requires : goal.call-next-named-requires
call-next-named-requires t c = term_not_eof c.args.self.tokens.now c.args.self.at (ap begins c.requires.1)

pub call-returns-in_default : goal.call-returns-in_default
call-returns-in_default t c = let N = rw c.next-named.ensures.1 at c.token-name.ensures in
    is_no (rw c.next-named.ensures.1 at c.taken.ensures) (λ x f p. call_open _ _ c.args.self.ready _ x f c.requires.1 c.if-level-eq0.false p
    ∙ call_nameless _ _ c.next-named.ensures.0 _ x f _ (not_kind N.kind c.in_default.not-Identifier) p)

pub call-next-body-requires : goal.call-next-body-requires
call-next-body-requires t c = other _ _ _ (is_kind c.token-name.ensures.kind c.in-Identifier.is) refl

pub call-until-requires : goal.call-until-requires
call-until-requires t c = rw (c.next-body.ensures.1, c.next-named.ensures.1) (omega arith, (omega arith, omega arith))

pub call-returns-in_err-end : goal.call-returns-in_err-end
call-returns-in_err-end t c = let N = rw c.next-named.ensures.1 at c.token-name.ensures in
    let E = rw (c.next-body.ensures.1, c.next-named.ensures.1) at c.in_err-end.ensures in
    passed _ _ c.from_residual.ensures.1 (call_no c.args.self.ready c.requires.1 c.if-level-eq0.false c.next-named.ensures.0 (is_kind N.kind c.in-Identifier.is) (not_got E))

pub call-since-whole-requires : goal.call-since-whole-requires
call-since-whole-requires t c = let U = got c.in_ok-end.ensures in let R = c.in_ok-end.end.ready in let h = U.closed.on in let f = U.few in (omega arith, omega arith)

pub call-returns : goal.call-returns
call-returns t c = let N = rw c.next-named.ensures.1 at c.token-name.ensures in
    let E = rw (c.next-body.ensures.1, c.next-named.ensures.1) at c.in_ok-end.ensures in
    let s = stays E in
    is_at refl s (call_of_terms c.args.self.ready c.requires.1 c.if-level-eq0.false c.next-named.ensures.0 (is_kind N.kind c.in-Identifier.is) _ (got E)
    N.start N.len c.token.ensures.from refl (put_as _ _ _ c.put.ensures (rw (c.since-whole.ensures.1, s) at c.named.ensures)))

pub terms-invariant_of-leaf : goal.terms-invariant_of-leaf
terms-invariant_of-leaf t c = let R = c.loop-symbol.place.ready in let f = c.loop-symbol.invariant.1.few in record { few = omega arith }

pub terms-loop-symbol-init : goal.terms-loop-symbol-init
unfolding size_t w_t
terms-loop-symbol-init t c =
    (refl, record { g = t0; on = omega arith; few = omega arith; same = refl; rows = refl; count = omega arith; first = refl; last = refl; means = λ x p. refl })

pub terms-next-place-requires : goal.terms-next-place-requires
terms-next-place-requires t c = let I = c.loop-symbol.invariant in
    let T = rw I.0 at c.token-first.ensures in
    let k : term_at c.args.self.tokens.now c.loop-symbol.place.at ≡ Symbol c.in-Ok-Some-Symbol.symbol = search rules in
    rw I.0 (term_not_eof c.args.self.tokens.now c.loop-symbol.place.at (ap begins k))

pub terms-loop-symbol-preserved-in-Ok-Some-Symbol : goal.terms-loop-symbol-preserved-in-Ok-Some-Symbol
terms-loop-symbol-preserved-in-Ok-Some-Symbol t c = let I = c.loop-symbol.invariant in
    let T = rw I.0 at c.token-first.ensures in
    let k : term_at c.args.self.tokens.now c.loop-symbol.place.at ≡ Symbol c.in-Ok-Some-Symbol.symbol = search rules in
    rw c.next-place.ensures.1 (I.0, one_leaf_lem (symbol c.in-Ok-Some-Symbol.symbol) (rw I.0 at c.loop-symbol.place.ready) k T.from T.to c.put.auto.rows (put_as _ _ _ c.put.ensures c.symbol.ensures) I.1)

pub terms-next-place-requires-in-Ok-Some-Variable : goal.terms-next-place-requires-in-Ok-Some-Variable
terms-next-place-requires-in-Ok-Some-Variable t c = let I = c.loop-symbol.invariant in
    let T = rw I.0 at c.token-first.ensures in
    let v = c.in-Ok-Some-Variable in
    let k : term_at c.args.self.tokens.now c.loop-symbol.place.at ≡ Variable v.kind v.start v.len = search rules in
    rw I.0 (term_not_eof c.args.self.tokens.now c.loop-symbol.place.at (ap begins k))

pub terms-loop-symbol-preserved-in-Ok-Some-Variable : goal.terms-loop-symbol-preserved-in-Ok-Some-Variable
terms-loop-symbol-preserved-in-Ok-Some-Variable t c = let I = c.loop-symbol.invariant in
    let T = rw I.0 at c.token-first.ensures in
    let v = c.in-Ok-Some-Variable in
    let k : term_at c.args.self.tokens.now c.loop-symbol.place.at ≡ Variable v.kind v.start v.len = search rules in
    rw c.next-place-in-Ok-Some-Variable.ensures.1 (I.0, one_leaf_lem (variable v.kind v.start v.len) (rw I.0 at c.loop-symbol.place.ready) k T.from T.to c.put-in-Ok-Some-Variable.auto.rows (put_as _ _ _ c.put-in-Ok-Some-Variable.ensures c.variable.ensures) I.1)

pub terms-returns-in_err-place-in-Ok-Some-Bracket : goal.terms-returns-in_err-place-in-Ok-Some-Bracket
terms-returns-in_err-place-in-Ok-Some-Bracket t c = let I = c.loop-symbol.invariant in
    passed _ _ c.from_residual.ensures.1 (λ x p. I.1.means x p ∙ not_got (rw I.0 at c.in_err-place-in-Ok-Some-Bracket.ensures) x I.1.g p)

pub terms-returns-in_err-place-in-Ok-Some-Call : goal.terms-returns-in_err-place-in-Ok-Some-Call
terms-returns-in_err-place-in-Ok-Some-Call t c = let I = c.loop-symbol.invariant in
    passed _ _ c.from_residual-in_err-place-in-Ok-Some-Call.ensures.1 (λ x p. I.1.means x p ∙ not_got (rw I.0 at c.in_err-place-in-Ok-Some-Call.ensures) x I.1.g p)

pub terms-loop-symbol-smaller-in-Ok-Some-Bracket : goal.terms-loop-symbol-smaller-in-Ok-Some-Bracket
terms-loop-symbol-smaller-in-Ok-Some-Bracket t c = let I = c.loop-symbol.invariant in
    let E = rw I.0 at c.in_ok-place-in-Ok-Some-Bracket.ensures in
    let b = got E in let R = rw (stays E) at c.in_ok-place-in-Ok-Some-Bracket.place.ready in let h = b.on in omega arith

pub terms-loop-symbol-preserved-in-Ok-Some-Bracket : goal.terms-loop-symbol-preserved-in-Ok-Some-Bracket
terms-loop-symbol-preserved-in-Ok-Some-Bracket t c = let I = c.loop-symbol.invariant in
    let X = rw I.0 at c.in_ok-place-in-Ok-Some-Bracket.ensures in
    (stays X, one_term c.bracket.auto.rows (got X) I.1)

pub terms-loop-symbol-smaller : goal.terms-loop-symbol-smaller
terms-loop-symbol-smaller t c = let I = c.loop-symbol.invariant in
    let E = rw I.0 at c.in_ok-place-in-Ok-Some-Call.ensures in
    let b = got E in let R = rw (stays E) at c.in_ok-place-in-Ok-Some-Call.place.ready in let h = b.on in omega arith

pub terms-loop-symbol-preserved : goal.terms-loop-symbol-preserved
terms-loop-symbol-preserved t c = let I = c.loop-symbol.invariant in
    let X = rw I.0 at c.in_ok-place-in-Ok-Some-Call.ensures in
    (stays X, one_term c.call.auto.rows (got X) I.1)

pub terms-returns-in-Err : goal.terms-returns-in-Err
terms-returns-in-Err t c = let I = c.loop-symbol.invariant in
    let T = rw I.0 at c.token-first.ensures in
    let k : term_at c.args.self.tokens.now c.loop-symbol.place.at ≡ UnknownVariable = search rules in
    is_no (rw I.0 at c.taken.ensures) (λ x p. I.1.means x p ∙ term_step _ _ (rw I.0 at c.loop-symbol.place.ready) _ x I.1.g _ k p)

pub until-returns : goal.until-returns
until-returns t c = let T = got c.in_ok-end.ensures in
    let s = stays c.in_ok-end.ensures in
    let R = rw s at c.in_ok-end.end.ready in
    turned (rw s at c.closes.ensures) (λ j m K. until_of_terms R T _ K) (λ a b k d e q. until_no R T _ q)
