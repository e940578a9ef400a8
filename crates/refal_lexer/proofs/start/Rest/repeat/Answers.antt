-- `refal_lexer::start::Rest::repeat` meets its contract.
use Rattle.std.proofs.Common.{ℕ, ◌+◌, ◌-◌, ◌≤◌, ◌≡◌, arith, refl, ap, ap₂, sym, ◌∙◌, false, true, length, length-drop, drop, Ok, rules}
use Rattle.std.proofs.lemmas.Result.{err_from_is_err_and}
use Rattle.refal_lexer.specs.Scans.{Past, Open, Bare, Long}
use Rattle.refal_lexer.specs.Blanks.{comment_at}
use Rattle.refal_lexer.specs.Carried.{whites}
use Rattle.refal_lexer.specs.Told.{comment_told}
use Rattle.refal_lexer.specs.BlankLaws.{first_turn, next_turn, blanks_stop, blanks_end}
use Rattle.refal_lexer.proofs.start.Rest.repeat.Goals as goal

pub loop-start-init : goal.loop-start-init
loop-start-init c = let a = c.args in let w = c.white-place.ensures in (w.1, first_turn a.self.src.now a.self.at a.line _ w.0 w.2)

pub returns-in_err-n : goal.returns-in_err-n
returns-in_err-n c = let p = err_from_is_err_and c.from_residual.result c.from_residual.ensures.1 in
    let a = c.args in let s = a.self.src.now in let P = c.loop-start.place in let i = P.at - a.self.at in let lo = c.loop-start.invariant.0 in let I = c.loop-start.invariant.1 in
    let q = c.from.ensures in let m = c.in-Some.ensures.some in let f : c.in-Some.start.src.now ≡ drop i s = m.0 ∙ q.1 in
    let t : Bare true ≡ comment_at P.line (drop i s) = c.in_err-n.ensures.told ∙ ap (comment_at P.line) f in
    let e = c.in_err-n.ensures.open in let r : length c.in-Some.start.src.now ≡ length s - i = ap length f ∙ length-drop i s in
    let x : c.in-Some.start.at ≡ P.at = m.1 ∙ q.0 in
    rw (p.1, p.2) (ap₂ Open (omega arith) (omega arith) ∙ blanks_stop s a.self.at i P.line (omega arith) I.2 (Bare true) true t refl ∙ I.1)

pub loop-start-preserved : goal.loop-start-preserved
loop-start-preserved c = let a = c.args in let s = a.self.src.now in let P = c.loop-start.place in let i = P.at - a.self.at in let lo = c.loop-start.invariant.0 in let I = c.loop-start.invariant.1 in
    let n = c.in-Some-2.n in let q = c.from.ensures in let m = c.in-Some.ensures.some in let f : c.in-Some.start.src.now ≡ drop i s = m.0 ∙ q.1 in
    let r : length c.in-Some.start.src.now ≡ length s - i = ap length f ∙ length-drop i s in
    let o = c.in-Some.start.some in
    let t : Long n ≡ comment_at P.line (drop i s) = sym (ap (λ x. comment_told (Ok x)) c.in-Some-2.is) ∙ c.in_ok-n.ensures.told ∙ ap (comment_at P.line) f in
    let w = c.white-place-in-Some.ensures in let w1 = w.1 in let w2 = w.2 in
    let b : n ≤ length c.in-Some.start.src.now = search rules in
    let g = c.from-in-Some.ensures in let g0 = g.0 in
    let z : P.at + n ≡ a.self.at + (i + n) = omega arith in
    let y : P.at + n - a.self.at ≡ i + n = omega arith in
    let d : c.from-in-Some.result.src.now ≡ drop (i + n) s = g.1 ∙ ap (λ (k : ℕ). drop k s) y in
    let v : length c.from-in-Some.result.src.now ≡ length s - (i + n) = ap length d ∙ length-drop (i + n) s in
    (omega arith, next_turn s a.self.at a.line i n P.line _ I (omega arith) (sym t) (omega arith) (w.0 ∙ ap₂ (λ (x : ℕ) t. whites 0 x false t) (g.0 ∙ z) d) (omega arith))

pub returns-in_default-2 : goal.returns-in_default-2
returns-in_default-2 c = let a = c.args in let s = a.self.src.now in let P = c.loop-start.place in let i = P.at - a.self.at in let lo = c.loop-start.invariant.0 in let I = c.loop-start.invariant.1 in
    let q = c.from.ensures in let m = c.in-Some.ensures.some in let f : c.in-Some.start.src.now ≡ drop i s = m.0 ∙ q.1 in
    let r : length c.in-Some.start.src.now ≡ length s - i = ap length f ∙ length-drop i s in
    let o = c.in-Some.start.some in
    let t : Bare false ≡ comment_at P.line (drop i s) = sym (ap (λ x. comment_told (Ok x)) c.in_default-2.is) ∙ c.in_ok-n.ensures.told ∙ ap (comment_at P.line) f in
    ap (λ (x : ℕ). Past x P.line) (omega arith) ∙ blanks_stop s a.self.at i P.line (omega arith) I.2 (Bare false) false t refl ∙ I.1

pub returns-in_default : goal.returns-in_default
returns-in_default c = let a = c.args in let s = a.self.src.now in let P = c.loop-start.place in let i = P.at - a.self.at in let lo = c.loop-start.invariant.0 in let I = c.loop-start.invariant.1 in
    let q = c.from.ensures in let o = c.in_default.ensures.none in let r : length c.from.result.src.now ≡ length s - i = ap length q.1 ∙ length-drop i s in
    ap (λ (x : ℕ). Past x P.line) (omega arith) ∙ blanks_end s a.self.at i P.line (omega arith) ∙ I.1
