-- `refal_parser::place::Place::function` meets its contract: a name, then a body in braces.
use Rattle.std.proofs.Common.{refl, sym, ◌∙◌, arith}
use Rattle.refal_parser.proofs.TokenLaws.{is_kind, not_kind}
use Rattle.refal_parser.specs.Machine.{body}
use Rattle.refal_parser.proofs.Steps.{got, stays, not_got, is_at, is_no, passed, put_as, other, head_open, head_none}
use Rattle.refal_parser.specs.PostItems.{heading}
use Rattle.refal_parser.proofs.Rows.{whole_function}
use Rattle.refal_parser.proofs.place.Place.function.Goals as goal

pub next-open-requires : goal.next-open-requires
next-open-requires c = other _ _ _ c.requires.1 refl

pub returns-in_default : goal.returns-in_default
returns-in_default c = let O = c.next-open.ensures in
    is_no (rw O.1 at c.present.ensures) (λ x. head_none _ _ O.0 (heading c.args.self.tokens.now c.args.from c.args.self.at x) (not_kind (rw O.1 at c.kind.ensures) c.in_default.not-LBrace))

pub block-requires : goal.block-requires
block-requires c = let h = c.requires.0 in (rw c.next-open.ensures.1 (omega arith), is_kind c.kind.ensures c.in-LBrace.is)

pub returns-in_err-end : goal.returns-in_err-end
returns-in_err-end c = let a = c.args in
    let O = c.next-open.ensures in
    passed _ _ c.from_residual.ensures.1 (λ x p. head_open _ _ O.0 (heading a.self.tokens.now a.from a.self.at x) (is_kind (rw O.1 at c.kind.ensures) c.in-LBrace.is) p
    ∙ not_got (rw O.1 at c.in_err-end.ensures) (body (heading a.self.tokens.now a.from a.self.at x)) p)

pub since-whole-requires : goal.since-whole-requires
since-whole-requires c = let B = got c.in_ok-end.ensures in let R = c.in_ok-end.end.ready in let q = B.on in let v = B.few in (omega arith, omega arith)

pub returns : goal.returns
returns c = let a = c.args in
    let O = c.next-open.ensures in
    let E = rw O.1 at c.in_ok-end.ensures in
    let s = stays E in
    let B = got E in
    let T = c.token-name.ensures in
    is_at refl s (record {
      v = B.v;
      e = B.e;
      on = let q = B.on in omega arith;
      few = B.few;
      rows = whole_function _ _ _ _ B.v B.rows T.start T.len refl (sym B.last) (put_as _ _ _ c.put.ensures (rw (c.since-whole.ensures.1, s) at c.function.ensures));
      count = B.count;
      means = λ x p. head_open _ _ O.0 (heading a.self.tokens.now a.from a.self.at x) (is_kind (rw O.1 at c.kind.ensures) c.in-LBrace.is) p ∙ B.means (body (heading a.self.tokens.now a.from a.self.at x)) p;
    })
