-- `refal_parser::parse` meets its contract: a refusal leaves every word 0.
use Rattle.std.proofs.Common.{◌≡◌, ℕ, sym, ap, ◌∙◌, length, replicate, rules}
use Rattle.refal_parser.proofs.Final.{refused_rows}
use Rattle.refal_parser.proofs.parse.Goals as goal

pub returns-then-is_err-clause-left : goal.returns-then-is_err-clause-left
returns-then-is_err-clause-left c = let a = c.tree-answer in
    let zeros : c.fill.new.self ≡ replicate (length a.new.rows) 0 = search rules in
    zeros ∙ ap (λ (n : ℕ). replicate n 0) a.auto.rows ∙ sym (refused_rows _ _ a.result (sym c.is_err.ensures.value ∙ c.if-is_err.true) a.ensures.answer)
