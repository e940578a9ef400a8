-- `refal_lexer::start::Start::literal` meets its contract.
use Rattle.std.proofs.Common.{ℕ, arith, refl, sym, ap, ◌∙◌, drop}
use Rattle.refal_lexer.specs.Literals.{lit_from}
use Rattle.refal_lexer.specs.Tokens.{literal_of}
use Rattle.refal_lexer.specs.Steps.{step_of, rows_of}
use Rattle.refal_lexer.specs.LiteralLaws.{lit_answer, lit_stop, lit_in}
use Rattle.refal_lexer.proofs.start.Start.literal.Goals as goal

pub put_chars-requires : goal.put_chars-requires
put_chars-requires c = let a = c.args in let i = lit_in a.self.at a.row a.quote.byte a.self.src.now (lit_from a.quote.byte 0 1 0 (drop 1 a.self.src.now)) _ refl (sym c.in-Ok.ensures) a.self.some in (omega arith, omega arith)

pub returns-clause-value : goal.returns-clause-value
returns-clause-value c = let a = c.args in let s = a.self.src.now in
    c.in-Ok.ensures ∙ lit_answer a.self.at a.row a.quote.byte s (lit_from a.quote.byte 0 1 0 (drop 1 s)) refl
    ∙ ap (λ (x : ℕ). step_of (literal_of a.self.at x (drop 1 s) (lit_from x 0 1 0 (drop 1 s))) a.row) c.requires.1

pub returns-in_default-clause-value : goal.returns-in_default-clause-value
returns-in_default-clause-value c = let a = c.args in let s = a.self.src.now in
    c.behind-scanned.ensures ∙ lit_answer a.self.at a.row a.quote.byte s (lit_from a.quote.byte 0 1 0 (drop 1 s)) refl
    ∙ ap (λ (x : ℕ). step_of (literal_of a.self.at x (drop 1 s) (lit_from x 0 1 0 (drop 1 s))) a.row) c.requires.1

pub returns-in_default-clause-rows_after : goal.returns-in_default-clause-rows_after
returns-in_default-clause-rows_after c = let a = c.args in let s = a.self.src.now in
    lit_stop a.self.at a.row a.quote.byte s (lit_from a.quote.byte 0 1 0 (drop 1 s)) a.rows.now _ _ _ (sym c.in_default.ensures)
    ∙ ap (λ (x : ℕ). rows_of (literal_of a.self.at x (drop 1 s) (lit_from x 0 1 0 (drop 1 s))) a.rows.now a.row) c.requires.1
