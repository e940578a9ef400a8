-- `refal_lexer::literal::Quote::lit_char` meets its contract.
use Rattle.std.proofs.Common.{rules, ap, ◌∙◌}
use Rattle.refal_text.specs.Told.{char_told}
use Rattle.refal_lexer.specs.LiteralLaws.{char_quote, char_low, char_else}
use Rattle.refal_lexer.proofs.literal.Quote.lit_char.Goals as goal

pub returns-then-b-self-clause-told : goal.returns-then-b-self-clause-told
returns-then-b-self-clause-told c = ap char_told c.then_some.ensures ∙ char_quote _ _ _ c.requires c.if-b-self.true _ _ c.from.ensures c.byte.ensures

pub returns-then-is_ascii-clause-told : goal.returns-then-is_ascii-clause-told
returns-then-is_ascii-clause-told c = (char_low _ _ _ c.requires c.if-b-self.false (search rules) _ c.from-then-is_ascii.ensures).0

pub returns-clause-told : goal.returns-clause-told
returns-clause-told c = c.wide.ensures.0 ∙ char_else _ _ _ c.requires c.if-b-self.false
