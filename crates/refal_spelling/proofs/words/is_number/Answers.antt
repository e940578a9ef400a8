-- `refal_spelling::words::is_number` meets its contract.
use Rattle.std.proofs.Common.{◌∙◌, ◌≡◌, sym, true, false}
use Rattle.refal_lexer.specs.Classes.{digit}
use Rattle.refal_spelling.specs.WordLaws.{number_is}
use Rattle.refal_spelling.proofs.words.is_number.Goals as goal

pub returns-then-is_ascii_digit : goal.returns-then-is_ascii_digit
returns-then-is_ascii_digit c =
    let e = number_is c.args.word.now c.is_sign.result c.from-from.result (cc) (λ e. c.from-from.ensures ∙ rw e) (λ e. c.from-from.ensures ∙ rw e) in
    let d : digit c.byte-2.result ≡ true = sym c.if-is_ascii_digit.ensures.value in
    c.is_number_from.ensures ∙ (rw (← c.byte-2.ensures, d) at e)

pub returns-else-is_ascii_digit : goal.returns-else-is_ascii_digit
returns-else-is_ascii_digit c =
    let e = number_is c.args.word.now c.is_sign.result c.from-from.result (cc) (λ e. c.from-from.ensures ∙ rw e) (λ e. c.from-from.ensures ∙ rw e) in
    let d : digit c.byte-2.result ≡ false = sym c.if-is_ascii_digit.ensures.value in
    c.if-is_ascii_digit.false ∙ (rw (← c.byte-2.ensures, d) at e)
