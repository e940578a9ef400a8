-- `bracket`, `call`, `terms` and `until` of refal_parser::place::Place meet their contracts: terms, brackets and calls as the machine reads them; the falling number is the depth left.
use Rattle.std.proofs.Common.{◌≡◌, ◌+◌, ◌-◌, length}
use Rattle.refal_parser.specs.PostTerms.{TermsInv}
use Rattle.refal_parser.proofs.place.Place.+bracket_call_terms_until.Given as goal

abbrev pub decreases-bracket : goal.decreases-bracket
decreases-bracket l = l.level.left + l.level.left + l.level.left

abbrev pub decreases-call : goal.decreases-call
decreases-call l = l.level.left + l.level.left + l.level.left

abbrev pub decreases-terms : goal.decreases-terms
decreases-terms l = l.level.left + l.level.left + l.level.left + 1

abbrev pub decreases-until : goal.decreases-until
decreases-until l = l.level.left + l.level.left + l.level.left + 2

abbrev pub invariant-terms-loop-symbol : goal.invariant-terms-loop-symbol
invariant-terms-loop-symbol l = (l.place.tokens.now ≡ l.self.tokens.now) × TermsInv l.self.tokens.now l.initial.rows l.rows l.self.at l.self.row l.level.parent l.level.left l.place.at l.place.row

abbrev pub decreases-terms-loop-symbol : goal.decreases-terms-loop-symbol
decreases-terms-loop-symbol l = length l.self.tokens.now - l.place.at
