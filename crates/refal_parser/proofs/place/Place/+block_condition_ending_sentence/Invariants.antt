-- `condition`, `ending`, `sentence` and `block` of refal_parser::place::Place meet their contracts: conditions, sentences and blocks as the machine reads them; the falling number is the depth left with the tokens left.
use Rattle.std.proofs.Common.{◌≡◌, ◌+◌, ◌-◌, length}
use Rattle.refal_parser.specs.PostBlock.{CondsInv, BlockInv}
use Rattle.refal_parser.proofs.place.Place.+block_condition_ending_sentence.Given as goal

abbrev pub decreases-block : goal.decreases-block
decreases-block l = l.level.left + (length l.self.tokens.now - l.self.at) + (l.level.left + (length l.self.tokens.now - l.self.at))

abbrev pub decreases-condition : goal.decreases-condition
decreases-condition l = l.level.left + (length l.self.tokens.now - l.self.at) + (l.level.left + (length l.self.tokens.now - l.self.at))

abbrev pub decreases-ending : goal.decreases-ending
decreases-ending l = l.level.left + (length l.self.tokens.now - l.self.at) + (l.level.left + (length l.self.tokens.now - l.self.at))

abbrev pub decreases-sentence : goal.decreases-sentence
decreases-sentence l = l.level.left + (length l.self.tokens.now - l.self.at) + (l.level.left + (length l.self.tokens.now - l.self.at)) + 1

abbrev pub invariant-block-loop-place : goal.invariant-block-loop-place
invariant-block-loop-place l = (l.place.tokens.now ≡ l.self.tokens.now) × BlockInv l.self.tokens.now l.initial.rows l.rows l.self.at l.self.row l.fn.level.parent l.fn.level.left l.place.at l.place.row

abbrev pub decreases-block-loop-place : goal.decreases-block-loop-place
decreases-block-loop-place l = length l.self.tokens.now - l.place.at

abbrev pub invariant-sentence-loop-place : goal.invariant-sentence-loop-place
invariant-sentence-loop-place l = (l.place.tokens.now ≡ l.self.tokens.now) × CondsInv l.self.tokens.now l.initial.rows l.rows l.initial.place.at l.initial.place.row l.self.row l.level.left l.place.at l.place.row

abbrev pub decreases-sentence-loop-place : goal.decreases-sentence-loop-place
decreases-sentence-loop-place l = length l.self.tokens.now - l.place.at
