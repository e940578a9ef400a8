-- `refal_text::decode` meets its contract: the lead byte decides how many bytes are read.
use Rattle.std.proofs.Common.{rules}
use Rattle.refal_text.specs.Utf8Laws.{decode_by, found_within, decode_none, decode_past}
use Rattle.refal_text.proofs.decode.Goals as goal

pub returns-in_err-a-clause-told : goal.returns-in_err-a-clause-told
returns-in_err-a-clause-told c = let e = decode_past c.args.src.now c.args.at (search rules) in cc

pub returns-in-0-clause-told : goal.returns-in-0-clause-told
returns-in-0-clause-told c = let l = c.in_ok-a.ensures.lookup in let e = decode_by _ _ _ _ l.0 l.1 c.lead.ensures 0 c.in-0.is in cc

pub returns-in-2-clause-told : goal.returns-in-2-clause-told
returns-in-2-clause-told c = let l = c.in_ok-a.ensures.lookup in let e = decode_by _ _ _ _ l.0 l.1 c.lead.ensures 2 c.in-2.is in cc

pub returns-in-3-clause-told : goal.returns-in-3-clause-told
returns-in-3-clause-told c = let l = c.in_ok-a.ensures.lookup in let e = decode_by _ _ _ _ l.0 l.1 c.lead.ensures 3 c.in-3.is in cc

pub returns-in-4-clause-told : goal.returns-in-4-clause-told
returns-in-4-clause-told c = let l = c.in_ok-a.ensures.lookup in let e = decode_by _ _ _ _ l.0 l.1 c.lead.ensures 4 c.in-4.is in cc

pub returns-in-3-clause-within : goal.returns-in-3-clause-within
returns-in-3-clause-within c = let l = c.in_ok-a.ensures.lookup in found_within _ _ _ _ l.0 l.1 c.lead.ensures 3 c.in-3.is _ (cc) c.three.ensures.some

pub returns-in-4-clause-within : goal.returns-in-4-clause-within
returns-in-4-clause-within c = let l = c.in_ok-a.ensures.lookup in found_within _ _ _ _ l.0 l.1 c.lead.ensures 4 c.in-4.is _ (cc) c.four.ensures.some

pub returns-in_default-clause-told : goal.returns-in_default-clause-told
returns-in_default-clause-told c = let l = c.in_ok-a.ensures.lookup in decode_none _ _ _ _ l.0 l.1 c.lead.ensures (search rules) (search rules) (search rules) (search rules)
