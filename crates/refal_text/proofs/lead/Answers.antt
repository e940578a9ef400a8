-- `refal_text::lead` meets its contract: the complement's leading zeros.
use Rattle.refal_text.specs.Utf8Laws.{leads_is}
use Rattle.refal_text.proofs.lead.Goals as goal

pub returns : goal.returns
returns c = leads_is _ c.ranges.a.fits
