-- `refal_link::link_rows` meets its contract.
use Rattle.std.proofs.Common.{ap, ◌∙◌}
use Rattle.std.proofs.lemmas.Result.{err_from_is_err_and}
use Rattle.refal_files.specs.declared.Files.{Files}
use Rattle.refal_link.specs.Link.{resolved, linked}
use Rattle.refal_link.specs.View.{rows, linked_is}
use Rattle.refal_link.proofs.link_rows.Goals as goal

pub returns-in_err-repeated : goal.returns-in_err-repeated
returns-in_err-repeated c =
    let p = err_from_is_err_and c.from_residual.result c.from_residual.ensures.1 in
    rw (p.1, p.2) (c.in_err-repeated.ensures.answer (resolved (rows c.new-names.result.files)) ∙ linked_is c.new-names.result.files ∙ ap (λ (f : Files). linked (rows f)) c.new-names.ensures.none.0)

pub returns : goal.returns
returns c =
    let h = c.in_ok-repeated.ensures in
    c.resolve.ensures
    ∙ ap (λ (f : Files). resolved (rows f)) h.entered.0
    ∙ h.answer (resolved (rows c.new-names.result.files))
    ∙ linked_is c.new-names.result.files
    ∙ ap (λ (f : Files). linked (rows f)) c.new-names.ensures.none.0
