-- `refal_link::repeated` meets its contract.
use Rattle.std.proofs.Common.{arith, refl, ap, ap₂, sym, ◌∙◌, ◌+◌, ℕ}
use Rattle.std.proofs.lemmas.Result.{err_from_is_err_and}
use Rattle.refal_files.specs.View.{row_of}
use Rattle.refal_files.specs.declared.Files.{Files}
use Rattle.refal_link.specs.Link.{shown_at}
use Rattle.refal_link.specs.LinkLaws.{repeats, open_start, open_next, open_shown, open_passed}
use Rattle.refal_link.proofs.repeated.Goals as goal

pub loop-init : goal.loop-init
loop-init c = (refl, c.requires, open_start _ _ _ _)

pub returns-in_err-repeats-clause-answer : goal.returns-in_err-repeats-clause-answer
returns-in_err-repeats-clause-answer c =
    let p = err_from_is_err_and c.from_residual.result c.from_residual.ensures.1 in
    let f = c.args.names.now.files in
    let i = c.loop.invariant in
    let h = c.in_err-repeats.ensures in
    λ rest.
    rw (p.1, p.2)
    (h.1
    ∙ ap₂ (λ (x : Files) (k : ℕ). shown_at 60 (row_of x k)) i.0 i.1
    ∙ open_shown f.one.tree.now f.one.source.now f.two.tree.now f.two.source.now c.loop.counter (omega arith) i.2 (sym (ap₂ (λ (x : Files) (k : ℕ). repeats (row_of x) k) i.0 i.1) ∙ h.0) rest)

pub loop-preserved : goal.loop-preserved
loop-preserved c =
    let f = c.args.names.now.files in
    let i = c.loop.invariant in
    let e = c.enter.ensures in
    (e.files ∙ i.0, e.entered ∙ ap (λ (k : ℕ). k + 1) i.1, open_next f.one.tree.now f.one.source.now f.two.tree.now f.two.source.now c.loop.counter (omega arith) i.2 (sym (ap₂ (λ (x : Files) (k : ℕ). repeats (row_of x) k) i.0 i.1) ∙ c.in_ok-repeats.ensures))

pub returns-clause-answer : goal.returns-clause-answer
returns-clause-answer c =
    let f = c.args.names.now.files in
    λ rest. open_passed f.one.tree.now f.one.source.now f.two.tree.now f.two.source.now c.loop.counter (omega arith) c.loop.invariant.2 rest
