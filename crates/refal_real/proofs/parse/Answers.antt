-- `refal_real::parse` meets its contract.
use Rattle.std.proofs.Common.{rules, ◌≡◌, Err, sym, ap, ◌∙◌}
use Rattle.refal_ast.specs.declared.answers.Reason.TheVariants as reason
use Rattle.refal_real.specs.Real.{has_form}
use Rattle.refal_real.specs.Told.{outcome_told, parts_told}
use Rattle.refal_real.specs.PartLaws.{digits_exponent}
use Rattle.refal_real.specs.FoundLaws.{refused_64, refused_65, formed, small}
use Rattle.refal_real.proofs.parse.Goals as goal

pub returns-in_err-parts : goal.returns-in_err-parts
returns-in_err-parts c =
    let q : c.from_residual.result ≡ Err reason.NoReal = search rules in
    ap outcome_told q ∙ refused_64 c.args.text.now (rw c.in_err-parts.ensures.ok_part at c.split.ensures)

pub returns-in_err-exponent : goal.returns-in_err-exponent
returns-in_err-exponent c =
    let q : c.from_residual-in_err-exponent.result ≡ Err reason.ExponentTooLong = search rules in
    let s = rw c.in_ok-parts.ensures.ok_part at c.split.ensures in
    ap outcome_told q ∙ refused_65 c.args.text.now (parts_told c.in_ok-parts.parts) s.real s.parts (sym c.in_err-exponent.ensures.ok_part ∙ c.value.ensures)

pub new-requires-clause-small : goal.new-requires-clause-small
new-requires-clause-small c = small _ _ _ (digits_exponent c.in_ok-parts.parts.exponent.now) (sym c.in_ok-exponent.ensures.ok_part ∙ c.value.ensures)

pub returns : goal.returns
returns c =
    let s = rw c.in_ok-parts.ensures.ok_part at c.split.ensures in
    ap has_form c.new.ensures ∙ formed c.args.text.now (parts_told c.in_ok-parts.parts) s.real s.parts c.in_ok-exponent.exponent (sym c.in_ok-exponent.ensures.ok_part ∙ c.value.ensures)
