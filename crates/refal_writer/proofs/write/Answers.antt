-- `refal_writer::write` meets its contract.
use Rattle.std.proofs.Common.{◌≡◌, length, replicate, rules, sym, ◌∙◌}
use Rattle.refal_writer.specs.WriteLaws.{refused_bytes}
use Rattle.refal_writer.proofs.write.Goals as goal

pub returns-then-is_err : goal.returns-then-is_err
returns-then-is_err c = let a = c.args in
    let zeros : c.fill.new.self ≡ replicate (length a.out.now) 0 = search rules in
    record {
      value = c.put_text-answer.ensures.value;
      out_after = zeros ∙ sym (refused_bytes a.tree.now a.src.now a.out.now a.out.now c.put_text-answer.result c.put_text-answer.ensures.value (sym c.is_err.ensures.value ∙ c.if-is_err.true));
    }
