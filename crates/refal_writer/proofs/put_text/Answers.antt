-- `refal_writer::put_text` meets its contract.
use Rattle.std.proofs.Common.{arith, ℕ, ◌≤◌, ◌<◌, ◌⊎◌, inl, inr, ◌≡◌, true, false, ◌&&◌, leb, le-leb, refl, ap, sym, ◌∙◌}
use Rattle.std.proofs.lemmas.Bool.{lt-leb}
use Rattle.refal_ast.specs.Answers.{Refused}
use Rattle.refal_writer.specs.Puts.{puts_as}
use Rattle.refal_writer.specs.WriteLaws.{lawful_few, lawful_walks, written_is, unlawful, misspelled, too_long, done}
use Rattle.refal_writer.proofs.put_text.Goals as goal

fits_both : {n a b : ℕ} → n ≤ a → n ≤ b → leb n a && leb n b ≡ true
fits_both {n} {a} {b} h k = rw (le-leb n a h, le-leb n b k) refl

fits_not : {n a b : ℕ} → (a < n) ⊎ ((n ≤ a) × (b < n)) → leb n a && leb n b ≡ false
fits_not {n} {a} {b} (inl h) = rw (lt-leb n a h) refl
fits_not {n} {a} {b} (inr h) = rw (le-leb n a h.0, lt-leb n b h.1) refl

pub returns-then-not-lawful : goal.returns-then-not-lawful
returns-then-not-lawful c = let a = c.args in
    let d = unlawful a.tree.now a.src.now a.out.now _ (sym c.lawful.ensures ∙ c.if-not-lawful.true) refl in
    record { value = ap Refused c.from.ensures ∙ d.answer; out_after = tt }

pub returns-then-not-spellings : goal.returns-then-not-spellings
returns-then-not-spellings c = let a = c.args in
    let d = misspelled a.tree.now a.src.now a.out.now _ (sym c.lawful.ensures ∙ c.if-not-lawful.false) (sym c.spellings.ensures ∙ c.if-not-spellings.true) refl in
    record { value = ap Refused c.from-then-not-spellings.ensures ∙ d.answer; out_after = tt }

pub write_rows-n-requires : goal.write_rows-n-requires
write_rows-n-requires c = let w = c.args.tree.now in
    let h = sym c.lawful.ensures ∙ c.if-not-lawful.false in
    (omega arith, omega arith, lawful_few w c.args.src.now h, lawful_walks w c.args.src.now h)

pub returns-then-n-room : goal.returns-then-n-room
returns-then-n-room c = let a = c.args in
    let h = sym c.lawful.ensures ∙ c.if-not-lawful.false in
    let s = sym c.spellings.ensures ∙ c.if-not-spellings.false in
    let p = puts_as _ _ (written_is a.tree.now a.src.now h) c.write_rows-n.ensures.0 in
    let d = too_long a.tree.now a.src.now a.out.now _ c.write_rows-n.result h s p.count (fits_not c.then-n-room.either) refl in
    record { value = ap Refused c.needing.ensures ∙ d.answer; out_after = tt }

pub returns : goal.returns
returns c = let a = c.args in
    let h = sym c.lawful.ensures ∙ c.if-not-lawful.false in
    let s = sym c.spellings.ensures ∙ c.if-not-spellings.false in
    let p = puts_as _ _ (written_is a.tree.now a.src.now h) c.write_rows-n.ensures.0 in
    let d = done a.tree.now a.src.now a.out.now _ c.write_rows-n.result h s p.count (fits_both c.if-n-room.false c.if-n-gt-MOST_BYTES.false) p.bytes in
    record { value = d.answer; out_after = d.bytes }
