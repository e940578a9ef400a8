-- `refal_lexer::put_next` meets its contract.
use Rattle.std.proofs.Common.{ℕ, ◌≡◌, List, refl, sym, ap, ◌∙◌, get_or, eqb, false, Err, rules}
use Rattle.refal_lexer.specs.Classes.{class_of, c_quote}
use Rattle.refal_lexer.specs.Told.{class_code, step_told}
use Rattle.refal_lexer.specs.Tokens.{one, token_scan, token_at}
use Rattle.refal_lexer.specs.Steps.{step_of, rows_of}
use Rattle.refal_lexer.specs.declared.class.Class.{Class}
use Rattle.refal_lexer.specs.declared.class.Class.TheVariants as class
use Rattle.refal_lexer.proofs.put_next.Goals as goal

no_quote : (k : Class) → (k ≡ class.Quote → ⊥) → eqb (class_code k) c_quote ≡ false
no_quote class.Quote h = absurd (h refl)
no_quote _ h = refl

scanned : (at : ℕ) (s : List ℕ) (k : Class) → class_code k ≡ class_of (get_or s 0 0) → (k ≡ class.Quote → ⊥) → token_at at s ≡ one (token_scan at s)
scanned at s k e h = let q : eqb (class_of (get_or s 0 0)) c_quote ≡ false = ap (λ (n : ℕ). eqb n c_quote) (sym e) ∙ no_quote k h in rw q refl

pub returns-in_default-scanned-2 : goal.returns-in_default-scanned-2
returns-in_default-scanned-2 c = let a = c.args in let m = a.rows.now in let F = c.in_default-scanned-2.field-0 in let f = c.in_default-scanned-2.ensures in
    let t = sym (scanned a.start.at a.start.src.now c.of-class.result (c.of-class.ensures.class ∙ ap class_of c.first-first.ensures) c.in_default.not-Quote) in
    let e : c.map-in_default-scanned-2.result ≡ Err F = search rules in
    record {
      value = ap step_told e ∙ ap (λ x. step_of (one x) a.row) f ∙ ap (λ x. step_of x a.row) t;
      rows_after = ap (λ x. rows_of (one x) m a.row) f ∙ ap (λ x. rows_of x m a.row) t;
    }
