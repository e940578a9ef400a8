-- `eq` of `refal_real::digits::Digits` meets its contract.
use Rattle.std.proofs.Common.{◌≡◌, arith, rules, length}
use Rattle.std.specs.Bool.{Decides}
use Rattle.std.specs.Str.{bytes_eq}
use Rattle.std.proofs.lemmas.Bool.Decides.{same_from_decides}
use Rattle.std.proofs.lemmas.Iterator.{YieldsList-from_slice, YieldsList-from_zip, same_from_all}
use Rattle.std.proofs.lemmas.Iterator.Consumers.{YieldsList-at, YieldsList-from_chain}
use Rattle.std.proofs.lemmas.Slice.Eq.{bytes_eq-Decides}
use borrow.Author.Tests.{tests}
use Rattle.refal_real.specs.Told.{digits_told}
use Rattle.refal_real.proofs.digits.DigitsPartialEq.eq.Goals as goal

pub returns : goal.returns
returns c =
    let a = c.args in
    let xs = digits_told a.self.now in
    let ys = digits_told a.other.now in
    let long : length xs ≡ length ys = omega arith in
    let same : Decides c.all.result (xs ≡ ys) =
    same_from_all _ _ _ xs ys c.all.ensures.ran
    (YieldsList-from_zip
    (YieldsList-at c.zip.ensures.first (YieldsList-from_chain (YieldsList-from_slice a.self.now.whole.now cc) (YieldsList-from_slice a.self.now.fraction.now cc) (cc) (cc)))
    (YieldsList-at c.zip.ensures.second (YieldsList-from_chain (YieldsList-from_slice a.other.now.whole.now cc) (YieldsList-from_slice a.other.now.fraction.now cc) (cc) (cc))))
    long (λ x q k. search (rules, tests)) (λ x q k. search (rules, tests)) in
    same_from_decides c.all.result (bytes_eq xs ys) same (bytes_eq-Decides xs ys)
