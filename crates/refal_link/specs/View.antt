-- The code's files and answers as Link.antt has them.
use Rattle.std.specs.Prelude.{ℕ, Bool, true, false, List, [], ◌≡◌, refl, Result, Ok, Err}
use Rattle.std.proofs.Common.{◌∙◌}
use Rattle.refal_ast.specs.Told.{reason_code, refusal_told}
use Rattle.refal_ast.specs.Answers.{Answer, Refused}
use Rattle.refal_ast.specs.declared.answers.Reason.{Reason}
use Rattle.refal_ast.specs.declared.answers.Refusal.{Refusal as Told}
use Rattle.refal_files.specs.Files.{Placed, both_rows}
use Rattle.refal_files.specs.declared.File.{File}
use Rattle.refal_files.specs.declared.Files.{Files}
use Rattle.refal_link.specs.Link.{functions, repeated, shown, resolved, linked, refuse, checked, link_answer}
use Rattle.refal_link.specs.LinkLaws.{lost}
use Rattle.refal_link.specs.Unbound.{bound, both_bound}

-- the rows of both
abbrev pub rows : Files → List Placed
rows f = both_rows f.one.tree.now f.one.source.now f.two.tree.now f.two.source.now

-- row g is a call whose name is not known
abbrev pub is_lost : Files → ℕ → Bool
is_lost f = lost f.one.tree.now f.one.source.now f.two.tree.now f.two.source.now

abbrev pub answer_for : Files → Answer
answer_for f = link_answer f.one.tree.now f.one.source.now f.two.tree.now f.two.source.now

-- 40 and 41 of a file, before the rest
abbrev pub checked_file : File → Answer → Answer
checked_file f = checked f.tree.now f.source.now

-- what a step answers, before the rest
abbrev pub reason_or : Result Unit Reason → Answer → Answer
reason_or (Ok x) rest = rest
reason_or (Err reason) rest = refuse (reason_code reason)

abbrev pub refused_or : Result Unit Told → Answer → Answer
refused_or (Ok x) rest = rest
refused_or (Err r) rest = Refused (refusal_told r)

-- a fault of a row is refused, as it is shown; an answer says that there is none
abbrev pub Tells : {T : Type 0} → Result T Told → Bool → Answer → Type 0
Tells (Ok x) fault refused = fault ≡ false
Tells (Err r) fault refused = (fault ≡ true) × (Refused (refusal_told r) ≡ refused)

-- 60 comes before 61
pub linked_is : (f : Files) → shown 60 (repeated [] (functions (rows f))) (resolved (rows f)) ≡ linked (rows f)
unfolding linked
linked_is f = refl

-- what 62 makes of an answer
abbrev pub after_bound : Files → Answer → Answer
after_bound f = both_bound f.one.tree.now f.one.source.now f.two.tree.now f.two.source.now

-- 62 of a file, before the rest
abbrev pub bound_file : ℕ → File → Answer → Answer
bound_file which f = bound which f.tree.now f.source.now

-- file one's 40 and 41 come first, then file two's, then all of 60 and 61, then 62
pub answer_is : (f : Files) → checked_file f.one (checked_file f.two (after_bound f (linked (rows f)))) ≡ answer_for f
unfolding link_answer
answer_is f = refl

-- where both files pass 40 and 41
pub checked_both : (f : Files) → ((rest : Answer) → rest ≡ checked_file f.one rest) → ((rest : Answer) → rest ≡ checked_file f.two rest) → after_bound f (linked (rows f)) ≡ answer_for f
checked_both f one two =
    let a = after_bound f (linked (rows f)) in
    two a ∙ one (checked_file f.two a) ∙ answer_is f
