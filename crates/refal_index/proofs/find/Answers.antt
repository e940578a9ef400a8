-- `refal_index::find` meets its contract.
use Rattle.std.proofs.Common.{arith, ◌≡◌, true, false}
use Rattle.refal_files.specs.View.{row_of}
use Rattle.refal_index.specs.Chain.{walk_low, walk_next}
use Rattle.refal_index.specs.Named.{answers_to, find_start, find_hit, find_end}
use Rattle.refal_index.specs.View.{only_functions}
use Rattle.refal_index.proofs.find.Goals as goal

pub loop-g-init : goal.loop-g-init
loop-g-init c =
    let a = c.args in
    rw c.bucket.ensures.0 (find_start a.words.now a.rows a.buckets (row_of a.files.now) (only_functions a.bearers) a.name.now _ (omega arith) (rw (← c.bucket.ensures.0) c.bucket.ensures.1) c.requires.holds.1)

pub bear-requires : goal.bear-requires
bear-requires c =
    let S = c.requires.sized in
    let L = walk_low _ _ _ _ _ _ c.loop-g.invariant in
    omega arith

pub returns-then-bear : goal.returns-then-bear
returns-then-bear c =
    let a = c.args in
    let e : answers_to (only_functions a.bearers) a.name.now (row_of a.files.now c.in-Some.g) ≡ true = cc in
    λ g H. find_hit _ _ _ _ _ _ c.in-Some.g c.loop-g.next _ (omega arith) e c.loop-g.invariant (omega arith) H

pub offset_bounds-words-g : goal.offset_bounds-words-g
offset_bounds-words-g c = let L = walk_low _ _ _ _ _ _ c.loop-g.invariant in omega arith

pub bounds-words-g : goal.bounds-words-g
bounds-words-g c = let L = walk_low _ _ _ _ _ _ c.loop-g.invariant in omega arith

pub loop-g-smaller : goal.loop-g-smaller
loop-g-smaller c =
    let a = c.args in
    let e : answers_to (only_functions a.bearers) a.name.now (row_of a.files.now c.in-Some.g) ≡ false = cc in
    omega (arith, (walk_next _ _ _ _ _ c.in-Some.g c.loop-g.next (omega arith) e c.loop-g.invariant).1)

pub loop-g-preserved : goal.loop-g-preserved
loop-g-preserved c =
    let a = c.args in
    let e : answers_to (only_functions a.bearers) a.name.now (row_of a.files.now c.in-Some.g) ≡ false = cc in
    (walk_next _ _ _ _ _ c.in-Some.g c.loop-g.next (omega arith) e c.loop-g.invariant).0

pub returns : goal.returns
returns c = λ g H. find_end _ _ _ _ _ _ c.loop-g.next _ (omega arith) c.loop-g.invariant (omega arith) H
