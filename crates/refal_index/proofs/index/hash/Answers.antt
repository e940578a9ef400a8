-- `refal_index::index::hash` meets its contract.
use Rattle.std.proofs.Common.{arith, ◌+◌, ◌*◌, ap, sym, ◌∙◌, drop, ℕ}
use Rattle.std.proofs.Math.Nat.{mod-add-mod}
use Rattle.refal_ast.specs.Names.{canonical_name}
use Rattle.refal_index.specs.Hash.{hash_from, hash_step, hash_end}
use Rattle.refal_index.proofs.index.hash.Goals as goal

pub loop-b-preserved : goal.loop-b-preserved
loop-b-preserved c =
    let s = c.args.name.now in
    let b = c.from.result in
    ap (λ (x : ℕ). hash_from x (canonical_name (drop (c.loop-b.b-index + 1) s))) (mod-add-mod (c.loop-b.x * 16777619) 4294967296 b)
    ∙ rw (c.from.ensures, c.name_byte.ensures) (hash_step s c.loop-b.b-index c.loop-b.x (omega arith))
    ∙ c.loop-b.invariant

pub returns : goal.returns
returns c = sym (hash_end c.args.name.now c.loop-b.b-index c.loop-b.x (omega arith)) ∙ c.loop-b.invariant
