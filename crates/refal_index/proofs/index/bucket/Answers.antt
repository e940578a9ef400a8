-- `refal_index::index::bucket` meets its contract.
use Rattle.std.proofs.Common.{arith, refl, ◌*◌, ◌%◌}
use Rattle.refal_index.specs.Hash.{cut_below, bucket_is}
use Rattle.refal_index.proofs.index.bucket.Goals as goal

pub returns : goal.returns
returns c = (bucket_is _ _ _ c.args.name.now c.hash-spread.ensures refl, cut_below (c.hash-spread.result * 2654435769 % 4294967296) _ (omega arith) (omega arith))
