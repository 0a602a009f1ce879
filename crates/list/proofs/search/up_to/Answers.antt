-- `search::up_to` meets its contract: the keys ascend, so the library's search finds the place before which all are at or before x. Rests on Searched.
use borrow.Author.Rules.{rules}
use lib.Dec.{leb}
use native.Mathlib.Omega.{arith}
use Rattle.std.proofs.lemmas.List.Sorted.{IsPartitionPoint-from_clause}
use Rattle.list.proofs.Searched.{parted_at, split_count}
use Rattle.list.proofs.search.up_to.Goals as goal

pub returns : goal.returns
returns c =
    let x = c.args.x in
    let point =
    IsPartitionPoint-from_clause (λ key. leb key x) _ _ c.partition_point.ensures.partitioned
    (λ i j d. parted_at _ c.requires x i j d) (λ a r q k. search rules) in
    split_count _ x _ c.partition_point.ensures.bound (λ i h. point.0 i 0 (omega arith) h) (λ i h j. point.1 i 0 h j)
