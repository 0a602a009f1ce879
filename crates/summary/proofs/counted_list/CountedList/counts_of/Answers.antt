-- A block that stands at the place that is kept has the counts that are kept.
use mathlib.Core.Path.{sym, ◌∙◌}
use native.Mathlib.Omega.{arith}
use Rattle.summary.proofs.KeptList.{kept_counts, block_few}
use Rattle.summary.proofs.counted_list.CountedList.counts_of.Goals as goal

pub offset_bounds-self-b : goal.offset_bounds-self-b
offset_bounds-self-b c = let h = block_few c.args.self.now.list.m c.args.b c.requires in omega arith

pub bounds : goal.bounds
bounds c = block_few c.args.self.now.list.m c.args.b c.requires

pub returns-then-place-block : goal.returns-then-place-block
returns-then-place-block c =
    kept_counts c.args.self.now.list c.requires c.key_of-key.ensures (sym c.if-place-block.true ∙ c.place.ensures)
    (c.args.self.now.known.known c.args.b c.in-Some.block c.in-Some.is)
