-- `combine::has_room`: the result has fewer records than the two lists together, and else they are counted. Rests on WholeLists.
use Rattle.std.proofs.Common.{leb, sym, ap, arith}
use borrow.Author.Tests.{le-leb}
use Rattle.combine.proofs.WholeLists.{root_asked, root_count, result_most}
use Rattle.combine.proofs.has_room.Goals as goal

pub overflow_sub-first : goal.overflow_sub-first
overflow_sub-first c = let h = result_most c.requires in omega arith

pub returns-then-first-second : goal.returns-then-first-second
returns-then-first-second c = let h = result_most c.requires in sym (le-leb _ _ (omega arith))

pub count_block-whole-requires : goal.count_block-whole-requires
count_block-whole-requires c = root_asked c.requires c.power_of_five-step.ensures c.at_roots-roots.ensures

pub returns : goal.returns
returns c = ap (λ n. leb n c.args.room) (root_count c.requires c.power_of_five-step.ensures c.at_roots-roots.ensures c.count_block-whole.ensures)
