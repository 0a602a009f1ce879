-- `need_below` meets its contract: none, the block itself, or what its quadrants need together, each looked for from where the last one was found.
-- The height falls at each call.
use Prim.Native.Nat.{ℕ, ◌≤◌, ◌<◌}
use mathlib.Core.Path.{◌≡◌}
use native.Mathlib.Omega.{arith}
use Rattle.keys.specs.Child.{child_of, InMap, Divisible}
use Rattle.keys.specs.declared.block.TreeBlock.{TreeBlock}
use Rattle.keys.proofs.BlockChild.{is_in_child, child_lower, divides}
use Rattle.keys.proofs.Interval.{within}
use Rattle.definitions.specs.declared.Window.{Window}
use Rattle.list.specs.Taken.{picture_listed}
use Rattle.list.specs.declared.accepted_list.Accepted.{Accepted}
use Rattle.window_paint.specs.WindowLogging.{largest_in, NeededFor}
use Rattle.window_paint.specs.Searching.{SmallWindow, NearIn}
use Rattle.window_paint.proofs.WindowLies.{placed}
use Rattle.window_paint.proofs.WindowNeeds.{needs_none, needs_same, needs_four, needs_few}
use Rattle.window_paint.proofs.WindowSearch.{block_from, near_after, near_first, near_next, near_end}
use Rattle.window_paint.proofs.window_blocks.+need_below.Goals as goal

pub lies-requires : goal.lies-requires
lies-requires t c = placed c.args.list.now.deepest c.requires.0 c.requires.1

pub need_one-requires : goal.need_one-requires
need_one-requires t c = block_from c.args.list.now _ c.requires.1 c.requires.2

pub returns-in-Apart : goal.returns-in-Apart
returns-in-Apart t c = (needs_none _ _ (rw c.in-Apart.is at c.lies.ensures), near_after c.args.block c.requires.2)

pub returns-in-Within : goal.returns-in-Within
returns-in-Within t c = (needs_same (rw c.in-Within.is at c.lies.ensures) c.need_one.ensures.0, c.need_one.ensures.1)

-- a block whose quadrants have to be asked
module _ (list : Accepted) {window : Window} {block : TreeBlock} (small : SmallWindow window) (here : InMap list.m block) (positive : 0 < block.height) where
  divided : (d : ℕ) → d ≤ 4 → Divisible block × (d ≤ 4)
  divided d high = (divides block list.deepest here positive, high)

  -- what the call for the quadrant of a digit asks
  asks : {t : ℕ} → block.height ≡ t → (d : ℕ) → 1 ≤ d → d ≤ 4 → {q : TreeBlock} → q ≡ child_of block d → {from : ℕ} → NearIn list from q.key
      → (q.height < t) × (SmallWindow window × InMap list.m q × NearIn list from q.key)
  asks at d low high e near = (child_lower block d e positive at, (small, is_in_child block d e here positive low high, near))

  -- and what it needs is little
  little : (d : ℕ) → 1 ≤ d → d ≤ 4 → {q : TreeBlock} → q ≡ child_of block d → {number places : ℕ}
      → NeededFor list.m (picture_listed list) (largest_in window q) number places
      → (number ≤ 29296875) × (places ≤ 29296875)
  little d low high {q} e h =
      let i = is_in_child block d e here positive low high in
      let w = within i in
      let deep = list.deepest in
      needs_few _ _ _ q (omega (arith, w.height)) i h

pub child-requires : goal.child-requires
child-requires t c =
    let a = c.requires in
    let cut = rw c.in-Cut.is at c.lies.ensures in
    divided c.args.list.now a.0 a.1 cut.0 1 (omega arith)

pub need_below-nw-requires : goal.need_below-nw-requires
need_below-nw-requires t c =
    let a = c.requires in
    let cut = rw c.in-Cut.is at c.lies.ensures in
    asks c.args.list.now a.0 a.1 cut.0 c.decreases 1 (omega arith) (omega arith) c.child.ensures (near_first c.args.block c.child.ensures a.2)

pub child-requires-in-Cut : goal.child-requires-in-Cut
child-requires-in-Cut t c =
    let a = c.requires in
    let cut = rw c.in-Cut.is at c.lies.ensures in
    divided c.args.list.now a.0 a.1 cut.0 2 (omega arith)

pub need_below-ne-requires : goal.need_below-ne-requires
need_below-ne-requires t c =
    let a = c.requires in
    let cut = rw c.in-Cut.is at c.lies.ensures in
    asks c.args.list.now a.0 a.1 cut.0 c.decreases 2 (omega arith) (omega arith) c.child-in-Cut.ensures (near_next c.args.block 1 c.child.ensures c.child-in-Cut.ensures c.need_below-nw.ensures.1)

pub child-requires-in-Cut-2 : goal.child-requires-in-Cut-2
child-requires-in-Cut-2 t c =
    let a = c.requires in
    let cut = rw c.in-Cut.is at c.lies.ensures in
    divided c.args.list.now a.0 a.1 cut.0 3 (omega arith)

pub need_below-sw-requires : goal.need_below-sw-requires
need_below-sw-requires t c =
    let a = c.requires in
    let cut = rw c.in-Cut.is at c.lies.ensures in
    asks c.args.list.now a.0 a.1 cut.0 c.decreases 3 (omega arith) (omega arith) c.child-in-Cut-2.ensures (near_next c.args.block 2 c.child-in-Cut.ensures c.child-in-Cut-2.ensures c.need_below-ne.ensures.1)

pub child-requires-in-Cut-3 : goal.child-requires-in-Cut-3
child-requires-in-Cut-3 t c =
    let a = c.requires in
    let cut = rw c.in-Cut.is at c.lies.ensures in
    divided c.args.list.now a.0 a.1 cut.0 4 (omega arith)

pub need_below-se-requires : goal.need_below-se-requires
need_below-se-requires t c =
    let a = c.requires in
    let cut = rw c.in-Cut.is at c.lies.ensures in
    asks c.args.list.now a.0 a.1 cut.0 c.decreases 4 (omega arith) (omega arith) c.child-in-Cut-3.ensures (near_next c.args.block 3 c.child-in-Cut-2.ensures c.child-in-Cut-3.ensures c.need_below-sw.ensures.1)

-- what each of the four needs is little
pub overflow_add-result : goal.overflow_add-result
overflow_add-result t c =
    let a = c.requires in
    let cut = rw c.in-Cut.is at c.lies.ensures in
    let nw = little c.args.list.now a.0 a.1 cut.0 1 (omega arith) (omega arith) c.child.ensures c.need_below-nw.ensures.0 in
    let ne = little c.args.list.now a.0 a.1 cut.0 2 (omega arith) (omega arith) c.child-in-Cut.ensures c.need_below-ne.ensures.0 in
    omega (arith, nw.0, ne.0)

pub overflow_add-result-in-Cut : goal.overflow_add-result-in-Cut
overflow_add-result-in-Cut t c =
    let a = c.requires in
    let cut = rw c.in-Cut.is at c.lies.ensures in
    let nw = little c.args.list.now a.0 a.1 cut.0 1 (omega arith) (omega arith) c.child.ensures c.need_below-nw.ensures.0 in
    let ne = little c.args.list.now a.0 a.1 cut.0 2 (omega arith) (omega arith) c.child-in-Cut.ensures c.need_below-ne.ensures.0 in
    let sw = little c.args.list.now a.0 a.1 cut.0 3 (omega arith) (omega arith) c.child-in-Cut-2.ensures c.need_below-sw.ensures.0 in
    omega (arith, nw.0, ne.0, sw.0)

pub overflow_add-result-in-Cut-2 : goal.overflow_add-result-in-Cut-2
overflow_add-result-in-Cut-2 t c =
    let a = c.requires in
    let cut = rw c.in-Cut.is at c.lies.ensures in
    let nw = little c.args.list.now a.0 a.1 cut.0 1 (omega arith) (omega arith) c.child.ensures c.need_below-nw.ensures.0 in
    let ne = little c.args.list.now a.0 a.1 cut.0 2 (omega arith) (omega arith) c.child-in-Cut.ensures c.need_below-ne.ensures.0 in
    let sw = little c.args.list.now a.0 a.1 cut.0 3 (omega arith) (omega arith) c.child-in-Cut-2.ensures c.need_below-sw.ensures.0 in
    let se = little c.args.list.now a.0 a.1 cut.0 4 (omega arith) (omega arith) c.child-in-Cut-3.ensures c.need_below-se.ensures.0 in
    omega (arith, nw.0, ne.0, sw.0, se.0)

pub overflow_add-result-in-Cut-3 : goal.overflow_add-result-in-Cut-3
overflow_add-result-in-Cut-3 t c =
    let a = c.requires in
    let cut = rw c.in-Cut.is at c.lies.ensures in
    let nw = little c.args.list.now a.0 a.1 cut.0 1 (omega arith) (omega arith) c.child.ensures c.need_below-nw.ensures.0 in
    let ne = little c.args.list.now a.0 a.1 cut.0 2 (omega arith) (omega arith) c.child-in-Cut.ensures c.need_below-ne.ensures.0 in
    omega (arith, nw.1, ne.1)

pub overflow_add-result-in-Cut-4 : goal.overflow_add-result-in-Cut-4
overflow_add-result-in-Cut-4 t c =
    let a = c.requires in
    let cut = rw c.in-Cut.is at c.lies.ensures in
    let nw = little c.args.list.now a.0 a.1 cut.0 1 (omega arith) (omega arith) c.child.ensures c.need_below-nw.ensures.0 in
    let ne = little c.args.list.now a.0 a.1 cut.0 2 (omega arith) (omega arith) c.child-in-Cut.ensures c.need_below-ne.ensures.0 in
    let sw = little c.args.list.now a.0 a.1 cut.0 3 (omega arith) (omega arith) c.child-in-Cut-2.ensures c.need_below-sw.ensures.0 in
    omega (arith, nw.1, ne.1, sw.1)

pub overflow_add-result-in-Cut-5 : goal.overflow_add-result-in-Cut-5
overflow_add-result-in-Cut-5 t c =
    let a = c.requires in
    let cut = rw c.in-Cut.is at c.lies.ensures in
    let nw = little c.args.list.now a.0 a.1 cut.0 1 (omega arith) (omega arith) c.child.ensures c.need_below-nw.ensures.0 in
    let ne = little c.args.list.now a.0 a.1 cut.0 2 (omega arith) (omega arith) c.child-in-Cut.ensures c.need_below-ne.ensures.0 in
    let sw = little c.args.list.now a.0 a.1 cut.0 3 (omega arith) (omega arith) c.child-in-Cut-2.ensures c.need_below-sw.ensures.0 in
    let se = little c.args.list.now a.0 a.1 cut.0 4 (omega arith) (omega arith) c.child-in-Cut-3.ensures c.need_below-se.ensures.0 in
    omega (arith, nw.1, ne.1, sw.1, se.1)

pub returns-in-Cut : goal.returns-in-Cut
returns-in-Cut t c =
    let cut = rw c.in-Cut.is at c.lies.ensures in (
      needs_four _ _ _ c.args.block cut.0 cut.1 c.child.ensures c.child-in-Cut.ensures c.child-in-Cut-2.ensures c.child-in-Cut-3.ensures
          c.need_below-nw.ensures.0 c.need_below-ne.ensures.0 c.need_below-sw.ensures.0 c.need_below-se.ensures.0,
      near_end c.args.block cut.0 c.child-in-Cut-3.ensures c.need_below-se.ensures.1,
    )
