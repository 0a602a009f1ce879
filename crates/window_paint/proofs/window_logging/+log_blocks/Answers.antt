-- `log_blocks` meets its contract: nothing, the block's own entry, or the entries of the quadrants one behind the other, each block looked for from
-- where the last one was found. The height falls at each call.
use Prim.Native.Nat.{ℕ, ◌≤◌, ◌<◌}
use mathlib.Core.Path.{ap}
use mathlib.Core.List.{List}
use native.Mathlib.Omega.{arith}
use lib.ListN.{length}
use Rattle.keys.specs.Child.{Divisible}
use Rattle.keys.specs.declared.block.TreeBlock.{TreeBlock}
use Rattle.keys.proofs.BlockChild.{child_lower, divides}
use Rattle.definitions.specs.declared.Window.{Window}
use Rattle.window_paint.specs.WindowLogging.{Enterable}
use Rattle.edit.proofs.ContentStands.{logged_same}
use Rattle.window_paint.proofs.WindowLies.{placed}
use Rattle.window_paint.proofs.WindowSearch.{block_from, near_after, near_first, near_next, near_end}
use Rattle.window_paint.proofs.EntriesLogged.{no_entry, one_entry, enter_nw, enter_ne, enter_sw, enter_se, entered}
use Rattle.window_paint.proofs.window_logging.+log_blocks.Goals as goal

pub lies-requires : goal.lies-requires
lies-requires t c = let a = c.requires.0 in placed a.list.deep (record { low = a.list.low; narrow = a.list.narrow }) a.block

pub returns-in-Apart : goal.returns-in-Apart
returns-in-Apart t c = (no_entry _ _ _ _ c.args.block _ _ _ (rw c.in-Apart.is at c.lies.ensures), near_after c.args.block c.requires.1)

-- a block that is one of the largest
pub log_block-requires : goal.log_block-requires
log_block-requires t c =
    let a = c.args in
    let r = c.requires in
    let list = a.list.now in
    let e = ap length (one_entry list.m list.keys.now list.bits.now (length list.keys.now) a.window a.feature a.block (rw c.in-Within.is at c.lies.ensures)) in
    record { block_from = block_from list _ r.0.block r.1; feature_bound = omega (arith, e, r.0.fits) }

pub returns-in-Within : goal.returns-in-Within
returns-in-Within t c =
    let a = c.args in
    let list = a.list.now in
    let e = one_entry list.m list.keys.now list.bits.now (length list.keys.now) a.window a.feature a.block (rw c.in-Within.is at c.lies.ensures) in
    (logged_same e c.log_block.ensures.0, c.log_block.ensures.1)

-- a block whose quadrants have to be asked
module _ {m n : ℕ} {keys bits : List ℕ} {window : Window} {feature : ℕ} {block : TreeBlock} {place : ℕ} {log_keys log_values : List ℕ}
    (asked : Enterable m keys bits n window feature block place log_keys log_values) (positive : 0 < block.height) where
  divided : (d : ℕ) → d ≤ 4 → Divisible block × (d ≤ 4)
  divided d high = (divides block asked.list.deep asked.block positive, high)

pub child-one-requires : goal.child-one-requires
child-one-requires t c =
    let cut = rw c.in-Cut.is at c.lies.ensures in
    divided c.requires.0 cut.0 1 (omega arith)

pub log_blocks-nw-requires : goal.log_blocks-nw-requires
log_blocks-nw-requires t c =
    let asked = c.requires.0 in
    let block = c.args.block in
    let cut = rw c.in-Cut.is at c.lies.ensures in
    let e = c.child-one.ensures in
    (child_lower block 1 e cut.0 c.decreases, (enter_nw asked cut.0 cut.1 e, near_first block e c.requires.1))

pub child-two-requires : goal.child-two-requires
child-two-requires t c =
    let cut = rw c.in-Cut.is at c.lies.ensures in
    divided c.requires.0 cut.0 2 (omega arith)

pub log_blocks-ne-requires : goal.log_blocks-ne-requires
log_blocks-ne-requires t c =
    let asked = c.requires.0 in
    let block = c.args.block in
    let cut = rw c.in-Cut.is at c.lies.ensures in
    let e₁ = c.child-one.ensures in
    let one = c.log_blocks-nw.ensures in
    let e = c.child-two.ensures in
    (child_lower block 2 e cut.0 c.decreases, (enter_ne asked cut.0 cut.1 e₁ one.0 e, near_next block 1 e₁ e one.1))

pub child-three-requires : goal.child-three-requires
child-three-requires t c =
    let cut = rw c.in-Cut.is at c.lies.ensures in
    divided c.requires.0 cut.0 3 (omega arith)

pub log_blocks-sw-requires : goal.log_blocks-sw-requires
log_blocks-sw-requires t c =
    let asked = c.requires.0 in
    let block = c.args.block in
    let cut = rw c.in-Cut.is at c.lies.ensures in
    let e₁ = c.child-one.ensures in
    let one = c.log_blocks-nw.ensures in
    let e₂ = c.child-two.ensures in
    let two = c.log_blocks-ne.ensures in
    let e = c.child-three.ensures in
    (child_lower block 3 e cut.0 c.decreases, (enter_sw asked cut.0 cut.1 e₁ one.0 e₂ two.0 e, near_next block 2 e₂ e two.1))

pub child-four-requires : goal.child-four-requires
child-four-requires t c =
    let cut = rw c.in-Cut.is at c.lies.ensures in
    divided c.requires.0 cut.0 4 (omega arith)

pub log_blocks-requires : goal.log_blocks-requires
log_blocks-requires t c =
    let asked = c.requires.0 in
    let block = c.args.block in
    let cut = rw c.in-Cut.is at c.lies.ensures in
    let e₁ = c.child-one.ensures in
    let one = c.log_blocks-nw.ensures in
    let e₂ = c.child-two.ensures in
    let two = c.log_blocks-ne.ensures in
    let e₃ = c.child-three.ensures in
    let three = c.log_blocks-sw.ensures in
    let e = c.child-four.ensures in
    (child_lower block 4 e cut.0 c.decreases, (enter_se asked cut.0 cut.1 e₁ one.0 e₂ two.0 e₃ three.0 e, near_next block 3 e₃ e three.1))

pub returns-in-Cut : goal.returns-in-Cut
returns-in-Cut t c =
    let asked = c.requires.0 in
    let block = c.args.block in
    let cut = rw c.in-Cut.is at c.lies.ensures in
    let four = c.log_blocks.ensures in (
      entered asked cut.0 cut.1
          c.child-one.ensures c.log_blocks-nw.ensures.0
          c.child-two.ensures c.log_blocks-ne.ensures.0
          c.child-three.ensures c.log_blocks-sw.ensures.0
          c.child-four.ensures four.0,
      near_end block cut.0 c.child-four.ensures four.1,
    )
