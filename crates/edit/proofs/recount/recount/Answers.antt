-- After each turn the places of one block more are those of the new list.
use Prim.Native.Nat.{ℕ, ◌+◌, ◌^◌, ◌≤◌, ◌<◌}
use mathlib.Core.Path.{◌≡◌, sym, ◌∙◌, ap, subst}
use mathlib.Core.Bool.{true}
use native.Mathlib.Omega.{arith}
use Rattle.keys.specs.Key.{valid_key, zeros_at_end}
use Rattle.keys.proofs.LastZeros.{keys_height, keys_most}
use Rattle.keys.proofs.Powers.{five_le}
use Rattle.keys.proofs.Valid.{valid_below}
use Rattle.list.specs.Taken.{picture_listed}
use Rattle.summary.proofs.CountedUpTo.{CountedUpTo, counted_none, counted_long, counted_all, counted_renewed, counted_kept}
use Rattle.edit.proofs.Recounted.{outdated_long, test_apart}
use Rattle.edit.proofs.recount.recount.Goals as goal
use Rattle.edit.proofs.recount.recount.Goals.{then-touches, else-touches}

-- the end of the edited block's keys is small
end_small : (m κ step : ℕ) → m ≤ 10 → valid_key m κ ≡ true → step ≡ 5 ^ zeros_at_end m κ → κ + step < 2 ^ 32
end_small m κ step deep valid e =
    let a = valid_below m κ valid in
    let b = five_le {k = m} 10 deep in
    let c = keys_most m κ in
    omega arith

pub keys_in-requires : goal.keys_in-requires
keys_in-requires c = c.args.list.now.deepest

pub overflow_add-end : goal.overflow_add-end
overflow_add-end c =
    record { fits = end_small c.args.list.now.m c.args.key _ c.args.list.now.deepest c.requires.valid c.keys_in.ensures }

pub loop-b-init : goal.loop-b-init
loop-b-init c = counted_none _ _ _ _ (outdated_long c.requires)

pub touches-requires : goal.touches-requires
touches-requires c = (c.args.list.now.deepest, omega (arith, c.number_of-blocks.ensures))

pub renew-requires : goal.renew-requires
renew-requires c =
    record {
      deep = c.args.list.now.deepest;
      few = c.requires.few;
      order = omega arith;
      most = omega (arith, c.number_of-blocks.ensures);
      long = counted_long _ _ _ _ (outdated_long c.requires) (omega (arith, c.number_of-blocks.ensures)) c.loop-b.invariant;
    }

pub loop-b-preserved : goal.loop-b-preserved
loop-b-preserved c =
    let old = c.args.summary.now in
    let m = c.args.list.now.m in
    let shown = picture_listed c.args.list.now in
    let long = outdated_long c.requires in
    elim c.if-touches.branch [
      | then-touches w ↦
          counted_renewed m c.args.s shown old long (omega (arith, c.number_of-blocks.ensures)) c.loop-b.invariant _ (w.summary-is ∙ w.renew.ensures)
      | else-touches w ↦
          subst (λ now. CountedUpTo m c.args.s shown old now (c.loop-b.b + 1)) (sym w.summary-is)
          (counted_kept m c.args.s shown old long (omega (arith, c.number_of-blocks.ensures)) c.loop-b.invariant
          (test_apart c.requires c.loop-b.b (omega (arith, c.number_of-blocks.ensures)) _ _
          (ap (λ x. c.args.key + x) (c.keys_in.ensures ∙ keys_height _ _ c.requires.valid))
          c.touches.ensures w.if-touches.false))
    ]

pub returns : goal.returns
returns c = counted_all _ _ _ _ (outdated_long c.requires) (omega (arith, c.number_of-blocks.ensures)) c.loop-b.invariant
