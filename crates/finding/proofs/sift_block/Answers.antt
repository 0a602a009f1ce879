-- A block whose record has the bit alone is one itself, and a listed block's leaves are sifted by a run along its records.
use Prim.Native.Nat.{ℕ, ◌+◌, ◌^◌, ◌≤◌, ◌<◌}
use mathlib.Core.Path.{◌≡◌, refl, sym, ap, ◌∙◌}
use mathlib.Core.List.{List}
use native.Mathlib.Omega.{arith}
use lib.ListN.{length, get_or}
use borrow.Author.Rules.{rules}
use Rattle.keys.proofs.Cases.{split}
use Rattle.keys.proofs.Powers.{five_le}
use Rattle.keys.specs.Under.{MapBlock}
use Rattle.keys.proofs.Valid.{block_valid}
use Rattle.list.specs.Own.{OwnList}
use Rattle.list.proofs.Own.{own_ascends}
use Rattle.walk.proofs.Steps.{some_keys}
use Rattle.walk.proofs.Asked.{asked_place, near_place}
use Rattle.finding.proofs.BlockLeaves.{alone_key, listed_key, listed_keys, leaf-there, leaf_key, leaf_nothing}
use Rattle.finding.specs.declared.Sifting.{Sifting}
use Rattle.finding.specs.Sift.{SiftReady, RunReady}
use Rattle.finding.proofs.Settling.{passed_widen}
use Rattle.finding.proofs.Leaves.{spot_end, record_within}
use Rattle.finding.proofs.Merge.{sifted_none, sifted_as}
use Rattle.finding.proofs.sift_block.Goals as goal

-- from the place of a block on the keys are at or past it, and the records that begin in it end in it
run_ready : {m limit : ℕ} {waived : List ℕ} {at : Sifting} {ids keys : List ℕ} {most k r c key : ℕ} {record_keys bits : List ℕ} {n : ℕ} (first end : ℕ)
    → SiftReady m limit waived at ids keys most key
    → OwnList m record_keys bits n
    → MapBlock m k r c key
    → get_or record_keys first 0 ≡ key
    → end ≡ key + 5 ^ k
    → RunReady m limit waived at ids keys most record_keys n first end
run_ready {m} {k = k} {key = key} {record_keys} {n = n} first end s o b e is =
    let from : (i : ℕ) → first ≤ i → i < n → key ≤ get_or record_keys i 0 = λ i from before. split first i
    (λ after. let h = (own_ascends o).ascend first i after before in omega arith)
    (λ at. let same : first ≡ i = omega arith in let f = ap (λ j. get_or record_keys j 0) same in omega arith) in
    record {
      x = key;
      ready = s;
      before_end = omega arith;
      before_keys = from;
      whole = λ i at before below. let w = record_within o b i before (from i at before) (omega arith) in omega arith;
    }

pub bounds-bits-from : goal.bounds-bits-from
bounds-bits-from c = let own = c.args.job.now.list.own in let a = asked_place own c.requires.0.block _ c.requires.1 in omega (arith, own.fits, a.room)

pub offset_bounds-bits-from : goal.offset_bounds-bits-from
offset_bounds-bits-from c =
    let own = c.args.job.now.list.own in
    let a = asked_place own c.requires.0.block _ c.requires.1 in
    let low : c.args.from < length c.args.job.now.list.bits.now = omega (arith, own.fits, a.room) in
    record { fits = omega arith }

pub sift-requires : goal.sift-requires
sift-requires c = ((block_valid c.requires.0.block).valid, search rules)

pub returns-then-bits-from : goal.returns-then-bits-from
returns-then-bits-from c =
    let pre = c.requires in
    sifted_as _ _ _ _ _ _ _ _ _ _ _ _ _ _ c.sift.ensures
    (sym (alone_key c.args.job.now.list.own pre.0 _ _ pre.1 c.args.job.now.one_feature c.if-bits-from.true))
    (let e = spot_end pre.0 in omega arith)

pub stand_from-requires : goal.stand_from-requires
stand_from-requires c =
    let pre = c.requires in
    let is = block_valid pre.0.block in
    (is.valid, pre.0.step ∙ ap (λ k. 5 ^ k) (sym is.height), near_place c.args.job.now.list.own _ _ pre.1)

pub overflow_add-key : goal.overflow_add-key
overflow_add-key c =
    let k = some_keys c.requires.0 in
    let five = five_le 10 c.args.job.now.list.deepest in
    record { fits = omega arith }

pub sift_run-requires : goal.sift_run-requires
sift_run-requires c =
    let pre = c.requires in
    let list = c.args.job.now.list in
    run_ready _ _ pre.2 list.own pre.0.block
    (listed_key list.deepest list.own pre.0 c.args.job.now.bit _ _ (sym c.stand_from.ensures ∙ c.in-Listed.is))
    (ap (λ x. c.args.block.key + x) pre.0.step)

pub bounds-bits-around : goal.bounds-bits-around
bounds-bits-around c =
    let list = c.args.job.now.list in
    omega (arith, list.own.fits, leaf-there list.deepest list.own c.requires.0 c.args.job.now.bit _ _ _ (sym c.stand_from.ensures ∙ c.in-Inside.is))

pub offset_bounds-bits-around : goal.offset_bounds-bits-around
offset_bounds-bits-around c =
    let list = c.args.job.now.list in
    let there = leaf-there list.deepest list.own c.requires.0 c.args.job.now.bit _ _ _ (sym c.stand_from.ensures ∙ c.in-Inside.is) in
    record { fits = omega (arith, list.own.fits) }

pub sift-requires-then-bits-around : goal.sift-requires-then-bits-around
sift-requires-then-bits-around c = ((block_valid c.requires.0.block).valid, search rules)

pub returns-in-Listed : goal.returns-in-Listed
returns-in-Listed c =
    let pre = c.requires in
    let list = c.args.job.now.list in
    sifted_as _ _ _ _ _ _ _ _ _ _ _ _ _ _ c.sift_run.ensures
    (listed_keys list.deepest list.own pre.0 _ _ _ (sym c.stand_from.ensures ∙ c.in-Listed.is) _ refl)
    (omega arith)

pub returns-then-bits-around : goal.returns-then-bits-around
returns-then-bits-around c =
    let pre = c.requires in
    let list = c.args.job.now.list in
    sifted_as _ _ _ _ _ _ _ _ _ _ _ _ _ _ c.sift-then-bits-around.ensures
    (sym (leaf_key list.deepest list.own pre.0 _ _ _ _ (sym c.stand_from.ensures ∙ c.in-Inside.is) c.if-bits-around.true))
    (let e = spot_end pre.0 in omega arith)

pub returns-else-bits-around : goal.returns-else-bits-around
returns-else-bits-around c =
    let pre = c.requires in
    let list = c.args.job.now.list in
    sifted_none _ _ _ _ _ _ _ _ _
    (leaf_nothing list.deepest list.own pre.0 _ _ _ _ (sym c.stand_from.ensures ∙ c.in-Inside.is) c.if-bits-around.false)
    (passed_widen _ pre.2.passed (omega arith))
