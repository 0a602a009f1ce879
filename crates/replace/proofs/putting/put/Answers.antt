-- `putting::put` meets its contract: exchange, renew, and zeroes in the places given up.
use Rattle.std.proofs.Common.{sym, arith}
use Rattle.replace.proofs.FamilyRead.{first_length, first_sorted}
use Rattle.replace.proofs.PuttingList.{put_ready, put_key, put_exchangeable, after_fits, start_below, put_sorted, put_sizes, put_renewed, put_kept, put_cleared}
use Rattle.replace.proofs.putting.put.Goals as goal

pub length_after-after-requires : goal.length_after-after-requires
length_after-after-requires c =
    let e = put_exchangeable c.requires in
    omega (arith, e.within, e.list_fits, e.content_fits, e.deep.most, c.well_formed)

pub exchange-requires : goal.exchange-requires
exchange-requires c = put_exchangeable c.requires

pub offset_bounds-bits-plan : goal.offset_bounds-bits-plan
offset_bounds-bits-plan c =
    let s = start_below c.requires _ c.length_after-after.ensures in
    let f = after_fits c.requires _ c.length_after-after.ensures in
    omega (arith, s, f, c.well_formed)

pub bounds-bits-plan : goal.bounds-bits-plan
bounds-bits-plan c =
    let s = start_below c.requires _ c.length_after-after.ensures in
    let f = after_fits c.requires _ c.length_after-after.ensures in
    let z = put_sizes c.requires _ c.length_after-after.ensures c.exchange.ensures in
    omega (arith, s, f, z.1)

pub slice_bounds-renew-end : goal.slice_bounds-renew-end
slice_bounds-renew-end c =
    let f = after_fits c.requires _ c.length_after-after.ensures in
    let z = put_sizes c.requires _ c.length_after-after.ensures c.exchange.ensures in
    omega (arith, f, z.0)

pub slice_bounds-renew-end-2 : goal.slice_bounds-renew-end-2
slice_bounds-renew-end-2 c = sym (first_length (put_sorted c.requires _ c.length_after-after.ensures c.exchange.ensures))

pub overflow_add-plan : goal.overflow_add-plan
overflow_add-plan c = let r = put_ready c.requires in omega (arith, r.high, c.requires.deep)

pub renew-requires : goal.renew-requires
renew-requires c =
    let r = put_ready c.requires in
    let f = after_fits c.requires _ c.length_after-after.ensures in
    let z = put_sizes c.requires _ c.length_after-after.ensures c.exchange.ensures in
    let s = put_sorted c.requires _ c.length_after-after.ensures c.exchange.ensures in
    let l = first_length s in
    record { m_bound = (c.requires.deep, r.high, put_key c.requires); sorted = first_sorted s; paired = omega (arith, f, z.1) }

pub returns-then-after-n : goal.returns-then-after-n
returns-then-after-n c =
    let is = c.length_after-after.ensures in
    put_cleared c.requires _ is (put_renewed c.requires _ is c.exchange.ensures c.renew.ensures) c.if-after-n.true c.clear.ensures c.clear-then-after-n.ensures

pub returns-else-after-n : goal.returns-else-after-n
returns-else-after-n c =
    let is = c.length_after-after.ensures in
    put_kept c.requires _ is (put_renewed c.requires _ is c.exchange.ensures c.renew.ensures) c.if-after-n.false
