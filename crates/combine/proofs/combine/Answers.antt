-- `combine::combine`: a refusal before 9 leaves all as it was, and past those the rest is known. Rests on CombineRefusal.
use Rattle.std.proofs.Common.{sym}
use Rattle.std.proofs.lemmas.Result.{err_from_is_err_and}
use Rattle.combine.proofs.CombineRefusal.{told, answers, both_ready, both_combined}
use Rattle.combine.proofs.combine.Goals as goal

pub returns-in_err-lists : goal.returns-in_err-lists
returns-in_err-lists c =
    let p = err_from_is_err_and c.from_residual.result c.from_residual.ensures.1 in
    let r = told _ _ _ _ _ _ _ _ _ _ _ _ _ _ _ c.in_err-lists.ensures.told in
    record { value = rw (p.1, p.2) r.0; keys_after = r.1.0; bits_after = r.1.1 }

pub combine_ready-requires : goal.combine_ready-requires
combine_ready-requires c = both_ready _ _ _ _ _ _ _ _ _ _ _ _ c.in_ok-lists.ensures.lists (sym c.in_ok-lists.ensures.told)

pub returns : goal.returns
returns c =
    let same = both_combined c.args.m1 c.args.s1 c.args.keys1.now c.args.bits1.now c.args.n1 c.args.m2 c.args.s2 c.args.keys2.now c.args.bits2.now c.args.n2 c.args.s3 c.args.table.now c.in_ok-lists.ensures.lists in
    let answered = rw same at c.combine_ready.ensures in
    let r = answers _ _ _ _ _ _ _ _ _ _ _ _ _ _ (sym c.in_ok-lists.ensures.told) answered in
    record { value = r.0; keys_after = r.1.0; bits_after = r.1.1 }
