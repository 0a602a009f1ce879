-- `exchange::write_filling` meets its contract.
use native.Mathlib.Omega.{arith}
use Rattle.keys.proofs.Powers.{five_pos}
use Rattle.replace.proofs.FamilyRead.{multiple_le}
use Rattle.replace.proofs.ExchangeFilling.{filling_wrote_one, filling_wrote_more}
use Rattle.replace.proofs.exchange.write_filling.Goals as goal

pub nonzero_div-keys : goal.nonzero_div-keys
nonzero_div-keys c = let e = c.power_of_five-step.ensures in let h = five_pos c.args.top in omega (arith, e, h)

pub overflow_mul-keys : goal.overflow_mul-keys
overflow_mul-keys c = let h = multiple_le c.args.key c.power_of_five-step.result in omega (arith, h, c.requires.key_lt_all_keys)

pub returns-then-count-eq1 : goal.returns-then-count-eq1
returns-then-count-eq1 c =
    filling_wrote_one _ _ _ _ _ _ _ _ c.requires.copyable.content_fits _ c.if-count-eq1.true c.power_of_five-step.ensures

pub returns : goal.returns
returns c =
    filling_wrote_more _ _ _ _ _ _ _ _ c.requires.copyable.content_fits _ _ c.if-count-eq1.false c.copy.ensures c.copy-2.ensures
