-- `exchange::insert` meets its contract: three runs, one after the other.
use mathlib.Core.Path.{refl}
use native.Mathlib.Omega.{arith}
use Rattle.replace.proofs.ExchangeInsert.{insert_front, insert_filling, insert_back, insert_done}
use Rattle.replace.proofs.exchange.insert.Goals as goal

pub write_front-at-requires : goal.write_front-at-requires
write_front-at-requires c = record { deep = c.requires.deep; roomy = insert_front c.requires _ _ }

pub write_filling-requires : goal.write_filling-requires
write_filling-requires c =
    let deep = c.requires.deep in
    record { key_lt_all_keys = (deep.least, omega (arith, deep.most)); copyable = insert_filling c.requires _ _ c.write_front-at.ensures }

pub overflow_add-at : goal.overflow_add-at
overflow_add-at c =
    let f = insert_filling c.requires _ _ c.write_front-at.ensures in
    omega (arith, f.fits, c.write_front-at.auto, c.well_formed)

pub write_back-requires : goal.write_back-requires
write_back-requires c =
    record { deep = c.requires.deep; roomy = insert_back c.requires _ _ c.write_front-at.ensures c.write_filling.ensures }

pub returns : goal.returns
returns c =
    insert_done c.requires _ _ c.write_front-at.ensures c.write_filling.ensures refl c.write_back.ensures
