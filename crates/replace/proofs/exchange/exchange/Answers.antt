-- `exchange::exchange` meets its contract: the tail of each slice is moved, and then the new records are put in.
use Rattle.replace.proofs.ExchangeInsert.{exchange_insert, exchange_done}
use Rattle.replace.proofs.exchange.exchange.Goals as goal

pub insert-requires : goal.insert-requires
insert-requires c = exchange_insert c.requires c.shift.auto.slice c.shift-2.auto.slice

pub returns : goal.returns
returns c =
    exchange_done c.requires c.shift.ensures c.shift-2.ensures c.insert.ensures
