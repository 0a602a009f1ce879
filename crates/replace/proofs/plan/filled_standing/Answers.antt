-- `plan::filled_standing` meets its contract: one key has one standing, and another is looked for.
use Rattle.std.proofs.Common.{sym, ◌∙◌, ap}
use Rattle.definitions.specs.Standing.{standing_of}
use Rattle.list.proofs.Fuller.{near_root}
use Rattle.list.specs.Taken.{records_listed}
use Rattle.replace.proofs.plan.filled_standing.Goals as goal

pub returns-then-filled-key : goal.returns-then-filled-key
returns-then-filled-key c =
    let list = c.args.list.now in
    c.requires.standing_value ∙ ap (λ x. standing_of list.m x (records_listed list)) (sym c.if-filled-key.true)

pub stand_from-requires : goal.stand_from-requires
stand_from-requires c = (c.requires.block_in.0, c.requires.block_in.1, near_root c.args.list.now.own _)
