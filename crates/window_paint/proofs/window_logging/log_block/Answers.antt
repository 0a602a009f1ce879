-- `window_logging::log_block` meets its contract: the content that was found is what is logged, and the next search can begin at its place.
use Rattle.std.proofs.Common.{◌∙◌, ap, ◌^◌, arith}
use Rattle.edit.proofs.ContentStands.{standing_count, former_stands}
use Rattle.window_paint.proofs.WindowSearch.{found_after}
use Rattle.window_paint.proofs.window_logging.log_block.Goals as goal

pub power_of_five-step-requires : goal.power_of_five-step-requires
power_of_five-step-requires c = omega (arith, c.requires.block_from.low)

pub stand_from-standing-requires : goal.stand_from-standing-requires
stand_from-standing-requires c =
    let a = c.requires.block_from in
    (a.block.valid, c.power_of_five-step.ensures ∙ ap (λ x. 5 ^ x) a.height_is, a.near)

pub log_content-end-requires : goal.log_content-end-requires
log_content-end-requires c =
    let b = c.requires.block_from.block in
    record {
      fresh = record {
        deepest = b.deepest;
        own = b.own;
        valid = b.valid;
        whole = c.content_count.ensures ∙ standing_count _ _ _ c.stand_from-standing.ensures;
        fits = c.requires.feature_bound;
      };
      former_value = former_stands _ _ _ c.stand_from-standing.ensures;
    }

pub returns : goal.returns
returns c = (c.log_content-end.ensures, found_after c.requires.block_from.block c.stand_from-standing.ensures c.place_found.ensures _)
