-- `key_at` meets its contract: a refused call gives its number alone, and an accepted one the key around the pixel.
use mathlib.Core.Path.{sym}
use Rattle.std.proofs.lemmas.Result.{err_from_is_err_and}
use Rattle.definitions.proofs.Refused.{refusal_some}
use Rattle.blocks.proofs.Answers.{passed, key_refused, key_given}
use Rattle.blocks.proofs.key_at.Goals as goal

pub returns-in_err-key_at_refusal : goal.returns-in_err-key_at_refusal
returns-in_err-key_at_refusal c =
    let p = err_from_is_err_and c.from_residual.result c.from_residual.ensures.1 in
    rw (p.1, p.2)
    (key_refused _ _ _ _ _ c.in_err-key_at_refusal.ensures (refusal_some _))

pub around-requires : goal.around-requires
around-requires c = passed _ _ _ _ (sym c.in_ok-key_at_refusal.ensures)

pub returns : goal.returns
returns c = key_given _ _ _ _ _ (sym c.in_ok-key_at_refusal.ensures) c.around.ensures
