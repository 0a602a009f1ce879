-- `calls::asked_for_raster`: past the first two rows of the table the number of pixels decides. Rests on FirstRefusal.
use Rattle.std.proofs.Common.{ℕ, List, ◌≡◌, ◌*◌, ◌^◌, length, true, not, refl, sym, ◌∙◌, ap}
use Rattle.std.proofs.lemmas.Result.{err_from_is_err_and}
use borrow.Author.Tests.{ne_eqb}
use Rattle.definitions.specs.Refusal.{bad_length}
use Rattle.definitions.specs.Calls.Raster.{raster_refusal}
use Rattle.definitions.proofs.Refused.{refusal_some}
use Rattle.laws.proofs.RasterOf.{length_from}
use Rattle.laws.proofs.First.{this, holds_first, none_first}
use Rattle.list.proofs.FirstRefusal.{refused_first, passed_first}
use Rattle.read.proofs.calls.asked_for_raster.Goals as goal

squared : (m side : ℕ) → side ≡ 2 ^ m → side * side ≡ 2 ^ m * 2 ^ m
squared m side e = ap (λ x. x * x) e

other_length : (m : ℕ) (raster : List ℕ) → (length raster ≡ 2 ^ m * 2 ^ m → ⊥) → bad_length m raster ≡ true
unfolding bad_length
other_length m raster h = ap not (ne_eqb _ _ h)

pub returns-in_err-list-clause-told : goal.returns-in_err-list-clause-told
unfolding raster_refusal
returns-in_err-list-clause-told c =
    let p = err_from_is_err_and c.from_residual.result c.from_residual.ensures.1 in
    rw (p.1, p.2) (refused_first _ _ _ _ _ _ _ c.in_err-list.ensures.told (refusal_some _))

pub returns-then-raster-side-clause-told : goal.returns-then-raster-side-clause-told
unfolding raster_refusal
returns-then-raster-side-clause-told c =
    let side = squared _ _ c.power_of_two-side.ensures in
    sym (passed_first _ _ _ _ _ _ _ c.in_ok-list.ensures.told refl ∙ holds_first (this (other_length _ _ (λ z. c.if-raster-side.true (z ∙ sym side))) refl))

pub returns-clause-told : goal.returns-clause-told
unfolding raster_refusal
returns-clause-told c =
    let side = squared _ _ c.power_of_two-side.ensures in
    sym (passed_first _ _ _ _ _ _ _ c.in_ok-list.ensures.told refl ∙ none_first _ (length_from _ _ (c.if-raster-side.false ∙ side), tt))
