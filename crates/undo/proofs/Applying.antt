-- A deed done to a list and its summary: what there is no room for is left, and what is changed is the deed's picture. Rests on Changed.
use Prim.Native.Nat.{ℕ, ◌^◌, ◌≤◌, ◌<◌}
use mathlib.Core.Path.{◌≡◌, refl, sym, ◌∙◌, ap, ap₂}
use mathlib.Core.Bool.{true, false}
use mathlib.Core.List.{List}
use native.Mathlib.Omega.{arith}
use lib.ListN.{length}
use lib.Dec.{leb}
use borrow.Author.Tests.{leb-true, leb-false}
use Rattle.definitions.specs.List.{list_of_picture}
use Rattle.definitions.specs.Read.{room}
use Rattle.definitions.specs.Area.{summary_of}
use Rattle.definitions.specs.declared.refusal.Refusal.TheVariants.{ListRoom}
use Rattle.list.specs.Own.{OwnList, shown_by}
use Rattle.list.specs.declared.accepted_list.Accepted.{Accepted}
use Rattle.list.specs.Taken.{Taken, picture_listed}
use Rattle.list.proofs.Taken.{taken_picture}
use Rattle.replace.specs.Putting.{Replaced}
use Rattle.deeds.specs.Step.{Step, step_over}
use Rattle.apply_deed.specs.Change.{list_stepped, Changeable, Changed}
use Rattle.apply_deed.specs.Recount.{StepOutdated}
use Rattle.apply_deed.proofs.Recounted.{step_outdated}
use Rattle.undo.specs.GroupCall.{WithSummary, StepDone, StepFull}
use Rattle.edit.proofs.Changed.{new_own, new_shows, new_summary}

module _ (t : Step) {m s n : ℕ} {keys bits summary : List ℕ} (k : WithSummary m s keys bits n summary) {former : Accepted} (was : Taken m keys bits n former)
    (size : ℕ) (size_is : size ≡ room keys bits) where
  same : list_stepped t former ≡ list_of_picture m (step_over t (shown_by m keys bits n))
  same = ap₂ (λ k p. list_of_picture k (step_over t p)) was.map (taken_picture was)

  -- no room
  pub applied_full : leb (length (list_stepped t former)) size ≡ false
      → StepFull (step_over t (shown_by m keys bits n)) m keys bits summary keys bits summary ListRoom
  applied_full h = let more = leb-false _ _ h in let e = ap length same in (refl, omega arith, refl, refl, refl)

  module _ (fits : leb (length (list_stepped t former)) size ≡ true) where
    list_fits : length (list_of_picture m (step_over t (shown_by m keys bits n))) ≤ room keys bits
    list_fits = let within = leb-true _ _ fits in let e = ap length same in omega arith

    -- what changing asks
    pub can_change : Changeable t m keys bits n
    can_change = record { deep = k.deep; own = k.own; fits = list_fits }

    module _ {keys' bits' : List ℕ} {after : ℕ} (made : Changed t m n keys bits keys' bits' after) where
      stands : Replaced n (list_of_picture m (step_over t (shown_by m keys bits n))) keys bits keys' bits' after
      stands = record { length-is = made.length-is; keys_are = made.keys_are; values_are = made.bits_are }

      -- it is a list again
      pub change_own : OwnList m keys' bits' after
      change_own = new_own m (step_over t (shown_by m keys bits n)) stands

      module _ {changed : Accepted} (is : Taken m keys' bits' after changed) where
        -- what counting anew asks
        pub change_outdated : StepOutdated t changed.m s changed.keys.now changed.bits.now (length changed.keys.now) summary
        change_outdated =
            let outdated : StepOutdated t m s keys' bits' after summary
            = step_outdated (shown_by m keys bits n) k.deep k.few change_own (new_shows m (step_over t (shown_by m keys bits n)) stands) k.counts in
            record {
              deep = changed.deepest;
              few = k.few;
              own = changed.own;
              before = outdated.before;
              counts = outdated.counts ∙ ap (λ x. summary_of x s outdated.before) (sym is.map);
              outside = λ row column h j o.
                  let low : row < 2 ^ m = rw is.map at h in
                  let left : column < 2 ^ m = rw is.map at j in
                  ap (λ p. p row column) (taken_picture is) ∙ outdated.outside row column low left o;
            }

        -- all is changed
        pub applied_done : (summary' : List ℕ) → summary' ≡ summary_of changed.m s (picture_listed changed)
            → StepDone (step_over t (shown_by m keys bits n)) m s n keys bits keys' bits' summary' after
        applied_done summary' counted =
            (list_fits, stands, new_summary m (step_over t (shown_by m keys bits n)) stands s summary' (counted ∙ ap₂ (λ x p. summary_of x s p) is.map (taken_picture is)))
