-- What a fit paint, its taking back and its redo make of a list that shows a picture: the list and the summary of the picture after the paint and the step of
-- the one before it; the step taken back gives the former list and summary, and redone the later ones. Rests on Fit and the laws of reading a list.
use Prim.Native.Nat.{ℕ, ◌≤◌}
use mathlib.Core.Path.{◌≡◌, ap, ◌∙◌}
use mathlib.Core.Bool.{true}
use mathlib.Core.List.{List, ◌++◌}
use Rattle.keys.specs.Key.{root_key}
use Rattle.definitions.specs.Picture.{Picture, features_below}
use Rattle.definitions.specs.List.{Record, list_of_picture}
use Rattle.definitions.specs.Read.{picture_of}
use Rattle.definitions.specs.Area.{summary_of}
use Rattle.definitions.specs.Log.{group_mark, step_count, step_entries, first_step, before_step, paint_again}
use Rattle.definitions.specs.Calls.TakeBack.{restored_picture, restored}
use Rattle.definitions.specs.Calls.Redo.{redone_picture, redone}
use Rattle.laws.proofs.Pixels.{Agree}
use Rattle.laws.proofs.ListOf.{list_agree}
use Rattle.laws.proofs.SummaryOf.{summary_agree}
use Rattle.laws.proofs.LastStep.{step_before}
use Rattle.laws.proofs.SoundLog.{Steps}
use Rattle.laws.proofs.FirstStep.{first_of}
use Rattle.history.specs.History.{Paint, applied, logged_by}
use Rattle.history.proofs.Content.{map_back}
use Rattle.history.proofs.Fit.{Fit, applied_agree, step_agree, step_is, step_back, step_again}

-- the list after a paint is that of the painted picture
pub applied_list : (m : ℕ) (x : Paint) (p : Picture) → list_of_picture m (applied m x (picture_of m (list_of_picture m p))) ≡ list_of_picture m (applied m x p)
applied_list m x p =
    list_agree (applied m x (picture_of m (list_of_picture m p))) (applied m x p) m 0 0 root_key
    (applied_agree m x (picture_of m (list_of_picture m p)) p (map_back m p))

-- and the summary after it
pub applied_summary : (m s : ℕ) (x : Paint) (p : Picture) → summary_of m s (applied m x (picture_of m (list_of_picture m p))) ≡ summary_of m s (applied m x p)
applied_summary m s x p =
    summary_agree m s (applied m x (picture_of m (list_of_picture m p))) (applied m x p) (applied_agree m x (picture_of m (list_of_picture m p)) p (map_back m p))

-- the step that the log gains is that of the former picture
pub gained_step : {m s : ℕ} {x : Paint} (p : Picture) → Fit m s x → logged_by m (picture_of m (list_of_picture m p)) x ≡ logged_by m p x
gained_step {m} p fit = step_agree (picture_of m (list_of_picture m p)) p fit (map_back m p)

module _ {m s : ℕ} {x : Paint} (p : Picture) (few : s ≤ group_mark) (fit : Fit m s x) (below : features_below s p m 0 0 ≡ true) where
  -- the last step taken back gives the former picture
  restored_agree : (log : List Record) → Agree (restored_picture m (list_of_picture m (applied m x p)) (log ++ logged_by m p x)) p m 0 0
  restored_agree log = step_back p few fit below log (picture_of m (list_of_picture m (applied m x p))) (map_back m (applied m x p))

  -- so the list is the former one
  pub restored_list : (log : List Record) → restored m (list_of_picture m (applied m x p)) (log ++ logged_by m p x) ≡ list_of_picture m p
  unfolding restored
  restored_list log = list_agree (restored_picture m (list_of_picture m (applied m x p)) (log ++ logged_by m p x)) p m 0 0 root_key (restored_agree log)

  -- and the summary
  pub restored_summary : (log : List Record) → summary_of m s (restored_picture m (list_of_picture m (applied m x p)) (log ++ logged_by m p x)) ≡ summary_of m s p
  restored_summary log = summary_agree m s (restored_picture m (list_of_picture m (applied m x p)) (log ++ logged_by m p x)) p (restored_agree log)

  -- and the log is what stood before the step
  pub without_step : (log : List Record) → before_step (log ++ logged_by m p x) ≡ log
  without_step log = step_before few (step_is p fit below) log

  -- a step before steps is the first of them
  module _ {rest : List Record} (steps : Steps m s rest) where
    pub first_next : first_step (logged_by m p x ++ rest) ≡ logged_by m p x
    first_next = first_of few (step_is p fit below) steps

    -- redone it gives the painted picture
    redone_agree : Agree (redone_picture m (list_of_picture m p) (logged_by m p x ++ rest)) (applied m x p) m 0 0
    redone_agree row column i =
        ap (λ l. paint_again (step_count l) m (step_entries l) (picture_of m (list_of_picture m p)) row column) first_next
        ∙ step_again p few fit below (picture_of m (list_of_picture m p)) row column i
        ∙ applied_agree m x (picture_of m (list_of_picture m p)) p (map_back m p) row column i

    -- so its list
    pub redone_list : redone m (list_of_picture m p) (logged_by m p x ++ rest) ≡ list_of_picture m (applied m x p)
    unfolding redone
    redone_list = list_agree (redone_picture m (list_of_picture m p) (logged_by m p x ++ rest)) (applied m x p) m 0 0 root_key redone_agree

    -- and its summary
    pub redone_summary : summary_of m s (redone_picture m (list_of_picture m p) (logged_by m p x ++ rest)) ≡ summary_of m s (applied m x p)
    redone_summary = summary_agree m s (redone_picture m (list_of_picture m p) (logged_by m p x ++ rest)) (applied m x p) redone_agree
