-- The next step to redo as code finds it, and a redo of a single entry: its block is painted with its feature again. Rests on PaintPlan and on the laws of the
-- log's first step.
use Prim.Native.Nat.{ℕ, ◌+◌, ◌-◌, ◌≤◌}
use mathlib.Core.Path.{◌≡◌, sym, ◌∙◌, ap, ap₂, subst}
use mathlib.Core.Bool.{true, false}
use mathlib.Core.List.{List}
use native.Mathlib.Omega.{arith}
use lib.ListN.{length, take, drop, length-drop}
use Rattle.keys.specs.Key.{valid_key}
use Rattle.definitions.specs.List.{Record, list_of_picture}
use Rattle.definitions.specs.Read.{records_of, picture_of}
use Rattle.definitions.specs.Area.{summary_of}
use Rattle.definitions.specs.Edit.{paint_in}
use Rattle.definitions.specs.Log.{last_key, last_feature, ends_in_mark, step_entries, is_sound, first_step, paint_again, to_redo, EndsInEntry}
use Rattle.definitions.specs.Calls.Redo.{redone_picture, redone}
use Rattle.definitions.specs.Calls.Paint.{painted_picture, painted}
use Rattle.laws.proofs.LogEntries.{ends_in_entry}
use Rattle.laws.proofs.LastStep.{count_single, entries_single, step_single}
use Rattle.laws.proofs.Records.{records-length, records_first}
use Rattle.list.specs.Own.{OwnList}
use Rattle.list.specs.declared.accepted_list.Accepted.{Accepted}
use Rattle.list.specs.Taken.{Taken, picture_listed}
use Rattle.edit_log.specs.declared.entry.Entry.{Entry}
use Rattle.edit_log.specs.declared.step.LogStep.{LogStep}
use Rattle.edit_log.specs.Entries.{last_entry, Ended}
use Rattle.edit_log.specs.Steps.{Divided}
use Rattle.edit_log.proofs.First.{FirstOf, first_sound}
use Rattle.edit_log.proofs.Last.{entry_ended}
use Rattle.edit_log.proofs.Parts.{part_length, part_redo}
use Rattle.replace.specs.Putting.{Replaced}
use Rattle.edit.specs.PaintCall.{Paintable}
use Rattle.undo.specs.RedoCall.{LogToRedo, next_step, next_entry}
use Rattle.edit.proofs.PaintPlan.{paint_counted}

-- the records to redo
module _ {keys values : List ℕ} {used in_force : ℕ} (d : LogToRedo keys values used in_force) where
  -- a slice of the log as it is lent for them
  abbrev part : List ℕ → List ℕ
  part l = take (used - in_force) (drop in_force l)

  part_is : records_of (part keys) (part values) (used - in_force) ≡ to_redo keys values used in_force
  part_is = let w = d.whole in part_redo d.m d.s keys values used in_force w.in_keys w.in_values w.within

  pub part_lent : (l : List ℕ) → used ≤ length l → length (take (used - in_force) (drop in_force l)) ≡ used - in_force
  part_lent = let w = d.whole in part_length d.m d.s keys values used in_force w.in_keys w.in_values w.within

  pub redo_divided : Divided (take (used - in_force) (drop in_force keys)) (take (used - in_force) (drop in_force values)) (used - in_force)
  redo_divided =
      let k = part_lent keys d.whole.in_keys in
      let v = part_lent values d.whole.in_values in
      let some = d.some in
      record {
        m = d.m;
        s = d.s;
        in_keys = omega arith;
        in_values = omega arith;
        some = omega arith;
        sound = ap (is_sound d.m d.s) part_is ∙ d.whole.redoable;
      }

  -- the step that was found among them as they are lent
  pub step_found : (next : LogStep)
      → next ≡ next_step (records_of (take (used - in_force) (drop in_force keys)) (take (used - in_force) (drop in_force values)) (used - in_force))
      → next ≡ next_step (to_redo keys values used in_force)
  step_found next is = is ∙ ap next_step part_is

  redo_size : length (to_redo keys values used in_force) ≡ used - in_force
  redo_size =
      let w = d.whole in
      let all = records-length keys values used w.in_keys w.in_values in
      let rest = length-drop in_force (records_of keys values used) in
      omega arith

  pub redo_first : FirstOf d.m d.s (to_redo keys values used in_force)
  redo_first =
      let e = redo_size in
      let few = d.few in
      let some = d.some in
      first_sound d.m d.s (to_redo keys values used in_force) (omega arith) d.whole.redoable (omega arith)

  -- the place where the first step ends
  module _ (end : ℕ) (end_is : end ≡ length (first_step (to_redo keys values used in_force))) where
    -- it is among those used
    pub end_within : in_force + end ≤ used
    end_within = let first = redo_first in let size = redo_size in let some = d.some in let within = first.within in omega arith

    -- up to it the records are the step's
    pub first_records : first_step (to_redo keys values used in_force)
        ≡ records_of (take (used - in_force) (drop in_force keys)) (take (used - in_force) (drop in_force values)) end
    first_records =
        let within = end_within in
        redo_first.in_front
        ∙ ap₂ take (sym end_is) (sym part_is)
        ∙ records_first (part keys) (part values) (used - in_force) end (omega arith)

    module _ (single : ends_in_mark (first_step (to_redo keys values used in_force)) ≡ false) where
      pub next_ends : EndsInEntry d.m d.s (first_step (to_redo keys values used in_force))
      next_ends =
          ends_in_entry d.m d.s (first_step (to_redo keys values used in_force))
          (sym (step_single (first_step (to_redo keys values used in_force)) single d.m d.s) ∙ redo_first.is_step)

      -- a single entry is all there
      pub next_ended : Ended (take (used - in_force) (drop in_force keys)) (take (used - in_force) (drop in_force values)) end
      next_ended =
          let within = end_within in
          let k = part_lent keys d.whole.in_keys in
          let v = part_lent values d.whole.in_values in
          entry_ended (omega arith) (omega arith) (subst (EndsInEntry d.m d.s) first_records next_ends)

      -- the entry that was found
      pub next_found : (next : Entry)
          → next ≡ last_entry (records_of (take (used - in_force) (drop in_force keys)) (take (used - in_force) (drop in_force values)) end)
          → next ≡ next_entry (to_redo keys values used in_force)
      next_found next is = is ∙ ap last_entry (sym first_records)

      -- it can be painted
      pub redo_paintable : (next : Entry) → next ≡ next_entry (to_redo keys values used in_force) → (bits : List ℕ) (n : ℕ) (list : List ℕ) → d.m ≤ 10
          → OwnList d.m list bits n
          → Paintable d.m list bits n next.key next.feature
      redo_paintable next is bits n list deep own =
          let first = next_ends in
          let feature = ap (λ x. x.feature) is in
          let below = first.below in
          let few = d.few in
          record { deepest = deep; valid = ap (λ x. valid_key d.m x.key) is ∙ first.valid; own = own; feature = omega arith }

-- a single entry is redone by painting its block
redone_single : (m : ℕ) (l steps : List Record) → ends_in_mark (first_step steps) ≡ false
    → redone_picture m l steps ≡ paint_in m (last_key (first_step steps)) (last_feature (first_step steps)) (picture_of m l)
unfolding paint_again
redone_single m l steps e = ap₂ (λ n x. paint_again n m x (picture_of m l)) (count_single (first_step steps) e) (entries_single (first_step steps) e)

-- what the entry that was found makes
module _ (m : ℕ) (l steps : List Record) (single : ends_in_mark (first_step steps) ≡ false) (next : Entry) (is : next ≡ next_entry steps) where
  again : redone_picture m l steps ≡ painted_picture m l next.key next.feature
  again = redone_single m l steps single ∙ ap (λ x. painted_picture m l x.key x.feature) (sym is)

  -- the painted list is the redone one
  pub redone_is : painted m l next.key next.feature ≡ redone m l steps
  unfolding redone painted
  redone_is = ap (list_of_picture m) (sym again)

-- the step that was found, by its kind
pub next_single : (steps : List Record) (next : LogStep) → next ≡ next_step steps → next.grouped ≡ false
    → (ends_in_mark (first_step steps) ≡ false) × (next.end ≡ length (first_step steps))
next_single steps next is e =
    let single : ends_in_mark (first_step steps) ≡ false = sym (ap (λ x. x.grouped) is) ∙ e in
    (single, ap (λ x. x.end) is ∙ ap length (entries_single (first_step steps) single))

pub next_group : (steps : List Record) (next : LogStep) → next ≡ next_step steps → next.grouped ≡ true
    → (ends_in_mark (first_step steps) ≡ true) × (next.end ≡ length (step_entries (first_step steps)))
next_group steps next is e = (sym (ap (λ x. x.grouped) is) ∙ e, ap (λ x. x.end) is)

-- the redone list, once it stands, leaves the summary right outside the block
module _ {m n : ℕ} {keys bits keys' bits' : List ℕ} {r : ℕ} (steps : List Record) (single : ends_in_mark (first_step steps) ≡ false) (next : Entry) (is : next ≡ next_entry steps)
    (a : Paintable m keys bits n next.key next.feature)
    (made : Replaced n (painted m (records_of keys bits n) next.key next.feature) keys bits keys' bits' r) where
  pub redo_made : Replaced n (redone m (records_of keys bits n) steps) keys bits keys' bits' r
  redo_made = subst (λ l. Replaced n l keys bits keys' bits' r) (redone_is m (records_of keys bits n) steps single next is) made

  -- and counted anew it is that of the picture painted again
  pub redo_counted : (s : ℕ) {list : Accepted} (t : Taken m keys' bits' r list) (summary' : List ℕ) → summary' ≡ summary_of list.m s (picture_listed list) → summary' ≡ summary_of m s (redone_picture m (records_of keys bits n) steps)
  redo_counted s t summary' e =
      paint_counted s a made t summary' e ∙ ap (summary_of m s) (sym (again m (records_of keys bits n) steps single next is))
