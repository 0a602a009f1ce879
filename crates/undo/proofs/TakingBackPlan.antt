-- The plan of a taking back of a single entry: the content of the log's last entry is put into its block; and the summary after it. Rests on Planned, Changed
-- and on the laws of the last entry.
use Prim.Native.Nat.{ℕ, ◌+◌, ◌≤◌, ◌<◌}
use mathlib.Core.Path.{◌≡◌, sym, ◌∙◌, ap, ap₂, subst}
use mathlib.Core.Bool.{true, false, cond}
use mathlib.Core.List.{List}
use native.Mathlib.Omega.{arith}
use lib.ListN.{length, get_or}
use lib.Dec.{eqb}
use Rattle.std.specs.Prelude.{Option, Some, None}
use Rattle.keys.specs.Key.{slot_limit, valid_key}
use Rattle.definitions.specs.List.{Record, list_of_picture}
use Rattle.definitions.specs.Read.{room, records_of, picture_of}
use Rattle.definitions.specs.Edit.{put}
use Rattle.definitions.specs.Log.{last_key, last_content, ends_in_mark, put_back}
use Rattle.definitions.specs.Area.{summary_of}
use Rattle.definitions.specs.Calls.TakeBack.{restored_picture, restored}
use Rattle.laws.proofs.LastStep.{count_single, entries_single}
use Rattle.list.specs.Own.{OwnList, shown_by}
use Rattle.list.specs.declared.accepted_list.Accepted.{Accepted}
use Rattle.list.specs.Taken.{Taken, picture_listed}
use Rattle.edit_log.specs.declared.entry.Entry.{Entry}
use Rattle.edit_log.specs.Entries.{last_entry, content_part}
use Rattle.edit_log.proofs.Last.{content-length}
use Rattle.edit_log.proofs.Places.{count-is, places_are, first-bits, lent_length, lent_content}
use Rattle.replace.specs.Put.{top_with, one_told, plan_at, plan_of, edited}
use Rattle.replace.specs.Putting.{Puttable, Replaced}
use Rattle.replace.specs.declared.plan.Plan.{Plan}
use Rattle.replace.proofs.PlanTop.{plan_with}
use Rattle.edit.specs.Recount.{Outdated}
use Rattle.undo.specs.TakingBackCall.{Restorable, restore_plan}
use Rattle.edit.proofs.Planned.{Planned, can_put, put_makes}
use Rattle.edit.proofs.Changed.{new_own, put_outdated, put_counted}

-- a single entry is taken back by putting its content
restored_single : (m : ℕ) (l log : List Record) → ends_in_mark log ≡ false
    → restored_picture m l log ≡ put m (last_key log) (picture_of m (last_content log)) (picture_of m l)
unfolding put_back
restored_single m l log e = ap₂ (λ n x. put_back n m x (picture_of m l)) (count_single log e) (entries_single log e)

module _ {m n in_force : ℕ} {keys bits log_keys log_values : List ℕ} (a : Restorable m keys bits n log_keys log_values in_force) (last : Entry)
    (is : last ≡ last_entry (records_of log_keys log_values in_force)) where
  key-is : last.key ≡ last_key (records_of log_keys log_values in_force)
  key-is = ap (λ x. x.key) is

  -- the key that was found is valid
  pub key_valid : valid_key m last.key ≡ true
  key_valid = ap (valid_key m) key-is ∙ a.valid

  -- the content has as many records as was found
  pub content_count : last.count ≡ length (last_content (records_of log_keys log_values in_force))
  content_count = count-is a.ended last is ∙ sym (content-length a.ended)

  -- what is told of the content is true
  pub told_content : (one : Option ℕ) → one ≡ cond (eqb last.count 1) (Some (get_or log_values last.start 0)) None
      → one ≡ one_told (last_content (records_of log_keys log_values in_force))
  told_content one e =
      let first = first-bits a.ended last is (subst (λ x. 0 < x) (sym (count-is a.ended last is)) a.some_content) in
      e ∙ ap₂ (λ x b. cond (eqb x 1) (Some b) None) content_count (sym first)

  -- so the plan that was found for it is the content's
  pub restore_found : (one : Option ℕ) → one ≡ cond (eqb last.count 1) (Some (get_or log_values last.start 0)) None
      → plan_at m (records_of keys bits n) last.key (top_with m (records_of keys bits n) last.key one)
      ≡ restore_plan m (records_of keys bits n) (records_of log_keys log_values in_force)
  restore_found one e =
      plan_with m (records_of keys bits n) last.key (last_content (records_of log_keys log_values in_force)) one (told_content one e)
      ∙ ap (λ κ. plan_of m (records_of keys bits n) κ (last_content (records_of log_keys log_values in_force))) key-is

  module _ (plan : Plan) where
    -- is one that makes the restored list
    pub restore_planned : plan ≡ restore_plan m (records_of keys bits n) (records_of log_keys log_values in_force)
        → Planned m keys bits n last.key (last_content (records_of log_keys log_values in_force))
        (restored m (records_of keys bits n) (records_of log_keys log_values in_force)) plan
    unfolding restored
    restore_planned found =
        subst
        (λ κ.
        Planned m keys bits n κ (last_content (records_of log_keys log_values in_force)) (restored m (records_of keys bits n) (records_of log_keys log_values in_force)) plan)
        (sym key-is)
        (record {
          deep = a.deepest;
          valid = a.valid;
          own = a.own;
          picture = picture_of m (last_content (records_of log_keys log_values in_force));
          content_is = a.correct;
          new_is = ap (list_of_picture m) (restored_single m (records_of keys bits n) (records_of log_keys log_values in_force) a.single);
          plan-is = found;
        })

    -- what putting its content asks
    module _ (found : plan ≡ restore_plan m (records_of keys bits n) (records_of log_keys log_values in_force)) where
      pub restore_puttable : length (restored m (records_of keys bits n) (records_of log_keys log_values in_force)) ≤ room keys bits
          → (last.start + last.count ≤ room log_keys log_values)
          × Puttable m keys bits n last.key plan (content_part last log_keys) (content_part last log_values) last.count
      restore_puttable fits =
          let all = places_are a.ended last is in
          let in_keys = a.ended.in_keys in
          let in_values = a.ended.in_values in
          let k = lent_length a.ended last is log_keys in_keys in
          let v = lent_length a.ended last is log_values in_values in
          (omega arith, can_put (restore_planned found) (content_part last log_keys) (content_part last log_values) last.count (lent_content a.ended last is) (omega arith) fits)

      -- and what it makes
      pub restore_made : {keys' bits' : List ℕ} {r : ℕ}
          → Replaced n (edited m (records_of keys bits n) last.key (records_of (content_part last log_keys) (content_part last log_values) last.count)) keys bits keys' bits' r
          → Replaced n (restored m (records_of keys bits n) (records_of log_keys log_values in_force)) keys bits keys' bits' r
      restore_made h = put_makes (restore_planned found) (content_part last log_keys) (content_part last log_values) last.count (lent_content a.ended last is) h

-- the restored list, once it stands, leaves the summary right outside the block
module _ (s : ℕ) {m n in_force : ℕ} {keys bits log_keys log_values keys' bits' : List ℕ} {r : ℕ} (a : Restorable m keys bits n log_keys log_values in_force) (last : Entry)
    (is : last ≡ last_entry (records_of log_keys log_values in_force))
    (made : Replaced n (restored m (records_of keys bits n) (records_of log_keys log_values in_force)) keys bits keys' bits' r) where
  put_there : Replaced n (list_of_picture m (put m (last_key (records_of log_keys log_values in_force)) (picture_of m (last_content (records_of log_keys log_values in_force)))
      (shown_by m keys bits n))) keys bits keys' bits' r
  unfolding restored
  put_there =
      subst (λ p. Replaced n (list_of_picture m p) keys bits keys' bits' r) (restored_single m (records_of keys bits n) (records_of log_keys log_values in_force) a.single) made

  -- it is a list again
  pub restore_own : OwnList m keys' bits' r
  restore_own = new_own m _ put_there

  module _ {list : Accepted} (t : Taken m keys' bits' r list) where
    pub restore_outdated : (summary : List ℕ) → s ≤ slot_limit → summary ≡ summary_of m s (shown_by m keys bits n) → Outdated list s summary last.key
    restore_outdated summary few counts =
        subst (λ κ. Outdated list s summary κ) (sym (key-is a last is))
        (put_outdated m s (last_key (records_of log_keys log_values in_force)) (picture_of m (last_content (records_of log_keys log_values in_force))) put_there t summary few a.valid counts)

    -- and counted anew it is that of the restored picture
    pub restore_counted : (summary' : List ℕ) → summary' ≡ summary_of list.m s (picture_listed list)
        → summary' ≡ summary_of m s (restored_picture m (records_of keys bits n) (records_of log_keys log_values in_force))
    restore_counted summary' e =
        put_counted m s (last_key (records_of log_keys log_values in_force))
        (picture_of m (last_content (records_of log_keys log_values in_force))) put_there t summary' e
        ∙ ap (summary_of m s) (sym (restored_single m (records_of keys bits n) (records_of log_keys log_values in_force) a.single))
