-- Entries one before the other, walked from the end: what is left of them after one, and what stands before them all. Rests on Places.
use Prim.Native.Nat.{ℕ, suc, ◌≤◌}
use mathlib.Core.Path.{◌≡◌, sym, ap, ◌∙◌}
use mathlib.Core.Bool.{Bool, true, false, ◌&&◌}
use mathlib.Core.List.{List}
use native.Mathlib.Omega.{arith}
use lib.ListN.{length}
use Rattle.keys.proofs.Cases.{and_left, and_right}
use Rattle.definitions.specs.Read.{records_of}
use Rattle.definitions.specs.Log.{before_last, last_is_entry, before_entries, ends_in_entries}
use Rattle.laws.proofs.LogEntries.{ends_in_entry}
use Rattle.laws.proofs.Records.{records-length}
use Rattle.edit_log.specs.declared.entry.Entry.{Entry}
use Rattle.edit_log.specs.Entries.{last_entry, Ended}
use Rattle.edit_log.specs.Steps.{EntriesLast}
use Rattle.edit_log.proofs.Last.{entry_ended}
use Rattle.edit_log.proofs.Places.{places_are, before_is}

-- the walk to the start of entries: so many as left says are to be passed yet
pub record Walked (count : ℕ) (keys values : List ℕ) (used start left : ℕ) : Type 0 where
  pub rest : EntriesLast left keys values start
  pub same : before_entries count (records_of keys values used) ≡ before_entries left (records_of keys values start)

module _ {count : ℕ} {keys values : List ℕ} {used start left : ℕ} (w : Walked count keys values used start left) where
  -- none is left: the entries start here
  pub walked_all : left ≡ 0 → start ≡ length (before_entries count (records_of keys values used))
  unfolding before_entries
  walked_all none =
      let size = records-length keys values start w.rest.in_keys w.rest.in_values in
      sym (ap length (w.same ∙ ap (λ n. before_entries n (records_of keys values start)) none) ∙ size)

  module _ (others : ℕ) (one_more : left ≡ suc others) where
    abbrev is_entry : Bool
    is_entry = last_is_entry w.rest.m w.rest.s (records_of keys values start)

    abbrev others_are : Bool
    others_are = ends_in_entries others w.rest.m w.rest.s (before_last (records_of keys values start))

    both : is_entry && others_are ≡ true
    unfolding ends_in_entries
    both = sym (ap (λ n. ends_in_entries n w.rest.m w.rest.s (records_of keys values start)) one_more) ∙ w.rest.entries

    -- the last is all there
    pub walk_ended : Ended keys values start
    walk_ended =
        entry_ended w.rest.in_keys w.rest.in_values
        (ends_in_entry w.rest.m w.rest.s (records_of keys values start) (and_left is_entry others_are both))

    before_one : before_entries left (records_of keys values start) ≡ before_entries others (before_last (records_of keys values start))
    unfolding before_entries
    before_one = ap (λ n. before_entries n (records_of keys values start)) one_more

    -- and is passed
    pub walk_on : (last : Entry) → last ≡ last_entry (records_of keys values start) → Walked count keys values used last.start others
    walk_on last found =
        let all = places_are walk_ended last found in
        let before = before_is walk_ended last found in
        let in_keys = w.rest.in_keys in
        let in_values = w.rest.in_values in
        record {
          rest = record {
            m = w.rest.m;
            s = w.rest.s;
            in_keys = omega arith;
            in_values = omega arith;
            entries = sym (ap (ends_in_entries others w.rest.m w.rest.s) before) ∙ and_right is_entry others_are both;
          };
          same = w.same ∙ before_one ∙ ap (before_entries others) before;
        }

-- the check of entries: those from `end` on have passed, and so many as left says are to be checked yet
pub record PassedEntries (count m s : ℕ) (keys values : List ℕ) (used end left : ℕ) : Type 0 where
  pub within : end ≤ used
  pub in_keys : used ≤ length keys
  pub in_values : used ≤ length values
  pub same : ends_in_entries count m s (records_of keys values used) ≡ ends_in_entries left m s (records_of keys values end)

module _ {count m s : ℕ} {keys values : List ℕ} {used end left : ℕ} (p : PassedEntries count m s keys values used end left) where
  -- all have passed
  pub all_passed : left ≡ 0 → true ≡ ends_in_entries count m s (records_of keys values used)
  unfolding ends_in_entries
  all_passed none = sym (p.same ∙ ap (λ n. ends_in_entries n m s (records_of keys values end)) none)

  module _ (others : ℕ) (one_more : left ≡ suc others) {r : Bool} (told : r ≡ last_is_entry m s (records_of keys values end)) where
    -- the last entry and those before it decide
    decides : ends_in_entries count m s (records_of keys values used) ≡ r && ends_in_entries others m s (before_last (records_of keys values end))
    unfolding ends_in_entries
    decides =
        p.same
        ∙ ap (λ n. ends_in_entries n m s (records_of keys values end)) one_more
        ∙ ap (λ b. b && ends_in_entries others m s (before_last (records_of keys values end))) (sym told)

    -- the last is no entry
    pub one_fails : r ≡ false → false ≡ ends_in_entries count m s (records_of keys values used)
    one_fails bad = sym (decides ∙ ap (λ b. b && ends_in_entries others m s (before_last (records_of keys values end))) bad)

    module _ (passes : r ≡ true) where
      pub one_ended : Ended keys values end
      one_ended =
          let within = p.within in
          let in_keys = p.in_keys in
          let in_values = p.in_values in
          entry_ended (omega arith) (omega arith) (ends_in_entry m s (records_of keys values end) (sym told ∙ passes))

      -- it has passed
      pub one_passed : (last : Entry) → last ≡ last_entry (records_of keys values end) → PassedEntries count m s keys values used last.start others
      one_passed last found =
          let all = places_are one_ended last found in
          let within = p.within in
          record {
            within = omega arith;
            in_keys = p.in_keys;
            in_values = p.in_values;
            same = decides
                ∙ ap (λ b. b && ends_in_entries others m s (before_last (records_of keys values end))) passes
                ∙ ap (ends_in_entries others m s) (before_is one_ended last found);
          }
