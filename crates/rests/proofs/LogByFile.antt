-- A log that was stored and loaded is brought along: where both are accepted, its records stand first in the slices that it was loaded into, and both
-- counts are given back. Rests on log_file's LogRoundTrip, and on Events.
use Prim.Native.Nat.{ℕ, ◌^◌, ◌≤◌, ◌<◌}
use mathlib.Core.Path.{◌≡◌, refl, sym, ap, ◌∙◌}
use mathlib.Core.List.{List}
use native.Mathlib.Omega.{arith}
use lib.ListN.{length, take, drop}
use Rattle.definitions.specs.Read.{room, records_of}
use Rattle.definitions.specs.LogFile.{used_in, log_records_in}
use Rattle.definitions.specs.Calls.StoreLog.{store_log_refusal, store_log, store_log_file}
use Rattle.definitions.specs.Calls.LoadLog.{load_log_refusal, load_log, load_log_keys, load_log_values}
use Rattle.laws.proofs.FileBack.{length-read}
use Rattle.edit_log.proofs.Parts.{whole_log}
use Rattle.file.proofs.SliceRecords.{over_room}
use Rattle.log_file.proofs.LogAccepted.{store_accepted, load_accepted, load_gives, load_leaves}
use Rattle.log_file.proofs.LogFileOf.{Words}
use Rattle.log_file.proofs.LogRoundTrip.{LoadsLog, load_log_after_store}
use Rattle.rests.specs.Events.{LogBrought}

-- the numbers of a log as a machine has them: keys and values of 32 bits, and a count of 64
pub record MachineLog (log_keys log_values : List ℕ) (used : ℕ) : Type 0 where
  pub keys : Words log_keys
  pub values : Words log_values
  pub short : used < 2 ^ 64

-- as many records are in a log's file as it says
in_file : (file : List ℕ) → length (log_records_in file) ≡ used_in file
unfolding log_records_in
in_file file = length-read 4 (used_in file) (drop 23 file)

-- the answer's refusal is load's
refusal_of : (file keys values : List ℕ) → (load_log file keys values).refusal ≡ load_log_refusal file keys values
unfolding load_log
refusal_of file keys values = refl

-- a log that was stored, in what store left, as many bytes as it says
module _ (m s : ℕ) (log_keys log_values : List ℕ) (used in_force : ℕ) (buffer : List ℕ) (kept : store_log_refusal m s log_keys log_values used in_force buffer ≡ 0)
    (machine : MachineLog log_keys log_values used) where
  abbrev file : List ℕ
  file = take (store_log m s log_keys log_values used in_force buffer).count (store_log_file m s log_keys log_values used in_force buffer)

  -- load gives it back in any slices with room
  load_back : (keys values : List ℕ) → used ≤ room keys values → LoadsLog file keys values m s used in_force (records_of log_keys log_values used)
  load_back keys values h = load_log_after_store m s log_keys log_values used in_force buffer keys values kept machine.keys machine.values machine.short h

  -- so the file's count is the log's, since loading into the old slices gives that
  used_is : used_in file ≡ used
  used_is =
      let w = whole_log m s log_keys log_values used in_force (store_accepted m s log_keys log_values used in_force buffer kept).whole in
      let in_keys = w.in_keys in
      let in_values = w.in_values in
      let own = (load_back log_keys log_values (omega arith)).result in
      let passed = sym (refusal_of file log_keys log_values) ∙ ap (λ r. r.refusal) own in
      ap (λ r. r.used) (sym (load_gives file log_keys log_values passed) ∙ own)

  module _ (keys values : List ℕ) (e : load_log_refusal file keys values ≡ 0) where
    -- load is accepted only where there is room
    roomy : used ≤ room keys values
    roomy = let h = (load_accepted file keys values e).roomy in let same = used_is in omega arith

    -- and then the records stand first
    pub log_brought : LogBrought log_keys log_values used (load_log_keys file keys values) (load_log_values file keys values)
    log_brought =
        let left = load_leaves file keys values e in
        record {
          fits = rw (left.0, left.1) (over_room (log_records_in file) used keys values (in_file file ∙ used_is) roomy);
          records = (load_back keys values roomy).records;
        }

    -- and both counts are given back
    pub counts_brought : ((load_log file keys values).used ≡ used) × ((load_log file keys values).in_force ≡ in_force)
    counts_brought =
        let back = (load_back keys values roomy).result in
        (ap (λ r. r.used) back, ap (λ r. r.in_force) back)
