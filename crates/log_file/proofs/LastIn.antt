-- The last entry as code reads it from a log's bytes. Rests on the laws of a log in two slices.
use Prim.Native.Nat.{ℕ, ◌+◌, ◌-◌}
use mathlib.Core.Path.{◌≡◌, ◌∙◌}
use mathlib.Core.List.{List}
use Rattle.definitions.specs.Log.{closing_places}
use Rattle.edit_log.specs.declared.entry.Entry.{Entry}
use Rattle.edit_log.specs.Entries.{closing_key, closing_feature, closing_count, last_entry, Ended}
use Rattle.edit_log.proofs.Last.{last_found}
use Rattle.log_file.specs.Records.{keys_in_bytes, values_in_bytes, log_in}

-- the numbers that were read make the last entry
pub entry_read : (bytes : List ℕ) {used : ℕ} → Ended (keys_in_bytes bytes) (values_in_bytes bytes) used
    → (key count taken feature : ℕ) → key ≡ closing_key (keys_in_bytes bytes) used → count ≡ closing_count (values_in_bytes bytes) used → taken ≡ count + closing_places
    → feature ≡ closing_feature (values_in_bytes bytes) used
    → ◌≡◌ {A = Entry} (record { key = key; start = used - taken; count = count; feature = feature }) (last_entry (log_in bytes used))
entry_read bytes {used} e key count taken feature key-is read taken_is feature-is =
    let same : ◌≡◌ {A = Entry} (record { key = key; start = used - taken; count = count; feature = feature })
    (record { key = closing_key (keys_in_bytes bytes) used; start = used - taken; count = count; feature = closing_feature (values_in_bytes bytes) used })
    = λ i. record { key = key-is i; start = used - taken; count = count; feature = feature-is i } in
    same ∙ last_found e count taken read taken_is
