-- A run along the records up to a place: what the record at each place gives, and so what the run gives from a place on. Rests on the laws of records and of keys with given bits.
use Prim.Native.Nat.{ℕ, ◌+◌, ◌≤◌, ◌<◌}
use mathlib.Core.Path.{◌≡◌, sym, ap, ◌∙◌}
use mathlib.Core.List.{List, [], ◌∷◌}
use native.Mathlib.Numerals.{add-one}
use lib.ListN.{length, get_or, drop}
use Rattle.definitions.specs.List.{record_of}
use Rattle.definitions.specs.Read.{records_of}
use Rattle.walk.specs.Given.{keys_with}
use Rattle.walk.proofs.RecordsFrom.{records-drop, records_past_end}
use Rattle.walk.proofs.Content.{with_none, with_give, with_pass}

abbrev pub left : List ℕ → List ℕ → ℕ → ℕ → ℕ → List ℕ
left keys bits end bit i = keys_with bit (drop i (records_of keys bits end))

-- at the end it gives nothing
pub run_over : (keys bits : List ℕ) (end bit i : ℕ) → end ≤ i → left keys bits end bit i ≡ []
run_over keys bits end bit i h = ap (keys_with bit) (records_past_end keys bits end i h) ∙ with_none bit

-- before it what it gives goes by the record at the place
module _ (keys bits : List ℕ) (end bit i : ℕ) (inside : i < end) (fits : end ≤ length keys) (room : end ≤ length bits) where
  at_record : left keys bits end bit i ≡ keys_with bit (record_of (get_or keys i 0) (get_or bits i 0) ∷ drop (i + 1) (records_of keys bits end))
  at_record =
      ap (keys_with bit) (records-drop keys bits end i inside fits room)
      ∙ ap (λ (j : ℕ). keys_with bit (record_of (get_or keys i 0) (get_or bits i 0) ∷ drop j (records_of keys bits end))) (sym (add-one i))

  pub run_gives : get_or bits i 0 ≡ bit → left keys bits end bit i ≡ get_or keys i 0 ∷ left keys bits end bit (i + 1)
  run_gives e = at_record ∙ with_give bit _ _ e

  pub run_passes : (get_or bits i 0 ≡ bit → ⊥) → left keys bits end bit i ≡ left keys bits end bit (i + 1)
  run_passes e = at_record ∙ with_pass bit _ _ e
