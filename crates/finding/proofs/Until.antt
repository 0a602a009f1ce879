-- A run along the records up to a key: what the record at each place gives, and so what the run gives from a place on. Rests on the records from a place on.
use Prim.Native.Nat.{ℕ, ◌+◌, ◌≤◌, ◌<◌}
use mathlib.Core.Path.{◌≡◌, refl, sym, ap, ◌∙◌}
use mathlib.Core.List.{List, [], ◌∷◌}
use native.Mathlib.Numerals.{add-one}
use lib.ListN.{length, get_or, drop}
use borrow.Author.Tests.{lt-ltb, le-ltb, eq-eqb, ne_eqb}
use Rattle.definitions.specs.List.{Record, record_of}
use Rattle.definitions.specs.Read.{records_of}
use Rattle.walk.proofs.RecordsFrom.{records-drop, records_past_end}
use Rattle.finding.specs.Sift.{keys_until}

pub until_none : (end bits : ℕ) → keys_until end bits [] ≡ []
unfolding keys_until
until_none end bits = refl

-- a record at or past the end stops the run
pub until_stop : (end bits : ℕ) (e : Record) (l : List Record) → end ≤ e.key → keys_until end bits (e ∷ l) ≡ []
unfolding keys_until
until_stop end bits e l h = rw (le-ltb e.key end h)

-- one before it with the bits is given
pub until_give : (end bits : ℕ) (e : Record) (l : List Record) → e.key < end → e.value ≡ bits → keys_until end bits (e ∷ l) ≡ e.key ∷ keys_until end bits l
unfolding keys_until
until_give end bits e l h same = rw (lt-ltb e.key end h, eq-eqb e.value bits same)

-- and one with other bits is passed
pub until_pass : (end bits : ℕ) (e : Record) (l : List Record) → e.key < end → (e.value ≡ bits → ⊥) → keys_until end bits (e ∷ l) ≡ keys_until end bits l
unfolding keys_until
until_pass end bits e l h other = rw (lt-ltb e.key end h, ne_eqb e.value bits other)

-- what the run gives from a place on
abbrev pub rest : List ℕ → List ℕ → ℕ → ℕ → ℕ → ℕ → List ℕ
rest keys bits n end bit i = keys_until end bit (drop i (records_of keys bits n))

-- past the last record it gives nothing
pub past_last : (keys bits : List ℕ) (n end bit i : ℕ) → n ≤ i → rest keys bits n end bit i ≡ []
past_last keys bits n end bit i h = ap (keys_until end bit) (records_past_end keys bits n i h) ∙ until_none end bit

-- and what it gives goes by the record at the place
module _ (keys bits : List ℕ) (n end bit i : ℕ) (inside : i < n) (fits : n ≤ length keys) (room : n ≤ length bits) where
  at_record : rest keys bits n end bit i ≡ keys_until end bit (record_of (get_or keys i 0) (get_or bits i 0) ∷ drop (i + 1) (records_of keys bits n))
  at_record =
      ap (keys_until end bit) (records-drop keys bits n i inside fits room)
      ∙ ap (λ (j : ℕ). keys_until end bit (record_of (get_or keys i 0) (get_or bits i 0) ∷ drop j (records_of keys bits n))) (sym (add-one i))

  pub past_end : end ≤ get_or keys i 0 → rest keys bits n end bit i ≡ []
  past_end h = at_record ∙ until_stop end bit _ _ h

  pub with_bit : get_or keys i 0 < end → get_or bits i 0 ≡ bit → rest keys bits n end bit i ≡ get_or keys i 0 ∷ rest keys bits n end bit (i + 1)
  with_bit h e = at_record ∙ until_give end bit _ _ h e

  pub without_bit : get_or keys i 0 < end → (get_or bits i 0 ≡ bit → ⊥) → rest keys bits n end bit i ≡ rest keys bits n end bit (i + 1)
  without_bit h e = at_record ∙ until_pass end bit _ _ h e
