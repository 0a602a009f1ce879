-- The rows that three slices of one length hold, place by place; a table's are those of its slices narrowed to the rows. Rests on laws' RowPlaces.
use Prim.Native.Nat.{ℕ, suc, ◌≤◌, ◌<◌}
use mathlib.Core.Path.{◌≡◌, refl, sym, ap, ◌∙◌}
use mathlib.Core.List.{List, [], ◌∷◌}
use native.Mathlib.Omega.{arith}
use lib.ListN.{length, take, drop}
use lib.Seq.{take_all}
use Rattle.definitions.specs.Offices.{Waiver, row_at, Holds, rows_in, table_of}
use Rattle.offices.specs.Narrowed.{NarrowedTo}
use Rattle.laws.proofs.RowPlaces.{table-length, table-drop, table_end}

-- the slices have one length
pub record OneLength (offices ids waived : List ℕ) : Type 0 where
  pub as_many_ids : length ids ≡ length offices
  pub as_many_keys : length waived ≡ length offices

-- a table's rows are those of the narrowed slices
table_narrow : (offices ids waived : List ℕ) (rows : ℕ) → table_of offices ids waived rows ≡ rows_in (take rows offices) (take rows ids) (take rows waived)
unfolding table_of
table_narrow offices ids waived rows = refl

pub narrowed_rows : (offices ids waived : List ℕ) (rows : ℕ) (offices' ids' waived' : List ℕ) → NarrowedTo rows offices ids waived offices' ids' waived'
    → rows_in offices' ids' waived' ≡ table_of offices ids waived rows
narrowed_rows offices ids waived rows offices' ids' waived' h =
    ap (λ l. rows_in l ids' waived') h.narrow_offices
    ∙ ap (λ l. rows_in (take rows offices) l waived') h.narrow_ids
    ∙ ap (λ l. rows_in (take rows offices) (take rows ids) l) h.narrow_waived
    ∙ sym (table_narrow offices ids waived rows)

module _ (offices ids waived : List ℕ) (h : OneLength offices ids waived) where
  abbrev table : List Waiver
  table = rows_in offices ids waived

  holds : Holds offices ids waived (length offices)
  holds = record { in_offices = omega arith; in_ids = omega (arith, h.as_many_ids); in_waived = omega (arith, h.as_many_keys) }

  -- all rows are those of a table that takes every place
  whole : table_of offices ids waived (length offices) ≡ table
  whole =
      table_narrow offices ids waived (length offices)
      ∙ ap (λ l. rows_in l (take (length offices) ids) (take (length offices) waived)) (take_all (length offices) offices (omega arith))
      ∙ ap (λ l. rows_in offices l (take (length offices) waived)) (take_all (length offices) ids (omega (arith, h.as_many_ids)))
      ∙ ap (λ l. rows_in offices ids l) (take_all (length offices) waived (omega (arith, h.as_many_keys)))

  pub rows-length : length table ≡ length offices
  rows-length = sym (ap length whole) ∙ table-length offices ids waived (length offices) holds

  pub rows-drop : (i : ℕ) → i < length offices → drop i table ≡ row_at offices ids waived i ∷ drop (suc i) table
  rows-drop i low =
      sym (ap (drop i) whole) ∙ table-drop offices ids waived (length offices) i holds low ∙ ap (λ t. row_at offices ids waived i ∷ drop (suc i) t) whole

  pub rows-end : (i : ℕ) → length offices ≤ i → drop i table ≡ []
  rows-end i over = sym (ap (drop i) whole) ∙ table_end offices ids waived (length offices) i holds over
