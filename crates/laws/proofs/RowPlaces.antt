-- The rows of a table, place by place: how many they are, which stands where, and that a table written from its first place on is read back. Rests on the
-- laws of lists.
use Prim.Native.Nat.{ℕ, zero, suc, ◌≤◌, ◌<◌}
use mathlib.Core.Path.{◌≡◌, refl, ap}
use mathlib.Core.List.{List, [], ◌∷◌, ◌++◌, map}
use native.Mathlib.Omega.{arith}
use lib.ListN.{length, take, drop}
use Rattle.definitions.specs.Offices.{Waiver, row_at, Holds, rows_in, table_of}

-- there are as many rows as the count says
pub table-length : (offices ids waived : List ℕ) (rows : ℕ) → Holds offices ids waived rows → length (table_of offices ids waived rows) ≡ rows
unfolding table_of rows_in
table-length offices ids waived zero h = refl
table-length [] ids waived (suc rows) h = absurd (omega (arith, h.in_offices))
table-length (o ∷ offices) [] waived (suc rows) h = absurd (omega (arith, h.in_ids))
table-length (o ∷ offices) (i ∷ ids) [] (suc rows) h = absurd (omega (arith, h.in_waived))
table-length (o ∷ offices) (i ∷ ids) (κ ∷ waived) (suc rows) h =
    ap suc (table-length offices ids waived rows (record { in_offices = omega (arith, h.in_offices); in_ids = omega (arith, h.in_ids); in_waived = omega (arith, h.in_waived) }))

-- the row at a place, and those after it
pub table-drop : (offices ids waived : List ℕ) (rows i : ℕ) → Holds offices ids waived rows → i < rows
    → drop i (table_of offices ids waived rows) ≡ row_at offices ids waived i ∷ drop (suc i) (table_of offices ids waived rows)
unfolding table_of rows_in
table-drop offices ids waived zero i h low = absurd (omega arith)
table-drop [] ids waived (suc rows) i h low = absurd (omega (arith, h.in_offices))
table-drop (o ∷ offices) [] waived (suc rows) i h low = absurd (omega (arith, h.in_ids))
table-drop (o ∷ offices) (j ∷ ids) [] (suc rows) i h low = absurd (omega (arith, h.in_waived))
table-drop (o ∷ offices) (j ∷ ids) (κ ∷ waived) (suc rows) zero h low = refl
table-drop (o ∷ offices) (j ∷ ids) (κ ∷ waived) (suc rows) (suc i) h low =
    table-drop offices ids waived rows i (record { in_offices = omega (arith, h.in_offices); in_ids = omega (arith, h.in_ids); in_waived = omega (arith, h.in_waived) }) (omega arith)

-- past the last there is none
past_end : (t : List Waiver) (i : ℕ) → length t ≤ i → drop i t ≡ []
past_end [] zero h = refl
past_end [] (suc i) h = refl
past_end (w ∷ t) zero h = absurd (omega arith)
past_end (w ∷ t) (suc i) h = past_end t i (omega arith)

pub table_end : (offices ids waived : List ℕ) (rows i : ℕ) → Holds offices ids waived rows → rows ≤ i → drop i (table_of offices ids waived rows) ≡ []
table_end offices ids waived rows i h over = past_end (table_of offices ids waived rows) i (let e = table-length offices ids waived rows h in omega arith)

-- a table's offices, ids and keys are the first places of its slices
pub table_offices : (offices ids waived : List ℕ) (rows : ℕ) → Holds offices ids waived rows → map (λ w. w.office) (table_of offices ids waived rows) ≡ take rows offices
unfolding table_of rows_in
table_offices offices ids waived zero h = refl
table_offices [] ids waived (suc rows) h = refl
table_offices (o ∷ offices) [] waived (suc rows) h = absurd (omega (arith, h.in_ids))
table_offices (o ∷ offices) (i ∷ ids) [] (suc rows) h = absurd (omega (arith, h.in_waived))
table_offices (o ∷ offices) (i ∷ ids) (κ ∷ waived) (suc rows) h =
    ap (λ l. o ∷ l) (table_offices offices ids waived rows (record { in_offices = omega (arith, h.in_offices); in_ids = omega (arith, h.in_ids); in_waived = omega (arith, h.in_waived) }))

pub table_ids : (offices ids waived : List ℕ) (rows : ℕ) → Holds offices ids waived rows → map (λ w. w.id) (table_of offices ids waived rows) ≡ take rows ids
unfolding table_of rows_in
table_ids offices ids waived zero h = refl
table_ids [] ids waived (suc rows) h = absurd (omega (arith, h.in_offices))
table_ids (o ∷ offices) [] waived (suc rows) h = refl
table_ids (o ∷ offices) (i ∷ ids) [] (suc rows) h = absurd (omega (arith, h.in_waived))
table_ids (o ∷ offices) (i ∷ ids) (κ ∷ waived) (suc rows) h =
    ap (λ l. i ∷ l) (table_ids offices ids waived rows (record { in_offices = omega (arith, h.in_offices); in_ids = omega (arith, h.in_ids); in_waived = omega (arith, h.in_waived) }))

pub table_keys : (offices ids waived : List ℕ) (rows : ℕ) → Holds offices ids waived rows → map (λ w. w.key) (table_of offices ids waived rows) ≡ take rows waived
unfolding table_of rows_in
table_keys offices ids waived zero h = refl
table_keys [] ids waived (suc rows) h = absurd (omega (arith, h.in_offices))
table_keys (o ∷ offices) [] waived (suc rows) h = absurd (omega (arith, h.in_ids))
table_keys (o ∷ offices) (i ∷ ids) [] (suc rows) h = refl
table_keys (o ∷ offices) (i ∷ ids) (κ ∷ waived) (suc rows) h =
    ap (λ l. κ ∷ l) (table_keys offices ids waived rows (record { in_offices = omega (arith, h.in_offices); in_ids = omega (arith, h.in_ids); in_waived = omega (arith, h.in_waived) }))

-- a table that is written from the first place on is read back
pub table_made : (t : List Waiver) (a b c : List ℕ) → table_of (map (λ w. w.office) t ++ a) (map (λ w. w.id) t ++ b) (map (λ w. w.key) t ++ c) (length t) ≡ t
unfolding table_of rows_in
table_made [] a b c = refl
table_made (w ∷ t) a b c = ap (λ l. w ∷ l) (table_made t a b c)
