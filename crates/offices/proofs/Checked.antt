-- The check of a table, test by test, as the code makes it: what each test decides of the whole. Rests on Counted, and on Shares of definitions.
use Prim.Native.Nat.{ℕ, ◌+◌, ◌≤◌, ◌<◌}
use mathlib.Core.Path.{◌≡◌, refl, sym, ap, ap₂, ◌∙◌}
use mathlib.Core.Bool.{Bool, true, false, ◌&&◌}
use mathlib.Core.List.{List}
use native.Mathlib.Omega.{arith}
use lib.ListN.{length, take}
use lib.Dec.{leb, eqb}
use borrow.Author.Tests.{eqb-true, leb-true, le-leb, lt-leb}
use Rattle.keys.proofs.Cases.{and_left, and_right}
use Rattle.definitions.specs.Offices.{Waiver, Holds, table_of, rows_of, rows_ascend, offices_known, is_sound_table, is_table}
use Rattle.laws.proofs.RowPlaces.{table-length}
use Rattle.laws.proofs.Shares.{Sound, sound_by_test, known_exactly}
use Rattle.offices.specs.Place.{office_times}
use Rattle.offices.proofs.Counted.{times_share}

-- four tests and a fifth
fifth : (a b c d e : Bool) → a && (b && (c && (d && e))) ≡ (a && (b && (c && d))) && e
fifth true true true d e = refl
fifth true true false d e = refl
fifth true false c d e = refl
fifth false b c d e = refl

-- of four tests the first holds, and the second decides, or the third and the fourth
second_fails : (a b c d : Bool) → c ≡ false → a && (b && (c && d)) ≡ false
second_fails true true c d e = rw e
second_fails true false c d e = refl
second_fails false b c d e = refl

third_fails : (a b c d : Bool) → d ≡ false → a && (b && (c && d)) ≡ false
third_fails true true true d e = e
third_fails true true false d e = refl
third_fails true false c d e = refl
third_fails false b c d e = refl

one_decides : (a b c d : Bool) → a ≡ true → c ≡ true → d ≡ true → b ≡ a && (b && (c && d))
one_decides a true c d e f g = sym (ap₂ (λ x y. x && y) e (ap₂ (λ x y. x && y) f g))
one_decides a false c d e f g = sym (ap (λ x. x && false) e)

module _ (offices ids waived : List ℕ) (rows : ℕ) where
  abbrev t : List Waiver
  t = table_of offices ids waived rows

  abbrev pub has_places : Bool
  has_places = eqb (length offices) 512 && (eqb (length ids) 512 && (eqb (length waived) 512 && leb rows 512))

  -- the table has its places, and its rows are sound
  table_two : is_table offices ids waived rows ≡ has_places && is_sound_table t
  unfolding is_table
  table_two = fifth (eqb (length offices) 512) (eqb (length ids) 512) (eqb (length waived) 512) (leb rows 512) (is_sound_table t)

  pub no_places : has_places ≡ false → false ≡ is_table offices ids waived rows
  no_places e = sym (table_two ∙ ap (λ b. b && is_sound_table t) e)

  -- every slice has 512 places
  pub record TablePlaces : Type 0 where
    pub all_offices : length offices ≡ 512
    pub all_ids : length ids ≡ 512
    pub all_waived : length waived ≡ 512
    pub few : rows ≤ 512

  pub has_all : has_places ≡ true → TablePlaces
  has_all e =
      let a = eqb (length offices) 512 in
      let b = eqb (length ids) 512 in
      let c = eqb (length waived) 512 in
      let f = and_right a (b && (c && leb rows 512)) e in
      let g = and_right b (c && leb rows 512) f in
      record {
        all_offices = eqb-true (length offices) 512 (and_left a (b && (c && leb rows 512)) e);
        all_ids = eqb-true (length ids) 512 (and_left b (c && leb rows 512) f);
        all_waived = eqb-true (length waived) 512 (and_left c (leb rows 512) g);
        few = leb-true rows 512 (and_right c (leb rows 512) g);
      }

  pub places_hold : has_places ≡ true → Holds offices ids waived rows
  places_hold e = let p = has_all e in record { in_offices = omega (arith, p.all_offices, p.few); in_ids = omega (arith, p.all_ids, p.few); in_waived = omega (arith, p.all_waived, p.few) }

  -- an accepted table has its places and is sound
  pub table_places : is_table offices ids waived rows ≡ true → TablePlaces
  table_places e = has_all (and_left has_places (is_sound_table t) (sym table_two ∙ e))

  pub table_holds : is_table offices ids waived rows ≡ true → Holds offices ids waived rows
  table_holds e = places_hold (and_left has_places (is_sound_table t) (sym table_two ∙ e))

  pub table_sound : is_table offices ids waived rows ≡ true → Sound t
  table_sound e = sound_by_test t (and_right has_places (is_sound_table t) (sym table_two ∙ e))

  module _ (places : has_places ≡ true) where
    abbrev few : ℕ → Bool
    few office = leb (length (rows_of office t)) 256

    table_is : is_table offices ids waived rows ≡ rows_ascend t && (offices_known t && (few 0 && few 1))
    unfolding is_sound_table
    table_is = table_two ∙ ap (λ b. b && is_sound_table t) places

    pub out_of_order : rows_ascend t ≡ false → false ≡ is_table offices ids waived rows
    out_of_order e = sym (table_is ∙ ap (λ b. b && (offices_known t && (few 0 && few 1))) e)

    share : (office count : ℕ) → count ≡ office_times office (take rows offices) → count ≡ length (rows_of office t)
    share office count e = e ∙ times_share office offices ids waived rows (places_hold places)

    too_many : (office count : ℕ) → count ≡ office_times office (take rows offices) → 256 < count → few office ≡ false
    too_many office count e past = let f = share office count e in lt-leb (length (rows_of office t)) 256 (omega arith)

    pub zero_past : (count : ℕ) → count ≡ office_times 0 (take rows offices) → 256 < count → false ≡ is_table offices ids waived rows
    zero_past count e past = sym (table_is ∙ second_fails (rows_ascend t) (offices_known t) (few 0) (few 1) (too_many 0 count e past))

    pub one_past : (count : ℕ) → count ≡ office_times 1 (take rows offices) → 256 < count → false ≡ is_table offices ids waived rows
    one_past count e past = sym (table_is ∙ third_fails (rows_ascend t) (offices_known t) (few 0) (few 1) (too_many 1 count e past))

    -- all else holds: the offices decide
    pub offices_decide : (a b : ℕ) → a ≡ office_times 0 (take rows offices) → b ≡ office_times 1 (take rows offices) → rows_ascend t ≡ true → a ≤ 256 → b ≤ 256
        → eqb (a + b) rows ≡ is_table offices ids waived rows
    offices_decide a b e f asc low high =
        let own = share 0 a e in
        let other = share 1 b f in
        let size = table-length offices ids waived rows (places_hold places) in
        ap₂ eqb (ap₂ (λ x y. x + y) own other) (sym size)
        ∙ sym (known_exactly t)
        ∙ one_decides (rows_ascend t) (offices_known t) (few 0) (few 1) asc (le-leb (length (rows_of 0 t)) 256 (omega arith)) (le-leb (length (rows_of 1 t)) 256 (omega arith))
        ∙ sym table_is
