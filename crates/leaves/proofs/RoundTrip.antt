-- Specification S17: the leaves of a list are a delivery that describes the list's raster, so reading what was written gives the list back; and
-- deliveries of one raster give one list. Rests on Delivery and LeavesOf.
use Prim.Native.Nat.{ℕ, ◌≤◌}
use mathlib.Core.Path.{◌≡◌, refl, sym, ◌∙◌, ap, ap₂}
use mathlib.Core.Bool.{true, false}
use mathlib.Core.List.{List, ◌∷◌, Memᴰ}
use native.Mathlib.Omega.{arith}
use lib.ListN.{length, drop, length-map, length-append}
use lib.Seq.{take_at}
use Rattle.keys.specs.Block.{in_block}
use Rattle.keys.proofs.Cases.{decide}
use Rattle.keys.specs.Under.{here}
use Rattle.definitions.specs.Picture.{Picture, features_below}
use Rattle.definitions.specs.List.{Record, list_of_picture, keys_of, values_of}
use Rattle.definitions.specs.Read.{room, records_of, is_list}
use Rattle.definitions.specs.Leaves.{coverings, are_leaves, is_delivery, leaves_of, picture_of_leaves, picture_delivered}
use Rattle.definitions.specs.Buffer.{over}
use Rattle.definitions.specs.Calls.ReadLeaves.{list_delivered}
use Rattle.definitions.specs.Calls.WriteLeaves.{leaves_in}
use Rattle.laws.proofs.Pixels.{Agree}
use Rattle.laws.proofs.ListOf.{list_agree}
use Rattle.laws.proofs.Records.{records_over}
use Rattle.list.specs.Own.{shown_by}
use Rattle.list.proofs.Accepted.{accepted_as_list}
use Rattle.list.proofs.Own.{own_list}
use Rattle.leaves.proofs.Tiles.{tiles_once}
use Rattle.leaves.proofs.Open.{cover_cons, cover_some}
use Rattle.leaves.proofs.Delivery.{tiles_leaves, leaves_from}
use Rattle.leaves.proofs.LeavesOf.{leaves_tile, leaves_below, leaves_found}
use Rattle.leaves.proofs.ReadAnswer.{delivery_full}

value_here : (m : ℕ) (e : Record) (l : List Record) (row column : ℕ) → in_block m e.key row column ≡ true → picture_of_leaves m (e ∷ l) row column ≡ e.value
unfolding picture_of_leaves
value_here m e l row column t = rw t

value_later : (m : ℕ) (e : Record) (l : List Record) (row column : ℕ) → in_block m e.key row column ≡ false
    → picture_of_leaves m (e ∷ l) row column ≡ picture_of_leaves m l row column
unfolding picture_of_leaves
value_later m e l row column t = rw t

key_member : {x : Record} {l : List Record} → Memᴰ x l → Memᴰ x.key (keys_of l)
key_member (Memᴰ.head e) = Memᴰ.head (ap (λ y. y.key) e)
key_member (Memᴰ.tail n) = Memᴰ.tail (key_member n)

-- where exactly one leaf has the pixel, its feature is the picture's there
pub once_value : (m : ℕ) {x : Record} {l : List Record} (row column : ℕ) → Memᴰ x l → in_block m x.key row column ≡ true
    → coverings m (keys_of l) row column ≡ 1
    → picture_of_leaves m l row column ≡ x.value
once_value m row column (Memᴰ.head {x = y} {xs = l} e) h one =
    value_here m y l row column (ap (λ z. in_block m z.key row column) (sym e) ∙ h) ∙ ap (λ z. z.value) (sym e)
once_value m {x} row column (Memᴰ.tail {x = y} {xs = l} n) h one =
    decide (in_block m y.key row column)
    (λ t.
    let more = cover_some m row column (key_member n) h in
    let all = cover_cons m y.key (keys_of l) row column true t in
    absurd (omega arith))
    (λ t.
    let all = cover_cons m y.key (keys_of l) row column false t in
    value_later m y l row column t ∙ once_value m row column n h (omega arith))

module _ (m : ℕ) (p : Picture) where
  -- the leaves of a list describe the list's raster
  pub written_picture : Agree (picture_of_leaves m (leaves_of (list_of_picture m p))) p m 0 0
  written_picture a b w =
      let f = leaves_found p m 0 0 0 a b here w in
      once_value m a b f.among f.has (tiles_once a b here (leaves_tile p m 0 0 0) w) ∙ f.feature

  -- they are a delivery
  pub written_leaves : (s : ℕ) → features_below s p m 0 0 ≡ true
      → are_leaves m s (keys_of (leaves_of (list_of_picture m p))) (values_of (leaves_of (list_of_picture m p))) ≡ true
  written_leaves s h =
      leaves_from m s _ _ (tiles_leaves m s _ (values_of (leaves_of (list_of_picture m p))) (leaves_tile p m 0 0 0) (leaves_below s p m 0 0 0 h))

  -- whose list is the list
  pub read_written : list_of_picture m (picture_of_leaves m (leaves_of (list_of_picture m p))) ≡ list_of_picture m p
  read_written = list_agree _ p m 0 0 0 written_picture

-- deliveries of one raster give one list
pub one_list_of_leaves : (m : ℕ) (keys features keys' features' : List ℕ) (leaves leaves' : ℕ)
    → Agree (picture_delivered m keys features leaves) (picture_delivered m keys' features' leaves') m 0 0
    → list_delivered m keys features leaves ≡ list_delivered m keys' features' leaves'
one_list_of_leaves m keys features keys' features' leaves leaves' h = list_agree _ _ m 0 0 0 h

-- the leaves of an accepted list, written over two slices that have the places: they are a delivery there, and reading it gives the list back
module _ (m s : ℕ) (keys bits : List ℕ) (n : ℕ) (is : is_list m s keys bits n ≡ true) (leafKeys leafFeatures : List ℕ)
    (fits : length (leaves_in keys bits n) ≤ room leafKeys leafFeatures) where
  shown : leaves_in keys bits n ≡ leaves_of (list_of_picture m (shown_by m keys bits n))
  shown = ap leaves_of (own_list m s keys bits n is).own

  pub trip_delivery : is_delivery m s (over (keys_of (leaves_in keys bits n)) leafKeys) (over (values_of (leaves_in keys bits n)) leafFeatures) (length (leaves_in keys bits n)) ≡ true
  trip_delivery =
      let l = leaves_in keys bits n in
      let a = length-map l (λ x. x.key) in
      let b = length-map l (λ x. x.value) in
      let c = length-append (keys_of l) (drop (length (keys_of l)) leafKeys) in
      let d = length-append (values_of l) (drop (length (values_of l)) leafFeatures) in
      delivery_full m s (over (keys_of l) leafKeys) (over (values_of l) leafFeatures) (length l) (omega arith)
      ∙ ap₂ (are_leaves m s) (take_at (keys_of l) (drop (length (keys_of l)) leafKeys) (length l) a) (take_at (values_of l) (drop (length (values_of l)) leafFeatures) (length l) b)
      ∙ ap (λ k. are_leaves m s (keys_of k) (values_of k)) shown
      ∙ written_leaves m (shown_by m keys bits n) s (accepted_as_list m s keys bits n is).below

  pub trip_list : list_delivered m (over (keys_of (leaves_in keys bits n)) leafKeys) (over (values_of (leaves_in keys bits n)) leafFeatures) (length (leaves_in keys bits n))
      ≡ records_of keys bits n
  trip_list =
      ap (λ l. list_of_picture m (picture_of_leaves m l)) (records_over (leaves_in keys bits n) _ leafKeys leafFeatures refl)
      ∙ ap (λ l. list_of_picture m (picture_of_leaves m l)) shown
      ∙ read_written m (shown_by m keys bits n)
      ∙ sym (own_list m s keys bits n is).own
