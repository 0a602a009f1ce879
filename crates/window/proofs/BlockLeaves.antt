-- The leaves of a block with given bits, as select finds them: by a run along a listed block's records; a leaf of the feature, or one around the block, has
-- it everywhere. Rests on Told and the laws of the standing.
use Prim.Native.Nat.{ℕ, ◌+◌, ◌-◌, ◌^◌, ◌≤◌}
use mathlib.Core.Path.{◌≡◌, sym, ◌∙◌, ap, ap₂, subst}
use mathlib.Core.Bool.{true}
use mathlib.Core.List.{List, ◌++◌}
use native.Mathlib.Omega.{arith}
use lib.Bits.{bit_and}
use lib.ListN.{length, get_or, take, drop, length-append, length-drop}
use lib.Seq.{drop_at, take_all, take-append_seam}
use Rattle.keys.specs.Key.{root_key}
use Rattle.keys.proofs.Cases.{decide}
use Rattle.definitions.specs.declared.Standing.TheVariants.{Listed}
use Rattle.definitions.specs.List.{list_of, list_of_picture}
use Rattle.definitions.specs.Read.{records_of}
use Rattle.definitions.specs.Standing.{place_of, is_listed, records_in, standing_of}
use Rattle.definitions.specs.Edit.{content_of}
use Rattle.laws.proofs.Records.{records-length, records_run}
use Rattle.list.specs.Own.{OwnList, shown_by}
use Rattle.list.proofs.Lookup.{AtPlace, lookup_listed}
use Rattle.list.proofs.PartLength.{records-in}
use Rattle.list.proofs.Own.{own-length}
use Rattle.list.proofs.Fuller.{listed_numbers}
use Rattle.walk.specs.declared.Spot.{Spot}
use Rattle.walk.specs.declared.asking.Told.{Told}
use Rattle.walk.specs.Walk.{BlockSpot}
use Rattle.walk.specs.Asked.{Tells}
use Rattle.walk.specs.Given.{keys_with}
use Rattle.walk.proofs.Steps.{in_spot}
use Rattle.walk.proofs.SpotBits.{whole_pixel}
use Rattle.walk.proofs.Told.{told_value, told_alone, told_listed, told_holds, told_last, told_whole}
use Rattle.walk.proofs.Shows.{bits_yes, bits_alone}
use Rattle.walk.proofs.Content.{content_at_spot}
use Rattle.window.specs.Gather.{Gave, AllHave}

-- a listed block's records, by the numbers of its standing
module _ {m : ℕ} {keys bits : List ℕ} {n : ℕ} (o : OwnList m keys bits n) {s : Spot} (h : BlockSpot m s) (place records : ℕ)
    (is : standing_of m s.key (records_of keys bits n) ≡ Listed place records) where
  numbers : (is_listed s.key (records_of keys bits n) ≡ true) × (place ≡ place_of s.key (records_of keys bits n)) × (records ≡ records_in m s.key (records_of keys bits n))
  numbers = listed_numbers m s.key (records_of keys bits n) place records is

  own_listed : is_listed s.key (list_of_picture m (shown_by m keys bits n)) ≡ true
  own_listed = ap (is_listed s.key) (sym o.own) ∙ numbers.0

  at_place : AtPlace (shown_by m keys bits n) m 0 0 root_key h.height s.row s.column s.key s.key
  at_place = lookup_listed (shown_by m keys bits n) h.block own_listed

  starts : place ≡ length at_place.placed.before
  starts = numbers.1 ∙ ap (place_of s.key) o.own ∙ at_place.place

  as_many : records ≡ length (list_of (shown_by m keys bits n) h.height s.row s.column s.key)
  as_many = numbers.2 ∙ ap (records_in m s.key) o.own ∙ records-in (shown_by m keys bits n) h.block own_listed

  -- they are there
  pub run_fits : place + records ≤ n
  run_fits =
      let own = list_of (shown_by m keys bits n) h.height s.row s.column s.key in
      let e = starts in
      let f = as_many in
      let all = sym (own-length o) ∙ ap length at_place.placed.splits ∙ length-append at_place.placed.before (own ++ at_place.placed.after) in
      let some = length-append own at_place.placed.after in
      omega arith

  -- and are the block's content
  pub run_content : drop place (records_of keys bits (place + records)) ≡ content_of m (shown_by m keys bits n) s.key
  run_content =
      let own = list_of (shown_by m keys bits n) h.height s.row s.column s.key in
      let fits = run_fits in
      let there = o.fits in
      let size = length-drop place (records_of keys bits (place + records)) in
      let all = records-length keys bits (place + records) (omega arith) (omega arith) in
      sym (take_all records (drop place (records_of keys bits (place + records))) (omega arith))
      ∙ records_run keys bits (place + records) place records (omega arith)
      ∙ sym (records_run keys bits n place records run_fits)
      ∙ ap₂ take as_many (ap (drop place) (o.own ∙ at_place.placed.splits) ∙ drop_at at_place.placed.before _ place (sym starts))
      ∙ take-append_seam own at_place.placed.after
      ∙ sym (content_at_spot (shown_by m keys bits n) h)

-- as the walk was told
module _ {m : ℕ} {keys bits : List ℕ} {n : ℕ} (low : m ≤ 10) (o : OwnList m keys bits n) {s : Spot} (h : BlockSpot m s) {told : Told} (t : Tells m keys bits n s told)
    (f bit : ℕ) (is-bit : bit ≡ 2 ^ f) where
  -- where the feature is alone, every pixel of the whole block has it
  pub told_all : get_or bits told.place 0 ≡ bit → AllHave m (shown_by m keys bits n) f s.key (told.whole.key + told.whole.step)
  told_all same row column deep narrow from until =
      let p = shown_by m keys bits n in
      whole_pixel p f t.whole row column (bits_alone p t.whole f bit is-bit _ (told_whole low o h t) same)
      (in_spot row column t.whole deep narrow (omega (arith, told_holds low o h t)) until)

  -- a block with the feature and others is listed
  pub told_several : (bit_and (get_or bits told.place 0) bit ≡ 0 → ⊥) → (get_or bits told.place 0 ≡ bit → ⊥) → is_listed s.key (records_of keys bits n) ≡ true
  told_several some other =
      decide (is_listed s.key (records_of keys bits n)) (λ e. e)
      (λ e.
      let p = shown_by m keys bits n in
      absurd (other (told_alone low o h t e f (bits_yes p h f bit is-bit _ (told_value low o h t) some) ∙ sym is-bit)))

  -- and the run along its records gives its leaves of the feature
  module _ (e : is_listed s.key (records_of keys bits n) ≡ true) where
    count-is : told.place + (told.last + 1 - told.place) ≡ told.last + 1
    count-is = omega (arith, told_last low o h t)

    pub told_fits : told.last + 1 ≤ n
    told_fits = let c = count-is in omega (arith, run_fits o h _ _ (told_listed low o h t e))

    pub run_gave : {limit count : ℕ} {before after : List ℕ} {r : ℕ}
        → Gave (keys_with bit (drop told.place (records_of keys bits (told.last + 1)))) limit count before after r
        → Gave (keys_with (2 ^ f) (content_of m (shown_by m keys bits n) s.key)) limit count before after r
    run_gave {limit} {count} {before} {after} {r} g =
        let run = ap (λ k. drop told.place (records_of keys bits k)) (sym count-is) ∙ run_content o h _ _ (told_listed low o h t e) in
        subst (λ l. Gave l limit count before after r) (ap₂ keys_with is-bit run) g
