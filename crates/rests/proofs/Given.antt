-- Lists that calls give: an accepted load, a reading of leaves or of bit strings and a combining leave a list at good settings, and of such a list filling
-- the summary is accepted. Rests on the laws of those calls, and on Starts.
use Prim.Native.Nat.{ℕ, ◌+◌, ◌≤◌, ◌<◌, min}
use mathlib.Core.Path.{◌≡◌, refl, ap, ap₂, ◌∙◌}
use mathlib.Core.Bool.{true, false, not, ◌||◌}
use mathlib.Core.List.{List, [], ◌∷◌}
use native.Mathlib.Omega.{arith}
use lib.ListN.{length, drop, length-map, length-append, length-drop}
use lib.Dec.{leb, eqb}
use borrow.Author.Tests.{leb-false, ltb-false, eqb-true, eq-eqb, not-false}
use Rattle.keys.specs.Key.{root_key}
use Rattle.keys.specs.Block.{in_block}
use Rattle.keys.proofs.Cases.{decide, neither_left, neither_right}
use Rattle.definitions.specs.Picture.{features_below}
use Rattle.definitions.specs.List.{Record, keys_of, values_of}
use Rattle.definitions.specs.Read.{room, records_of, picture_of, is_list_of_block, is_list}
use Rattle.definitions.specs.Leaves.{is_delivery, picture_of_leaves, picture_delivered}
use Rattle.definitions.specs.BitStrings.{is_pair, records_of_pair}
use Rattle.definitions.specs.Combine.{bad_class_table}
use Rattle.definitions.specs.Buffer.{over}
use Rattle.definitions.specs.Area.{summary_of, bad_summary_length}
use Rattle.definitions.specs.File.{bit_bytes, m_in, s_in, n_in, records_in_file}
use Rattle.definitions.specs.Refusal.{accepted, bad_settings, bad_pixel}
use Rattle.definitions.specs.Calls.Load.{load_refusal, load, load_keys, load_bits}
use Rattle.definitions.specs.Calls.ReadLeaves.{list_delivered, read_leaves_refusal, read_leaves, read_leaves_keys, read_leaves_bits}
use Rattle.definitions.specs.Calls.ReadBitStrings.{read_strings_refusal, read_strings, read_keys, read_bits}
use Rattle.definitions.specs.Calls.Combine.{combination, combine_refusal, combine, combine_keys, combine_bits}
use Rattle.definitions.specs.Calls.FillSummary.{fill_refusal, filled_summary}
use Rattle.laws.proofs.Combined.{result_list}
use Rattle.laws.proofs.Features.{below_from}
use Rattle.laws.proofs.FileBack.{length-read, settings_good}
use Rattle.laws.proofs.First.{first_none, none_first, accepted_done}
use Rattle.laws.proofs.IsList.{list_passes}
use Rattle.laws.proofs.ReadBack.{root_keys}
use Rattle.laws.proofs.Records.{records_values, records_over}
use Rattle.list.proofs.Tests.{good_settings}
use Rattle.file.proofs.Accepted.{load_accepted, load_gives, load_leaves}
use Rattle.file.proofs.Fits.{list_whole}
use Rattle.file.proofs.SliceRecords.{over_room}
use Rattle.leaves.proofs.Delivery.{leaves_to}
use Rattle.leaves.proofs.ReadAnswer.{delivery_within, delivery_leaves}
use Rattle.bit_strings.proofs.OnePair.{read_list}
use Rattle.rests.specs.Starts.{GivesList}

-- ---- filling the summary

module _ (m s : ℕ) (keys bits : List ℕ) (n : ℕ) (summary : List ℕ) where
  -- of a list at good settings it is accepted, if the summary has its length
  pub fill_accepts : GivesList m s keys bits n → bad_summary_length m s summary ≡ false → fill_refusal m s keys bits n summary ≡ 0
  unfolding fill_refusal
  fill_accepts h sized = none_first _ (h.settings, (ap not h.is-list, (sized, tt)))

  -- and of no other
  pub fill_given : fill_refusal m s keys bits n summary ≡ 0 → GivesList m s keys bits n
  unfolding fill_refusal
  fill_given e = let none = first_none _ refl e in record { settings = none.0; is-list = not-false _ none.1.0 }

  -- it leaves the counts of what the list shows
  pub fill_leaves : fill_refusal m s keys bits n summary ≡ 0 → filled_summary m s keys bits n summary ≡ summary_of m s (picture_of m (records_of keys bits n))
  unfolding filled_summary
  fill_leaves e = accepted_done _ _ e

-- ---- what a call laid over its slices

-- what lies within a slice leaves it as long as it was
pub over-length : (new old : List ℕ) → length new ≤ length old → length (over new old) ≡ length old
over-length new old h =
    length-append new (drop (length new) old) ∙ ap (λ x. length new + x) (length-drop (length new) old) ∙ omega arith

-- the records of the whole map, laid over two slices with room for them, are a list there
laid_list : (m s : ℕ) (l : List Record) (n : ℕ) (keys bits : List ℕ) → length l ≡ n → n ≤ room keys bits → is_list_of_block m s m 0 0 root_key l ≡ true
    → is_list m s (over (keys_of l) keys) (over (values_of l) bits) n ≡ true
laid_list m s l n keys bits many fits is =
    list_whole m s (over (keys_of l) keys) (over (values_of l) bits) n (over_room l n keys bits many fits) (rw (records_over l n keys bits many) is)

-- so an accepted call that lays them there gives a list
laid_gives : (m s refusal : ℕ) (l : List Record) (keys bits : List ℕ) → refusal ≡ 0 → bad_settings m s ≡ false → is_list_of_block m s m 0 0 root_key l ≡ true
    → length l ≤ room keys bits
    → GivesList m s (accepted refusal (over (keys_of l) keys) keys) (accepted refusal (over (values_of l) bits) bits) (accepted refusal (length l) 0)
laid_gives m s refusal l keys bits passed settings is fits =
    rw (eq-eqb refusal 0 passed) (record { settings = settings; is-list = laid_list m s l (length l) keys bits refl fits is })

-- ---- load

-- as many records are in a file as it says
in_file : (file : List ℕ) → length (records_in_file file) ≡ n_in file
unfolding records_in_file
in_file file = length-read (bit_bytes (s_in file)) (n_in file) (drop 11 file)

pub load_gives_list : (file keys bits : List ℕ) → load_refusal file keys bits ≡ 0
    → GivesList (load file keys bits).m (load file keys bits).s (load_keys file keys bits) (load_bits file keys bits) (load file keys bits).n
load_gives_list file keys bits e =
    let a = load_accepted file keys bits e in
    let left = load_leaves file keys bits e in
    rw (load_gives file keys bits e, left.0, left.1)
    (record {
      settings = settings_good _ (m_in file) (s_in file) a.settings;
      is-list = laid_list (m_in file) (s_in file) (records_in_file file) (n_in file) keys bits (in_file file) a.roomy a.listed;
    })

-- and leaves the slices with the room that they had
pub load_keeps_room : (file keys bits : List ℕ) → load_refusal file keys bits ≡ 0 → room (load_keys file keys bits) (load_bits file keys bits) ≡ room keys bits
load_keeps_room file keys bits e =
    let left = load_leaves file keys bits e in
    let roomy = (load_accepted file keys bits e).roomy in
    let many = in_file file in
    let ks = length-map (records_in_file file) (λ x. x.key) in
    let vs = length-map (records_in_file file) (λ x. x.value) in
    ap₂ min
    (ap length left.0 ∙ over-length (keys_of (records_in_file file)) keys (omega arith))
    (ap length left.1 ∙ over-length (values_of (records_in_file file)) bits (omega arith))

-- ---- leaves

-- where every leaf's feature is below s, so is the picture's
leaf_below : (m s : ℕ) (l : List Record) (row column : ℕ) → 1 ≤ s → bad_pixel s (values_of l) ≡ false → picture_of_leaves m l row column < s
unfolding picture_of_leaves bad_pixel
leaf_below m s [] row column some e = omega arith
leaf_below m s (x ∷ l) row column some e =
    decide (in_block m x.key row column)
    (λ t. rw t (leb-false s x.value (neither_left (leb s x.value) (bad_pixel s (values_of l)) e)))
    (λ t. rw t (leaf_below m s l row column some (neither_right (leb s x.value) (bad_pixel s (values_of l)) e)))

delivered_below : (m s : ℕ) (keys features : List ℕ) (leaves : ℕ) → 1 ≤ s → is_delivery m s keys features leaves ≡ true
    → features_below s (picture_delivered m keys features leaves) m 0 0 ≡ true
delivered_below m s keys features leaves some e =
    let within = delivery_within m s keys features leaves e in
    let values = records_values keys features leaves (omega arith) (omega arith) in
    let small = ap (bad_pixel s) values ∙ (leaves_to m s _ _ (delivery_leaves m s keys features leaves e)).below in
    below_from s (picture_delivered m keys features leaves) m 0 0 (λ row column w. leaf_below m s (records_of keys features leaves) row column some small)

module _ (m s : ℕ) (leafKeys leafFeatures : List ℕ) (leaves : ℕ) (keys bits : List ℕ) (e : read_leaves_refusal m s leafKeys leafFeatures leaves keys bits ≡ 0) where
  leaves_passed : (bad_settings m s ≡ false)
      × ((is_delivery m s leafKeys leafFeatures leaves ≡ true) × (length (list_delivered m leafKeys leafFeatures leaves) ≤ room keys bits))
  unfolding read_leaves_refusal
  leaves_passed = let none = first_none _ refl e in (none.0, (not-false _ none.1.0, ltb-false _ _ none.1.1.0))

  pub leaves_give_list : GivesList m s (read_leaves_keys m s leafKeys leafFeatures leaves keys bits) (read_leaves_bits m s leafKeys leafFeatures leaves keys bits)
      (read_leaves m s leafKeys leafFeatures leaves keys bits).count
  unfolding read_leaves read_leaves_keys read_leaves_bits
  leaves_give_list =
      let some = (good_settings m s leaves_passed.0).some in
      laid_gives m s (read_leaves_refusal m s leafKeys leafFeatures leaves keys bits) (list_delivered m leafKeys leafFeatures leaves) keys bits e leaves_passed.0
      (list_passes m s (picture_delivered m leafKeys leafFeatures leaves) m 0 0 root_key (root_keys m)
      (delivered_below m s leafKeys leafFeatures leaves some leaves_passed.1.0))
      leaves_passed.1.1

-- ---- bit strings

module _ (m s : ℕ) (nodes leaves keys bits : List ℕ) (e : read_strings_refusal m s nodes leaves keys bits ≡ 0) where
  strings_passed : (bad_settings m s ≡ false) × ((s ≡ 2) × ((is_pair m nodes leaves ≡ true) × (length (records_of_pair m nodes leaves) ≤ room keys bits)))
  unfolding read_strings_refusal
  strings_passed =
      let none = first_none _ refl e in (
        none.0,
        (
          eqb-true s 2 (not-false _ (neither_left (not (eqb s 2)) (not (is_pair m nodes leaves)) none.1.0)),
          (not-false _ (neither_right (not (eqb s 2)) (not (is_pair m nodes leaves)) none.1.0), ltb-false _ _ none.1.1.0),
        ),
      )

  pub strings_give_list : GivesList m s (read_keys m s nodes leaves keys bits) (read_bits m s nodes leaves keys bits) (read_strings m s nodes leaves keys bits).count
  unfolding read_strings read_keys read_bits
  strings_give_list =
      laid_gives m s (read_strings_refusal m s nodes leaves keys bits) (records_of_pair m nodes leaves) keys bits e strings_passed.0
      (ap (λ x. is_list_of_block m x m 0 0 root_key (records_of_pair m nodes leaves)) strings_passed.1.0 ∙ read_list m nodes leaves strings_passed.1.1.0)
      strings_passed.1.1.1

-- ---- two lists combined

module _ (m₁ s₁ : ℕ) (keys₁ bits₁ : List ℕ) (n₁ m₂ s₂ : ℕ) (keys₂ bits₂ : List ℕ) (n₂ s₃ : ℕ) (table keys bits : List ℕ)
    (e : combine_refusal m₁ s₁ keys₁ bits₁ n₁ m₂ s₂ keys₂ bits₂ n₂ s₃ table keys bits ≡ 0) where
  record CombinePassed : Type 0 where
    settings : bad_settings m₁ s₃ ≡ false
    first_list : is_list m₁ s₁ keys₁ bits₁ n₁ ≡ true
    second_list : is_list m₁ s₂ keys₂ bits₂ n₂ ≡ true
    classes : bad_class_table s₁ s₂ s₃ table ≡ false
    roomy : length (combination m₁ s₁ keys₁ bits₁ n₁ m₂ s₂ keys₂ bits₂ n₂ s₃ table) ≤ room keys bits

  combine_passed : CombinePassed
  unfolding combine_refusal
  combine_passed =
      let none = first_none _ refl e in
      let late = none.1.1 in
      let same : m₁ ≡ m₂ = eqb-true m₁ m₂ (not-false _ none.1.0) in
      record {
        settings = neither_right (bad_settings m₂ s₂) (bad_settings m₁ s₃) (neither_right (bad_settings m₁ s₁) (bad_settings m₂ s₂ || bad_settings m₁ s₃) none.0);
        first_list = not-false _ late.0;
        second_list = ap (λ m. is_list m s₂ keys₂ bits₂ n₂) same ∙ not-false _ late.1.0;
        classes = late.1.1.0;
        roomy = ltb-false _ _ late.1.1.1.0;
      }

  pub combine_gives_list : GivesList m₁ s₃ (combine_keys m₁ s₁ keys₁ bits₁ n₁ m₂ s₂ keys₂ bits₂ n₂ s₃ table keys bits)
      (combine_bits m₁ s₁ keys₁ bits₁ n₁ m₂ s₂ keys₂ bits₂ n₂ s₃ table keys bits) (combine m₁ s₁ keys₁ bits₁ n₁ m₂ s₂ keys₂ bits₂ n₂ s₃ table keys bits).count
  unfolding combine combine_keys combine_bits combination
  combine_gives_list =
      let p = combine_passed in
      laid_gives m₁ s₃ (combine_refusal m₁ s₁ keys₁ bits₁ n₁ m₂ s₂ keys₂ bits₂ n₂ s₃ table keys bits)
      (combination m₁ s₁ keys₁ bits₁ n₁ m₂ s₂ keys₂ bits₂ n₂ s₃ table) keys bits e p.settings
      (result_list m₁ s₁ s₂ keys₁ bits₁ n₁ keys₂ bits₂ n₂ table p.first_list p.second_list s₃ p.classes)
      p.roomy
