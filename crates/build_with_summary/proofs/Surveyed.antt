-- The answers of survey: its table of refusals, what a refused call leaves, that the list just written is an accepted one which shows the raster's
-- picture, and so that its summary is the raster's. Rests on laws' First, Records, ReadBack and SummaryOf.
use Prim.Native.Nat.{ℕ}
use mathlib.Core.Path.{◌≡◌, refl, sym, ◌∙◌, ap, ap₂}
use mathlib.Core.List.{List, [], ◌∷◌}
use native.Mathlib.Omega.{arith}
use lib.ListN.{length, drop, length-append, length-map}
use lib.Dec.{ltb, eqb}
use borrow.Author.Tests.{eqb-true, not-false}
use Rattle.keys.specs.Key.{root_key}
use Rattle.definitions.specs.Picture.{picture_of_raster}
use Rattle.definitions.specs.List.{list_of_raster, list_of_picture, keys_of, values_of}
use Rattle.definitions.specs.Read.{room, records_of, picture_of}
use Rattle.definitions.specs.Buffer.{over}
use Rattle.definitions.specs.Area.{summary_of, summary_length, bad_summary_length}
use Rattle.definitions.specs.Refusal.{Row, ◌gives◌, first, accepted, bad_settings, bad_length, bad_pixel}
use Rattle.definitions.specs.Calls.Build.{build, build_refusal, build_keys, build_bits}
use Rattle.definitions.specs.Calls.Survey.{survey, survey_refusal, survey_keys, survey_bits, survey_summary}
use mathlib.Core.Bool.{Bool, true, false}
use Rattle.std.specs.Prelude.{Err}
use Rattle.definitions.specs.Answered.{as_counted}
use Rattle.definitions.specs.Refused.{refusal_number}
use Rattle.definitions.specs.declared.Counted.{Counted}
use Rattle.definitions.specs.declared.refusal.Refusal.{Refusal}
use Rattle.definitions.proofs.Refused.{refusal_some}
use Rattle.definitions.proofs.Needed.{counted_alone}
use Rattle.laws.proofs.First.{first_later, first_none, none_first, first_holds, holds_more, holds_first, accepted_done, accepted_left}
use Rattle.laws.proofs.Pixels.{Agree}
use Rattle.laws.proofs.ListOf.{list_agree}
use Rattle.laws.proofs.ReadBack.{root_keys, block_back}
use Rattle.laws.proofs.Records.{records_over}
use Rattle.list.specs.Own.{OwnList, shown_by}
use Rattle.list.proofs.Tests.{GoodSettings, good_settings}
use Rattle.laws.proofs.SummaryOf.{summary_agree}

-- the tests that come before the list is made
abbrev pub early : (m s : ℕ) (raster summary : List ℕ) → List Row
early m s raster summary =
    bad_settings m s gives 1 ∷ bad_length m raster gives 2 ∷ bad_pixel s raster gives 3 ∷ bad_summary_length m s summary gives 18 ∷ []

-- those of build alone
abbrev pub earliest : (m s : ℕ) (raster : List ℕ) → List Row
earliest m s raster = bad_settings m s gives 1 ∷ bad_length m raster gives 2 ∷ bad_pixel s raster gives 3 ∷ []

-- a refusal that build's first tests give is that of the longer table
pub earliest_early : (m s : ℕ) (raster summary : List ℕ) (r : ℕ) → r ≡ first (earliest m s raster) → (r ≡ 0 → ⊥) → r ≡ first (early m s raster summary)
earliest_early m s raster summary r is h =
    sym (holds_first (holds_more (bad_summary_length m s summary gives 18 ∷ []) (first_holds r (earliest m s raster) h (sym is))))

-- and past them the length of the summary decides
pub length-decides : (m s : ℕ) (raster summary : List ℕ) (r : ℕ) → r ≡ first (earliest m s raster) → r ≡ 0
    → first (early m s raster summary) ≡ first (bad_summary_length m s summary gives 18 ∷ [])
length-decides m s raster summary r is e =
    let none = first_none (earliest m s raster) refl (sym is ∙ e) in
    first_later _ _ none.0 ∙ first_later _ _ none.1.0 ∙ first_later _ _ none.1.1.0

not_twelve : (a b c d : Bool) → first (a gives 1 ∷ b gives 2 ∷ c gives 3 ∷ d gives 18 ∷ []) ≡ 12 → ⊥
unfolding first
not_twelve true b c d e = omega arith
not_twelve false true c d e = omega arith
not_twelve false false true d e = omega arith
not_twelve false false false true e = omega arith
not_twelve false false false false e = omega arith

module _ (m s : ℕ) (raster keys bits summary : List ℕ) where
  -- the test of room
  abbrev room_row : List Row
  room_row = ltb (room keys bits) (length (list_of_raster m raster)) gives 9 ∷ []

  -- what a refused call answers and leaves
  pub survey_refused : (r : ℕ) → r ≡ first (early m s raster summary) → (r ≡ 0 → ⊥)
      → (◌≡◌ {A = Counted} (record { refusal = r; count = 0 }) (survey m s raster keys bits summary))
      × ((keys ≡ survey_keys m s raster keys bits summary)
      × ((bits ≡ survey_bits m s raster keys bits summary) × (summary ≡ survey_summary m s raster keys bits summary)))
  unfolding survey survey_keys survey_bits survey_summary survey_refusal
  survey_refused r is h =
      let e : r ≡ survey_refusal m s raster keys bits summary = sym (holds_first (holds_more room_row (first_holds r (early m s raster summary) h (sym is)))) in
      let j : survey_refusal m s raster keys bits summary ≡ 0 → ⊥ = λ z. h (e ∙ z) in (
        (λ i. record { refusal = e i; count = sym (accepted_left (length (list_of_raster m raster)) 0 j) i }),
        (sym (accepted_left _ keys j), (sym (accepted_left _ bits j), sym (accepted_left _ summary j))),
      )

  -- none of the first four is refusal 12, so what they refuse is told with no count
  pub survey_told : (r : Refusal) → refusal_number r ≡ first (early m s raster summary)
      → (as_counted (Err r) ≡ survey m s raster keys bits summary)
      × ((keys ≡ survey_keys m s raster keys bits summary)
      × ((bits ≡ survey_bits m s raster keys bits summary) × (summary ≡ survey_summary m s raster keys bits summary)))
  survey_told r is =
      let h = survey_refused (refusal_number r) is (refusal_some r) in
      (counted_alone r (λ z. not_twelve _ _ _ _ (sym is ∙ z)) ∙ h.0, h.1)

-- what a call has passed when the list is made
pub record SurveyPassed (m s : ℕ) (raster summary : List ℕ) : Type 0 where
  pub settings : GoodSettings m s
  pub earlier : first (earliest m s raster) ≡ 0
  pub long : length summary ≡ summary_length m s

pub survey_passed : (m s : ℕ) (raster summary : List ℕ) → first (early m s raster summary) ≡ 0 → SurveyPassed m s raster summary
survey_passed m s raster summary e =
    let none = first_none (early m s raster summary) refl e in
    record {
      settings = good_settings m s none.0;
      earlier = none_first (earliest m s raster) (none.0, (none.1.0, (none.1.1.0, tt)));
      long = eqb-true _ _ (not-false (eqb (length summary) (summary_length m s)) none.1.1.1.0);
    }

-- a list just written over two slices is an accepted one, and shows the raster's picture
module _ (m s : ℕ) (raster keys bits keys' bits' : List ℕ) (n : ℕ) (count : n ≡ length (list_of_raster m raster))
    (keys_are : keys' ≡ over (keys_of (list_of_raster m raster)) keys) (bits_are : bits' ≡ over (values_of (list_of_raster m raster)) bits) where
  written : records_of keys' bits' n ≡ list_of_raster m raster
  written = ap₂ (λ k b. records_of k b n) keys_are bits_are ∙ records_over (list_of_raster m raster) n keys bits (sym count)

  back : Agree (picture_of m (list_of_raster m raster)) (picture_of_raster m raster) m 0 0
  back = block_back m (picture_of_raster m raster) m 0 0 root_key (root_keys m)

  written_own : OwnList m keys' bits' n
  written_own =
      let l = list_of_raster m raster in
      let a = ap length keys_are ∙ length-append (keys_of l) (drop (length (keys_of l)) keys) in
      let b = ap length bits_are ∙ length-append (values_of l) (drop (length (values_of l)) bits) in
      let f = length-map l (λ x. x.key) in
      let g = length-map l (λ x. x.value) in
      record {
        fits = omega arith;
        own = written
            ∙ sym (ap (λ x. list_of_picture m (picture_of m x)) written
            ∙ list_agree (picture_of m (list_of_raster m raster)) (picture_of_raster m raster) m 0 0 root_key back);
      }

  written_summary : summary_of m s (shown_by m keys' bits' n) ≡ summary_of m s (picture_of_raster m raster)
  written_summary =
      ap (λ x. summary_of m s (picture_of m x)) written ∙ summary_agree m s (picture_of m (list_of_raster m raster)) (picture_of_raster m raster) back

-- past the first tests, of what build past them answers and leaves
module _ (m s : ℕ) (raster keys bits summary keys' bits' : List ℕ) (built : Counted)
    (passed : first (early m s raster summary) ≡ 0)
    (built_is : built ≡ build m s raster keys bits)
    (keys_are : keys' ≡ build_keys m s raster keys bits)
    (bits_are : bits' ≡ build_bits m s raster keys bits) where
  same_refusal : survey_refusal m s raster keys bits summary ≡ build_refusal m s raster keys bits
  unfolding survey_refusal build_refusal
  same_refusal =
      let none = first_none (early m s raster summary) refl passed in
      (first_later _ _ none.0 ∙ first_later _ _ none.1.0 ∙ first_later _ _ none.1.1.0 ∙ first_later _ _ none.1.1.1.0)
      ∙ sym (first_later _ _ none.0 ∙ first_later _ _ none.1.0 ∙ first_later _ _ none.1.1.0)

  refusal_is : built.refusal ≡ build_refusal m s raster keys bits
  unfolding build
  refusal_is = ap (λ x. x.refusal) built_is

  answer_same : built ≡ survey m s raster keys bits summary
  unfolding build survey
  answer_same =
      let e = sym same_refusal in
      built_is ∙ (λ i. record { refusal = e i; count = accepted (e i) (length (list_of_raster m raster)) 0 })

  keys_same : keys' ≡ survey_keys m s raster keys bits summary
  unfolding build_keys survey_keys
  keys_same = keys_are ∙ ap (λ r. accepted r (over (keys_of (list_of_raster m raster)) keys) keys) (sym same_refusal)

  bits_same : bits' ≡ survey_bits m s raster keys bits summary
  unfolding build_bits survey_bits
  bits_same = bits_are ∙ ap (λ r. accepted r (over (values_of (list_of_raster m raster)) bits) bits) (sym same_refusal)

  -- too little room leaves the summary
  pub survey_nine : (built.refusal ≡ 0 → ⊥)
      → (built ≡ survey m s raster keys bits summary)
      × ((keys' ≡ survey_keys m s raster keys bits summary)
      × ((bits' ≡ survey_bits m s raster keys bits summary) × (summary ≡ survey_summary m s raster keys bits summary)))
  unfolding survey_summary
  survey_nine h =
      (answer_same, (keys_same, (bits_same, sym (accepted_left _ summary (λ z. h (refusal_is ∙ sym same_refusal ∙ z))))))

  module _ (none : built.refusal ≡ 0) where
    accepted_build : build_refusal m s raster keys bits ≡ 0
    accepted_build = sym refusal_is ∙ none

    count_done : built.count ≡ length (list_of_raster m raster)
    unfolding build
    count_done = ap (λ x. x.count) built_is ∙ accepted_done (length (list_of_raster m raster)) 0 accepted_build

    keys_done : keys' ≡ over (keys_of (list_of_raster m raster)) keys
    unfolding build_keys
    keys_done = keys_are ∙ accepted_done _ keys accepted_build

    bits_done : bits' ≡ over (values_of (list_of_raster m raster)) bits
    unfolding build_bits
    bits_done = bits_are ∙ accepted_done _ bits accepted_build

    -- else the list is an accepted one
    pub survey_own : OwnList m keys' bits' built.count
    survey_own = written_own m s raster keys bits keys' bits' built.count count_done keys_done bits_done

    -- and its summary is the raster's
    pub survey_done : (summary' : List ℕ) → summary' ≡ summary_of m s (shown_by m keys' bits' built.count)
        → (built ≡ survey m s raster keys bits summary)
        × ((keys' ≡ survey_keys m s raster keys bits summary)
        × ((bits' ≡ survey_bits m s raster keys bits summary) × (summary' ≡ survey_summary m s raster keys bits summary)))
    unfolding survey_summary
    survey_done summary' filled = (
      answer_same,
      (
        keys_same,
        (
          bits_same,
          filled
              ∙ written_summary m s raster keys bits keys' bits' built.count count_done keys_done bits_done
              ∙ sym (accepted_done _ summary (same_refusal ∙ accepted_build)),
        ),
      ),
    )
