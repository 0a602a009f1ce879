-- The refusals of combining: the rows before 9 by the tests of the code, what is shown once they are passed, and what the call answers and leaves in
-- each case. Rests on laws' First, on the check of a list, and on build's RasterTests.
use Prim.Native.Nat.{ℕ, ◌*◌}
use Rattle.std.specs.Prelude.{Err}
use mathlib.Core.Path.{◌≡◌, refl, sym, ap, ap₂, ◌∙◌}
use mathlib.Core.Bool.{Bool, true, false, cond, not, ◌||◌}
use mathlib.Core.List.{List, [], ◌∷◌}
use native.Mathlib.Omega.{arith}
use lib.Dec.{ltb, eqb}
use lib.ListN.{length}
use borrow.Author.Tests.{eqb-true, not-false}
use Rattle.list.specs.First.{first_refusal}
use Rattle.list.proofs.FirstRefusal.{first_no_list, first_good, list_passed}
use Rattle.keys.proofs.Cases.{decide, neither_left, neither_right}
use Rattle.definitions.specs.List.{keys_of, values_of}
use Rattle.definitions.specs.Answered.{as_counted}
use Rattle.definitions.specs.Refused.{refusal_number}
use Rattle.definitions.specs.declared.refusal.Refusal.{Refusal}
use Rattle.definitions.proofs.Refused.{refusal_some}
use Rattle.definitions.proofs.Needed.{counted_alone}
use Rattle.definitions.specs.Read.{room, is_list, picture_of}
use Rattle.definitions.specs.Buffer.{over}
use Rattle.definitions.specs.Refusal.{Row, ◌gives◌, first, accepted, bad_settings, bad_pixel, no_list}
use Rattle.definitions.specs.Combine.{combined_list, bad_class_table}
use Rattle.definitions.specs.Calls.Combine.{combination, combine_refusal, combine, combine_keys, combine_bits}
use Rattle.definitions.specs.declared.Counted.{Counted}
use Rattle.laws.proofs.First.{first_none, early_first, rest_first, last_row, accepted_left}
use Rattle.list.proofs.Accepted.{accepted_as_list}
use Rattle.list.proofs.Own.{own_list}
use Rattle.list.proofs.Tests.{GoodSettings, good_settings}
use Rattle.build.proofs.RasterTests.{pixels_below}
use Rattle.list.specs.Own.{shown_by}
use Rattle.list.specs.declared.accepted_list.Accepted.{Accepted}
use Rattle.list.proofs.Taken.{taken_records, taken_picture}
use Rattle.combine.specs.Ready.{early_rows, CombineReady, result_of, BothTaken, ListsReady, list_combined, Answered}

-- an answer by its two numbers
same_answer : {r r' n n' : ℕ} → r ≡ r' → n ≡ n' → ◌≡◌ {A = Counted} (record { refusal = r; count = n }) (record { refusal = r'; count = n' })
same_answer e f = λ i. record { refusal = e i; count = f i }

-- three settings of which none is bad
pub record ThreeGood (m₁ s₁ m₂ s₂ s₃ : ℕ) : Type 0 where
  pub first_settings : GoodSettings m₁ s₁
  pub second_settings : GoodSettings m₂ s₂
  pub third_settings : GoodSettings m₁ s₃
  pub first_sound : bad_settings m₁ s₁ ≡ false
  pub second_sound : bad_settings m₂ s₂ ≡ false

pub three_good : (m₁ s₁ m₂ s₂ s₃ : ℕ) → bad_settings m₁ s₁ || (bad_settings m₂ s₂ || bad_settings m₁ s₃) ≡ false → ThreeGood m₁ s₁ m₂ s₂ s₃
three_good m₁ s₁ m₂ s₂ s₃ e =
    let others = neither_right (bad_settings m₁ s₁) (bad_settings m₂ s₂ || bad_settings m₁ s₃) e in
    record {
      first_settings = good_settings m₁ s₁ (neither_left (bad_settings m₁ s₁) (bad_settings m₂ s₂ || bad_settings m₁ s₃) e);
      second_settings = good_settings m₂ s₂ (neither_left (bad_settings m₂ s₂) (bad_settings m₁ s₃) others);
      third_settings = good_settings m₁ s₃ (neither_right (bad_settings m₂ s₂) (bad_settings m₁ s₃) others);
      first_sound = neither_left (bad_settings m₁ s₁) (bad_settings m₂ s₂ || bad_settings m₁ s₃) e;
      second_sound = neither_left (bad_settings m₂ s₂) (bad_settings m₁ s₃) others;
    }

-- of good settings a list that is refused is no list, and one that is not is a list
pub list_told : (m s : ℕ) (keys bits : List ℕ) (n : ℕ) → bad_settings m s ≡ false → (r : Refusal) → refusal_number r ≡ first_refusal m s keys bits n
    → (refusal_number r ≡ 4) × (no_list m s keys bits n ≡ true)
list_told m s keys bits n good r e =
    decide (no_list m s keys bits n)
    (λ wrong. (e ∙ first_no_list m s keys bits n good wrong, wrong))
    (λ right. absurd (refusal_some r (e ∙ first_good m s keys bits n good right)))

pub list_good : (m s : ℕ) (keys bits : List ℕ) (n : ℕ) → 0 ≡ first_refusal m s keys bits n → no_list m s keys bits n ≡ false
list_good m s keys bits n e = ap not (list_passed m s keys bits n 0 e refl).list

not_twelve : (a b c d e : Bool) → first (a gives 1 ∷ b gives 24 ∷ c gives 4 ∷ d gives 4 ∷ e gives 25 ∷ []) ≡ 12 → ⊥
unfolding first
not_twelve true b c d e z = omega arith
not_twelve false true c d e z = omega arith
not_twelve false false true d e z = omega arith
not_twelve false false false true e z = omega arith
not_twelve false false false false true z = omega arith
not_twelve false false false false false z = omega arith

module _ (m₁ s₁ : ℕ) (keys₁ bits₁ : List ℕ) (n₁ m₂ s₂ : ℕ) (keys₂ bits₂ : List ℕ) (n₂ s₃ : ℕ) (table : List ℕ) where
  abbrev early : List Row
  early = early_rows m₁ s₁ keys₁ bits₁ n₁ m₂ s₂ keys₂ bits₂ n₂ s₃ table

  -- what no row before 9 refuses
  pub record Passed : Type 0 where
    pub settings : ThreeGood m₁ s₁ m₂ s₂ s₃
    pub same : m₁ ≡ m₂
    pub first_list : is_list m₁ s₁ keys₁ bits₁ n₁ ≡ true
    pub second_list : is_list m₂ s₂ keys₂ bits₂ n₂ ≡ true
    pub sized : length table ≡ s₁ * s₂
    pub small : bad_pixel s₃ table ≡ false

  pub passed : first early ≡ 0 → Passed
  unfolding bad_class_table
  passed e =
      let none = first_none early refl e in
      record {
        settings = three_good m₁ s₁ m₂ s₂ s₃ none.0;
        same = eqb-true m₁ m₂ (not-false (eqb m₁ m₂) none.1.0);
        first_list = not-false (is_list m₁ s₁ keys₁ bits₁ n₁) none.1.1.0;
        second_list = not-false (is_list m₂ s₂ keys₂ bits₂ n₂) none.1.1.1.0;
        sized = eqb-true (length table) (s₁ * s₂)
            (not-false (eqb (length table) (s₁ * s₂)) (neither_left (not (eqb (length table) (s₁ * s₂))) (bad_pixel s₃ table) none.1.1.1.1.0));
        small = neither_right (not (eqb (length table) (s₁ * s₂))) (bad_pixel s₃ table) none.1.1.1.1.0;
      }

  -- then both lists and the table are as the work asks
  pub ready : first early ≡ 0 → CombineReady m₁ keys₁ bits₁ n₁ keys₂ bits₂ n₂ table s₂
  ready e =
      let p = passed e in
      let second = rw (sym p.same) at p.second_list in
      record {
        deep = p.settings.first_settings.deep;
        first_own = own_list m₁ s₁ keys₁ bits₁ n₁ p.first_list;
        second_own = own_list m₁ s₂ keys₂ bits₂ n₂ second;
        named = record {
          slots = s₁;
          few = p.settings.first_settings.few;
          few_second = p.settings.second_settings.few;
          long = p.sized;
          classes = λ i.
              let h = pixels_below s₃ table p.settings.third_settings.some p.small i in
              let j = p.settings.third_settings.few in
              omega arith;
          firsts = (accepted_as_list m₁ s₁ keys₁ bits₁ n₁ p.first_list).below;
          seconds = (accepted_as_list m₁ s₂ keys₂ bits₂ n₂ second).below;
        };
      }

  module _ (keys bits : List ℕ) where
    refusal_early : (r : ℕ) → r ≡ first early → (r ≡ 0 → ⊥) → combine_refusal m₁ s₁ keys₁ bits₁ n₁ m₂ s₂ keys₂ bits₂ n₂ s₃ table keys bits ≡ r
    unfolding combine_refusal
    refusal_early r e h = sym (early_first r early _ e h)

    refusal_last : first early ≡ 0
        → combine_refusal m₁ s₁ keys₁ bits₁ n₁ m₂ s₂ keys₂ bits₂ n₂ s₃ table keys bits
        ≡ cond (ltb (room keys bits) (length (result_of m₁ keys₁ bits₁ n₁ keys₂ bits₂ n₂ table s₂))) 9 0
    unfolding combine_refusal combination combined_list
    refusal_last e =
        sym (rest_first early (ltb (room keys bits) (length (result_of m₁ keys₁ bits₁ n₁ keys₂ bits₂ n₂ table s₂)) gives 9 ∷ []) (first_none early refl e))
        ∙ last_row _ 9

    -- what a call that is refused early answers and leaves
    pub refused : (r : ℕ) → r ≡ first early → (r ≡ 0 → ⊥)
        → (◌≡◌ {A = Counted} (record { refusal = r; count = 0 }) (combine m₁ s₁ keys₁ bits₁ n₁ m₂ s₂ keys₂ bits₂ n₂ s₃ table keys bits))
        × ((keys ≡ combine_keys m₁ s₁ keys₁ bits₁ n₁ m₂ s₂ keys₂ bits₂ n₂ s₃ table keys bits)
        × (bits ≡ combine_bits m₁ s₁ keys₁ bits₁ n₁ m₂ s₂ keys₂ bits₂ n₂ s₃ table keys bits))
    unfolding combine combine_keys combine_bits
    refused r e h =
        let f = refusal_early r e h in
        let none : combine_refusal m₁ s₁ keys₁ bits₁ n₁ m₂ s₂ keys₂ bits₂ n₂ s₃ table keys bits ≡ 0 → ⊥ = λ z. h (sym f ∙ z) in
        (same_answer (sym f) (sym (accepted_left _ _ none)), (sym (accepted_left _ _ none), sym (accepted_left _ _ none)))

    -- none of the early rows is refusal 12, so what they refuse is told with no count
    pub told : (r : Refusal) → refusal_number r ≡ first early
        → (as_counted (Err r) ≡ combine m₁ s₁ keys₁ bits₁ n₁ m₂ s₂ keys₂ bits₂ n₂ s₃ table keys bits)
        × ((keys ≡ combine_keys m₁ s₁ keys₁ bits₁ n₁ m₂ s₂ keys₂ bits₂ n₂ s₃ table keys bits)
        × (bits ≡ combine_bits m₁ s₁ keys₁ bits₁ n₁ m₂ s₂ keys₂ bits₂ n₂ s₃ table keys bits))
    told r e =
        let h = refused (refusal_number r) e (refusal_some r) in
        (counted_alone r (λ z. not_twelve _ _ _ _ _ (sym e ∙ z)) ∙ h.0, h.1)

    -- what one answers and leaves that is past the early rows
    pub answers : {keys' bits' : List ℕ} {answer : Counted} → first early ≡ 0
        → Answered (result_of m₁ keys₁ bits₁ n₁ keys₂ bits₂ n₂ table s₂) keys bits keys' bits' answer
        → (answer ≡ combine m₁ s₁ keys₁ bits₁ n₁ m₂ s₂ keys₂ bits₂ n₂ s₃ table keys bits)
        × ((keys' ≡ combine_keys m₁ s₁ keys₁ bits₁ n₁ m₂ s₂ keys₂ bits₂ n₂ s₃ table keys bits)
        × (bits' ≡ combine_bits m₁ s₁ keys₁ bits₁ n₁ m₂ s₂ keys₂ bits₂ n₂ s₃ table keys bits))
    unfolding combine combine_keys combine_bits combination combined_list
    answers e a =
        let f = a.refusal_is ∙ sym (refusal_last e) in (
          same_answer f (a.count-is ∙ ap (λ r. accepted r (length (result_of m₁ keys₁ bits₁ n₁ keys₂ bits₂ n₂ table s₂)) 0) f),
          (a.keys_are ∙ ap (λ r. accepted r (over (keys_of (result_of m₁ keys₁ bits₁ n₁ keys₂ bits₂ n₂ table s₂)) keys) keys) f, a.bits_are ∙ ap (λ r. accepted r (over (values_of (result_of m₁ keys₁ bits₁ n₁ keys₂ bits₂ n₂ table s₂)) bits) bits) f),
        )

-- the second list's picture, by the resolution that both have
second_shown : {m₁ m₂ : ℕ} {keys₁ bits₁ : List ℕ} {n₁ : ℕ} {keys₂ bits₂ : List ℕ} {n₂ : ℕ} {x y : Accepted} → BothTaken m₁ keys₁ bits₁ n₁ m₂ keys₂ bits₂ n₂ x y
    → shown_by x.m y.keys.now y.bits.now (length y.keys.now) ≡ shown_by m₁ keys₂ bits₂ n₂
second_shown t = ap₂ picture_of t.first_taken.map (taken_records t.second_taken)

-- where no early row applies the lists that were accepted are ready, and their combined list is that of the slices
module _ (m₁ s₁ : ℕ) (keys₁ bits₁ : List ℕ) (n₁ m₂ s₂ : ℕ) (keys₂ bits₂ : List ℕ) (n₂ s₃ : ℕ) (table : List ℕ) {x y : Accepted}
    (t : BothTaken m₁ keys₁ bits₁ n₁ m₂ keys₂ bits₂ n₂ x y) where
  pub both_ready : first (early_rows m₁ s₁ keys₁ bits₁ n₁ m₂ s₂ keys₂ bits₂ n₂ s₃ table) ≡ 0 → ListsReady x y table s₂
  both_ready e =
      let r = ready m₁ s₁ keys₁ bits₁ n₁ m₂ s₂ keys₂ bits₂ n₂ s₃ table e in
      let same : x.m ≡ y.m = t.first_taken.map ∙ (passed m₁ s₁ keys₁ bits₁ n₁ m₂ s₂ keys₂ bits₂ n₂ s₃ table e).same ∙ sym t.second_taken.map in
      record {
        deep = x.deepest;
        first_own = x.own;
        second_own = rw same y.own;
        named = rw (taken_picture t.first_taken, second_shown t, t.first_taken.map) r.named;
      }

  pub both_combined : list_combined x y table s₂ ≡ result_of m₁ keys₁ bits₁ n₁ keys₂ bits₂ n₂ table s₂
  both_combined = rw (taken_picture t.first_taken, second_shown t, t.first_taken.map)
