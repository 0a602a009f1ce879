-- The tables of refusals of report, exist and select: each goes on where the one before ends, so a number that is given stays, and where 0 is given the
-- next row decides; what a call that is not refused has passed. Rests on the laws of such tables.
use Prim.Native.Nat.{ℕ, ◌≤◌, ◌<◌}
use mathlib.Core.Path.{◌≡◌, refl, sym, ◌∙◌}
use mathlib.Core.Bool.{Bool, true, not, ◌&&◌}
use mathlib.Core.List.{List, [], ◌∷◌}
use lib.ListN.{length}
use lib.Dec.{eqb}
use borrow.Author.Tests.{not-true, not-false, le-leb, lt-leb, leb-false, lt-ltb, le-ltb, eqb-false}
use Rattle.keys.proofs.Cases.{and_left, and_right}
use Rattle.definitions.specs.Read.{is_list}
use Rattle.definitions.specs.Window.{is_window}
use Rattle.definitions.specs.Refusal.{Row}
use Rattle.definitions.specs.Calls.Report.{report_refusal}
use Rattle.definitions.specs.Calls.Exist.{exist_refusal}
use Rattle.definitions.specs.Calls.Select.{selected, select_refusal}
use Rattle.definitions.specs.declared.Window.{Window}
use Rattle.laws.proofs.First.{FirstHolds, this, later, none_first, first_none, holds_first, first_holds, holds_more}
use Rattle.list.proofs.Tests.{GoodSettings, good_settings}

-- no row has the number x
abbrev without : ℕ → List Row → Bool
without x [] = true
without x (r ∷ rs) = not (eqb r.number x) && without x rs

-- so it is not given
other_number : (x : ℕ) {k : ℕ} {rows : List Row} → FirstHolds k rows → without x rows ≡ true → k ≡ x → ⊥
other_number x (this {r} {rs} holds number) e same =
    eqb-false r.number x (not-true _ (and_left (not (eqb r.number x)) (without x rs) e)) (number ∙ same)
other_number x (later {r} {rs} fails h) e same = other_number x h (and_right (not (eqb r.number x)) (without x rs) e) same

module _ (m s : ℕ) (keys bits : List ℕ) (n : ℕ) (w : Window) where
  -- what a call that is not refused has passed
  pub record Passed : Type 0 where
    pub settings : GoodSettings m s
    pub list : is_list m s keys bits n ≡ true
    pub window : is_window m w ≡ true

  pub report_passed : report_refusal m s keys bits n w ≡ 0 → Passed
  unfolding report_refusal
  report_passed e =
      let none = first_none _ refl e in
      record {
        settings = good_settings m s none.0;
        list = not-false (is_list m s keys bits n) none.1.0;
        window = not-false (is_window m w) none.1.1.0;
      }

  module _ (f : ℕ) where
    -- a number of report's table is given by exist's
    pub exist_goes_on : (r : ℕ) → r ≡ report_refusal m s keys bits n w → (r ≡ 0 → ⊥) → r ≡ exist_refusal m s keys bits n w f
    unfolding report_refusal exist_refusal
    exist_goes_on r is h = sym (holds_first (holds_more _ (first_holds r _ h (sym is))))

    -- past it the feature decides
    pub exist_feature : report_refusal m s keys bits n w ≡ 0 → s ≤ f → 7 ≡ exist_refusal m s keys bits n w f
    unfolding report_refusal exist_refusal
    exist_feature e high =
        let none = first_none _ refl e in
        sym (holds_first (later none.0 (later none.1.0 (later none.1.1.0 (this (le-leb s f high) refl)))))

    pub exist_none : report_refusal m s keys bits n w ≡ 0 → f < s → 0 ≡ exist_refusal m s keys bits n w f
    unfolding report_refusal exist_refusal
    exist_none e low =
        let none = first_none _ refl e in
        sym (none_first _ (none.0, (none.1.0, (none.1.1.0, (lt-leb s f low, tt)))))

    pub exist_passed : exist_refusal m s keys bits n w f ≡ 0 → Passed
    unfolding exist_refusal
    exist_passed e =
        let none = first_none _ refl e in
        record {
          settings = good_settings m s none.0;
          list = not-false (is_list m s keys bits n) none.1.0;
          window = not-false (is_window m w) none.1.1.0;
        }

    pub exist_below : exist_refusal m s keys bits n w f ≡ 0 → f < s
    unfolding exist_refusal
    exist_below e = leb-false s f (first_none _ refl e).1.1.1.0

    module _ (answer : List ℕ) where
      -- a number of exist's table is given by select's, and is not 12
      pub select_goes_on : (r : ℕ) → r ≡ exist_refusal m s keys bits n w f → (r ≡ 0 → ⊥) → r ≡ select_refusal m s keys bits n w f answer
      unfolding exist_refusal select_refusal
      select_goes_on r is h = sym (holds_first (holds_more _ (first_holds r _ h (sym is))))

      pub select_other : (r : ℕ) → r ≡ exist_refusal m s keys bits n w f → (r ≡ 0 → ⊥) → r ≡ 12 → ⊥
      unfolding exist_refusal
      select_other r is h e = other_number 12 (first_holds r _ h (sym is)) refl e

      -- past it the room decides
      pub select_short : exist_refusal m s keys bits n w f ≡ 0 → length answer < length (selected m keys bits n w f) → select_refusal m s keys bits n w f answer ≡ 12
      unfolding exist_refusal select_refusal
      select_short e short =
          let none = first_none _ refl e in
          holds_first (later none.0 (later none.1.0 (later none.1.1.0 (later none.1.1.1.0 (this (lt-ltb _ _ short) refl)))))

      pub select_none : exist_refusal m s keys bits n w f ≡ 0 → length (selected m keys bits n w f) ≤ length answer → select_refusal m s keys bits n w f answer ≡ 0
      unfolding exist_refusal select_refusal
      select_none e room =
          let none = first_none _ refl e in
          none_first _ (none.0, (none.1.0, (none.1.1.0, (none.1.1.1.0, (le-ltb _ _ room, tt)))))
