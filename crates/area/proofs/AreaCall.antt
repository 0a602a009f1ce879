-- The call of an area: what a call that is not refused has passed, a refused call gives its number and no pixels, and an accepted one the area. Rests on the
-- laws of tables.
use Prim.Native.Nat.{ℕ, ◌<◌}
use mathlib.Core.Path.{◌≡◌, refl, sym, ◌∙◌}
use mathlib.Core.Bool.{true}
use mathlib.Core.List.{List}
use borrow.Author.Tests.{not-false, leb-false}
use Rattle.definitions.specs.Read.{is_list}
use Rattle.definitions.specs.Window.{is_window}
use Rattle.definitions.specs.Area.{area_in, summary_of}
use Rattle.definitions.specs.Calls.Area.{area_refusal, area}
use Rattle.definitions.specs.declared.Measured.{Measured}
use Rattle.definitions.specs.declared.Window.{Window}
use Rattle.laws.proofs.First.{first_none, accepted_done, accepted_left}
use Rattle.laws.proofs.SameNumbers.{summary_is}
use Rattle.list.specs.Own.{shown_by}
use Rattle.list.proofs.Tests.{GoodSettings, good_settings}

measured : {a b a' b' : ℕ} → a ≡ a' → b ≡ b' → ◌≡◌ {A = Measured} (record { refusal = a; pixels = b }) (record { refusal = a'; pixels = b' })
measured e f i = record { refusal = e i; pixels = f i }

module _ (m s : ℕ) (keys bits : List ℕ) (n : ℕ) (summary : List ℕ) (w : Window) (f : ℕ) where
  pub record Passed : Type 0 where
    pub settings : GoodSettings m s
    pub list : is_list m s keys bits n ≡ true
    pub summary_right : summary ≡ summary_of m s (shown_by m keys bits n)
    pub window : is_window m w ≡ true
    pub below : f < s

  pub area_passed : area_refusal m s keys bits n summary w f ≡ 0 → Passed
  unfolding area_refusal
  area_passed e =
      let none = first_none _ refl e in
      record {
        settings = good_settings m s none.0;
        list = not-false (is_list m s keys bits n) none.1.0;
        summary_right = summary_is m s (shown_by m keys bits n) summary none.1.1.0;
        window = not-false (is_window m w) none.1.1.1.0;
        below = leb-false s f none.1.1.1.1.0;
      }

  pub area_refused : (r : ℕ) → r ≡ area_refusal m s keys bits n summary w f → (r ≡ 0 → ⊥) → record { refusal = r; pixels = 0 } ≡ area m s keys bits n summary w f
  unfolding area
  area_refused r is h = measured is (sym (accepted_left _ 0 (λ e. h (is ∙ e))))

  pub area_given : (pixels : ℕ) → area_refusal m s keys bits n summary w f ≡ 0 → pixels ≡ area_in (shown_by m keys bits n) w f
      → record { refusal = 0; pixels = pixels } ≡ area m s keys bits n summary w f
  unfolding area
  area_given pixels none is = measured (sym none) (is ∙ sym (accepted_done _ 0 none))
