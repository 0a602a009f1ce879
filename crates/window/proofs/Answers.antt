-- The answers of report, exist and select: a refused call gives its number and nothing else (with 12 the places needed), and an accepted one what was
-- found. Rests on Tables and Few.
use Prim.Native.Nat.{ℕ, ◌*◌, ◌≤◌, ◌<◌}
use mathlib.Core.Path.{◌≡◌, refl, sym, ◌∙◌, ap}
use mathlib.Core.Bool.{Bool, true, false, cond}
use mathlib.Core.List.{List}
use native.Mathlib.Omega.{arith}
use lib.ListN.{length}
use borrow.Author.Tests.{eq-eqb, ne_eqb}
use Rattle.definitions.specs.Window.{exist_in, report_in, select_in}
use Rattle.definitions.specs.Buffer.{over}
use Rattle.definitions.specs.Calls.Report.{report_refusal, report}
use Rattle.definitions.specs.Calls.Exist.{exist_refusal, exist}
use Rattle.definitions.specs.Calls.Select.{selected, select_refusal, select, select_answer}
use Rattle.definitions.specs.declared.Window.{Window}
use Rattle.definitions.specs.declared.Exists.{Exists}
use Rattle.definitions.specs.declared.Reported.{Reported}
use Rattle.definitions.specs.declared.Counted.{Counted}
use Rattle.laws.proofs.First.{accepted_done, accepted_left}
use Rattle.list.specs.Own.{shown_by}
use Rattle.window.specs.Gather.{Gave}
use Rattle.walk.proofs.Few.{select_few}
use Rattle.walk.proofs.Written.{written_nothing, written_over}
use Rattle.window.proofs.Tables.{select_goes_on, select_other, select_short, select_none}

exists : {a b a' b' : ℕ} → a ≡ a' → b ≡ b' → ◌≡◌ {A = Exists} (record { refusal = a; yes = b }) (record { refusal = a'; yes = b' })
exists e f i = record { refusal = e i; yes = f i }

reported : {a b a' b' : ℕ} → a ≡ a' → b ≡ b' → ◌≡◌ {A = Reported} (record { refusal = a; bits = b }) (record { refusal = a'; bits = b' })
reported e f i = record { refusal = e i; bits = f i }

counted : {a b a' b' : ℕ} → a ≡ a' → b ≡ b' → ◌≡◌ {A = Counted} (record { refusal = a; count = b }) (record { refusal = a'; count = b' })
counted e f i = record { refusal = e i; count = f i }

module _ (m s : ℕ) (keys bits : List ℕ) (n : ℕ) (w : Window) where
  pub report_refused : (r : ℕ) → r ≡ report_refusal m s keys bits n w → (r ≡ 0 → ⊥) → record { refusal = r; bits = 0 } ≡ report m s keys bits n w
  unfolding report
  report_refused r is h = reported is (sym (accepted_left _ 0 (λ e. h (is ∙ e))))

  pub report_found : (union : ℕ) → report_refusal m s keys bits n w ≡ 0 → union ≡ report_in (shown_by m keys bits n) w
      → record { refusal = 0; bits = union } ≡ report m s keys bits n w
  unfolding report
  report_found union none is = reported (sym none) (is ∙ sym (accepted_done _ 0 none))

  module _ (f : ℕ) where
    pub exist_refused : (r : ℕ) → r ≡ exist_refusal m s keys bits n w f → (r ≡ 0 → ⊥) → record { refusal = r; yes = 0 } ≡ exist m s keys bits n w f
    unfolding exist
    exist_refused r is h = exists is (sym (accepted_left _ 0 (λ e. h (is ∙ e))))

    pub exist_yes : exist_refusal m s keys bits n w f ≡ 0 → exist_in (shown_by m keys bits n) w f ≡ true → record { refusal = 0; yes = 1 } ≡ exist m s keys bits n w f
    unfolding exist
    exist_yes none e = exists (sym none) (sym (accepted_done _ 0 none ∙ ap (λ t. cond t 1 0) e))

    pub exist_no : exist_refusal m s keys bits n w f ≡ 0 → exist_in (shown_by m keys bits n) w f ≡ false → record { refusal = 0; yes = 0 } ≡ exist m s keys bits n w f
    unfolding exist
    exist_no none e = exists (sym none) (sym (accepted_done _ 0 none ∙ ap (λ t. cond t 1 0) e))

    pub exist_found : (found : Bool) → exist_refusal m s keys bits n w f ≡ 0 → found ≡ exist_in (shown_by m keys bits n) w f
        → record { refusal = 0; yes = cond found 1 0 } ≡ exist m s keys bits n w f
    unfolding exist
    exist_found found none e = exists (sym none) (ap (λ t. cond t 1 0) e ∙ sym (accepted_done _ 0 none))

    module _ (answer : List ℕ) where
      -- what a call of select gives and leaves
      pub record SelectAnswered (r : Counted) (after : List ℕ) : Type 0 where
        pub result : r ≡ select m s keys bits n w f answer
        pub left : after ≡ select_answer m s keys bits n w f answer

      -- a refused call counts nothing and leaves the answer
      pub select_refused : (r : ℕ) → r ≡ exist_refusal m s keys bits n w f → (r ≡ 0 → ⊥) → SelectAnswered (record { refusal = r; count = 0 }) answer
      unfolding select select_answer
      select_refused r is h =
          let e = select_goes_on m s keys bits n w f answer r is h in
          let some : select_refusal m s keys bits n w f answer ≡ 0 → ⊥ = λ z. h (e ∙ z) in
          record {
            result = counted e
                (sym
                (accepted_left _ _ some
                ∙ ap (λ t. cond t (length (selected m keys bits n w f)) 0) (ne_eqb _ 12 (λ z. select_other m s keys bits n w f answer r is h (e ∙ z)))));
            left = sym (accepted_left _ answer some);
          }

      module _ (none : exist_refusal m s keys bits n w f ≡ 0) where
        -- enough room: the keys
        select_all : length (select_in m (shown_by m keys bits n) w f) ≤ length answer → (limit count : ℕ) (before last : List ℕ) → before ≡ answer
            → length (select_in m (shown_by m keys bits n) w f) ≤ limit → Gave (select_in m (shown_by m keys bits n) w f) limit 0 before last count
            → SelectAnswered (record { refusal = 0; count = count }) last
        unfolding select select_answer selected
        select_all room limit count before last same reach gave =
            let l = select_in m (shown_by m keys bits n) w f in
            let e = select_none m s keys bits n w f answer none room in
            record {
              result = counted (sym e) (gave.counted ∙ omega arith ∙ sym (accepted_done _ _ e));
              left = gave.wrote
                  ∙ written_over limit before l reach (let k = ap length same in omega arith)
                  ∙ ap (over l) same
                  ∙ sym (accepted_done _ answer e);
            }

        -- room for every pixel of the window is enough
        pub select_at_once : w.height * w.width ≤ length answer → (count : ℕ) (last : List ℕ)
            → Gave (select_in m (shown_by m keys bits n) w f) (length answer) 0 answer last count
            → SelectAnswered (record { refusal = 0; count = count }) last
        select_at_once room count last gave =
            let few = select_few (shown_by m keys bits n) w f m in
            select_all (omega arith) (length answer) count answer last refl (omega arith) gave

        module _ (needed : ℕ) (after : List ℕ) (gave : Gave (select_in m (shown_by m keys bits n) w f) 0 0 answer after needed) where
          -- counting leaves the answer as it was
          pub counting_leaves : after ≡ answer
          counting_leaves = gave.wrote ∙ written_nothing answer 0 _

          needed-length : needed ≡ length (selected m keys bits n w f)
          unfolding selected
          needed-length = gave.counted ∙ omega arith

          -- too little room: the places needed
          pub select_twelve : length answer < needed → SelectAnswered (record { refusal = 12; count = needed }) after
          unfolding select select_answer
          select_twelve short =
              let e = select_short m s keys bits n w f answer none (let l = needed-length in omega arith) in
              let some : select_refusal m s keys bits n w f answer ≡ 0 → ⊥ = λ z. omega (arith, e) in
              record {
                result = counted (sym e) (needed-length ∙ sym (accepted_left _ _ some ∙ ap (λ t. cond t (length (selected m keys bits n w f)) 0) (eq-eqb _ 12 e)));
                left = counting_leaves ∙ sym (accepted_left _ answer some);
              }

          pub select_written : needed ≤ length answer → (count : ℕ) (last : List ℕ) → Gave (select_in m (shown_by m keys bits n) w f) needed 0 after last count
              → SelectAnswered (record { refusal = 0; count = count }) last
          select_written room count last wrote = select_all (omega (arith, gave.counted)) needed count after last counting_leaves (omega (arith, gave.counted)) wrote
