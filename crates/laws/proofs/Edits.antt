-- The frame of edits (Calls/Edit of the definitions): what a refused edit leaves and an accepted one gives; and its table: the rows about what is lent, the
-- edit's own, and the list's room. Said once for paints of a block and of a window, for taking back and for redo. Rests on First.
use Prim.Native.Nat.{ℕ, ◌≤◌, ◌<◌}
use mathlib.Core.Path.{◌≡◌, refl, sym, ap, ◌∙◌}
use mathlib.Core.Bool.{true, false}
use mathlib.Core.List.{List, [], ◌∷◌, ◌++◌}
use native.Mathlib.Omega.{arith}
use lib.ListN.{length}
use lib.Dec.{ltb}
use borrow.Author.Tests.{lt-ltb, le-ltb, ltb-false}
use Rattle.definitions.specs.List.{keys_of, values_of}
use Rattle.definitions.specs.Read.{room, records_of, picture_of}
use Rattle.definitions.specs.Buffer.{replaced}
use Rattle.definitions.specs.Area.{summary_of, no_summary}
use Rattle.definitions.specs.Log.{no_log}
use Rattle.definitions.specs.Refusal.{Row, ◌gives◌, first, accepted, bad_settings, no_list}
use Rattle.definitions.specs.Calls.Edit.{LentSheet, Edit, sheet_rows, list_left, edit_refusal, edit_answer, keys_left, bits_left, summary_left, log_keys_left, log_values_left, Edits}
use Rattle.laws.proofs.First.{numbered, NoneHolds, FirstHolds, this, none_first, first_none, holds_first, holds_more, early_first, rest_first, accepted_done, accepted_left}

-- where no test of a table holds none of either part does
none_parts : (rows more : List Row) → NoneHolds (rows ++ more) → NoneHolds rows × NoneHolds more
none_parts [] more h = (tt, h)
none_parts (r ∷ rs) more h = let parts = none_parts rs more h.1 in ((h.0, parts.0), parts.1)

-- what the rows about the lent sheet do not refuse
pub record SheetPassed (l : LentSheet) : Type 0 where
  pub settings : bad_settings l.m l.s ≡ false
  pub listed : no_list l.m l.s l.keys l.bits l.n ≡ false
  pub summed : no_summary l.m l.s (picture_of l.m (records_of l.keys l.bits l.n)) l.summary ≡ false
  pub logged : no_log l.m l.s l.log_keys l.log_values l.used l.in_force ≡ false

sheet_none : {l : LentSheet} → SheetPassed l → NoneHolds (sheet_rows l)
sheet_none p = (p.settings, (p.listed, (p.summed, (p.logged, tt))))

pub sheet_passed : (l : LentSheet) → first (sheet_rows l) ≡ 0 → SheetPassed l
sheet_passed l e =
    let none = first_none (sheet_rows l) refl e in
    record { settings = none.0; listed = none.1.0; summed = none.1.1.0; logged = none.1.1.1.0 }

-- what an edit that is not refused has passed
pub record EditPassed (e : Edit) : Type 0 where
  pub sheet : SheetPassed e.lent
  pub own : NoneHolds e.rows
  pub fits : length (list_left e) ≤ room e.lent.keys e.lent.bits

module _ (e : Edit) where
  -- the row about the list's room
  abbrev last_row : List Row
  last_row = ltb (room e.lent.keys e.lent.bits) (length (list_left e)) gives 9 ∷ []

  -- 1, 4, 18, 5
  pub sheet_refuses : (k : ℕ) → k ≡ first (sheet_rows e.lent) → (k ≡ 0 → ⊥) → k ≡ edit_refusal e
  unfolding edit_refusal
  sheet_refuses k is not-zero = early_first k (sheet_rows e.lent) (e.rows ++ last_row) is not-zero

  module _ (p : SheetPassed e.lent) where
    -- past these the other rows decide
    past_sheet : first (e.rows ++ last_row) ≡ edit_refusal e
    unfolding edit_refusal
    past_sheet = rest_first (sheet_rows e.lent) (e.rows ++ last_row) (sheet_none p)

    -- the first of its own rows that holds
    pub own_refuses : {k : ℕ} → FirstHolds k e.rows → k ≡ edit_refusal e
    own_refuses h = sym (holds_first (holds_more last_row h)) ∙ past_sheet

    -- past some of these the rest decide
    pub rest_decides : (rows rest : List Row) → rows ++ rest ≡ e.rows ++ last_row → NoneHolds rows → first rest ≡ edit_refusal e
    rest_decides rows rest same none = rest_first rows rest none ∙ ap first same ∙ past_sheet

    module _ (own : NoneHolds e.rows) (after : ℕ) (after_is : after ≡ length (list_left e)) where
      past_own : first last_row ≡ edit_refusal e
      past_own = rest_decides e.rows last_row refl own

      -- 9
      pub list_full : room e.lent.keys e.lent.bits < after → 9 ≡ edit_refusal e
      list_full h = sym (holds_first (this (lt-ltb (room e.lent.keys e.lent.bits) (length (list_left e)) (omega arith)) refl)) ∙ past_own

      -- none
      pub room_enough : after ≤ room e.lent.keys e.lent.bits → 0 ≡ edit_refusal e
      room_enough h = sym (none_first last_row (le-ltb (room e.lent.keys e.lent.bits) (length (list_left e)) (omega arith), tt)) ∙ past_own

  -- an edit whose own rows have numbers, and that is not refused, has passed them all
  pub edit_passed : numbered (e.rows ++ last_row) ≡ true → edit_refusal e ≡ 0 → EditPassed e
  unfolding edit_refusal
  edit_passed told zero =
      let none = first_none (sheet_rows e.lent ++ (e.rows ++ last_row)) told zero in
      let parts = none_parts e.rows last_row none.1.1.1.1 in
      record {
        sheet = record { settings = none.0; listed = none.1.0; summed = none.1.1.0; logged = none.1.1.1.0 };
        own = parts.0;
        fits = ltb-false _ _ parts.1.0;
      }

  -- a refused edit gives its number alone, and leaves what was lent
  pub edit_refused : (k : ℕ) → k ≡ edit_refusal e → (k ≡ 0 → ⊥)
      → Edits e (record { refusal = k; n = 0; used = 0; in_force = 0 }) e.lent.keys e.lent.bits e.lent.summary e.lent.log_keys e.lent.log_values
  unfolding edit_answer keys_left bits_left summary_left log_keys_left log_values_left
  edit_refused k is not-zero =
      let refused : edit_refusal e ≡ 0 → ⊥ = λ z. not-zero (is ∙ z) in
      let nothing : (x : ℕ) → 0 ≡ accepted (edit_refusal e) x 0 = λ x. sym (accepted_left x 0 refused) in
      let stays : (new old : List ℕ) → old ≡ accepted (edit_refusal e) new old = λ new old. sym (accepted_left new old refused) in
      record {
        answer = λ i. record { refusal = is i; n = nothing (length (list_left e)) i; used = nothing e.used i; in_force = nothing e.in_force i };
        keys_are = stays _ e.lent.keys;
        bits_are = stays _ e.lent.bits;
        summary_is = stays _ e.lent.summary;
        log_keys_are = stays _ e.lent.log_keys;
        log_values_are = stays _ e.lent.log_values;
      }

  -- an accepted one gives what was made
  pub edit_done : {n' used' in_force' : ℕ} {keys' bits' summary' log_keys' log_values' : List ℕ} → edit_refusal e ≡ 0
      → n' ≡ length (list_left e)
      → keys' ≡ replaced e.lent.n (keys_of (list_left e)) e.lent.keys
      → bits' ≡ replaced e.lent.n (values_of (list_left e)) e.lent.bits
      → summary' ≡ summary_of e.lent.m e.lent.s e.picture
      → used' ≡ e.used
      → in_force' ≡ e.in_force
      → log_keys' ≡ e.log_keys
      → log_values' ≡ e.log_values
      → Edits e (record { refusal = 0; n = n'; used = used'; in_force = in_force' }) keys' bits' summary' log_keys' log_values'
  unfolding edit_answer keys_left bits_left summary_left log_keys_left log_values_left
  edit_done {n'} {used'} {in_force'} none n-is keys_are bits_are summary_is used_is force-is log_keys_are log_values_are =
      let number : (x y : ℕ) → x ≡ y → x ≡ accepted (edit_refusal e) y 0 = λ x y same. same ∙ sym (accepted_done y 0 none) in
      let made : (x new old : List ℕ) → x ≡ new → x ≡ accepted (edit_refusal e) new old = λ x new old same. same ∙ sym (accepted_done new old none) in
      record {
        answer = λ i. record { refusal = sym none i; n = number n' _ n-is i; used = number used' _ used_is i; in_force = number in_force' _ force-is i };
        keys_are = made _ _ e.lent.keys keys_are;
        bits_are = made _ _ e.lent.bits bits_are;
        summary_is = made _ _ e.lent.summary summary_is;
        log_keys_are = made _ _ e.lent.log_keys log_keys_are;
        log_values_are = made _ _ e.lent.log_values log_values_are;
      }
