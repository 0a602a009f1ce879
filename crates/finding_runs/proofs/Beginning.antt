-- How a run begins: the refusals that come first, and what the run stands on where none of 21, 1 and 4 is given. Rests on Settings.
use Prim.Native.Nat.{ℕ, min}
use mathlib.Core.Path.{◌≡◌, refl, sym, ap, ◌∙◌}
use mathlib.Core.Bool.{Bool, true, false, cond, not, true≢false}
use Rattle.std.specs.Prelude.{Option, Some, None, is_some}
use Rattle.std.specs.Option.{unwrap_or}
use Rattle.offices.specs.declared.own.OwnRows.{OwnRows}
use mathlib.Core.List.{List, [], ◌∷◌}
use native.Mathlib.Omega.{arith}
use lib.ListN.{length}
use borrow.Author.Tests.{eq-eqb, ne_eqb, le-ltb, not-false}
use Rattle.keys.proofs.Cases.{decide}
use Rattle.definitions.specs.Read.{room, is_list}
use Rattle.definitions.specs.Refusal.{bad_settings}
use Rattle.definitions.specs.Offices.{bad_office}
use Rattle.definitions.specs.Rules.{Finding, waivers_of}
use Rattle.list.specs.First.{first_refusal}
use Rattle.list.proofs.FirstRefusal.{first_settings, first_no_list, first_good}
use Rattle.finding_runs.specs.declared.state.RunState.{RunState}
use Rattle.finding_runs.specs.Run.{rows_told, OfficeRows, no_rows, own_told, waivers_good, waivers_below, progress_of, bounding, begin_refusal, begin_of, own_at, RulesReady}
use Rattle.finding_runs.proofs.Settings.{good_level, good_slots}

-- no waiver has an id below 0
pub below_zero : (ws : List Finding) → 0 ≡ waivers_below 0 ws
unfolding waivers_below
below_zero [] = refl
below_zero (w ∷ ws) = let ih = below_zero ws in rw (le-ltb w.id 0 (omega arith)) (omega arith)

-- the rows as the code keeps them
told_parts : (o : Option OwnRows) (rows : OwnRows) (faulty : Bool) → rows ≡ unwrap_or o (record { offset = 0; count = 0 }) → is_some o ≡ not faulty
    → (faulty ≡ not (rows_told o).good) × (rows.offset ≡ (rows_told o).offset) × (rows.count ≡ (rows_told o).count)
told_parts None rows true e f = (refl, ap (λ r. r.offset) e, ap (λ r. r.count) e)
told_parts None rows false e f = absurd (true≢false (sym f))
told_parts (Some x) rows false e f = (refl, ap (λ r. r.offset) e, ap (λ r. r.count) e)
told_parts (Some x) rows true e f = absurd (true≢false f)

-- the rows that were found are these waivers, and good ones where the table is
pub record RunFits (m : ℕ) (own : OfficeRows) (waiver_ids waiver_keys : List ℕ) : Type 0 where
  pub size : own.count ≡ room waiver_ids waiver_keys
  pub good : own.good ≡ true → waivers_good m (waivers_of waiver_ids waiver_keys) ≡ true

module _ (office m s : ℕ) (keys bits : List ℕ) (n : ℕ) where
  -- what the number says
  pub begin_other : bad_office office ≡ true → begin_refusal office m s keys bits n ≡ 21
  unfolding begin_refusal
  begin_other e = rw e

  pub begin_bad : bad_office office ≡ false → bad_settings m s ≡ true → begin_refusal office m s keys bits n ≡ 1
  unfolding begin_refusal
  begin_bad known e = rw known (first_settings m s keys bits n e)

  pub begin_no_list : bad_office office ≡ false → bad_settings m s ≡ false → is_list m s keys bits n ≡ false → begin_refusal office m s keys bits n ≡ 4
  unfolding begin_refusal
  begin_no_list known e f = rw known (first_no_list m s keys bits n e (ap not f))

  pub begin_good : bad_office office ≡ false → bad_settings m s ≡ false → is_list m s keys bits n ≡ true → begin_refusal office m s keys bits n ≡ 0
  unfolding begin_refusal
  begin_good known e f = rw known (first_good m s keys bits n e (ap not f))

  pub begin_known : bad_office office ≡ false → begin_refusal office m s keys bits n ≡ first_refusal m s keys bits n
  unfolding begin_refusal
  begin_known known = rw known

  -- and the other way
  pub zero_office : begin_refusal office m s keys bits n ≡ 0 → bad_office office ≡ false
  zero_office e = decide (bad_office office) (λ other. let z = begin_other other in absurd (omega arith)) (λ known. known)

  pub zero_settings : begin_refusal office m s keys bits n ≡ 0 → bad_settings m s ≡ false
  zero_settings e = decide (bad_settings m s) (λ bad. let z = begin_bad (zero_office e) bad in absurd (omega arith)) (λ good. good)

  pub zero_list : begin_refusal office m s keys bits n ≡ 0 → is_list m s keys bits n ≡ true
  zero_list e =
      decide (is_list m s keys bits n) (λ is. is) (λ no_list. let z = begin_no_list (zero_office e) (zero_settings e) no_list in absurd (omega arith))

  -- 12 is not given yet
  pub begin_not_full : begin_refusal office m s keys bits n ≡ 12 → ⊥
  begin_not_full e =
      decide (bad_office office) (λ other. let z = begin_other other in omega arith)
      (λ known. decide (bad_settings m s) (λ bad. let z = begin_bad known bad in omega arith)
      (λ good. decide (is_list m s keys bits n) (λ is. let z = begin_good known good is in omega arith) (λ no_list. let z = begin_no_list known good no_list in omega arith)))

  -- the office's rows are looked for only where nothing is refused
  pub own_looked : (offices ids waived : List ℕ) (rows : ℕ) → begin_refusal office m s keys bits n ≡ 0 → own_told m office offices ids waived rows ≡ own_at m s keys bits n office offices ids waived rows
  unfolding own_at
  own_looked offices ids waived rows e = sym (ap (λ b. cond b (own_told m office offices ids waived rows) (no_rows true)) (eq-eqb (begin_refusal office m s keys bits n) 0 e))

  pub own_passed : (offices ids waived : List ℕ) (rows : ℕ) → (begin_refusal office m s keys bits n ≡ 0 → ⊥) → no_rows true ≡ own_at m s keys bits n office offices ids waived rows
  unfolding own_at
  own_passed offices ids waived rows h = sym (ap (λ b. cond b (own_told m office offices ids waived rows) (no_rows true)) (ne_eqb (begin_refusal office m s keys bits n) 0 h))

  module _ (own : OfficeRows) (room_ids room_keys : ℕ) where
    abbrev start : RunState
    start = begin_of m s keys bits n office own room_ids room_keys

    -- field by field
    pub begun : (refusal room' : ℕ) (o : Option OwnRows) (rows : OwnRows) (faulty : Bool) → refusal ≡ begin_refusal office m s keys bits n → rows_told o ≡ own
        → rows ≡ unwrap_or o (record { offset = 0; count = 0 }) → is_some o ≡ not faulty → room' ≡ min room_ids room_keys
        → record { m = m; s = s; n = n; mode = 0; refusal = refusal; next = 0; faulty = faulty; offset = rows.offset; waivers = rows.count; passed = 0; limit = 0; room = room'; live = 0; hidden = 0 }
        ≡ bounding 0 start
    unfolding begin_of
    begun refusal room' o rows faulty e f h k g =
        let t = told_parts o rows faulty h k in
        let bad = t.0 ∙ ap (λ r. not r.good) f in
        let from = t.1 ∙ ap (λ r. r.offset) f in
        let many = t.2 ∙ ap (λ r. r.count) f in
        λ i. record { m = m; s = s; n = n; mode = 0; refusal = e i; next = 0; faulty = bad i; offset = from i; waivers = many i; passed = 0; limit = 0; room = g i; live = 0; hidden = 0 }

    -- the first run may begin
    pub begin_ready : (waiver_ids waiver_keys ids found_keys : List ℕ) → RunFits m own waiver_ids waiver_keys → room_ids ≡ length ids → room_keys ≡ length found_keys
        → RulesReady keys bits waiver_ids waiver_keys (progress_of (bounding 0 start) ids found_keys)
    unfolding begin_of
    begin_ready waiver_ids waiver_keys ids found_keys fit e f =
        record {
          fine = λ zero. record {
            level = good_level m s (zero_settings zero);
            slots = good_slots m s (zero_settings zero);
            list = zero_list zero;
            limit_ids = omega arith;
            limit_keys = omega arith;
            room_ids = omega arith;
            room_keys = omega arith;
            count = fit.size;
            good = λ no-fault. fit.good (not-false own.good no-fault);
            passed = λ no-fault. below_zero (waivers_of waiver_ids waiver_keys);
            small = omega arith;
          };
        }
