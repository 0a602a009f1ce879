-- The last step of a log, a single entry or a group: a log passes the test of a last step exactly when it is what stands before it and then a step
-- (specification S11.9, S11.10). The mark is no feature, so s is at most 255. Rests on LogEntries.
use Prim.Native.Nat.{ℕ, zero, suc, ◌+◌, ◌-◌, ◌≤◌, ◌<◌}
use mathlib.Core.Path.{◌≡◌, refl, sym, ap, ap₂, ◌∙◌}
use mathlib.Core.Bool.{Bool, true, false, cond, ◌&&◌}
use mathlib.Core.List.{List, [], ◌∷◌, ◌++◌, append_assoc}
use native.Mathlib.Omega.{arith}
use lib.ListN.{length, take, length-append, length-take}
use lib.Dec.{leb, ltb, eqb}
use borrow.Author.Tests.{leb-true, le-leb, ltb-true, lt-ltb, eqb-true, eq-eqb, ne_eqb}
use Rattle.keys.specs.Key.{root_key, valid_key}
use Rattle.keys.proofs.Cases.{decide, and_left, and_right, and_both}
use Rattle.definitions.specs.List.{Record, record_of}
use Rattle.definitions.specs.Log.{closed, closing_places, group_mark, grouped, count_record, last_record, last_key, last_feature, last_count, before_last, last_content, is_content, last_is_entry, ends_in_mark, step_count, step_entries, before_entries, before_step, ends_in_entries, last_is_group, last_is_step, EndsInEntry}
use Rattle.laws.proofs.LastEntry.{before_less, length-closed, last-feature, before_last_entry, two_count, two_last, two_front, log_with_two, log_with_entry}
use Rattle.laws.proofs.LogEntries.{Entries, number_in, ends_in_entry, entry_ends, with_entry_ends, entries_end, entries_before, last_entries}

-- records that are one step
pub data IsStep (m s : ℕ) : List Record → Type 0 where
  single : (κ : ℕ) (content : List Record) (f : ℕ) → valid_key m κ ≡ true → is_content m s κ content ≡ true → f < s → IsStep m s (closed κ content f)
  group : {entries : List Record} (e : Entries m s entries) → 0 < number_in e → IsStep m s (grouped entries (number_in e))

and-false : (a : Bool) → a && false ≡ false
and-false true = refl
and-false false = refl

-- the mark, by its test
pub mark_said : (log : List Record) → ends_in_mark log ≡ true → (last_key log ≡ root_key) × (last_feature log ≡ group_mark)
unfolding ends_in_mark
mark_said log e =
    let key : Bool = eqb (last_key log) root_key in
    (eqb-true _ _ (and_left key (eqb (last_feature log) group_mark) e), eqb-true _ _ (and_right key (eqb (last_feature log) group_mark) e))

mark_is : (log : List Record) → last_key log ≡ root_key → last_feature log ≡ group_mark → ends_in_mark log ≡ true
unfolding ends_in_mark
mark_is log key mark = and_both _ _ (eq-eqb _ _ key) (eq-eqb _ _ mark)

pub no_mark : (log : List Record) → (last_feature log ≡ group_mark → ⊥) → ends_in_mark log ≡ false
unfolding ends_in_mark
no_mark log h = ap (λ b. eqb (last_key log) root_key && b) (ne_eqb _ _ h) ∙ and-false (eqb (last_key log) root_key)

-- a log that does not end in the mark: its last step is its last entry
module _ (log : List Record) (e : ends_in_mark log ≡ false) where
  pub count_single : step_count log ≡ 1
  unfolding step_count
  count_single = ap (λ b. cond b (last_count log) 1) e

  pub entries_single : step_entries log ≡ log
  unfolding step_entries
  entries_single = ap (λ b. cond b (take (length log - closing_places) log) log) e

  pub before_single : before_step log ≡ before_last log
  unfolding before_step before_entries
  before_single = ap₂ (λ n l. before_entries n l) count_single entries_single

  pub step_single : (m s : ℕ) → last_is_step m s log ≡ last_is_entry m s log
  unfolding last_is_step
  step_single m s = ap (λ b. cond b (last_is_group m s log) (last_is_entry m s log)) e

-- one that does: it is the last group
module _ (log : List Record) (e : ends_in_mark log ≡ true) where
  pub count_group : step_count log ≡ last_count log
  unfolding step_count
  count_group = ap (λ b. cond b (last_count log) 1) e

  pub entries_group : step_entries log ≡ take (length log - closing_places) log
  unfolding step_entries
  entries_group = ap (λ b. cond b (take (length log - closing_places) log) log) e

  pub before_group : before_step log ≡ before_entries (last_count log) (take (length log - closing_places) log)
  unfolding before_step
  before_group = ap₂ (λ n l. before_entries n l) count_group entries_group

  pub step_group : (m s : ℕ) → last_is_step m s log ≡ last_is_group m s log
  unfolding last_is_step
  step_group m s = ap (λ b. cond b (last_is_group m s log) (last_is_entry m s log)) e

-- what stands before entries is no longer
pub before_entries_less : (count : ℕ) (log : List Record) → length (before_entries count log) ≤ length log
unfolding before_entries
before_entries_less zero log = omega arith
before_entries_less (suc count) log = let less = before_less log in let rest = before_entries_less count (before_last log) in omega arith

-- less stands before the last step than with it
pub before_step_less : (log : List Record) → length (before_step log) ≤ length log - closing_places
before_step_less log =
    decide (ends_in_mark log)
    (λ e.
    let same = ap length (before_group log e) in
    let less = before_entries_less (last_count log) (take (length log - closing_places) log) in
    let size = length-take (length log - closing_places) log in
    omega arith)
    (λ e. let same = ap length (before_single log e) in let less = before_less log in omega arith)

-- a single entry behind a log
module _ (m s : ℕ) (few : s ≤ group_mark) (log : List Record) (κ : ℕ) (content : List Record) (f : ℕ) (below : f < s) where
  pub single_mark : ends_in_mark (log ++ closed κ content f) ≡ false
  single_mark = let same = last-feature log κ content f in no_mark (log ++ closed κ content f) (λ e. omega arith)

  pub single_before : before_step (log ++ closed κ content f) ≡ log
  single_before = before_single (log ++ closed κ content f) single_mark ∙ before_last_entry log κ content f

  single_ends : valid_key m κ ≡ true → is_content m s κ content ≡ true → last_is_step m s (log ++ closed κ content f) ≡ true
  single_ends valid correct =
      step_single (log ++ closed κ content f) single_mark m s
      ∙ entry_ends m s (log ++ closed κ content f) (with_entry_ends m s log content κ f valid correct below)

-- the records that close a group
abbrev close : ℕ → List Record
close number = record_of root_key number ∷ record_of root_key group_mark ∷ []

-- a group behind a log
module _ (log entries : List Record) (number : ℕ) where
  abbrev front : List Record
  front = log ++ entries

  pub group_joined : log ++ grouped entries number ≡ (log ++ entries) ++ (record_of root_key number ∷ record_of root_key group_mark ∷ [])
  unfolding grouped
  group_joined = sym (append_assoc log entries (close number))

  closes_with : last_record (log ++ grouped entries number) ≡ record_of root_key group_mark
  closes_with = ap last_record group_joined ∙ two_last front (record_of root_key number) (record_of root_key group_mark)

  counts_with : count_record (log ++ grouped entries number) ≡ record_of root_key number
  counts_with = ap count_record group_joined ∙ two_count front (record_of root_key number) (record_of root_key group_mark)

  pub group-mark : ends_in_mark (log ++ grouped entries number) ≡ true
  unfolding last_key last_feature
  group-mark = mark_is (log ++ grouped entries number) (ap (λ x. x.key) closes_with) (ap (λ x. x.value) closes_with)

  pub group_count : step_count (log ++ grouped entries number) ≡ number
  unfolding last_count
  group_count = count_group (log ++ grouped entries number) group-mark ∙ ap (λ x. x.value) counts_with

  pub group_entries : step_entries (log ++ grouped entries number) ≡ log ++ entries
  group_entries =
      entries_group (log ++ grouped entries number) group-mark
      ∙ ap (λ l. take (length l - closing_places) l) group_joined
      ∙ two_front front (record_of root_key number) (record_of root_key group_mark)

  group-length : length (log ++ grouped entries number) ≡ length (log ++ entries) + closing_places
  group-length = ap length group_joined ∙ length-append front (close number)

  -- its entries are there
  module _ {m s : ℕ} (e : Entries m s entries) (many : number_in e ≡ number) where
    pub group_before : before_step (log ++ grouped entries number) ≡ log
    unfolding before_step
    group_before =
        ap₂ (λ n l. before_entries n l) (group_count ∙ sym many) group_entries
        ∙ entries_before e log

    group_ends : 0 < number → last_is_step m s (log ++ grouped entries number) ≡ true
    unfolding last_is_group
    group_ends some =
        let l : List Record = log ++ grouped entries number in
        let size = group-length in
        let count = group_count in
        let there : Bool = leb closing_places (length l) in
        let zero_key : Bool = eqb (count_record l).key root_key in
        let has : Bool = ltb 0 (step_count l) in
        step_group l group-mark m s
        ∙ and_both (there && zero_key && has) (ends_in_entries (step_count l) m s (step_entries l))
        (and_both (there && zero_key) has
        (and_both there zero_key (le-leb closing_places (length l) (omega arith)) (eq-eqb _ _ (ap (λ x. x.key) counts_with)))
        (lt-ltb 0 (step_count l) (omega arith)))
        (ap₂ (λ n x. ends_in_entries n m s x) (group_count ∙ sym many) group_entries ∙ entries_end e log)

-- a step has records
pub step_some : {m s : ℕ} {step : List Record} → IsStep m s step → closing_places ≤ length step
unfolding grouped
step_some (single κ content f valid correct below) = let size = length-closed κ content f in omega arith
step_some (group {entries} e some) = let size = length-append entries (close (number_in e)) in omega arith

-- a log with a step behind it passes the test
pub step_ends : {m s : ℕ} {step : List Record} → s ≤ group_mark → IsStep m s step → (log : List Record) → last_is_step m s (log ++ step) ≡ true
step_ends {m} {s} few (single κ content f valid correct below) log = single_ends m s few log κ content f below valid correct
step_ends few (group {entries} e some) log = group_ends log entries (number_in e) e refl some

-- and has itself before it
pub step_before : {m s : ℕ} {step : List Record} → s ≤ group_mark → IsStep m s step → (log : List Record) → before_step (log ++ step) ≡ log
step_before {m} {s} few (single κ content f valid correct below) log = single_before m s few log κ content f below
step_before few (group {entries} e some) log = group_before log entries (number_in e) e refl

-- the step that a log ends in
pub record LastStep (m s : ℕ) (log : List Record) : Type 0 where
  pub step : List Record
  pub is : IsStep m s step
  pub log_is : log ≡ before_step log ++ step

-- a group, by its test
pub record EndsInGroup (m s : ℕ) (log : List Record) : Type 0 where
  pub there : closing_places ≤ length log
  pub root-key : (count_record log).key ≡ root_key
  pub some : 0 < last_count log
  pub entries_are : ends_in_entries (last_count log) m s (take (length log - closing_places) log) ≡ true

pub ends_in_group : (m s : ℕ) (log : List Record) → ends_in_mark log ≡ true → last_is_step m s log ≡ true → EndsInGroup m s log
unfolding last_is_group
ends_in_group m s log mark ok =
    let there : Bool = leb closing_places (length log) in
    let zero_key : Bool = eqb (count_record log).key root_key in
    let has : Bool = ltb 0 (step_count log) in
    let last : Bool = ends_in_entries (step_count log) m s (step_entries log) in
    let all : (there && zero_key && has && last) ≡ true = sym (step_group log mark m s) ∙ ok in
    let three = and_left (there && zero_key && has) last all in
    let two = and_left (there && zero_key) has three in
    let count = count_group log mark in
    let positive : 0 < step_count log = ltb-true 0 (step_count log) (and_right (there && zero_key) has three) in
    record {
      there = leb-true closing_places (length log) (and_left there zero_key two);
      root-key = eqb-true _ _ (and_right there zero_key two);
      some = omega arith;
      entries_are = sym (ap₂ (λ n l. ends_in_entries n m s l) (count_group log mark) (entries_group log mark)) ∙ and_right (there && zero_key && has) last all;
    }

last-is-group : (m s : ℕ) (log : List Record) → ends_in_mark log ≡ true → EndsInGroup m s log → LastStep m s log
unfolding grouped last_key last_feature last_count
last-is-group m s log mark g =
    let front : List Record = take (length log - closing_places) log in
    let l = last_entries (last_count log) m s front g.entries_are in
    let said = mark_said log mark in
    let some = g.some in
    let many = l.many in
    let count : count_record log ≡ record_of root_key (number_in l.are) = ap₂ (λ k v. record_of k v) g.root-key (sym l.many) in
    let last : last_record log ≡ record_of root_key group_mark = ap₂ (λ k v. record_of k v) said.0 said.1 in
    record {
      step = grouped l.entries (number_in l.are);
      is = group l.are (omega arith);
      log_is = log_with_two log g.there
          ∙ ap₂ (λ x y. front ++ (x ∷ y ∷ [])) count last
          ∙ ap (λ x. x ++ close (number_in l.are)) l.log_is
          ∙ append_assoc (before_entries (last_count log) front) l.entries (close (number_in l.are))
          ∙ ap (λ x. x ++ grouped l.entries (number_in l.are)) (sym (before_group log mark));
    }

last_is_single : (m s : ℕ) (log : List Record) → ends_in_mark log ≡ false → EndsInEntry m s log → LastStep m s log
last_is_single m s log mark h =
    record {
      step = closed (last_key log) (last_content log) (last_feature log);
      is = single (last_key log) (last_content log) (last_feature log) h.valid h.correct h.below;
      log_is = log_with_entry log h.all_there h.one_key ∙ ap (λ l. l ++ closed (last_key log) (last_content log) (last_feature log)) (sym (before_single log mark));
    }

-- a log that passes the test ends in a step
pub last_step_means : (m s : ℕ) (log : List Record) → last_is_step m s log ≡ true → LastStep m s log
last_step_means m s log ok =
    decide (ends_in_mark log)
    (λ mark. last-is-group m s log mark (ends_in_group m s log mark ok))
    (λ mark. last_is_single m s log mark (ends_in_entry m s log (sym (step_single log mark m s) ∙ ok)))
