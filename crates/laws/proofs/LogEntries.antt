-- Entries of a log, one after the other: what the test of a last entry says, and what the tests of so many entries at a log's end say (specification S11.6).
-- Rests on LastEntry.
use Prim.Native.Nat.{ℕ, zero, suc, ◌+◌, ◌<◌}
use mathlib.Core.Path.{◌≡◌, refl, sym, ap, ap₂, ◌∙◌}
use mathlib.Core.Bool.{Bool, true, false, ◌&&◌}
use mathlib.Core.List.{List, [], ◌∷◌, ◌++◌, append_assoc, append-nil}
use native.Mathlib.Omega.{arith}
use lib.ListN.{length}
use lib.Dec.{leb, ltb, eqb}
use borrow.Author.Tests.{leb-true, le-leb, ltb-true, lt-ltb, eqb-true, eq-eqb}
use Rattle.keys.specs.Key.{valid_key, height_of}
use Rattle.keys.specs.Block.{row_of, column_of}
use Rattle.keys.proofs.Cases.{and_left, and_right, and_both}
use Rattle.definitions.specs.Picture.{Picture}
use Rattle.definitions.specs.List.{Record, list_of}
use Rattle.definitions.specs.Read.{picture_of, same_records, is_list_of_block}
use Rattle.definitions.specs.Log.{closed, closing_places, count_record, last_key, last_feature, last_count, before_last, last_content, closes, is_content, last_is_entry, EndsInEntry, before_entries, ends_in_entries}
use Rattle.laws.proofs.LastEntry.{length-with_entry, count-record, last-key, last-feature, last-count, before_last_entry, last-content, log_with_entry}

-- the records are entries, one after the other
pub data Entries (m s : ℕ) : List Record → Type 0 where
  none : Entries m s []
  more : {log : List Record} → Entries m s log → (κ : ℕ) (content : List Record) (f : ℕ) → valid_key m κ ≡ true → is_content m s κ content ≡ true → f < s
      → Entries m s (log ++ closed κ content f)

-- the list of a block has records
pub list_not_empty : (p : Picture) (k r c κ : ℕ) → 0 < length (list_of p k r c κ)
unfolding list_of
list_not_empty p zero r c κ = omega arith
list_not_empty p (suc k) r c κ = omega arith

not_same : (l : List Record) (other : Bool) → 0 < length l → (same_records [] l && other) ≡ false
unfolding same_records
not_same [] other h = absurd (omega arith)
not_same (x ∷ l) other h = refl

-- no records are no content: an entry has content
pub content_not_empty : (m s κ : ℕ) → is_content m s κ [] ≡ false
unfolding is_content is_list_of_block
content_not_empty m s κ = not_same (list_of (picture_of m []) (height_of m κ) (row_of m κ) (column_of m κ) κ) _ (list_not_empty _ _ _ _ κ)

-- the closing records, by their test
closed_so : (s : ℕ) (log : List Record) → closes s log ≡ true → ((count_record log).key ≡ last_key log) × (last_feature log < s)
unfolding closes
closed_so s log e =
    let one : Bool = eqb (count_record log).key (last_key log) in
    (eqb-true _ _ (and_left one (ltb (last_feature log) s) e), ltb-true _ _ (and_right one (ltb (last_feature log) s) e))

so_closed : (s : ℕ) (log : List Record) → (count_record log).key ≡ last_key log → last_feature log < s → closes s log ≡ true
unfolding closes
so_closed s log one below = and_both _ _ (eq-eqb _ _ one) (lt-ltb _ _ below)

-- the test says so exactly: what passes ends in an entry
pub ends_in_entry : (m s : ℕ) (log : List Record) → last_is_entry m s log ≡ true → EndsInEntry m s log
unfolding last_is_entry
ends_in_entry m s log e =
    let there : Bool = leb (last_count log + closing_places) (length log) in
    let three = and_left (there && closes s log && valid_key m (last_key log)) (is_content m s (last_key log) (last_content log)) e in
    let both = and_left (there && closes s log) (valid_key m (last_key log)) three in
    let close = closed_so s log (and_right there (closes s log) both) in
    record {
      all_there = leb-true (last_count log + closing_places) (length log) (and_left there (closes s log) both);
      one_key = close.0;
      below = close.1;
      valid = and_right (there && closes s log) (valid_key m (last_key log)) three;
      correct = and_right (there && closes s log && valid_key m (last_key log)) (is_content m s (last_key log) (last_content log)) e;
    }

-- and what ends in an entry passes
pub entry_ends : (m s : ℕ) (log : List Record) → EndsInEntry m s log → last_is_entry m s log ≡ true
unfolding last_is_entry
entry_ends m s log h =
    let there : Bool = leb (last_count log + closing_places) (length log) in
    and_both (there && closes s log && valid_key m (last_key log)) (is_content m s (last_key log) (last_content log))
    (and_both (there && closes s log) (valid_key m (last_key log))
    (and_both there (closes s log) (le-leb (last_count log + closing_places) (length log) h.all_there) (so_closed s log h.one_key h.below)) h.valid)
    h.correct

-- a log with an entry put behind it ends in it
pub with_entry_ends : (m s : ℕ) (log content : List Record) (κ f : ℕ) → valid_key m κ ≡ true → is_content m s κ content ≡ true → f < s
    → EndsInEntry m s (log ++ closed κ content f)
with_entry_ends m s log content κ f valid correct below =
    let same = last-feature log κ content f in
    record {
      all_there = let all = length-with_entry log κ content f in let count = last-count log κ content f in omega arith;
      one_key = ap (λ x. x.key) (count-record log κ content f) ∙ sym (last-key log κ content f);
      below = omega arith;
      valid = ap (λ x. valid_key m x) (last-key log κ content f) ∙ valid;
      correct = ap₂ (λ x l. is_content m s x l) (last-key log κ content f) (last-content log κ content f) ∙ correct;
    }

-- how many they are
abbrev pub number_in : {m s : ℕ} {log : List Record} → Entries m s log → ℕ
number_in none = 0
number_in (more e κ content f valid correct below) = suc (number_in e)

-- entries behind a log: it ends in so many
pub entries_end : {m s : ℕ} {entries : List Record} (e : Entries m s entries) (log : List Record) → ends_in_entries (number_in e) m s (log ++ entries) ≡ true
unfolding ends_in_entries
entries_end none log = refl
entries_end {m} {s} (more {log = front} e κ content f valid correct below) log =
    let joined : log ++ (front ++ closed κ content f) ≡ (log ++ front) ++ closed κ content f = sym (append_assoc log front (closed κ content f)) in
    ap (λ l. last_is_entry m s l && ends_in_entries (number_in e) m s (before_last l)) joined
    ∙ and_both (last_is_entry m s ((log ++ front) ++ closed κ content f)) (ends_in_entries (number_in e) m s (before_last ((log ++ front) ++ closed κ content f)))
    (entry_ends m s ((log ++ front) ++ closed κ content f) (with_entry_ends m s (log ++ front) content κ f valid correct below))
    (ap (λ l. ends_in_entries (number_in e) m s l) (before_last_entry (log ++ front) κ content f) ∙ entries_end e log)

-- and the log stands before them
pub entries_before : {m s : ℕ} {entries : List Record} (e : Entries m s entries) (log : List Record) → before_entries (number_in e) (log ++ entries) ≡ log
unfolding before_entries
entries_before none log = append-nil log
entries_before (more {log = front} e κ content f valid correct below) log =
    let joined : log ++ (front ++ closed κ content f) ≡ (log ++ front) ++ closed κ content f = sym (append_assoc log front (closed κ content f)) in
    ap (λ l. before_entries (number_in e) (before_last l)) joined
    ∙ ap (λ l. before_entries (number_in e) l) (before_last_entry (log ++ front) κ content f)
    ∙ entries_before e log

-- the entries that a log ends in
pub record LastEntries (count m s : ℕ) (log : List Record) : Type 0 where
  pub entries : List Record
  pub are : Entries m s entries
  pub many : number_in are ≡ count
  pub log_is : log ≡ before_entries count log ++ entries

-- one more behind them
one_more : (count m s : ℕ) (log : List Record) → EndsInEntry m s log → LastEntries count m s (before_last log) → LastEntries (suc count) m s log
unfolding before_entries
one_more count m s log h l =
    let entry : List Record = closed (last_key log) (last_content log) (last_feature log) in
    record {
      entries = l.entries ++ entry;
      are = more l.are (last_key log) (last_content log) (last_feature log) h.valid h.correct h.below;
      many = ap suc l.many;
      log_is = log_with_entry log h.all_there h.one_key
          ∙ ap (λ x. x ++ entry) l.log_is
          ∙ append_assoc (before_entries count (before_last log)) l.entries entry;
    }

-- a log that passes the test of so many entries ends in them
pub last_entries : (count m s : ℕ) (log : List Record) → ends_in_entries count m s log ≡ true → LastEntries count m s log
unfolding ends_in_entries before_entries
last_entries zero m s log e = record { entries = []; are = none; many = refl; log_is = sym (append-nil log) }
last_entries (suc count) m s log e =
    one_more count m s log (ends_in_entry m s log (and_left (last_is_entry m s log) _ e)) (last_entries count m s (before_last log) (and_right (last_is_entry m s log) _ e))
