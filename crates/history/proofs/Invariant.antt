-- What holds after each call of a history: list and summary are those of the first picture with the paints applied, the log is that of the paints held and
-- then of those undone, and every picture of the past and of the paints undone is legal. So the list, the summary and the log pass their checks, and a refused call keeps all this. Rests on Past and the slices.
use Prim.Native.Nat.{ℕ, ◌≤◌, max}
use mathlib.Core.Path.{◌≡◌, sym, ap, ◌∙◌}
use mathlib.Core.Bool.{Bool, true, false, not, ◌&&◌, ◌||◌}
use mathlib.Core.List.{List}
use native.Mathlib.Omega.{arith}
use lib.Dec.{leb, ltb, eqb}
use borrow.Author.Tests.{le-leb, ltb-false}
use Rattle.keys.specs.Key.{root_key, deepest_level, slot_limit}
use Rattle.keys.proofs.Cases.{and_both, neither_right}
use Rattle.definitions.specs.Picture.{Picture}
use Rattle.definitions.specs.List.{list_of_picture}
use Rattle.definitions.specs.Read.{room, records_of, picture_of, is_list_of_block, is_list}
use Rattle.definitions.specs.Area.{summary_of, no_summary}
use Rattle.definitions.specs.Log.{group_mark, is_sound, to_redo, no_log}
use Rattle.definitions.specs.Refusal.{bad_settings}
use Rattle.laws.proofs.ReadBack.{root_keys}
use Rattle.laws.proofs.SummaryOf.{summary_agree}
use Rattle.laws.proofs.SameNumbers.{summary_right}
use Rattle.laws.proofs.IsList.{list_passes}
use Rattle.history.specs.History.{Buffers, Kept, Call, drawn, log_of, log_after, after, answer, keep}
use Rattle.history.proofs.Content.{map_back}
use Rattle.history.proofs.Shown.{shown_records, shown_room}
use Rattle.history.proofs.Slices.{HoldsList, list_shown, list_longest}
use Rattle.history.proofs.LogSlices.{HoldsLog, log_counts, log_force, log_redo, log_longest}
use Rattle.history.proofs.Past.{Past, past_legal, past_sound, Future, future_sound}

-- the picture that can no longer be taken back
abbrev pub ground : ℕ → Picture → Kept → Picture
ground m p k = drawn m p k.fixed

-- the picture now
abbrev pub now : ℕ → Picture → Kept → Picture
now m p k = drawn m (ground m p k) k.held

-- the slices lent last are keys and bits, and for the log log_keys and log_values; the first picture is p, the buffers are b, the paints k, and the list and
-- the log had at most so many records in these slices; in no slices was there room for more than size records
pub record Invariant (m s size : ℕ) (p : Picture) (keys bits log_keys log_values : List ℕ) (b : Buffers) (k : Kept) (in_list in_log : ℕ) : Type 0 where
  pub settings : bad_settings m s ≡ false
  pub list : HoldsList (list_of_picture m (now m p k)) in_list keys bits b.keys b.bits b.n
  pub counts : b.summary ≡ summary_of m s (now m p k)
  pub log : HoldsLog (log_of m (ground m p k) k.held) (log_after m (now m p k) k.undone) in_log log_keys log_values
      b.log_keys b.log_values b.used b.in_force
  pub roomy : room keys bits ≤ size
  pub past : Past m s size (ground m p k) k.held
  pub future : Future m s size (now m p k) k.undone

module _ {m s size : ℕ} {p : Picture} {keys bits log_keys log_values : List ℕ} {b : Buffers} {k : Kept} {in_list in_log : ℕ}
    (h : Invariant m s size p keys bits log_keys log_values b k in_list in_log) where
  -- the first n records are the list of the picture now
  pub now_records : records_of b.keys b.bits b.n ≡ list_of_picture m (now m p k)
  now_records = shown_records (list_shown h.list)

  -- the records in force are the log of the held paints
  pub now_force : records_of b.log_keys b.log_values b.in_force ≡ log_of m (ground m p k) k.held
  now_force = log_force h.log

  -- those to redo are the log of the paints undone
  pub now_redo : to_redo b.log_keys b.log_values b.used b.in_force ≡ log_after m (now m p k) k.undone
  now_redo = log_redo h.log

  -- they are a list: refusal 4 does not come
  pub now_is_list : is_list m s b.keys b.bits b.n ≡ true
  unfolding is_list
  now_is_list =
      and_both (leb b.n (room b.keys b.bits)) (is_list_of_block m s m 0 0 root_key (records_of b.keys b.bits b.n))
      (le-leb _ _ (shown_room (list_shown h.list)))
      (ap (λ l. is_list_of_block m s m 0 0 root_key l) now_records
      ∙ list_passes m s (now m p k) m 0 0 root_key (root_keys m) (past_legal h.past).below)

  -- the summary is theirs: refusal 18 does not come
  pub now_is_summary : no_summary m s (picture_of m (records_of b.keys b.bits b.n)) b.summary ≡ false
  now_is_summary =
      ap (λ l. no_summary m s (picture_of m l) b.summary) now_records
      ∙ summary_right m s (picture_of m (list_of_picture m (now m p k))) b.summary
      (h.counts ∙ sym (summary_agree m s (picture_of m (list_of_picture m (now m p k))) (now m p k) (map_back m (now m p k))))

  -- the mark of a group is no feature
  pub now_few : s ≤ group_mark
  unfolding bad_settings
  now_few =
      let small = ltb-false slot_limit s (neither_right (eqb s 0) (ltb slot_limit s) (neither_right (ltb deepest_level m) (eqb s 0 || ltb slot_limit s) h.settings)) in
      omega arith

  -- both are sound: refusal 5 does not come
  pub now_is_log : no_log m s b.log_keys b.log_values b.used b.in_force ≡ false
  unfolding no_log
  now_is_log =
      let counts = log_counts h.log in
      let there : Bool = leb b.used (room b.log_keys b.log_values) in
      let within : Bool = leb b.in_force b.used in
      let front : Bool = is_sound m s (records_of b.log_keys b.log_values b.in_force) in
      ap not
      (and_both (there && within && front) (is_sound m s (to_redo b.log_keys b.log_values b.used b.in_force))
      (and_both (there && within) front
      (and_both there within (le-leb _ _ (shown_room h.log.shown)) (le-leb b.in_force b.used (omega arith)))
      (ap (λ l. is_sound m s l) now_force ∙ past_sound now_few h.past))
      (ap (λ l. is_sound m s l) now_redo ∙ future_sound now_few (past_legal h.past).below h.future))

-- the call c keeps the invariant
abbrev pub Keeps : ℕ → ℕ → ℕ → Picture → List ℕ → List ℕ → List ℕ → List ℕ → Buffers → Kept → ℕ → ℕ → Call → Type 0
Keeps m s size p keys bits log_keys log_values b k in_list in_log c =
    Invariant m s size p keys bits log_keys log_values (after m s b c) (keep c (answer m s b c) k)
    (max in_list (after m s b c).n) (max in_log (after m s b c).used)

-- a call that leaves buffers and paints as they are keeps it
pub same_keeps : {m s size : ℕ} {p : Picture} {keys bits log_keys log_values : List ℕ} {b : Buffers} {k : Kept} {in_list in_log : ℕ} (c : Call)
    → after m s b c ≡ b
    → keep c (answer m s b c) k ≡ k
    → Invariant m s size p keys bits log_keys log_values b k in_list in_log
    → Keeps m s size p keys bits log_keys log_values b k in_list in_log c
same_keeps {m} {s} {size} {p} {keys} {bits} {log_keys} {log_values} {b} {k} {in_list} {in_log} c e f h =
    rw (e, f, ← list_longest h.list, ← log_longest h.log) h
