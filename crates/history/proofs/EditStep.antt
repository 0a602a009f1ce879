-- An edit in a history: refused it leaves the buffers, accepted it puts its list, its summary and its log in. And a step of the log that is taken back or
-- redone, told by the picture that it makes: its answer, and that the invariant is kept. Rests on Invariant and the laws of edits.
use Prim.Native.Nat.{ℕ, ◌≤◌, ◌<◌, max}
use mathlib.Core.Path.{◌≡◌, sym, ap, ap₂, ◌∙◌}
use mathlib.Core.Bool.{cond, not}
use mathlib.Core.List.{List}
use native.Mathlib.Omega.{arith}
use lib.ListN.{length}
use lib.Dec.{ltb}
use borrow.Author.Tests.{ne_eqb, eq-eqb, lt-ltb, le-ltb}
use Rattle.keys.proofs.Cases.{split}
use Rattle.definitions.specs.Picture.{Picture}
use Rattle.definitions.specs.List.{Record, list_of_picture, keys_of, values_of}
use Rattle.definitions.specs.Read.{room}
use Rattle.definitions.specs.Buffer.{replaced}
use Rattle.definitions.specs.Area.{summary_of}
use Rattle.definitions.specs.Refusal.{Row}
use Rattle.definitions.specs.Calls.Edit.{LentSheet, Edit, as_lent, edit_refusal, edit_answer, keys_left, bits_left, summary_left, log_keys_left, log_values_left}
use Rattle.laws.proofs.First.{NoneHolds}
use Rattle.laws.proofs.Edits.{SheetPassed, list_full, room_enough}
use Rattle.history.specs.History.{Buffers, Kept, Call, lent_to, answer, after_edit, after, keep}
use Rattle.history.proofs.Slices.{list-room}
use Rattle.history.proofs.Invariant.{Invariant, now_is_list, now_is_summary, now_is_log, Keeps, same_keeps}

-- the buffers as they are lent to an edit
abbrev pub lent_by : ℕ → ℕ → Buffers → LentSheet
lent_by m s b = lent_to b (as_lent m s)

-- the buffers with a list, a summary, a log and its counts in place of theirs
abbrev pub with_log : Buffers → List Record → List ℕ → List ℕ → List ℕ → ℕ → ℕ → Buffers
with_log b l summary log_keys log_values used in_force =
    record {
      keys = replaced b.n (keys_of l) b.keys;
      bits = replaced b.n (values_of l) b.bits;
      n = length l;
      summary = summary;
      log_keys = log_keys;
      log_values = log_values;
      used = used;
      in_force = in_force;
    }

-- and with so many records in force, where the log stays
abbrev pub with_force : Buffers → List Record → List ℕ → ℕ → Buffers
with_force b l summary in_force = with_log b l summary b.log_keys b.log_values b.used in_force

module _ (m s : ℕ) (b : Buffers) (rows : List Row) (picture : Picture) (log_keys log_values : List ℕ) (used in_force : ℕ) where
  abbrev pub edit_on : Edit
  edit_on = record { lent = lent_by m s b; rows = rows; picture = picture; log_keys = log_keys; log_values = log_values; used = used; in_force = in_force }

  -- an accepted edit puts in what it makes
  pub edit_puts : edit_refusal edit_on ≡ 0 → after_edit b edit_on ≡ with_log b (list_of_picture m picture) (summary_of m s picture) log_keys log_values used in_force
  unfolding edit_answer keys_left bits_left summary_left log_keys_left log_values_left
  edit_puts e = rw (eq-eqb _ 0 e)

  -- a refused one leaves the buffers
  pub edit_leaves : (edit_refusal edit_on ≡ 0 → ⊥) → after_edit b edit_on ≡ b
  unfolding edit_answer keys_left bits_left summary_left log_keys_left log_values_left
  edit_leaves h = rw (ne_eqb _ 0 h)

-- an edit that leaves the log, of which so many records are in force then
abbrev pub step_edit : ℕ → ℕ → Buffers → List Row → Picture → ℕ → Edit
step_edit m s b rows picture in_force = edit_on m s b rows picture b.log_keys b.log_values b.used in_force

module _ {m s size : ℕ} {p : Picture} {keys bits log_keys log_values : List ℕ} {b : Buffers} {k : Kept} {in_list in_log : ℕ}
    (h : Invariant m s size p keys bits log_keys log_values b k in_list in_log) where
  -- 1, 4, 18 and 5 do not come
  pub now_sheet : SheetPassed (lent_by m s b)
  now_sheet = record { settings = h.settings; listed = ap not (now_is_list h); summed = now_is_summary h; logged = now_is_log h }

  -- a call that is such an edit, whose own rows are passed; its list, its summary and its count are those of picture q and of a log so long
  module _ (c : Call) (rows : List Row) (picture : Picture) (reached : ℕ) (own : NoneHolds rows)
      (refuses : answer m s b c ≡ edit_refusal (step_edit m s b rows picture reached)) (leads : after m s b c ≡ after_edit b (step_edit m s b rows picture reached))
      (q : Picture) (force : ℕ) (list_is : list_of_picture m picture ≡ list_of_picture m q) (summary_is : summary_of m s picture ≡ summary_of m s q)
      (force-is : reached ≡ force) where
    -- where the list has no room it is refused with 9
    long_refused : room keys bits < length (list_of_picture m q) → answer m s b c ≡ 9
    long_refused long =
        let room-is = list-room h.list in
        refuses ∙ sym (list_full (step_edit m s b rows picture reached) now_sheet own (length (list_of_picture m q)) (ap length (sym list_is)) (omega arith))

    -- and where it has room it is accepted
    pub step_accepted : length (list_of_picture m q) ≤ room keys bits → answer m s b c ≡ 0
    step_accepted fits =
        let room-is = list-room h.list in
        refuses ∙ sym (room_enough (step_edit m s b rows picture reached) now_sheet own (length (list_of_picture m q)) (ap length (sym list_is)) (omega arith))

    pub step_answer : answer m s b c ≡ cond (ltb (room keys bits) (length (list_of_picture m q))) 9 0
    step_answer =
        split (room keys bits) (length (list_of_picture m q))
        (λ long. rw (lt-ltb _ _ long) (long_refused long))
        (λ fits. rw (le-ltb _ _ fits) (step_accepted fits))

    -- it keeps the invariant where an accepted one does
    pub step_keeps : (k' : Kept) → keep c 0 k ≡ k' → ((refusal : ℕ) → (refusal ≡ 0 → ⊥) → keep c refusal k ≡ k)
        → (length (list_of_picture m q) ≤ room keys bits
        → Invariant m s size p keys bits log_keys log_values (with_force b (list_of_picture m q) (summary_of m s q) force) k'
        (max in_list (length (list_of_picture m q))) (max in_log b.used))
        → Keeps m s size p keys bits log_keys log_values b k in_list in_log c
    step_keeps k' kept left holds =
        split (room keys bits) (length (list_of_picture m q))
        (λ long.
        let refused : answer m s b c ≡ 0 → ⊥ = λ e. (let a = long_refused long in omega arith) in
        same_keeps c (leads ∙ edit_leaves m s b rows picture b.log_keys b.log_values b.used reached (λ e. refused (refuses ∙ e))) (left (answer m s b c) refused) h)
        (λ fits.
        let accepted = step_accepted fits in
        rw (
          accepted,
          kept,
          leads
              ∙ edit_puts m s b rows picture b.log_keys b.log_values b.used reached (sym refuses ∙ accepted)
              ∙ ap₂ (λ l n. with_force b l (summary_of m s picture) n) list_is force-is
              ∙ ap (λ counts. with_force b (list_of_picture m q) counts force) summary_is,
        )
        (holds fits))
