-- A rest keeps the invariant: in the slices that it leads to, list, summary and log are as before, with every step or without those to redo. What had
-- room before has room in the larger of the old and the new slices. Rests on Moved and history's Invariant.
use Prim.Native.Nat.{ℕ, ◌≤◌, max}
use mathlib.Core.Path.{◌≡◌, sym, ap, ◌∙◌}
use mathlib.Core.List.{List, [], ◌++◌, append-nil}
use native.Mathlib.Omega.{arith}
use Rattle.definitions.specs.Picture.{Picture}
use Rattle.definitions.specs.List.{Record, list_of_picture}
use Rattle.definitions.specs.Read.{room, records_of, picture_of}
use Rattle.definitions.specs.Area.{summary_of}
use Rattle.laws.proofs.SummaryOf.{summary_agree}
use Rattle.history.specs.History.{Buffers, Paint, Kept, log_of, log_after}
use Rattle.history.proofs.Content.{map_back}
use Rattle.history.proofs.Shown.{shown_records}
use Rattle.history.proofs.Past.{Legal, Past, start, later, Future, no_more, next, after_none}
use Rattle.history.proofs.Slices.{HoldsList}
use Rattle.history.proofs.LogSlices.{HoldsLog}
use Rattle.history.proofs.Invariant.{ground, now, Invariant, now_records, now_force}
use Rattle.rests.specs.Events.{Rested, without_undone}
use Rattle.rests.proofs.Moved.{shown_there, list_there, log_there}

-- what has room has more room
legal_wider : {m s size : ℕ} {p : Picture} (more : ℕ) → size ≤ more → Legal m s size p → Legal m s more p
legal_wider more h x = record { below = x.below; fits = let e = x.fits in omega arith }

pub past_wider : {m s size : ℕ} {p : Picture} {xs : List Paint} (more : ℕ) → size ≤ more → Past m s size p xs → Past m s more p xs
past_wider more h (start x) = start (legal_wider more h x)
past_wider more h (later before x fit legal) = later (past_wider more h before) x fit (legal_wider more h legal)

pub future_wider : {m s size : ℕ} {p : Picture} {xs : List Paint} (more : ℕ) → size ≤ more → Future m s size p xs → Future m s more p xs
future_wider more h no_more = no_more
future_wider more h (next x fit legal others) = next x fit (legal_wider more h legal) (future_wider more h others)

module _ {m s size : ℕ} {p : Picture} {keys bits log_keys log_values : List ℕ} {b : Buffers} {k : Kept} {in_list in_log : ℕ}
    (h : Invariant m s size p keys bits log_keys log_values b k in_list in_log) (brought : ℕ) (to : Buffers) (r : Rested m s b brought to) where
  -- the records are the list of the picture now
  there : records_of to.keys to.bits to.n ≡ list_of_picture m (now m p k)
  there = ap (records_of to.keys to.bits) r.count ∙ r.records ∙ now_records h

  -- so the slices hold it
  rested_list : HoldsList (list_of_picture m (now m p k)) to.n to.keys to.bits to.keys to.bits to.n
  rested_list = list_there (shown_there to.n to.keys to.bits (let e = r.count in let f = r.fits in omega arith) there)

  -- and the summary is that of the picture now
  rested_counts : to.summary ≡ summary_of m s (now m p k)
  rested_counts =
      r.counted
      ∙ ap (λ l. summary_of m s (picture_of m l)) there
      ∙ summary_agree m s (picture_of m (list_of_picture m (now m p k))) (now m p k) (map_back m (now m p k))

  -- the log holds the records that were brought along, where these are the records in force and those to redo
  rested_log : (back : List Record) → records_of b.log_keys b.log_values brought ≡ log_of m (ground m p k) k.held ++ back
      → HoldsLog (log_of m (ground m p k) k.held) back to.used to.log_keys to.log_values to.log_keys to.log_values to.used to.in_force
  rested_log back e =
      rw r.used (log_there (shown_there brought to.log_keys to.log_values r.log.fits (r.log.records ∙ e)) (r.force ∙ h.log.force))

-- a rest that brings along all records of the log keeps the invariant
pub rest_keeps : {m s size : ℕ} {p : Picture} {keys bits log_keys log_values : List ℕ} {b : Buffers} {k : Kept} {in_list in_log : ℕ}
    → Invariant m s size p keys bits log_keys log_values b k in_list in_log
    → (to : Buffers)
    → Rested m s b b.used to
    → Invariant m s (max size (room to.keys to.bits)) p to.keys to.bits to.log_keys to.log_values to k to.n to.used
rest_keeps {m} {s} {size} {p} {b = b} {k = k} h to r =
    let more : ℕ = max size (room to.keys to.bits) in
    record {
      settings = h.settings;
      list = rested_list h b.used to r;
      counts = rested_counts h b.used to r;
      log = rested_log h b.used to r (log_after m (now m p k) k.undone) (shown_records h.log.shown);
      roomy = omega arith;
      past = past_wider more (omega arith) h.past;
      future = future_wider more (omega arith) h.future;
    }

-- so does one that leaves the steps to redo behind, with the paints undone dropped
pub short_keeps : {m s size : ℕ} {p : Picture} {keys bits log_keys log_values : List ℕ} {b : Buffers} {k : Kept} {in_list in_log : ℕ}
    → Invariant m s size p keys bits log_keys log_values b k in_list in_log
    → (to : Buffers)
    → Rested m s b b.in_force to
    → Invariant m s (max size (room to.keys to.bits)) p to.keys to.bits to.log_keys to.log_values to (without_undone k) to.n to.used
short_keeps {m} {s} {size} {p} {b = b} {k = k} h to r =
    let more : ℕ = max size (room to.keys to.bits) in
    record {
      settings = h.settings;
      list = rested_list h b.in_force to r;
      counts = rested_counts h b.in_force to r;
      log = rw (after_none m (now m p k)) (rested_log h b.in_force to r [] (now_force h ∙ sym (append-nil (log_of m (ground m p k) k.held))));
      roomy = omega arith;
      past = past_wider more (omega arith) h.past;
      future = no_more;
    }
