-- An emptying in a history: the held paints become fixed, those undone are dropped, the picture stays, and the invariant is kept. Rests on Invariant.
use Prim.Native.Nat.{ℕ}
use mathlib.Core.Path.{◌≡◌, sym, ap, ◌∙◌, subst}
use mathlib.Core.List.{List, [], ◌++◌}
use Rattle.definitions.specs.Picture.{Picture}
use Rattle.definitions.specs.Area.{summary_of}
use Rattle.history.specs.History.{Buffers, Kept, emptying, drawn, after, answer, keep}
use Rattle.history.proofs.Drawn.{drawn_none, drawn-append}
use Rattle.history.proofs.Past.{Legal, log_none, after_none, start, past_legal, no_more}
use Rattle.history.proofs.Slices.{list_longest}
use Rattle.history.proofs.LogSlices.{log_emptied}
use Rattle.history.proofs.Invariant.{now, Invariant, Keeps}

-- the picture that can no longer be taken back is then the picture now
pub ground_emptied : (m : ℕ) (p : Picture) (k : Kept) → drawn m p (k.held ++ k.fixed) ≡ now m p k
ground_emptied m p k = drawn-append m p k.held k.fixed

-- emptying keeps the invariant
pub empty_keeps : {m s size : ℕ} {p : Picture} {keys bits log_keys log_values : List ℕ} {b : Buffers} {k : Kept} {in_list in_log : ℕ}
    → Invariant m s size p keys bits log_keys log_values b k in_list in_log
    → Keeps m s size p keys bits log_keys log_values b k in_list in_log emptying
unfolding after answer keep
empty_keeps {m} {s} {size} {p} {b = b} {k = k} {in_list = in_list} h = record {
  settings = h.settings;
  list =
      rw (drawn_none m (drawn m p (k.held ++ k.fixed)), ground_emptied m p k, ← list_longest h.list) h.list;
  counts = h.counts ∙ sym (ap (summary_of m s) (drawn_none m (drawn m p (k.held ++ k.fixed)) ∙ ground_emptied m p k));
  log = rw (log_none m (drawn m p (k.held ++ k.fixed)), after_none m (drawn m (drawn m p (k.held ++ k.fixed)) [])) (log_emptied h.log);
  roomy = h.roomy;
  past = start (subst (λ q. Legal m s size q) (sym (ground_emptied m p k)) (past_legal h.past));
  future = no_more;
}
