-- What an accepted list was asked is what the slices show that it was taken from. Rests on list's Taken.
use Prim.Native.Nat.{ℕ}
use mathlib.Core.Path.{ap₂, subst}
use mathlib.Core.List.{List}
use Rattle.definitions.specs.Window.{select_in}
use Rattle.definitions.specs.declared.Window.{Window}
use Rattle.list.specs.Own.{shown_by}
use Rattle.list.specs.Taken.{Taken, picture_listed}
use Rattle.list.specs.declared.accepted_list.Accepted.{Accepted}
use Rattle.list.proofs.Taken.{taken_picture}
use Rattle.window.specs.Gather.{Gave}

pub taken_gave : {m n limit r : ℕ} {keys bits before after : List ℕ} {list : Accepted} (w : Window) (f : ℕ) → Taken m keys bits n list
    → Gave (select_in list.m (picture_listed list) w f) limit 0 before after r
    → Gave (select_in m (shown_by m keys bits n) w f) limit 0 before after r
taken_gave {limit = limit} {r = r} {before = before} {after = after} w f t gave =
    subst (λ l. Gave l limit 0 before after r) (ap₂ (λ k p. select_in k p w f) t.map (taken_picture t)) gave
