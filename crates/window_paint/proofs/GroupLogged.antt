-- The group of a window in the log's two slices: the entries of its largest blocks, and what closes them. Rests on EntriesLogged.
use Prim.Native.Nat.{ℕ, ◌+◌, ◌≤◌}
use mathlib.Core.Path.{◌≡◌, ap}
use mathlib.Core.List.{List, ◌++◌}
use native.Mathlib.Omega.{arith}
use lib.ListN.{length, length-append}
use Rattle.keys.specs.Key.{root_key}
use Rattle.keys.specs.Under.{here}
use Rattle.keys.specs.Child.{root_of}
use Rattle.keys.specs.declared.block.TreeBlock.{TreeBlock}
use Rattle.definitions.specs.List.{Record}
use Rattle.definitions.specs.Read.{room, records_of}
use Rattle.definitions.specs.Window.{largest_from, largest_blocks}
use Rattle.definitions.specs.declared.Window.{Window}
use Rattle.definitions.specs.Log.{closing_places, grouped, group_of}
use Rattle.definitions.specs.Calls.PaintWindow.{group_gained}
use Rattle.list.specs.Own.{shown_by}
use Rattle.edit_log.specs.Entries.{Logged}
use Rattle.edit_log.specs.Groups.{group_closing}
use Rattle.window_paint.specs.WindowLogging.{entries_below, Enterable, FreshGroup}
use Rattle.edit.proofs.ContentStands.{logged_same}
use Rattle.window_paint.proofs.EntriesLogged.{logged_rest, logged_join}

-- the group is the entries of the whole map's largest blocks, and what closes them
pub group_is : (m : ℕ) (keys bits : List ℕ) (n : ℕ) (w : Window) (f number : ℕ) → number ≡ length (largest_blocks m w)
    → entries_below m (shown_by m keys bits n) w f (root_of m) ++ group_closing number ≡ group_gained m (records_of keys bits n) w f
unfolding group_gained group_of grouped largest_blocks
group_is m keys bits n w f number e = ap (λ x. entries_below m (shown_by m keys bits n) w f (root_of m) ++ group_closing x) e

module _ {m : ℕ} {keys bits : List ℕ} {n : ℕ} {w : Window} {f number start used : ℕ} {log_keys log_values : List ℕ}
    (a : FreshGroup m keys bits n w f number start used log_keys log_values) where
  abbrev entries : List Record
  entries = entries_below m (shown_by m keys bits n) w f (root_of m)

  both_fit : start + (length entries + length (group_closing number)) ≤ room log_keys log_values
  both_fit =
      let x = ap length (group_is m keys bits n w f number a.number_is) in
      let y = length-append entries (group_closing number) in
      omega (arith, a.fits)

  pub group_enterable : {b : TreeBlock} → b ≡ root_of m → Enterable m keys bits n w f b start log_keys log_values
  group_enterable e = rw e (record { list = a.list; block = here; fits = let h = both_fit in omega arith })

  module _ {keys₁ values₁ : List ℕ} {behind : ℕ} (first : Logged entries start log_keys log_values keys₁ values₁ behind) where
    pub closing_fits : behind + closing_places ≤ room keys₁ values₁
    closing_fits = logged_rest entries (group_closing number) both_fit first

    pub group_logged : {keys₂ values₂ : List ℕ} {end : ℕ} → Logged (group_closing number) behind keys₁ values₁ keys₂ values₂ end
        → Logged (group_gained m (records_of keys bits n) w f) start log_keys log_values keys₂ values₂ end
    group_logged second =
        logged_same (group_is m keys bits n w f number a.number_is) (logged_join entries (group_closing number) both_fit first second)

-- the length of the group
pub group-length : (m : ℕ) (keys bits : List ℕ) (n : ℕ) (w : Window) (f : ℕ)
    → length (group_gained m (records_of keys bits n) w f) ≡ length (entries_below m (shown_by m keys bits n) w f (root_of m)) + closing_places
group-length m keys bits n w f =
    let x = ap length (group_is m keys bits n w f (length (largest_blocks m w)) (λ i. length (largest_blocks m w))) in
    let y = length-append (entries_below m (shown_by m keys bits n) w f (root_of m)) (group_closing (length (largest_blocks m w))) in
    omega arith

-- and the number of its entries
pub root_number : (m : ℕ) (w : Window) {number : ℕ} → number ≡ length (largest_from w m 0 0 root_key) → number ≡ length (largest_blocks m w)
unfolding largest_blocks
root_number m w e = e
