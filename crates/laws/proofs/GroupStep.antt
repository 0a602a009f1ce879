-- The group of a paint of a window is a step of a log (specification S11.8): its entries are single entries, as many as the window has largest blocks, and at
-- least one. Rests on LastStep and LargestPixels.
use Prim.Native.Nat.{ℕ, suc, ◌+◌, ◌<◌}
use mathlib.Core.Path.{◌≡◌, refl, sym, ap, subst, ◌∙◌}
use mathlib.Core.Bool.{true}
use mathlib.Core.List.{List, ◌∷◌, ◌++◌, append_assoc, append-nil}
use native.Mathlib.Omega.{arith}
use lib.ListN.{length}
use Rattle.keys.specs.Key.{valid_key}
use Rattle.keys.proofs.Valid.{valid_block, block_valid}
use Rattle.definitions.specs.Picture.{Picture, features_below}
use Rattle.definitions.specs.List.{Record}
use Rattle.definitions.specs.Edit.{content_of}
use Rattle.definitions.specs.Log.{closed, entry_of, grouped, entries_of, group_of, is_content, before_entries}
use Rattle.definitions.specs.Window.{is_window, largest_blocks}
use Rattle.definitions.specs.declared.Window.{Window}
use Rattle.laws.proofs.Features.{below_under}
use Rattle.laws.proofs.ContentOf.{content_from}
use Rattle.laws.proofs.LogEntries.{Entries, none, more, number_in, entries_before}
use Rattle.laws.proofs.LastStep.{IsStep, single, group}
use Rattle.laws.proofs.LargestBlocks.{largest_in_order}
use Rattle.laws.proofs.LargestPixels.{largest_some}
use Rattle.laws.proofs.BlocksFrom.{BlocksInOrder, no_block, block}

-- the records are so many entries
pub record SoMany (m s : ℕ) (log : List Record) (number : ℕ) : Type 0 where
  pub are : Entries m s log
  pub many : number_in are ≡ number

-- entries behind entries
more_entries : {m s number : ℕ} {log entries : List Record} → SoMany m s log number → (e : Entries m s entries) → SoMany m s (log ++ entries) (number_in e + number)
more_entries {m} {s} {number} {log} h none = subst (λ l. SoMany m s l (0 + number)) (sym (append-nil log)) (record { are = h.are; many = let e = h.many in omega arith })
more_entries {m} {s} {number} {log} h (more {log = front} e κ content f valid correct below) =
    let before = more_entries h e in
    subst (λ l. SoMany m s l (suc (number_in e) + number)) (append_assoc log front (closed κ content f))
    (record { are = more before.are κ content f valid correct below; many = let e = before.many in omega arith })

-- the content of a block in a picture with features below s passes
pub content_passes : (m s κ : ℕ) (p : Picture) → valid_key m κ ≡ true → features_below s p m 0 0 ≡ true → is_content m s κ (content_of m p κ) ≡ true
content_passes m s κ p valid below =
    content_from m s κ (content_of m p κ) valid (record { picture = p; below = below_under s p (valid_block m κ valid) below; is = refl })

-- what a paint of a block logs is a step
pub entry_step : (m s κ f : ℕ) (p : Picture) → valid_key m κ ≡ true → f < s → features_below s p m 0 0 ≡ true → IsStep m s (entry_of m p κ f)
unfolding entry_of
entry_step m s κ f p valid small below = single κ (content_of m p κ) f valid (content_passes m s κ p valid below) small

module _ (m s f : ℕ) (p : Picture) (small : f < s) (below : features_below s p m 0 0 ≡ true) where
  one_entry : (κ : ℕ) → valid_key m κ ≡ true → SoMany m s (entry_of m p κ f) 1
  unfolding entry_of
  one_entry κ valid = record { are = more none κ (content_of m p κ) f valid (content_passes m s κ p valid below) small; many = refl }

  -- the entries of paints of blocks are entries, as many as there are blocks
  pub entries_many : {from until : ℕ} {blocks : List ℕ} → BlocksInOrder m from until blocks → SoMany m s (entries_of m p blocks f) (length blocks)
  unfolding entries_of
  entries_many (no_block h) = record { are = none; many = refl }
  entries_many {blocks = κ ∷ blocks} (block h b rest) =
      let after = entries_many rest in
      let all = more_entries (one_entry κ (block_valid b).valid) after.are in
      let same = after.many in
      record { are = all.are; many = all.many ∙ omega arith }

  -- before them stands what stood there
  pub entries_of_before : {from until : ℕ} {blocks : List ℕ} → BlocksInOrder m from until blocks → (log : List Record)
      → before_entries (length blocks) (log ++ entries_of m p blocks f) ≡ log
  entries_of_before {blocks = blocks} order log =
      let many = entries_many order in
      ap (λ n. before_entries n (log ++ entries_of m p blocks f)) (sym many.many) ∙ entries_before many.are log

  -- what a paint of a window logs is a step
  pub group_step : (w : Window) → is_window m w ≡ true → IsStep m s (group_of m p w f)
  unfolding group_of
  group_step w good =
      let many = entries_many (largest_in_order m w) in
      let same = many.many in
      let some = largest_some m w good in
      subst (λ n. IsStep m s (grouped (entries_of m p (largest_blocks m w) f) n)) many.many (group many.are (omega arith))
