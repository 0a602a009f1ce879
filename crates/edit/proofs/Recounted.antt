-- Counting anew after an edit: a block of the summary that the edited block does not touch keeps its counts. Rests on laws' SummaryOf, keys' InBlock and
-- summary's CountedUpTo.
use Prim.Native.Nat.{ℕ, ◌+◌, ◌*◌, ◌^◌, ◌≤◌, ◌<◌}
use mathlib.Core.Path.{◌≡◌, refl, sym, ◌∙◌, ap}
use mathlib.Core.Logic.{◌⊎◌, inl, inr, ⊎_elim}
use mathlib.Core.Bool.{Bool, true, false, ◌&&◌}
use mathlib.Core.List.{List}
use native.Mathlib.Omega.{arith}
use lib.Dec.{ltb}
use lib.ListN.{length, take, drop}
use borrow.Author.Tests.{ltb-false}
use Rattle.keys.specs.Key.{height_of}
use Rattle.keys.specs.Block.{row_of, column_of, in_block}
use Rattle.keys.proofs.Cases.{decide}
use Rattle.keys.proofs.Valid.{valid_block}
use Rattle.keys.proofs.Pixel.{inside}
use Rattle.keys.proofs.InBlock.{in_raster, in_block_keys_iff}
use Rattle.definitions.specs.Area.{summary_level, summary_height, summary_length, summary_of, block_key}
use Rattle.laws.proofs.Pixels.{Agree}
use Rattle.laws.proofs.SummaryOf.{summary-length, summary_block}
use Rattle.list.specs.declared.accepted_list.Accepted.{Accepted}
use Rattle.list.specs.Taken.{picture_listed}
use Rattle.summary.proofs.CountedUpTo.{same_counts}
use Rattle.edit.specs.Recount.{Outdated}

-- one test fails where their conjunction does
one_fails : (a b : Bool) → (a && b) ≡ false → (a ≡ false) ⊎ (b ≡ false)
one_fails false b e = inl refl
one_fails true b e = inr e

module _ {list : Accepted} {s : ℕ} {summary : List ℕ} {κ : ℕ} (o : Outdated list s summary κ) where
  pub outdated_long : length summary ≡ summary_length list.m s
  outdated_long = ap length o.counts ∙ summary-length list.m s o.before

  module _ (b : ℕ) (h : b < 4 ^ summary_level list.m) where
    -- a pixel of a block whose keys are apart from those of the edited block is none of the edited block
    apart_agree : (κ + 5 ^ height_of list.m κ ≤ block_key list.m b) ⊎ (block_key list.m b + 5 ^ summary_height list.m ≤ κ)
        → Agree (picture_listed list) o.before (summary_height list.m) (row_of list.m (block_key list.m b)) (column_of list.m (block_key list.m b))
    apart_agree apart a c w =
        let block = summary_block list.m s o.before b h in
        let raster = in_raster block w in
        let key = inside block w in
        o.outside a c raster.0 raster.1
        (decide (in_block list.m κ a c)
        (λ t. let own = (in_block_keys_iff a c (valid_block list.m κ o.valid) raster.0 raster.1).0 t in absurd (⊎_elim (λ i. omega arith) (λ i. omega arith) apart))
        (λ f. f))

    -- so it keeps its counts
    pub apart_kept : (κ + 5 ^ height_of list.m κ ≤ block_key list.m b) ⊎ (block_key list.m b + 5 ^ summary_height list.m ≤ κ)
        → take s (drop (b * s) (summary_of list.m s (picture_listed list))) ≡ take s (drop (b * s) summary)
    apart_kept apart =
        same_counts list.m s (picture_listed list) o.before b h (apart_agree apart) ∙ ap (λ l. take s (drop (b * s) l)) (sym o.counts)

    -- that is what the test tells
    pub test_apart : (r : Bool) (end : ℕ) → end ≡ κ + 5 ^ height_of list.m κ → r ≡ (ltb (block_key list.m b) end && ltb κ (block_key list.m b + 5 ^ summary_height list.m)) → r ≡ false
        → take s (drop (b * s) (summary_of list.m s (picture_listed list))) ≡ take s (drop (b * s) summary)
    test_apart r end e is no' =
        apart_kept
        (⊎_elim (λ i. inl (let before : end ≤ block_key list.m b = ltb-false _ _ i in omega arith)) (λ i. inr (ltb-false _ _ i))
        (one_fails (ltb (block_key list.m b) end) (ltb κ (block_key list.m b + 5 ^ summary_height list.m)) (sym is ∙ no')))
