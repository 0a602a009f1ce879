-- Counting anew after a step: a block of the summary that the step does not touch keeps its counts. Rests on laws' SummaryOf, keys' InBlock, step's Pruned and
-- summary's CountedUpTo.
use Prim.Native.Nat.{ℕ, ◌+◌, ◌*◌, ◌^◌, ◌≤◌, ◌<◌}
use mathlib.Core.Path.{◌≡◌, sym, ◌∙◌, ap, subst}
use mathlib.Core.Bool.{Bool, true, false, true≢false}
use mathlib.Core.List.{List}
use native.Mathlib.Omega.{arith}
use lib.ListN.{length, take, drop}
use Rattle.keys.specs.Key.{slot_limit}
use Rattle.keys.specs.Block.{row_of, column_of}
use Rattle.keys.specs.Child.{InMap}
use Rattle.keys.specs.declared.block.TreeBlock.{TreeBlock}
use Rattle.keys.proofs.Pixel.{inside}
use Rattle.keys.proofs.InBlock.{in_raster}
use Rattle.definitions.specs.Picture.{Picture}
use Rattle.definitions.specs.Area.{summary_level, summary_height, summary_length, summary_of, block_key}
use Rattle.laws.proofs.Pixels.{Agree}
use Rattle.laws.proofs.SummaryOf.{summary-length, summary_block}
use Rattle.list.specs.Own.{OwnList, shown_by}
use Rattle.list.specs.declared.accepted_list.Accepted.{Accepted}
use Rattle.list.specs.Taken.{Taken}
use Rattle.list.proofs.Taken.{taken_picture}
use Rattle.summary.proofs.CountedUpTo.{same_counts}
use Rattle.deeds.specs.Step.{Step, step_over}
use Rattle.deeds.specs.Deed.{SameBefore}
use Rattle.deeds.specs.Meeting.{block_at, BlockAsked, Met}
use Rattle.deeds.specs.declared.meeting.Meeting.{Meeting}
use Rattle.deeds.specs.declared.meeting.Meeting.TheVariants.{Apart}
use Rattle.deeds.proofs.Pruned.{over_out}
use Rattle.apply_deed.specs.Recount.{StepOutdated, counted_block, PassedBy}

-- the list of the step over a picture, and the summary of that picture
pub step_outdated : {t : Step} {m s : ℕ} {keys bits : List ℕ} {n : ℕ} {summary : List ℕ} (before : Picture) → m ≤ 10 → s ≤ slot_limit → OwnList m keys bits n
    → Agree (shown_by m keys bits n) (step_over t before) m 0 0 → summary ≡ summary_of m s before → StepOutdated t m s keys bits n summary
step_outdated {t} before deep few own shows counts = record {
  deep = deep;
  few = few;
  own = own;
  before = before;
  counts = counts;
  outside = λ row column h j o. shows row column (omega arith) ∙ over_out t before row column o;
}

-- block number b is a block of the map
pub counted_in : (m b : ℕ) → b < 4 ^ summary_level m → InMap m (counted_block m b)
counted_in m b h = summary_block m 0 (λ row column. 0) b h

-- as the code works it out
pub counted_told : (m b : ℕ) {key row column height : ℕ} → key ≡ block_key m b → row ≡ row_of m key → column ≡ column_of m key → height ≡ summary_height m
    → block_at height row column key ≡ counted_block m b
counted_told m b {key} {row} {column} {height} e r c h =
    ap (λ x. block_at x row column key) h
    ∙ ap (λ x. block_at (summary_height m) x column key) (r ∙ ap (λ x. row_of m x) e)
    ∙ ap (λ x. block_at (summary_height m) (row_of m (block_key m b)) x key) (c ∙ ap (λ x. column_of m x) e)
    ∙ ap (λ x. block_at (summary_height m) (row_of m (block_key m b)) (column_of m (block_key m b)) x) e

pub counted_asked : {m b : ℕ} {block : TreeBlock} → block ≡ counted_block m b → m ≤ 10 → b < 4 ^ summary_level m → BlockAsked m block
counted_asked {m} {b} is deep h = record { deep = deep; block = subst (λ x. InMap m x) (sym is) (counted_in m b h) }

-- what is apart from as much of the step as concerns the block is apart from the step
pub apart_passed : {m b : ℕ} {block : TreeBlock} {met : Meeting} {t t' : Step} {log_keys log_values : List ℕ} → b < 4 ^ summary_level m → block ≡ counted_block m b
    → SameBefore m (block.key + 5 ^ block.height) t t' → Met t' log_keys log_values block met → met ≡ Apart → PassedBy t m b false
apart_passed {m} {b} {block} {met} {t} {t'} {log_keys} {log_values} h is same found apart =
    let same' = subst (λ x. SameBefore m (x.key + 5 ^ x.height) t t') is same in
    let found' = subst (λ x. Met t' log_keys log_values x Apart) is (subst (λ x. Met t' log_keys log_values block x) apart found) in
    record {
      apart = λ e row column w.
          let i = inside (counted_in m b h) w in
          sym (same'.touches row column (omega (arith, i))) ∙ found'.told row column w;
    }

-- any other is counted
pub met_counted : {t : Step} {m b : ℕ} → PassedBy t m b true
met_counted = record { apart = λ e. absurd (true≢false e) }

-- of a list that is taken from the slices
pub outdated_taken : {t : Step} {m s : ℕ} {keys bits : List ℕ} {n : ℕ} {summary : List ℕ} {list : Accepted} → Taken m keys bits n list → StepOutdated t m s keys bits n summary
    → StepOutdated t list.m s list.keys.now list.bits.now (length list.keys.now) summary
outdated_taken {t} {m} {s} {list = list} taken o = record {
  deep = list.deepest;
  few = o.few;
  own = list.own;
  before = o.before;
  counts = o.counts ∙ ap (λ k. summary_of k s o.before) (sym taken.map);
  outside = λ row column h j out.
      let in_row : row < 2 ^ m = rw taken.map at h in
      let in_column : column < 2 ^ m = rw taken.map at j in
      ap (λ p. p row column) (taken_picture taken) ∙ o.outside row column in_row in_column out;
}

-- by another name of the map
pub passed_map : {t : Step} {m m' b : ℕ} {meets : Bool} → m ≡ m' → PassedBy t m b meets → PassedBy t m' b meets
passed_map same p = rw same at p

module _ {t : Step} {m s : ℕ} {keys bits : List ℕ} {n : ℕ} {summary : List ℕ} (o : StepOutdated t m s keys bits n summary) where
  pub outdated_long : length summary ≡ summary_length m s
  outdated_long = ap length o.counts ∙ summary-length m s o.before

  -- a block that is passed by keeps its counts
  pub passed_kept : {b : ℕ} {meets : Bool} → b < 4 ^ summary_level m → PassedBy t m b meets → meets ≡ false
      → take s (drop (b * s) (summary_of m s (shown_by m keys bits n))) ≡ take s (drop (b * s) summary)
  passed_kept {b} h passed no' =
      same_counts m s (shown_by m keys bits n) o.before b h
      (λ row column w. let raster = in_raster (counted_in m b h) w in o.outside row column raster.0 raster.1 (passed.apart no' row column w))
      ∙ ap (λ l. take s (drop (b * s) l)) (sym o.counts)
