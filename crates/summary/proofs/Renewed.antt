-- The blocks of a summary one after the other: where each has its places, that those hold its counts, and that a run of blocks counted anew is
-- longer by one block after each turn. Rests on laws' SummaryOf and slices' Sets.
use Prim.Native.Nat.{ℕ, suc, ◌+◌, ◌-◌, ◌*◌, ◌^◌, ◌≤◌, ◌<◌}
use mathlib.Core.Path.{◌≡◌, refl, sym, ◌∙◌, ap, ap₂}
use mathlib.Core.List.{List, ◌++◌, append-nil}
use native.Mathlib.Nat.{add-mul, suc-mul, zero-mul, mul-le-mul_right}
use native.Mathlib.Omega.{arith}
use lib.ListN.{length, take, drop, length-drop}
use lib.Seq.{sets, length-sets, length-take-le, take-add, drop-drop, take_all, drop-length}
use Rattle.keys.specs.Key.{slot_limit}
use Rattle.keys.specs.Block.{row_of, column_of}
use Rattle.slices.proofs.Sets.{sets_join, sets_parts}
use Rattle.definitions.specs.Picture.{Picture}
use Rattle.definitions.specs.Area.{counts_of, summary_level, summary_height, summary_length, summary_of, block_key}
use Rattle.laws.proofs.SummaryOf.{counts_first, counts-length, summary-length, summary_counts}
use Rattle.summary.specs.Renew.{blocks_renewed, Renewable}
use Rattle.summary.proofs.BlockNumbers.{number_most}

-- a block's places are places of the summary
pub block_places_in : (m s b : ℕ) → b < 4 ^ summary_level m → b * s + s ≤ summary_length m s
block_places_in m s b h = let e = suc-mul b s in let f = mul-le-mul_right {m = suc b} {n = 4 ^ summary_level m} s (omega arith) in omega arith

-- and their number is small
pub places_few : (m s : ℕ) → s ≤ slot_limit → summary_length m s ≤ 512
places_few m s h = let e = number_most m in let f = mul-le-mul_right {m = 4 ^ summary_level m} {n = 16} s e in omega arith

-- the first s of a block's counts are what the summary has at its places
pub counts_part : (m s : ℕ) (p : Picture) (b : ℕ) (counts : List ℕ) → b < 4 ^ summary_level m → s ≤ slot_limit
    → counts ≡ counts_of 32 p (summary_height m) (row_of m (block_key m b)) (column_of m (block_key m b))
    → take s counts ≡ take s (drop (b * s) (summary_of m s p))
counts_part m s p b counts h few e =
    ap (take s) e
    ∙ counts_first p (summary_height m) (row_of m (block_key m b)) (column_of m (block_key m b)) 0 s 32 few
    ∙ sym (summary_counts m s p b h)

-- a block's counters are at least s
pub counters_long : (p : Picture) (k r c s : ℕ) (counts : List ℕ) → counts ≡ counts_of 32 p k r c → s ≤ slot_limit → 0 + s ≤ length counts
counters_long p k r c s counts e h = let f = ap length e in let g = counts-length p k r c 0 32 in omega arith

-- a run that is read from a list, and what follows it there
run_longer : (new old : List ℕ) (a n s : ℕ) → a + n ≤ length new
    → sets (sets old a (take n (drop a new))) (a + n) (take s (drop (a + n) new)) ≡ sets old a (take (n + s) (drop a new))
run_longer new old a n s h =
    let rest = length-drop a new in
    let size : length (take n (drop a new)) ≡ n = length-take-le n (drop a new) (omega arith) in
    ap (λ i. sets (sets old a (take n (drop a new))) (a + i) (take s (drop (a + n) new))) (sym size)
    ∙ sets_join old a (take n (drop a new)) (take s (drop (a + n) new))
    ∙ ap (λ l. sets old a (take n (drop a new) ++ take s l)) (sym (drop-drop n a new))
    ∙ ap (sets old a) (sym (take-add n s (drop a new)))

-- the blocks from one number up to b are counted anew
pub record Begun (m s : ℕ) (p : Picture) (from until : ℕ) (old now : List ℕ) (b : ℕ) : Type 0 where
  pub above : from ≤ b
  pub within : b ≤ until
  pub long : length now ≡ length old
  pub run : now ≡ blocks_renewed m s p from b old

module _ (m s : ℕ) (p : Picture) where
  pub none_renewed : (from : ℕ) (old : List ℕ) → old ≡ blocks_renewed m s p from from old
  unfolding blocks_renewed
  none_renewed from old =
      let e : from - from ≡ 0 = omega arith in
      sym (ap (λ n. sets old (from * s) (take (n * s) (drop (from * s) (summary_of m s p)))) e
      ∙ ap (λ n. sets old (from * s) (take n (drop (from * s) (summary_of m s p)))) (zero-mul s))

  -- at first none is
  pub renew_begins : (from until : ℕ) (old : List ℕ) → from ≤ until → Begun m s p from until old old from
  renew_begins from until old h = record { above = omega arith; within = h; long = refl; run = none_renewed from old }

  pub one_renewed : (from b : ℕ) (old : List ℕ) → from ≤ b → b < 4 ^ summary_level m
      → sets (blocks_renewed m s p from b old) (b * s) (take s (drop (b * s) (summary_of m s p))) ≡ blocks_renewed m s p from (b + 1) old
  unfolding blocks_renewed
  one_renewed from b old h most =
      let j = b - from in
      let here : b * s ≡ from * s + j * s = ap (λ n. n * s) (back from b h) ∙ add-mul from (b - from) s in
      let more : (b + 1 - from) * s ≡ j * s + s = ap (λ n. n * s) (next from b h) ∙ suc-mul (b - from) s in
      let room = block_places_in m s b most in
      let size = summary-length m s p in
      ap (λ i. sets (sets old (from * s) (take (j * s) (drop (from * s) (summary_of m s p)))) i (take s (drop i (summary_of m s p)))) here
      ∙ run_longer (summary_of m s p) old (from * s) (j * s) s (omega arith)
      ∙ sym (ap (λ n. sets old (from * s) (take n (drop (from * s) (summary_of m s p)))) more)
    where
      back : (x y : ℕ) → x ≤ y → y ≡ x + (y - x)
      back x y i = omega arith

      next : (x y : ℕ) → x ≤ y → y + 1 - x ≡ suc (y - x)
      next x y i = omega arith

  -- a turn counts the next
  pub renew_turns : {from until : ℕ} {old now : List ℕ} {b : ℕ} (counts after : List ℕ) → Begun m s p from until old now b
      → Renewable m s from until old
      → b < until
      → counts ≡ counts_of 32 p (summary_height m) (row_of m (block_key m b)) (column_of m (block_key m b))
      → after ≡ sets now (b * s) (take s counts)
      → Begun m s p from until old after (b + 1)
  renew_turns {from} {until} {old} {now} {b} counts after x r h e f =
      let most : b < 4 ^ summary_level m = omega (arith, r.most) in
      record {
        above = omega (arith, x.above);
        within = omega arith;
        long = ap length f ∙ length-sets now (b * s) (take s counts) ∙ x.long;
        run = f
            ∙ ap₂ (λ l part. sets l (b * s) part) x.run (counts_part m s p b counts most r.few e)
            ∙ one_renewed from b old x.above most;
      }

  -- at the end all are
  pub renew_ends : {from until : ℕ} {old now : List ℕ} {b : ℕ} → Begun m s p from until old now b → until ≤ b → now ≡ blocks_renewed m s p from until old
  renew_ends {from} {until} {old} {now} {b} x h = let e : b ≡ until = omega (arith, x.within) in x.run ∙ ap (λ n. blocks_renewed m s p from n old) e

whole : (new old : List ℕ) → length old ≡ length new → sets old 0 new ≡ new
whole new old e =
    let all : 0 + length new ≡ length old = omega arith in
    sets_parts old 0 new (omega arith) ∙ ap (λ n. new ++ drop n old) all ∙ ap (λ l. new ++ l) (drop-length old) ∙ append-nil new

-- all blocks counted anew are the summary
pub all_renewed : (m s : ℕ) (p : Picture) (old : List ℕ) → length old ≡ summary_length m s → blocks_renewed m s p 0 (4 ^ summary_level m) old ≡ summary_of m s p
unfolding blocks_renewed
all_renewed m s p old e =
    let size = summary-length m s p in
    let all : 4 ^ summary_level m - 0 ≡ 4 ^ summary_level m = omega arith in
    ap₂ (λ n i. sets old n (take (i * s) (drop n (summary_of m s p)))) (zero-mul s) all
    ∙ ap (λ l. sets old 0 l) (take_all (4 ^ summary_level m * s) (summary_of m s p) (omega arith))
    ∙ whole (summary_of m s p) old (e ∙ sym size)

-- so filling leaves the summary
pub summary_filled : (m s : ℕ) (p : Picture) (old now : List ℕ) (blocks : ℕ) → blocks ≡ 4 ^ summary_level m → length old ≡ summary_length m s
    → now ≡ blocks_renewed m s p 0 blocks old
    → now ≡ summary_of m s p
summary_filled m s p old now blocks e long is = is ∙ ap (λ n. blocks_renewed m s p 0 n old) e ∙ all_renewed m s p old long

-- all blocks can be counted anew
pub all_renewable : (m s : ℕ) (old : List ℕ) (blocks : ℕ) → m ≤ 10 → s ≤ slot_limit → length old ≡ summary_length m s → blocks ≡ 4 ^ summary_level m → Renewable m s 0 blocks old
all_renewable m s old blocks deep few long e = record { deep = deep; few = few; order = omega arith; most = omega arith; long = long }
