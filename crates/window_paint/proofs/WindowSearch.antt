-- Where the blocks of a window are looked for: a block's quadrants come in key order, so the place that served for one serves for the next, and the last
-- for what comes after the block. Rests on Asked and on the laws of standing.
use Prim.Native.Nat.{ℕ, suc, ◌+◌, ◌-◌, ◌*◌, ◌^◌, ◌<◌}
use mathlib.Core.Path.{◌≡◌, sym, ◌∙◌, ap}
use mathlib.Core.List.{List}
use native.Mathlib.Nat.{pow-suc, suc-mul}
use native.Mathlib.Omega.{arith}
use Rattle.keys.specs.Child.{child_of, InMap}
use Rattle.keys.specs.declared.block.TreeBlock.{TreeBlock}
use Rattle.keys.proofs.BlockChild.{one_higher}
use Rattle.keys.proofs.Interval.{within}
use Rattle.keys.proofs.Valid.{block_valid}
use Rattle.definitions.specs.Read.{records_of}
use Rattle.list.specs.Own.{BlockIn}
use Rattle.list.specs.Sorted.{Near}
use Rattle.list.proofs.Fuller.{listed_numbers, inside_numbers, near_later as near-found}
use Rattle.walk.proofs.Asked.{near_later}
use Rattle.list.specs.declared.accepted_list.Accepted.{Accepted}
use Rattle.list.proofs.Taken.{block_listed}
use Rattle.definitions.specs.List.{Record}
use Rattle.definitions.specs.Standing.{place_of, standing_of}
use Rattle.definitions.specs.declared.Standing.{Standing}
use Rattle.definitions.specs.declared.Standing.TheVariants.{Listed, Inside}
use Rattle.window_paint.specs.WindowLogging.{place_told}
use Rattle.window_paint.specs.Searching.{NearIn, BlockSought}

-- a block of the map, as a search by its key asks for it
pub block_from : (list : Accepted) {from : ℕ} (b : TreeBlock) → InMap list.m b → NearIn list from b.key → BlockSought list b from
block_from list b i near =
    let is = block_valid i in
    let w = within i in
    let deep = list.deepest in
    record {
      block = block_listed list b.key is.valid;
      low = omega (arith, w.height);
      height_is = sym is.height;
      near = near;
    }

-- a standing tells the place
standing_place : (m κ : ℕ) (l : List Record) (standing : Standing) → standing ≡ standing_of m κ l → place_told standing ≡ place_of κ l
standing_place m κ l (Listed place records) e = (listed_numbers m κ l place records (sym e)).1
standing_place m κ l (Inside place leaf level) e = (inside_numbers m κ l place leaf level (sym e)).1

-- where it was found serves for what comes after it
pub found_after : {m : ℕ} {keys bits : List ℕ} {n κ : ℕ} {standing : Standing} {place : ℕ} → BlockIn m keys bits n κ → standing ≡ standing_of m κ (records_of keys bits n)
    → place ≡ place_told standing → (step : ℕ) → Near keys n place (κ + step)
found_after {m} {keys} {bits} {n} {κ} {standing} b e f step = near-found b _ (f ∙ standing_place m κ (records_of keys bits n) standing e) (κ + step) (omega arith)

module _ {keys : List ℕ} {n place : ℕ} (b : TreeBlock) where
  -- where it is not looked for, so does the place that was had
  pub near_after : Near keys n place b.key → Near keys n place (b.key + 5 ^ b.height)
  near_after h = near_later h _ (omega arith)

  -- and for its first quadrant
  pub near_first : {q : TreeBlock} → q ≡ child_of b 1 → Near keys n place b.key → Near keys n place q.key
  near_first e h = near_later h _ (let g = ap (λ x. x.key) e in omega (arith, g))

  -- the place that serves for what comes after a quadrant serves for the next one
  pub near_next : (d : ℕ) {q q' : TreeBlock} → q ≡ child_of b d → q' ≡ child_of b (suc d) → Near keys n place (q.key + 5 ^ q.height) → Near keys n place q'.key
  near_next d e f h =
      let x = ap (λ y. y.key + 5 ^ y.height) e in
      let y = ap (λ z. z.key) f in
      let s = suc-mul d (5 ^ (b.height - 1)) in
      near_later h _ (omega (arith, x, y, s))

  -- and after the last one, for what comes after the block
  pub near_end : {q : TreeBlock} → 0 < b.height → q ≡ child_of b 4 → Near keys n place (q.key + 5 ^ q.height) → Near keys n place (b.key + 5 ^ b.height)
  near_end positive e h =
      let x = ap (λ y. y.key + 5 ^ y.height) e in
      let five : 5 ^ b.height ≡ 5 ^ (b.height - 1) * 5 = ap (λ k. 5 ^ k) (one_higher b positive) ∙ pow-suc 5 (b.height - 1) in
      near_later h _ (omega (arith, x, five))
