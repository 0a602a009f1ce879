-- The numbers of a plan, by where the filled block stands: listed with so many records, or inside a leaf, which is higher. Rests on the laws of the
-- fuller standing and of the part of the list.
use Prim.Native.Nat.{ℕ, ◌+◌, ◌-◌, ◌*◌, ◌/◌, ◌^◌, ◌≤◌, ◌<◌}
use mathlib.Core.Path.{◌≡◌, sym, ◌∙◌, ap, ap₂}
use mathlib.Core.Bool.{Bool, true, false}
use mathlib.Core.List.{List}
use native.Mathlib.Omega.{arith}
use lib.ListN.{get_or, take}
use borrow.Author.Tests.{eqb-true}
use Rattle.keys.specs.Key.{valid_key, level_of, height_of}
use Rattle.keys.proofs.Powers.{five_le, five_pos}
use Rattle.keys.proofs.Interval.{under_height}
use Rattle.keys.proofs.Ancestor.{ancestor_iff}
use Rattle.keys.proofs.Valid.{valid_block, valid_below, block_level}
use Rattle.definitions.specs.List.{Record, list_of_picture, keys_of}
use Rattle.definitions.specs.Read.{records_of}
use Rattle.definitions.specs.Standing.{place_of, key_found, is_listed, standing_of, part_length}
use Rattle.definitions.specs.declared.Standing.TheVariants.{Listed, Inside}
use Rattle.list.specs.Own.{OwnList, BlockIn, shown_by}
use Rattle.list.specs.Among.{keys_below}
use Rattle.list.proofs.Among.{keys_of_records}
use Rattle.list.proofs.PartLength.{part_end}
use Rattle.list.proofs.Fuller.{listed_numbers, inside_numbers, listed_part, inside_part}
use Rattle.list.proofs.PatchLeaf.{leaf_contains, leaf_level}
use Rattle.replace.specs.Family.{around}
use Rattle.replace.specs.Put.{top_for, plan_at}
use Rattle.replace.specs.declared.plan.Plan.{Plan}
use Rattle.replace.proofs.Bounds.{level, level_valid, level_height, level_until}
use Rattle.replace.proofs.PlanTop.{top_bounds}
use Rattle.replace.proofs.FamilyRead.{around_own}

module _ {m n : ℕ} {keys bits : List ℕ} (own : OwnList m keys bits n) where
  -- the lists of the records' keys
  records_keys : keys_of (records_of keys bits n) ≡ take n keys
  records_keys = keys_of_records keys bits n own.fits

  -- the part of a block ends before the end of its interval
  pub part_until : (x step : ℕ) → valid_key m x ≡ true → step ≡ 5 ^ height_of m x
      → place_of x (records_of keys bits n) + part_length m x (records_of keys bits n) ≡ keys_below (x + step) (take n keys)
  part_until x step valid e =
      ap (λ l. place_of x l + part_length m x l) own.own
      ∙ part_end (shown_by m keys bits n) (valid_block m x valid)
      ∙ ap₂ (λ s l. keys_below (x + s) (keys_of l)) (sym e) (sym own.own)
      ∙ ap (keys_below (x + step)) records_keys

-- the block of height top around a key, with its step
pub record FilledBlock (m key top step : ℕ) : Type 0 where
  pub deep : m ≤ 10
  pub valid : valid_key m key ≡ true
  pub low : height_of m key ≤ top
  pub high : top ≤ m
  pub power : step ≡ 5 ^ top

-- where the height is that of the filled block
pub plan_filled_by : {m key top step : ℕ} (l : List Record) (leaf : Bool) (b : ℕ) → m ≤ 10 → valid_key m key ≡ true → top ≡ top_for m l key leaf b → step ≡ 5 ^ top → FilledBlock m key top step
plan_filled_by {m} {key} l leaf b deep valid e power =
    let h = top_bounds m l key b leaf in
    record { deep = deep; valid = valid; low = omega arith; high = omega arith; power = power }

module _ {m key top step : ℕ} (f : FilledBlock m key top step) where
  -- its key
  pub filled_is : key / step * step ≡ around top key
  filled_is = around_own key step top f.power

  -- its key is valid
  pub filled_valid : valid_key m (key / step * step) ≡ true
  filled_valid = ap (valid_key m) filled_is ∙ level_valid (level m key top f.valid f.low f.high)

  -- its height is top
  pub filled_height : height_of m (key / step * step) ≡ top
  filled_height = ap (height_of m) filled_is ∙ level_height (level m key top f.valid f.low f.high)

  -- the step is its own
  pub filled_step : step ≡ 5 ^ height_of m (key / step * step)
  filled_step = f.power ∙ ap (λ h. 5 ^ h) (sym filled_height)

  -- its interval lies inside the map's
  pub filled_until : (1 ≤ step) × (key / step * step + step ≤ 5 ^ 10)
  filled_until =
      let e = filled_is in
      let p = f.power in
      let i = five_pos top in
      let h = level_until (level m key top f.valid f.low f.high) in
      let j = five_le {k = m} 10 f.deep in
      omega arith

-- a valid key is below the largest map's end
pub valid_key_below : {m key : ℕ} → m ≤ 10 → valid_key m key ≡ true → key < 5 ^ 10
valid_key_below {m} {key} deep valid = let h = valid_below m key valid in let i = five_le {k = m} 10 deep in omega arith

-- the four numbers of a plan
same_plan : (m : ℕ) (l : List Record) (key top top' filled start old height : ℕ)
    → top ≡ top'
    → filled ≡ around top key
    → start ≡ place_of filled l
    → old ≡ part_length m filled l
    → height ≡ height_of m (get_or (keys_of l) (place_of filled l) 0)
    → ◌≡◌ {A = Plan} (record { top = top; start = start; old = old; levels = height - top }) (plan_at m l key top')
unfolding plan_at
same_plan m l key top top' filled start old height e f g h i =
    (λ j. record { top = top; start = g j; old = h j; levels = i j - top })
    ∙ ap (λ x. record { top = top; start = place_of x l; old = part_length m x l; levels = height_of m (get_or (keys_of l) (place_of x l) 0) - top }) f
    ∙ ap (plan_at m l key) e

-- the key that stands at a listed block's place is its own
own_key : (κ : ℕ) (l : List Record) → is_listed κ l ≡ true → key_found κ l ≡ κ
unfolding is_listed
own_key κ l e = eqb-true _ _ e

-- the height of a block by its level
height_is : (m κ level : ℕ) → level ≡ level_of m κ → m - level ≡ height_of m κ
unfolding height_of
height_is m κ level e = ap (λ x. m - x) e

-- the plan by where the filled block stands
module _ {m n key top step : ℕ} {keys bits : List ℕ} (own : OwnList m keys bits n) (f : FilledBlock m key top step) where
  -- it is a block of the list
  pub filled_asked : BlockIn m keys bits n (key / step * step)
  filled_asked = record { deepest = f.deep; own = own; valid = filled_valid f }

  -- it is listed: its records are exchanged, and nothing is split
  pub plan_listed : (start old : ℕ) (leaf : Bool) (b : ℕ) → standing_of m (key / step * step) (records_of keys bits n) ≡ Listed start old → top ≡ top_for m (records_of keys bits n) key leaf b
      → ◌≡◌ {A = Plan} (record { top = top; start = start; old = old; levels = 0 }) (plan_at m (records_of keys bits n) key (top_for m (records_of keys bits n) key leaf b))
  plan_listed start old leaf b e is =
      let l : List Record = records_of keys bits n in
      let g = listed_numbers m (key / step * step) l start old e in
      let none : 0 ≡ height_of m (key / step * step) - top = let h = filled_height f in omega arith in
      ap (λ x. record { top = top; start = start; old = old; levels = x }) none
      ∙ same_plan m l key top (top_for m l key leaf b) (key / step * step) start old (height_of m (key / step * step)) is (filled_is f) g.1
      (g.2 ∙ sym (listed_part m (key / step * step) l g.0))
      (ap (height_of m) (sym (own_key (key / step * step) l g.0)))

  -- it lies inside a leaf: the leaf's one record is exchanged, and split down to the block
  module _ (start around level : ℕ) (e : standing_of m (key / step * step) (records_of keys bits n) ≡ Inside start around level) where
    numbers : (is_listed (key / step * step) (records_of keys bits n) ≡ false) × (start ≡ place_of (key / step * step) (records_of keys bits n)) × (around ≡ key_found (key / step * step) (records_of keys bits n)) × (level ≡ level_of m (key_found (key / step * step) (records_of keys bits n)))
    numbers = inside_numbers m (key / step * step) (records_of keys bits n) start around level e

    in_picture : standing_of m (key / step * step) (list_of_picture m (shown_by m keys bits n)) ≡ Inside start around level
    in_picture = ap (standing_of m (key / step * step)) (sym own.own) ∙ e

    -- the leaf is as high at least
    pub plan_high : (level ≤ m) × (top ≤ m - level)
    plan_high =
        let c = leaf_contains m (shown_by m keys bits n) (key / step * step) (filled_valid f) start around level in_picture in
        let b = valid_block m around c.0 in
        let h = block_level b in
        let i = leaf_level m (shown_by m keys bits n) (key / step * step) (filled_valid f) start around level in_picture in
        let u = (ancestor_iff b (valid_block m (key / step * step) (filled_valid f))).0 c.1 in
        let w = under_height u.0 in
        let j = filled_height f in
        omega arith

    pub plan_inside : (leaf : Bool) (b : ℕ) → top ≡ top_for m (records_of keys bits n) key leaf b
        → ◌≡◌ {A = Plan} (record { top = top; start = start; old = 1; levels = m - level - top }) (plan_at m (records_of keys bits n) key (top_for m (records_of keys bits n) key leaf b))
    plan_inside leaf b is =
        let l : List Record = records_of keys bits n in
        same_plan m l key top (top_for m l key leaf b) (key / step * step) start 1 (m - level) is (filled_is f) numbers.1
        (sym (inside_part m (key / step * step) l numbers.0))
        (height_is m (key_found (key / step * step) l) level numbers.3)
