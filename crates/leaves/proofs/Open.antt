-- A delivery read up to a key: the leaves that are left ascend from that key and cover every pixel from there on once. What that says of the
-- first of them, and how it goes on after it. Rests on the laws of blocks.
use Prim.Native.Nat.{ℕ, suc, ◌+◌, ◌^◌, ◌≤◌, ◌<◌}
use mathlib.Core.Path.{◌≡◌, refl, sym, ◌∙◌, ap}
use mathlib.Core.Bool.{Bool, true, false, cond}
use mathlib.Core.List.{List, [], ◌∷◌, Memᴰ}
use native.Mathlib.Omega.{arith}
use mathlib.Core.Logic.{⊎_elim}
use Rattle.keys.specs.Key.{child_key, valid_key, height_of}
use Rattle.keys.specs.Block.{row_of, column_of, in_block, pixel_key}
use Rattle.keys.proofs.Cases.{decide, split}
use Rattle.keys.proofs.Powers.{five_pos}
use Rattle.keys.specs.Under.{Under, MapBlock}
use Rattle.keys.proofs.Interval.{within, nest, past_first_child}
use Rattle.keys.proofs.Valid.{valid_block}
use Rattle.keys.proofs.Pixel.{InKeys, inside}
use Rattle.keys.proofs.InBlock.{in_block_iff, in_block_keys_iff, in_raster}
use Rattle.definitions.specs.Leaves.{coverings}
use Rattle.laws.proofs.Within.{first_within, under_within}
use Rattle.laws.proofs.AscendingKeys.{AscendingKeys, no_key, key, ascending_member, keys_rest}

-- a number counted once more where the test holds
abbrev pub once : Bool → ℕ
once t = cond t 1 0

pub cover_cons : (m κ : ℕ) (l : List ℕ) (row column : ℕ) (t : Bool) → in_block m κ row column ≡ t
    → coverings m (κ ∷ l) row column ≡ once t + coverings m l row column
unfolding coverings
cover_cons m κ l row column t e = ap (λ x. once x + coverings m l row column) e

cover_nil : (m row column : ℕ) → coverings m [] row column ≡ 0
unfolding coverings
cover_nil m row column = refl

-- a block that has the pixel is counted
pub cover_some : (m : ℕ) {x : ℕ} {l : List ℕ} (row column : ℕ) → Memᴰ x l → in_block m x row column ≡ true → 1 ≤ coverings m l row column
cover_some m row column (mathlib.Core.List.Memᴰ.head {x = x} {xs = l} e) h =
    let f = cover_cons m x l row column true (ap (λ y. in_block m y row column) (sym e) ∙ h) in omega arith
cover_some m row column (mathlib.Core.List.Memᴰ.tail {x = y} {xs = l} n) h =
    let ih = cover_some m row column n h in
    let f = cover_cons m y l row column (in_block m y row column) refl in
    omega arith

-- some block of the list has the pixel
pub record CoveringLeaf (m : ℕ) (l : List ℕ) (row column : ℕ) : Type 0 where
  pub leaf : ℕ
  pub among : Memᴰ leaf l
  pub has : in_block m leaf row column ≡ true

pub cover_one : (m : ℕ) (l : List ℕ) (row column : ℕ) → coverings m l row column ≡ 1 → CoveringLeaf m l row column
cover_one m [] row column e = let f = cover_nil m row column in absurd (omega arith)
cover_one m (x ∷ l) row column e =
    decide (in_block m x row column)
    (λ t. record { leaf = x; among = mathlib.Core.List.Memᴰ.head refl; has = t })
    (λ t.
    let f = cover_cons m x l row column false t in
    let w = cover_one m l row column (omega arith) in
    record { leaf = w.leaf; among = mathlib.Core.List.Memᴰ.tail w.among; has = w.has })

-- ascending keys that are all at or past a bound ascend from there
raise : {lo hi lo' : ℕ} {l : List ℕ} → lo' ≤ hi → ((x : ℕ) → Memᴰ x l → lo' ≤ x) → AscendingKeys lo hi l → AscendingKeys lo' hi l
raise b h (no_key e) = no_key b
raise b h (key {x = x} e t) = key (h x (mathlib.Core.List.Memᴰ.head refl)) t

-- and so where the first is
first_raised : {lo hi lo' x : ℕ} {l : List ℕ} → lo' ≤ x → AscendingKeys lo hi (x ∷ l) → AscendingKeys lo' hi (x ∷ l)
first_raised h (key e t) = key h t

-- leaves read up to a key: the others
pub record OpenBlock (m κ : ℕ) (l : List ℕ) : Type 0 where
  pub valid : (x : ℕ) → Memᴰ x l → valid_key m x ≡ true
  pub ascends : AscendingKeys κ (5 ^ m) l
  pub covers : (row column : ℕ) → row < 2 ^ m → column < 2 ^ m → κ ≤ pixel_key m row column → coverings m l row column ≡ 1

-- the same key and the same leaves by other names
pub open_at : {m κ κ' : ℕ} {l l' : List ℕ} → κ ≡ κ' → l ≡ l' → OpenBlock m κ l → OpenBlock m κ' l'
open_at e f o = rw (← e, ← f) o

-- the key of a leaf that is left is that of a block
leaf_block : {m κ x : ℕ} {l : List ℕ} → OpenBlock m κ l → Memᴰ x l → MapBlock m (height_of m x) (row_of m x) (column_of m x) x
leaf_block {m} {x = x} o n = valid_block m x (o.valid x n)

-- where a block begins at the key, its first pixel lies in a leaf that is left, whose key is at or past the block's and within its interval
module _ {m k r c κ : ℕ} {l : List ℕ} (b : MapBlock m k r c κ) (o : OpenBlock m κ l) where
  first_key : InKeys k κ (pixel_key m r c)
  first_key = inside b (first_within k r c)

  pub open_around : CoveringLeaf m l r c
  open_around = let i = in_raster b (first_within k r c) in cover_one m l r c (o.covers r c i.0 i.1 first_key.from)

  pub around_below : open_around.leaf < κ + 5 ^ k
  around_below =
      let i = in_raster b (first_within k r c) in
      let j = (in_block_keys_iff r c (leaf_block o open_around.among) i.0 i.1).0 open_around.has in
      omega (arith, j.from, first_key.until)

pub none_open : {m k r c κ : ℕ} → MapBlock m k r c κ → OpenBlock m κ [] → ⊥
none_open b o = mathlib.Core.List.Memᴰ.not-nil (open_around b o).among

-- the first leaf that is left, at a block that begins at the key
module _ {m k r c κ x : ℕ} {l : List ℕ} (b : MapBlock m k r c κ) (o : OpenBlock m κ (x ∷ l)) where
  head_from : κ ≤ x
  head_from = (ascending_member o.ascends (mathlib.Core.List.Memᴰ.head refl)).0

  head_below : x < κ + 5 ^ k
  head_below =
      let h = around_below b o in
      ⊎_elim (λ (e : (open_around b o).leaf ≡ x). omega arith)
      (λ (n : Memᴰ (open_around b o).leaf l). let j = ascending_member (keys_rest o.ascends) n in omega arith)
      (mathlib.Core.List.Memᴰ.cases_cons (open_around b o).among)

  pub head_under : Under k r c κ (height_of m x) (row_of m x) (column_of m x) x
  head_under = nest b (leaf_block o (mathlib.Core.List.Memᴰ.head refl)) head_from head_below

  -- where it is the block itself, no later leaf is in the block
  later : x ≡ κ → (y : ℕ) → Memᴰ y l → κ + 5 ^ k ≤ y
  later e y n =
      split y (κ + 5 ^ k)
      (λ low. absurd (
      let by = leaf_block o (mathlib.Core.List.Memᴰ.tail n) in
      let above = ascending_member (keys_rest o.ascends) n in
      let u = nest b by (omega arith) low in
      let w = first_within (height_of m y) (row_of m y) (column_of m y) in
      let i = in_raster by w in
      let in-y = (in_block_iff (row_of m y) (column_of m y) by).1 w in
      let in-x = ap (λ z. in_block m z (row_of m y) (column_of m y)) e ∙ (in_block_iff (row_of m y) (column_of m y) b).1 (under_within u w) in
      let more = cover_some m (row_of m y) (column_of m y) n in-y in
      let both = cover_cons m x l (row_of m y) (column_of m y) true in-x in
      let one = o.covers (row_of m y) (column_of m y) i.0 i.1 (let j = inside by w in omega (arith, j.from)) in
      omega arith))
      (λ high. high)

  -- and the others are read up to the block's end
  pub open_tail : x ≡ κ → OpenBlock m (κ + 5 ^ k) l
  open_tail e = record {
    valid = λ y n. o.valid y (mathlib.Core.List.Memᴰ.tail n);
    ascends = let w = within b in raise (omega arith) (later e) (keys_rest o.ascends);
    covers = λ row column low narrow from.
        decide (in_block m κ row column)
        (λ t. absurd (let j = (in_block_keys_iff row column b low narrow).0 t in omega (arith, j.until)))
        (λ t.
        let f = cover_cons m x l row column false (ap (λ z. in_block m z row column) e ∙ t) in
        let g = o.covers row column low narrow (omega arith) in
        omega arith);
  }

-- the first leaf at a pixel is the pixel
pub open_pixel : {m r c κ x : ℕ} {l : List ℕ} → MapBlock m 0 r c κ → OpenBlock m κ (x ∷ l) → x ≡ κ
open_pixel {m} {x = x} b o = let w = within (head_under b o) in let h = five_pos (height_of m x) in omega arith

-- where it is not the block itself, the leaves are read up to the block's first quadrant
pub open_child : {m k r c κ x : ℕ} {l : List ℕ} → MapBlock m (suc k) r c κ → OpenBlock m κ (x ∷ l) → (x ≡ κ → ⊥) → OpenBlock m (child_key κ k 1) (x ∷ l)
open_child {m} {k} {κ = κ} {x = x} {l = l} b o n =
    let w = within (head_under b o) in
    let h : child_key κ k 1 ≤ x = past_first_child (head_under b o) (omega arith) in
    record { valid = o.valid; ascends = first_raised h o.ascends; covers = λ row column low narrow from. o.covers row column low narrow (omega arith) }

-- at the end of the raster no leaf is left
pub open_end : {m : ℕ} {l : List ℕ} → OpenBlock m (5 ^ m) l → l ≡ []
open_end {l = []} o = refl
open_end {l = x ∷ l} o = let h = ascending_member o.ascends (mathlib.Core.List.Memᴰ.head refl) in absurd (omega arith)
