-- What searches among keys in order read: the bits of a block, of a child and of a parent are those of the model, and the places are there.
-- Only the order of the keys is asked. Rests on Among of the list.
use Prim.Native.Nat.{ℕ, suc, ◌+◌, ◌*◌, ◌/◌, ◌^◌, ◌≤◌, ◌<◌}
use mathlib.Core.Path.{◌≡◌, sym, ◌∙◌, ap, ap₂}
use mathlib.Core.Bool.{cond}
use mathlib.Core.List.{List}
use native.Mathlib.Nat.{pow-suc, div-mul-le_self}
use native.Mathlib.Omega.{arith}
use lib.ListN.{length, get_or, take}
use lib.Seq.{get_or-take, take-length, length-take-le}
use lib.Bits.{bit_or}
use borrow.Author.Tests.{eq-eqb, ne_eqb}
use Rattle.keys.specs.Key.{child_key}
use Rattle.definitions.specs.Bits.{union_of_four}
use Rattle.definitions.specs.List.{Record}
use Rattle.definitions.specs.Read.{paired, records_of}
use Rattle.definitions.specs.Standing.{place_of}
use Rattle.laws.proofs.Slots.{same_four}
use Rattle.list.specs.Sorted.{Sorted}
use Rattle.list.specs.Among.{place_among}
use Rattle.list.proofs.Among.{place-below, values_of_records, place-among}
use Rattle.replace.specs.Family.{around, block_bits, child_bits, parent_bits, wider_bits}

-- keys in order that begin with the root's have a place for every key
pub sorted_from : {keys : List ℕ} {n : ℕ} → Sorted keys n 0 → (x : ℕ) → Sorted keys n x
sorted_from s x = let first = s.first in record { ascends = s.ascends; some = s.some; first = omega arith }

-- a place among the keys
module _ (keys bits : List ℕ) (n x : ℕ) (fits : n ≤ length keys) (room : n ≤ length bits) (place : ℕ) (is : place ≡ place_among x (take n keys)) where
  -- it is the place in the records
  pub place_read : place ≡ place_of x (records_of keys bits n)
  place_read = is ∙ sym (place-among keys bits n (omega arith) x)

  -- the bits there are the block's
  pub bits_read : place < n → get_or bits place 0 ≡ block_bits x (records_of keys bits n)
  unfolding block_bits
  bits_read h =
      sym (get_or-take n bits place 0 h)
      ∙ ap₂ (λ l i. get_or l i 0) (sym (values_of_records keys bits n (omega arith))) place_read

-- it is one of the n
pub place_there : {keys : List ℕ} {n x : ℕ} → Sorted keys n x → (place : ℕ) → place ≡ place_among x (take n keys) → place < n
place_there s place is = let h = place-below s in omega arith

-- of all keys of a slice
pub place_among_first : (keys : List ℕ) (x : ℕ) {place : ℕ} → place ≡ place_among x keys → place ≡ place_among x (take (length keys) keys)
place_among_first keys x is = is ∙ ap (place_among x) (sym (take-length keys))

-- the same where the keys are all of a slice
module _ (keys bits : List ℕ) (x : ℕ) (room : length keys ≤ length bits) (s : Sorted keys (length keys) x) {place : ℕ} (is : place ≡ place_among x keys) where
  pub place_inside : place < length keys
  place_inside = place_there s place (place_among_first keys x is)

  pub bits_found : get_or bits place 0 ≡ block_bits x (records_of keys bits (length keys))
  bits_found = bits_read keys bits (length keys) x s.ascends.room room place (place_among_first keys x is) place_inside

-- the first of the keys of a slice as a slice of their own
module _ {keys : List ℕ} {n : ℕ} (s : Sorted keys n 0) where
  pub first_length : length (take n keys) ≡ n
  first_length = length-take-le n keys s.ascends.room

  -- are in order
  pub first_sorted : Sorted (take n keys) (length (take n keys)) 0
  first_sorted =
      let size = first_length in
      let some = s.some in
      let at : (i : ℕ) → i < n → get_or (take n keys) i 0 ≡ get_or keys i 0 = λ i h. get_or-take n keys i 0 h in
      record {
        ascends = record {
          room = omega arith;
          ascend = λ i j h k. let a = at i (omega arith) in let b = at j (omega arith) in let o = s.ascends.ascend i j h (omega arith) in omega arith;
        };
        some = omega arith;
        first = let a = at 0 (omega arith) in let f = s.first in omega arith;
      }

  -- and the records are the same
  pub first_records : (bits : List ℕ) → records_of (take n keys) bits (length (take n keys)) ≡ records_of keys bits n
  first_records bits = ap (records_of (take n keys) bits) first_length ∙ ap (λ k. paired k (take n bits)) (ap (λ i. take i (take n keys)) (sym first_length) ∙ take-length (take n keys))

-- the bits of a child: those in hand for the block itself
pub child_own : (l : List Record) (own b x : ℕ) → x ≡ own → b ≡ child_bits l own b x
unfolding child_bits
child_own l own b x e = sym (ap (λ t. cond t b (block_bits x l)) (eq-eqb x own e))

-- those of the list for the others
pub child_other : (l : List Record) (own b x : ℕ) → (x ≡ own → ⊥) → block_bits x l ≡ child_bits l own b x
unfolding child_bits
child_other l own b x e = sym (ap (λ t. cond t b (block_bits x l)) (ne_eqb x own e))

-- a block around a key, by its step
module _ (key step h : ℕ) (is : step ≡ 5 ^ h) where
  -- that of the step's height
  pub around_own : key / step * step ≡ around h key
  unfolding around
  around_own = ap (λ s. key / s * s) is

  -- its parent
  pub around_parent : key / (step * 5) * (step * 5) ≡ around (suc h) key
  unfolding around
  around_parent = ap (λ s. key / s * s) (ap (λ s. s * 5) is ∙ sym (pow-suc 5 h))

  -- so the bits that are found by the step are the parent's
  pub wider_parent : (l : List Record) (b : ℕ) → wider_bits l key b step ≡ parent_bits l key b h
  unfolding wider_bits parent_bits
  wider_parent l b =
      let p = around_parent in
      let child : (d x : ℕ) → x ≡ child_key (around (suc h) key) h d → child_bits l (key / step * step) b x ≡ child_bits l (around h key) b (child_key (around (suc h) key) h d) =
      λ d x e. ap₂ (λ own y. child_bits l own b y) around_own e in
      same_four (child 1 _ (omega arith)) (child 2 _ (omega arith)) (child 3 _ (omega arith)) (child 4 _ (omega arith))

-- by the four children, one after the other, as the code has them
pub wider_read : (key step : ℕ) (l : List Record) (b own parent first second third fourth nw ne sw se : ℕ)
    → own ≡ key / step * step → parent ≡ key / (step * 5) * (step * 5)
    → first ≡ parent + 1 * step → second ≡ parent + 2 * step → third ≡ parent + 3 * step → fourth ≡ parent + 4 * step
    → nw ≡ child_bits l own b first → ne ≡ child_bits l own b second → sw ≡ child_bits l own b third → se ≡ child_bits l own b fourth
    → bit_or (bit_or nw ne) (bit_or sw se) ≡ wider_bits l key b step
unfolding wider_bits union_of_four
wider_read key step l b own parent first second third fourth nw ne sw se own_is parent_is f₁ f₂ f₃ f₄ e₁ e₂ e₃ e₄ =
    let child : (x y z : ℕ) → z ≡ child_bits l own b x → x ≡ y → z ≡ child_bits l (key / step * step) b y
    = λ x y z e f. e ∙ ap₂ (λ u v. child_bits l u b v) own_is f in
    same_four (child first _ nw e₁ (omega arith)) (child second _ ne e₂ (omega arith)) (child third _ sw e₃ (omega arith)) (child fourth _ se e₄ (omega arith))

-- a block around a key begins at or before it
pub multiple_le : (key step : ℕ) → key / step * step ≤ key
multiple_le key step = div-mul-le_self key step
