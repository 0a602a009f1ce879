-- Where a key stands in records whose keys ascend: the last record at or before it, its place, its bits and its key, and how many records a
-- block has. Rests on Ascending.
use Prim.Native.Nat.{ℕ, suc, ◌+◌, ◌^◌, ◌≤◌, ◌<◌}
use mathlib.Core.Path.{◌≡◌, refl, sym, ◌∙◌, ap, ap₂}
use mathlib.Core.Bool.{true, false, cond, ◌&&◌}
use mathlib.Core.List.{List, [], ◌∷◌, ◌++◌}
use native.Mathlib.Nat.{zero-add, le_refl}
use native.Mathlib.Omega.{arith}
use lib.ListN.{length, get_or, set, get_or-map}
use lib.Seq.{get_or-append_seam, set-append_seam}
use lib.Dec.{leb, ltb}
use borrow.Author.Tests.{le-leb, lt-leb, lt-ltb, le-ltb}
use Rattle.keys.specs.Key.{height_of}
use Rattle.keys.proofs.Cases.{decide}
use Rattle.keys.specs.Block.{in_interval}
use Rattle.definitions.specs.List.{Record, record_of, keys_of, values_of, Ascending, none, next}
use Rattle.definitions.specs.Standing.{up_to, place_of, records_in}
use Rattle.laws.proofs.Ascending.{ascending_bounds}
use Rattle.replace.specs.Family.{block_bits}
use Rattle.replace.specs.Renew.{set_bits}

-- records of two lists are counted one after the other
pub up_to-append : (x : ℕ) (a b : List Record) → up_to x (a ++ b) ≡ up_to x a + up_to x b
unfolding up_to
up_to-append x [] b = sym (zero-add (up_to x b))
up_to-append x (e ∷ a) b = let h = up_to-append x a b in omega arith

-- all records are counted where all keys are at or before x, and none where all are after
pub up_to_all : {lo hi : ℕ} {l : List Record} (x : ℕ) → hi ≤ suc x → Ascending lo hi l → up_to x l ≡ length l
unfolding up_to
up_to_all x h (none j) = refl
up_to_all x h (next {e = e} {l = l} j a) =
    let b = ascending_bounds a in
    let i = up_to_all x h a in
    ap (λ t. cond t 1 0 + up_to x l) (le-leb e.key x (omega arith)) ∙ omega arith

-- none is counted where all keys are after x
pub up_to_below_none : {lo hi : ℕ} {l : List Record} (x : ℕ) → x < lo → Ascending lo hi l → up_to x l ≡ 0
unfolding up_to
up_to_below_none x h (none j) = refl
up_to_below_none x h (next {e = e} {l = l} j a) =
    let i = up_to_below_none x (omega arith) a in
    ap (λ t. cond t 1 0 + up_to x l) (lt-leb e.key x (omega arith)) ∙ omega arith

-- a place is one of the list
pub up_to_le : (x : ℕ) (l : List Record) → up_to x l ≤ length l
unfolding up_to
up_to_le x [] = omega arith
up_to_le x (e ∷ l) = let h = up_to_le x l in decide (leb e.key x) (λ t. rw t (omega arith)) (λ t. rw t (omega arith))

-- a place is below the number of records
pub place_lt : (x : ℕ) (l : List Record) → 1 ≤ length l → place_of x l < length l
unfolding place_of
place_lt x l h = let e = up_to_le x l in omega arith

up_to_first : (x : ℕ) (e : Record) (l : List Record) → e.key ≤ x → up_to x (e ∷ l) ≡ 1 + up_to x l
unfolding up_to
up_to_first x e l h = ap (λ t. cond t 1 0 + up_to x l) (le-leb e.key x h)

key_of : (l : List Record) (i : ℕ) → get_or (keys_of l) i 0 ≡ (get_or l i (record_of 0 0)).key
key_of l i = get_or-map (λ x. x.key) l i (record_of 0 0)

value_of : (l : List Record) (i : ℕ) → get_or (values_of l) i 0 ≡ (get_or l i (record_of 0 0)).value
value_of l i = get_or-map (λ x. x.value) l i (record_of 0 0)

-- the record after some others is found at their number
pub key_seam : (a : List Record) (e : Record) (b : List Record) → get_or (keys_of (a ++ e ∷ b)) (length a) 0 ≡ e.key
key_seam a e b = key_of (a ++ e ∷ b) (length a) ∙ ap (λ x. x.key) (get_or-append_seam a e b (record_of 0 0))

-- the record's bits after some others
pub value_seam : (a : List Record) (e : Record) (b : List Record) → get_or (values_of (a ++ e ∷ b)) (length a) 0 ≡ e.value
value_seam a e b = value_of (a ++ e ∷ b) (length a) ∙ ap (λ x. x.value) (get_or-append_seam a e b (record_of 0 0))

-- its bits are set, and its key stays
pub set_bits-seam : (a : List Record) (e : Record) (b : List Record) (v : ℕ) → set_bits (a ++ e ∷ b) (length a) v ≡ a ++ record_of e.key v ∷ b
unfolding set_bits
set_bits-seam a e b v = ap (λ κ. set (a ++ e ∷ b) (length a) (record_of κ v)) (key_seam a e b) ∙ set-append_seam a e b (record_of e.key v)

-- the records a have their keys below e's, which is at or before x, and the records b have theirs after x
module _ {lo hi x : ℕ} {a : List Record} (e : Record) {b : List Record} (low : Ascending lo e.key a) (here : e.key ≤ x) (high : Ascending (suc x) hi b) where
  -- the place of x is that of e
  pub place_cut : place_of x (a ++ e ∷ b) ≡ length a
  unfolding place_of
  place_cut =
      let i = up_to-append x a (e ∷ b) in
      let j = up_to_all x (omega arith) low in
      let k = up_to_below_none x (le_refl (suc x)) high in
      let l = up_to_first x e b here in
      omega arith

  -- the bits there are e's
  pub bits_cut : block_bits x (a ++ e ∷ b) ≡ e.value
  unfolding block_bits
  bits_cut = ap (λ i. get_or (values_of (a ++ e ∷ b)) i 0) place_cut ∙ value_seam a e b

  -- the key there is e's
  pub key_cut : get_or (keys_of (a ++ e ∷ b)) (place_of x (a ++ e ∷ b)) 0 ≡ e.key
  key_cut = ap (λ i. get_or (keys_of (a ++ e ∷ b)) i 0) place_cut ∙ key_seam a e b

  -- setting bits there sets e's
  pub set-cut : (v : ℕ) → set_bits (a ++ e ∷ b) (place_of x (a ++ e ∷ b)) v ≡ a ++ record_of e.key v ∷ b
  set-cut v = ap (λ i. set_bits (a ++ e ∷ b) i v) place_cut ∙ set_bits-seam a e b v

-- how many records a block has, of those before it, of its own and of those after it
pub in-append : (m κ : ℕ) (a b : List Record) → records_in m κ (a ++ b) ≡ records_in m κ a + records_in m κ b
unfolding records_in
in-append m κ [] b = sym (zero-add (records_in m κ b))
in-append m κ (e ∷ a) b = let h = in-append m κ a b in omega arith

interval : (m κ k x : ℕ) → height_of m κ ≡ k → in_interval m κ x ≡ leb κ x && ltb x (κ + 5 ^ k)
unfolding in_interval
interval m κ k x e = ap (λ h. leb κ x && ltb x (κ + 5 ^ h)) e

module _ (m κ k : ℕ) (height : height_of m κ ≡ k) where
  -- none of those before
  pub in_before : {lo : ℕ} {l : List Record} → Ascending lo κ l → records_in m κ l ≡ 0
  unfolding records_in
  in_before (none j) = refl
  in_before (next {e = e} {l = l} j a) =
      let b = ascending_bounds a in
      let i = in_before a in
      let t : in_interval m κ e.key ≡ false = interval m κ k e.key height ∙ ap (λ s. s && ltb e.key (κ + 5 ^ k)) (lt-leb κ e.key (omega arith)) in
      ap (λ s. cond s 1 0 + records_in m κ l) t ∙ omega arith

  -- all of its own
  pub in_own : {lo : ℕ} {l : List Record} → κ ≤ lo → Ascending lo (κ + 5 ^ k) l → records_in m κ l ≡ length l
  unfolding records_in
  in_own h (none j) = refl
  in_own h (next {e = e} {l = l} j a) =
      let b = ascending_bounds a in
      let i = in_own (omega arith) a in
      let t : in_interval m κ e.key ≡ true = interval m κ k e.key height ∙ ap₂ ◌&&◌ (le-leb κ e.key (omega arith)) (lt-ltb e.key (κ + 5 ^ k) (omega arith)) in
      ap (λ s. cond s 1 0 + records_in m κ l) t ∙ omega arith

  -- none of those after
  pub in_after : {lo hi : ℕ} {l : List Record} → κ + 5 ^ k ≤ lo → Ascending lo hi l → records_in m κ l ≡ 0
  unfolding records_in
  in_after h (none j) = refl
  in_after h (next {e = e} {l = l} j a) =
      let i = in_after (omega arith) a in
      let t : in_interval m κ e.key ≡ false = interval m κ k e.key height ∙ ap₂ ◌&&◌ (le-leb κ e.key (omega arith)) (le-ltb e.key (κ + 5 ^ k) (omega arith)) in
      ap (λ s. cond s 1 0 + records_in m κ l) t ∙ omega arith

  -- a block's records between others
  pub in_cut : {lo hi : ℕ} {a own b : List Record} → Ascending lo κ a → Ascending κ (κ + 5 ^ k) own → Ascending (κ + 5 ^ k) hi b → records_in m κ (a ++ (own ++ b)) ≡ length own
  in_cut {a = a} {own} {b} low mid high =
      let i = in-append m κ a (own ++ b) in
      let j = in-append m κ own b in
      let u = in_before low in
      let v = in_own (le_refl κ) mid in
      let w = in_after (le_refl (κ + 5 ^ k)) high in
      omega arith
