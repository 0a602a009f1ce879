-- Renewing the bits around a changed block: the list with the new list of the block in the old context becomes the new list, a level a step.
-- Between the steps it is the new list of the block that was reached, in the old context. Rests on Context, Family and Places.
use Prim.Native.Nat.{ℕ, zero, suc, ◌+◌, ◌^◌}
use mathlib.Core.Path.{◌≡◌, refl, sym, ◌∙◌, ap, ap₂}
use mathlib.Core.Bool.{false}
use mathlib.Core.List.{List, ◌∷◌, ◌++◌, append_assoc}
use native.Mathlib.Nat.{le_refl}
use Rattle.keys.specs.Under.{Quadrant, is_nw}
use Rattle.keys.proofs.Under.{quadrant_under}
use Rattle.keys.proofs.Pixel.{InKeys}
use Rattle.definitions.specs.Picture.{Picture, one_feature}
use Rattle.definitions.specs.Bits.{bits_of}
use Rattle.definitions.specs.List.{Record, record_of, list_of, Ascending, next}
use Rattle.definitions.specs.Standing.{place_of}
use Rattle.laws.proofs.Ascending.{ascending-append}
use Rattle.laws.proofs.ListOf.{list_ascends}
use Rattle.replace.specs.Family.{around, block_bits, parent_bits}
use Rattle.replace.specs.Renew.{set_bits, renew}
use Rattle.replace.proofs.Way.{Way, there, up, under_of, steps, steps_there, steps_up}
use Rattle.replace.proofs.Outside.{Outside, outside_up}
use Rattle.replace.proofs.Siblings.{four_lists, preceding, following, four_split, four_mixed, node_four, preceding_ascends, following_ascends}
use Rattle.replace.proofs.Context.{Open, open_up, spliced, spliced_there, spliced_up, before_ascends, after_ascends}
use Rattle.replace.proofs.Places.{set-cut}
use Rattle.replace.proofs.Between.{bits_own}
use Rattle.replace.proofs.Family.{around_is, keys_up, parent-bits}

-- no level is left
pub renew_zero : (l : List Record) (κ b h : ℕ) → renew l κ b zero h ≡ l
unfolding renew
renew_zero l κ b h = refl

-- a level: the parent's bits are found and set, and on from there
pub renew_suc : (l : List Record) (κ b n h : ℕ)
    → renew l κ b (suc n) h ≡ renew (set_bits l (place_of (around (suc h) κ) l) (parent_bits l κ b h)) κ (parent_bits l κ b h) n (suc h)
unfolding renew
renew_suc l κ b n h = refl

four_ascends : (p : Picture) (k r c κ : ℕ) → Ascending (suc κ) (κ + 5 ^ suc k) (four_lists p k r c κ)
four_ascends p k r c κ =
    rw (four_split p is_nw)
    (ascending-append (preceding_ascends p is_nw) (ascending-append (list_ascends p k r c _) (following_ascends p is_nw)))

regroup : (a s own t b : List Record) (e : Record) → a ++ (e ∷ (s ++ (own ++ t)) ++ b) ≡ a ++ e ∷ s ++ (own ++ (t ++ b))
regroup a s own t b e = simp append_assoc

-- the record of a block with any bits, and then the lists of its quadrants, between other records
module _ (p : Picture) (k r c κ v : ℕ) {lo hi : ℕ} {a b : List Record} (low : Ascending lo κ a) (high : Ascending (κ + 5 ^ suc k) hi b) where
  -- each quadrant's bits are found at its key
  quadrant_read : {r' c' κ' : ℕ} → Quadrant k r c κ r' c' κ' → block_bits κ' (a ++ (record_of κ v ∷ four_lists p k r c κ ++ b)) ≡ bits_of p k r' c'
  quadrant_read {r'} {c'} {κ'} q =
      ap (λ l. block_bits κ' (a ++ (record_of κ v ∷ l ++ b))) (four_split p q)
      ∙ ap (block_bits κ') (regroup a (preceding p q) (list_of p k r' c' κ') (following p q) b (record_of κ v))
      ∙ bits_own p k r' c' κ' (ascending-append low (next (le_refl κ) (preceding_ascends p q))) (ascending-append (following_ascends p q) high)

  -- and the block's own record is set
  own-set : (v' : ℕ) → set_bits (a ++ (record_of κ v ∷ four_lists p k r c κ ++ b)) (place_of κ (a ++ (record_of κ v ∷ four_lists p k r c κ ++ b))) v' ≡ a ++ (record_of κ v' ∷ four_lists p k r c κ ++ b)
  own-set v' = set-cut (record_of κ v) low (le_refl κ) (ascending-append (four_ascends p k r c κ) high) v'

-- the same in the context of a picture
module _ (p p' : Picture) {m k r c κ : ℕ} (w : Way m 0 0 0 (suc k) r c κ) (v : ℕ) where
  context_read : {r' c' κ' : ℕ} → Quadrant k r c κ r' c' κ' → block_bits κ' (spliced p w (record_of κ v ∷ four_lists p' k r c κ)) ≡ bits_of p' k r' c'
  unfolding spliced
  context_read q = quadrant_read p' k r c κ v (before_ascends p w) (after_ascends p w) q

  context-set : (v' : ℕ)
      → set_bits (spliced p w (record_of κ v ∷ four_lists p' k r c κ)) (place_of κ (spliced p w (record_of κ v ∷ four_lists p' k r c κ))) v'
      ≡ spliced p w (record_of κ v' ∷ four_lists p' k r c κ)
  unfolding spliced
  context-set v' = own-set p' k r c κ v (before_ascends p w) (after_ascends p w) v'

-- the new list of a block in the old context, a level up: only the parent's bits are the old ones
module _ (p p' : Picture) {m k r c κ r' c' κ' : ℕ} (q : Quadrant k r c κ r' c' κ') (w : Way m 0 0 0 (suc k) r c κ) (h : Outside p p' k r' c') where
  -- it is the parent's record with the old bits, and the new lists of the quadrants
  pub old_bits : spliced p (up q w) (list_of p' k r' c' κ') ≡ spliced p w (record_of κ (bits_of p (suc k) r c) ∷ four_lists p' k r c κ)
  old_bits =
      spliced_up p q w (list_of p' k r' c' κ')
      ∙ ap (λ l. spliced p w (record_of κ (bits_of p (suc k) r c) ∷ l)) (four_mixed p p' (under_of w) q h)

  -- so the parent's new bits are found
  pub renew_bits : {x : ℕ} → InKeys k κ' x → parent_bits (spliced p (up q w) (list_of p' k r' c' κ')) x (bits_of p' k r' c') k ≡ bits_of p' (suc k) r c
  renew_bits i =
      parent-bits p' _ (under_of w) q i (λ r₂ c₂ κ₂ q' other. ap (block_bits κ₂) old_bits ∙ context_read p p' w (bits_of p (suc k) r c) q')

  -- and set
  pub renew-set : {x : ℕ} → InKeys k κ' x → one_feature p' (suc k) r c ≡ false
      → set_bits (spliced p (up q w) (list_of p' k r' c' κ')) (place_of (around (suc k) x) (spliced p (up q w) (list_of p' k r' c' κ'))) (bits_of p' (suc k) r c)
      ≡ spliced p w (list_of p' (suc k) r c κ)
  renew-set i several =
      ap₂ (λ l y. set_bits l (place_of y l) (bits_of p' (suc k) r c)) old_bits (around_is (under_of w) (keys_up (quadrant_under q) i))
      ∙ context-set p p' w (bits_of p (suc k) r c) (bits_of p' (suc k) r c)
      ∙ ap (spliced p w) (sym (node_four p' k r c κ several))

-- from the new list of a block in the old context, where every block around it has more than one feature in the new picture, to the new list
pub renew_all : (p p' : Picture) {m k r c κ x : ℕ} (w : Way m 0 0 0 k r c κ) → Outside p p' k r c → Open p' w → InKeys k κ x
    → renew (spliced p w (list_of p' k r c κ)) x (bits_of p' k r c) (steps w) k ≡ list_of p' m 0 0 0
renew_all p p' {m} {x = x} there h o i =
    let w : Way m 0 0 0 m 0 0 0 = there in
    ap (λ n. renew (spliced p w (list_of p' m 0 0 0)) x (bits_of p' m 0 0) n m) (steps_there m 0 0 0)
    ∙ renew_zero (spliced p w (list_of p' m 0 0 0)) x (bits_of p' m 0 0) m
    ∙ spliced_there p m 0 0 0 (list_of p' m 0 0 0)
renew_all p p' {m} {k} {r = r'} {c = c'} {κ = κ'} {x = x} (up {r = r} {c = c} {κ = κ} q w) h o i =
    let old = spliced p (up q w) (list_of p' k r' c' κ') in
    ap (λ n. renew old x (bits_of p' k r' c') n k) (steps_up q w)
    ∙ renew_suc old x (bits_of p' k r' c') (steps w) k
    ∙ ap (λ b. renew (set_bits old (place_of (around (suc k) x) old) b) x b (steps w) (suc k)) (renew_bits p p' q w h i)
    ∙ ap (λ l. renew l x (bits_of p' (suc k) r c) (steps w) (suc k)) (renew-set p p' q w h i o)
    ∙ renew_all p p' w (outside_up (quadrant_under q) h) (open_up p' w o) (keys_up (quadrant_under q) i)
