-- The context of a block in a list: before it the records of the blocks around it and the lists of the siblings before, after it the lists of
-- the siblings after. The list is the block's own between the two, where every block around it has more than one feature. Rests on Siblings.
use Prim.Native.Nat.{ℕ, suc, ◌+◌, ◌^◌}
use mathlib.Core.Path.{◌≡◌, sym, ◌∙◌, ap}
use mathlib.Core.Bool.{false}
use mathlib.Core.List.{List, [], ◌∷◌, ◌++◌, append_assoc, append-nil}
use native.Mathlib.Nat.{le_refl}
use Rattle.keys.specs.Under.{Quadrant}
use Rattle.keys.proofs.Under.{quadrant_under}
use Rattle.definitions.specs.Picture.{Picture, one_feature}
use Rattle.definitions.specs.Bits.{bits_of}
use Rattle.definitions.specs.List.{Record, record_of, list_of, Ascending, none, next}
use Rattle.laws.proofs.Features.{several_above}
use Rattle.laws.proofs.Ascending.{ascending-append}
use Rattle.replace.proofs.Way.{Way, there, up}
use Rattle.replace.proofs.Siblings.{preceding, following, four_split, node_four, preceding_ascends, following_ascends}

-- the records before a block: of each block around it its own, and then the lists of the siblings before
unfoldable pub before_hole : Picture → {K R C Κ k r c κ : ℕ} → Way K R C Κ k r c κ → List Record
before_hole p there = []
before_hole p (up {k} {r} {c} {κ} q w) = before_hole p w ++ record_of κ (bits_of p (suc k) r c) ∷ preceding p q

-- the records after it: the lists of the siblings after
unfoldable pub after_hole : Picture → {K R C Κ k r c κ : ℕ} → Way K R C Κ k r c κ → List Record
after_hole p there = []
after_hole p (up q w) = following p q ++ after_hole p w

-- the block is the outer one, or its parent has more than one feature; so has then every block around it
abbrev pub Open : Picture → {K R C Κ k r c κ : ℕ} → Way K R C Κ k r c κ → Type 0
Open p there = Unit {0}
Open p (up {k} {r} {c} q w) = one_feature p (suc k) r c ≡ false

-- a block of several features is listed
pub open_up : (p : Picture) {K R C Κ k r c κ : ℕ} (w : Way K R C Κ k r c κ) → one_feature p k r c ≡ false → Open p w
open_up p there e = tt
open_up p (up q w) e = several_above p (quadrant_under q) e

-- the list with a block's list in the context of another picture
unfoldable pub spliced : Picture → {K R C Κ k r c κ : ℕ} → Way K R C Κ k r c κ → List Record → List Record
spliced p w own = before_hole p w ++ (own ++ after_hole p w)

-- at the outer block there is no context
pub spliced_there : (p : Picture) (K R C Κ : ℕ) (own : List Record) → (let w : Way K R C Κ K R C Κ = there in spliced p w own) ≡ own
unfolding spliced before_hole after_hole
spliced_there p K R C Κ own = append-nil own

regroup : (a s own t b : List Record) (e : Record) → a ++ e ∷ s ++ (own ++ (t ++ b)) ≡ a ++ (e ∷ (s ++ (own ++ t)) ++ b)
regroup a s own t b e = simp append_assoc

-- a level up: the parent's record, the siblings before, the block's list and the siblings after, in the parent's context
pub spliced_up : (p : Picture) {K R C Κ k r c κ r' c' κ' : ℕ} (q : Quadrant k r c κ r' c' κ') (w : Way K R C Κ (suc k) r c κ) (own : List Record)
    → spliced p (up q w) own ≡ spliced p w (record_of κ (bits_of p (suc k) r c) ∷ (preceding p q ++ (own ++ following p q)))
unfolding spliced before_hole after_hole
spliced_up p q w own = regroup (before_hole p w) (preceding p q) own (following p q) (after_hole p w) _

-- the outer block's list is the block's list in its context
pub context : (p : Picture) {K R C Κ k r c κ : ℕ} (w : Way K R C Κ k r c κ) → Open p w → list_of p K R C Κ ≡ spliced p w (list_of p k r c κ)
context p {K} {R} {C} {Κ} there o = sym (spliced_there p K R C Κ _)
context p (up {k} {r} {c} {κ} q w) o =
    context p w (open_up p w o)
    ∙ ap (spliced p w) (node_four p k r c κ o ∙ ap (λ l. record_of κ (bits_of p (suc k) r c) ∷ l) (four_split p q))
    ∙ sym (spliced_up p q w _)

-- the keys before a block lie from the outer block's on and below its own
pub before_ascends : (p : Picture) {K R C Κ k r c κ : ℕ} (w : Way K R C Κ k r c κ) → Ascending Κ κ (before_hole p w)
unfolding before_hole
before_ascends p {Κ = Κ} there = none {lo = Κ} {hi = Κ} (le_refl Κ)
before_ascends p (up {κ = κ} q w) = ascending-append {mid = κ} (before_ascends p w) (next (le_refl κ) (preceding_ascends p q))

-- the keys after it lie at or above its end and below the outer block's
pub after_ascends : (p : Picture) {K R C Κ k r c κ : ℕ} (w : Way K R C Κ k r c κ) → Ascending (κ + 5 ^ k) (Κ + 5 ^ K) (after_hole p w)
unfolding after_hole
after_ascends p {K = K} {Κ = Κ} there = none {lo = Κ + 5 ^ K} {hi = Κ + 5 ^ K} (le_refl (Κ + 5 ^ K))
after_ascends p (up {k} {κ = κ} q w) = ascending-append {mid = κ + 5 ^ suc k} (following_ascends p q) (after_ascends p w)
