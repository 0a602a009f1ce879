-- Records ascend exactly when their keys do; and the keys and the bits of a list in which records were exchanged. Rests on laws' AscendingKeys.
use Prim.Native.Nat.{ℕ, zero, suc, ◌+◌}
use mathlib.Core.Path.{◌≡◌, refl, ◌∙◌, ap, ap₂}
use mathlib.Core.List.{List, [], ◌∷◌, ◌++◌, map, map-append}
use lib.ListN.{take, drop}
use Rattle.definitions.specs.List.{Record, keys_of, values_of, Ascending, none, next}
use Rattle.laws.proofs.AscendingKeys.{AscendingKeys, no_key, key}
use Rattle.replace.specs.Put.{inserted, exchanged}
use Rattle.replace.specs.declared.plan.Plan.{Plan}

-- records ascend exactly when their keys do
pub ascending_to : {lo hi : ℕ} {l : List Record} → Ascending lo hi l → AscendingKeys lo hi (keys_of l)
ascending_to (none h) = no_key h
ascending_to (next h a) = key h (ascending_to a)

-- and back
pub ascending_from : {lo hi : ℕ} (l : List Record) → AscendingKeys lo hi (keys_of l) → Ascending lo hi l
ascending_from [] (no_key h) = none h
ascending_from (e ∷ l) (key h a) = next h (ascending_from l a)

-- lists with the same keys ascend together
pub ascending_keys : {lo hi : ℕ} {l : List Record} (l' : List Record) → keys_of l ≡ keys_of l' → Ascending lo hi l → Ascending lo hi l'
ascending_keys l' e a = ascending_from l' (rw e at (ascending_to a))

map-take : (f : Record → ℕ) (n : ℕ) (l : List Record) → map f (take n l) ≡ take n (map f l)
map-take f zero l = refl
map-take f (suc n) [] = refl
map-take f (suc n) (x ∷ l) = ap (λ t. f x ∷ t) (map-take f n l)

map-drop : (f : Record → ℕ) (n : ℕ) (l : List Record) → map f (drop n l) ≡ drop n (map f l)
map-drop f zero l = refl
map-drop f (suc n) [] = refl
map-drop f (suc n) (x ∷ l) = map-drop f n l

map-exchange : (f : Record → ℕ) (i j : ℕ) (new l : List Record) → map f (take i l ++ (new ++ drop j l)) ≡ take i (map f l) ++ (map f new ++ drop j (map f l))
map-exchange f i j new l =
    map-append f (take i l) (new ++ drop j l)
    ∙ ap₂ ◌++◌ (map-take f i l) (map-append f new (drop j l) ∙ ap (λ t. map f new ++ t) (map-drop f j l))

-- the keys and the bits, each exchanged in its own slice
module _ (l : List Record) (κ : ℕ) (content : List Record) (plan : Plan) where
  -- the keys
  pub exchanged_as_keys : keys_of (exchanged l κ content plan)
      ≡ take plan.start (keys_of l) ++ (keys_of (inserted l κ content plan) ++ drop (plan.start + plan.old) (keys_of l))
  unfolding exchanged
  exchanged_as_keys = map-exchange (λ x. x.key) plan.start (plan.start + plan.old) (inserted l κ content plan) l

  -- the bits
  pub exchanged_as_values : values_of (exchanged l κ content plan)
      ≡ take plan.start (values_of l) ++ (values_of (inserted l κ content plan) ++ drop (plan.start + plan.old) (values_of l))
  unfolding exchanged
  exchanged_as_values = map-exchange (λ x. x.value) plan.start (plan.start + plan.old) (inserted l κ content plan) l
