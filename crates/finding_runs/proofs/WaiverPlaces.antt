-- The waivers of two slices, place by place. Rests on the definitions alone.
use Prim.Native.Nat.{ℕ, zero, suc, ◌<◌, min}
use mathlib.Core.Path.{◌≡◌, refl}
use mathlib.Core.List.{List, [], ◌∷◌}
use native.Mathlib.Omega.{arith}
use lib.ListN.{length, get_or, drop}
use Rattle.definitions.specs.Read.{room}
use Rattle.definitions.specs.Rules.{Finding, finding_of, waivers_of}

-- the waiver at a place
abbrev pub waiver_at : List ℕ → List ℕ → ℕ → Finding
waiver_at ids keys i = finding_of (get_or ids i 0) (get_or keys i 0)

-- there are as many as the shorter slice holds
pub waivers-length : (ids keys : List ℕ) → length (waivers_of ids keys) ≡ room ids keys
unfolding waivers_of
waivers-length [] keys = let z : 0 ≡ min 0 (length keys) = omega arith in z
waivers-length (id ∷ ids) [] = let z : 0 ≡ min (suc (length ids)) 0 = omega arith in z
waivers-length (id ∷ ids) (κ ∷ keys) = let ih = waivers-length ids keys in let z : suc (length (waivers_of ids keys)) ≡ min (suc (length ids)) (suc (length keys)) = omega arith in z

-- what the list of them has at a place
pub waivers_at : (ids keys : List ℕ) (i : ℕ) → i < room ids keys → get_or (waivers_of ids keys) i (finding_of 0 0) ≡ waiver_at ids keys i
unfolding waivers_of
waivers_at [] keys i h = absurd (omega arith)
waivers_at (id ∷ ids) [] i h = absurd (omega arith)
waivers_at (id ∷ ids) (κ ∷ keys) zero h = refl
waivers_at (id ∷ ids) (κ ∷ keys) (suc i) h = waivers_at ids keys i (omega arith)

-- the waiver at a place, and those after it
pub waivers-drop : (ids keys : List ℕ) (i : ℕ) → i < room ids keys → drop i (waivers_of ids keys) ≡ waiver_at ids keys i ∷ drop (suc i) (waivers_of ids keys)
unfolding waivers_of
waivers-drop [] keys i h = absurd (omega arith)
waivers-drop (id ∷ ids) [] i h = absurd (omega arith)
waivers-drop (id ∷ ids) (κ ∷ keys) zero h = refl
waivers-drop (id ∷ ids) (κ ∷ keys) (suc i) h = waivers-drop ids keys i (omega arith)
