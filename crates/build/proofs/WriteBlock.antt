-- Writing a block's records into two slices: four runs of stores one after the other are one run, and so the records below four quadrants with
-- the quadrants' own records are the records below the block. Rests on the equations of bits and lists.
use Prim.Native.Nat.{ℕ, suc, ◌+◌, ◌*◌, ◌<◌}
use mathlib.Core.Path.{◌≡◌, refl, sym, ◌∙◌, ap}
use mathlib.Core.Bool.{true, false}
use mathlib.Core.List.{List, [], ◌∷◌, ◌++◌}
use native.Mathlib.Omega.{arith}
use native.Mathlib.Nat.{add-suc, suc-add}
use native.Mathlib.Numerals.{add-one}
use lib.ListN.{length, set}
use lib.Seq.{sets, set_comm}
use Rattle.definitions.specs.Bits.{union_of_four}
use Rattle.list.specs.Check.{one_slot}
use Rattle.build.specs.BuildBlocks.{four_set, FourWritten}

-- a store before a run of stores
pub set-sets : (vs l : List ℕ) (i j x : ℕ) → j < i → set (sets l i vs) j x ≡ sets (set l j x) i vs
set-sets [] l i j x h = refl
set-sets (v ∷ vs) l i j x h = set-sets vs (set l i v) (suc i) j x (omega arith) ∙ ap (λ k. sets k (suc i) vs) (set_comm l i j v x (λ e. omega arith))

-- a store just before a run of stores makes it one longer
pub sets_front : (vs l : List ℕ) (i x : ℕ) → set (sets l (i + 1) vs) i x ≡ sets l i (x ∷ vs)
sets_front vs l i x = ap (λ k. set (sets l k vs) i x) (add-one i) ∙ set-sets vs l (suc i) i x (omega arith)

-- two runs, one after the other
pub sets-append : (us vs l : List ℕ) (i j : ℕ) → j ≡ i + length us → sets (sets l i us) j vs ≡ sets l i (us ++ vs)
sets-append [] vs l i j e = ap (λ k. sets l k vs) (e ∙ omega arith)
sets-append (u ∷ us) vs l i j e = sets-append us vs (set l i u) (suc i) j (e ∙ add-suc i (length us) ∙ sym (suc-add i (length us)))

-- four runs with a place free before each, and then those four places from the last to the first: one run of all
module _ (l : List ℕ) (a b c d w x y z : ℕ) (s t u v : List ℕ)
    (eb : b ≡ a + suc (length s)) (ec : c ≡ b + suc (length t)) (ed : d ≡ c + suc (length u)) where
  fourth : set (sets (sets (sets (sets l (a + 1) s) (b + 1) t) (c + 1) u) (d + 1) v) d z
      ≡ sets (sets (sets (sets l (a + 1) s) (b + 1) t) (c + 1) u) d (z ∷ v)
  fourth = sets_front v _ d z

  third : set (sets (sets (sets (sets l (a + 1) s) (b + 1) t) (c + 1) u) d (z ∷ v)) c y
      ≡ sets (sets (sets l (a + 1) s) (b + 1) t) c ((y ∷ u) ++ (z ∷ v))
  third =
      set-sets (z ∷ v) (sets (sets (sets l (a + 1) s) (b + 1) t) (c + 1) u) d c y (omega arith)
      ∙ ap (λ k. sets k d (z ∷ v)) (sets_front u (sets (sets l (a + 1) s) (b + 1) t) c y)
      ∙ sets-append (y ∷ u) (z ∷ v) (sets (sets l (a + 1) s) (b + 1) t) c d ed

  second : set (sets (sets (sets l (a + 1) s) (b + 1) t) c ((y ∷ u) ++ (z ∷ v))) b x
      ≡ sets (sets l (a + 1) s) b ((x ∷ t) ++ ((y ∷ u) ++ (z ∷ v)))
  second =
      set-sets ((y ∷ u) ++ (z ∷ v)) (sets (sets l (a + 1) s) (b + 1) t) c b x (omega arith)
      ∙ ap (λ k. sets k c ((y ∷ u) ++ (z ∷ v))) (sets_front t (sets l (a + 1) s) b x)
      ∙ sets-append (x ∷ t) ((y ∷ u) ++ (z ∷ v)) (sets l (a + 1) s) b c ec

  first : set (sets (sets l (a + 1) s) b ((x ∷ t) ++ ((y ∷ u) ++ (z ∷ v)))) a w
      ≡ sets l a ((w ∷ s) ++ ((x ∷ t) ++ ((y ∷ u) ++ (z ∷ v))))
  first =
      set-sets ((x ∷ t) ++ ((y ∷ u) ++ (z ∷ v))) (sets l (a + 1) s) b a w (omega arith)
      ∙ ap (λ k. sets k b ((x ∷ t) ++ ((y ∷ u) ++ (z ∷ v)))) (sets_front s l a w)
      ∙ sets-append (w ∷ s) ((x ∷ t) ++ ((y ∷ u) ++ (z ∷ v))) l a b eb

  pub four_runs : four_set (sets (sets (sets (sets l (a + 1) s) (b + 1) t) (c + 1) u) (d + 1) v) a b c d w x y z
      ≡ sets l a ((w ∷ s) ++ ((x ∷ t) ++ ((y ∷ u) ++ (z ∷ v))))
  four_runs =
      ap (λ k. set (set (set k c y) b x) a w) fourth ∙ ap (λ k. set (set k b x) a w) third ∙ ap (λ k. set k a w) second ∙ first

-- the quadrants' own records, by the test of their union
module _ (key step place nw ne sw se second third fourth last : ℕ) (keys bits : List ℕ) (union : ℕ) (e : union ≡ union_of_four nw ne sw se) where
  pub four_alike : one_slot union ≡ true → FourWritten key step place nw ne sw se second third fourth last keys bits keys bits union (place + 1)
  four_alike t = record { union_is = e; next-is = rw t; keys_are = rw t; bits_are = rw t }

  pub four_apart : {nw-key ne-key sw-key se-key : ℕ}
      → nw-key ≡ key + 1 * step
      → ne-key ≡ key + 2 * step
      → sw-key ≡ key + 3 * step
      → se-key ≡ key + 4 * step
      → one_slot union ≡ false
      → FourWritten key step place nw ne sw se second third fourth last keys bits
      (four_set keys (place + 1) second third fourth nw-key ne-key sw-key se-key)
      (four_set bits (place + 1) second third fourth nw ne sw se)
      union
      last
  four_apart {nw-key} first_is second_is third_is fourth_is t =
      let once : nw-key ≡ key + step = omega arith in
      record { union_is = e; next-is = rw t; keys_are = rw (t, once, second_is, third_is, fourth_is); bits_are = rw t }
