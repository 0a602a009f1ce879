-- Where the leaves of a block end: the equations of end_of, by whether a leaf is there and by its key. Rests on keys' Cases.
use Prim.Native.Nat.{ℕ, zero, suc, ◌+◌, ◌≤◌, ◌<◌}
use mathlib.Core.Path.{◌≡◌}
use mathlib.Core.List.{List}
use native.Mathlib.Omega.{arith}
use lib.ListN.{length, get_or}
use borrow.Author.Tests.{lt-ltb, le-ltb, eq-eqb, ne_eqb}
use Rattle.keys.specs.Key.{child_key}
use Rattle.keys.proofs.Cases.{split}
use Rattle.leaves.specs.Delivered.{leaves_end}

-- the end of four quadrants, one after the other
abbrev pub end_of_four : (keys : List ℕ) (k κ at : ℕ) → ℕ
end_of_four keys k κ at =
    leaves_end keys k (child_key κ k 4) (leaves_end keys k (child_key κ k 3) (leaves_end keys k (child_key κ k 2) (leaves_end keys k (child_key κ k 1) at)))

-- no leaf is left
pub end_none : (keys : List ℕ) (k κ at : ℕ) → length keys ≤ at → leaves_end keys k κ at ≡ length keys + 1
unfolding leaves_end
end_none keys zero κ at h = rw (le-ltb at (length keys) h)
end_none keys (suc k) κ at h = rw (le-ltb at (length keys) h)

-- the next leaf is the block
pub end_leaf : (keys : List ℕ) (k κ at : ℕ) → at < length keys → get_or keys at 0 ≡ κ → leaves_end keys k κ at ≡ at + 1
unfolding leaves_end
end_leaf keys zero κ at h e = rw (lt-ltb at (length keys) h, eq-eqb (get_or keys at 0) κ e)
end_leaf keys (suc k) κ at h e = rw (lt-ltb at (length keys) h, eq-eqb (get_or keys at 0) κ e)

-- the next leaf is another, and a pixel has no quadrants
pub end_other : (keys : List ℕ) (κ at : ℕ) → at < length keys → (get_or keys at 0 ≡ κ → ⊥) → leaves_end keys zero κ at ≡ length keys + 1
unfolding leaves_end
end_other keys κ at h e = rw (lt-ltb at (length keys) h, ne_eqb (get_or keys at 0) κ e)

-- a larger block has
pub end_four : (keys : List ℕ) (k κ at : ℕ) → at < length keys → (get_or keys at 0 ≡ κ → ⊥) → leaves_end keys (suc k) κ at ≡ end_of_four keys k κ at
unfolding leaves_end
end_four keys k κ at h e = rw (lt-ltb at (length keys) h, ne_eqb (get_or keys at 0) κ e)

-- where the leaves of a block are there, one is
pub end_there : (keys : List ℕ) (k κ at : ℕ) → leaves_end keys k κ at ≤ length keys → at < length keys
end_there keys k κ at h = split at (length keys) (λ a. a) (λ a. let e = end_none keys k κ at a in absurd (omega arith))
