-- The head of a log's file: what its stores leave, and what is stored after it. Rests on runs of stores.
use Prim.Native.Nat.{ℕ, ◌+◌, ◌%◌}
use mathlib.Core.Path.{◌≡◌, refl, ap, ◌∙◌}
use mathlib.Core.List.{List, ◌++◌}
use native.Mathlib.Nat.{div-one}
use lib.ListN.{length, set}
use lib.Seq.{sets}
use Rattle.definitions.specs.File.{bytes_of}
use Rattle.definitions.specs.LogFile.{log_mark, log_head_of}
use Rattle.file.proofs.Stores.{sets_split}

-- the mark, the version, m, s and both counts stored one after the other are the head
pub log_head_stores : (m s used in_force : ℕ) (old marked versioned counted whole : List ℕ) → marked ≡ sets old 0 log_mark
    → versioned ≡ sets marked 3 (bytes_of 2 1)
    → counted ≡ sets (set (set versioned 5 (m % 256)) 6 (s % 256)) 7 (bytes_of 8 used)
    → whole ≡ sets counted 15 (bytes_of 8 in_force)
    → whole ≡ sets old 0 (log_head_of m s used in_force)
unfolding log_head_of bytes_of
log_head_stores m s used in_force old marked versioned counted whole e f g h = h ∙ rw (g, f, e, div-one m, div-one s)

pub length-head : (m s used in_force : ℕ) → length (log_head_of m s used in_force) ≡ 23
unfolding log_head_of bytes_of
length-head m s used in_force = refl

-- what is stored after the head is stored from byte 23 on
pub log_head_then : (old : List ℕ) (m s used in_force : ℕ) (rest : List ℕ)
    → sets old 0 (log_head_of m s used in_force ++ rest) ≡ sets (sets old 0 (log_head_of m s used in_force)) 23 rest
log_head_then old m s used in_force rest =
    sets_split old 0 (log_head_of m s used in_force) rest
    ∙ ap (λ k. sets (sets old 0 (log_head_of m s used in_force)) (0 + k) rest) (length-head m s used in_force)
