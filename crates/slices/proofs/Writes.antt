-- What a slice holds after one of the library's writes to a run of it, as `sets` says it. Rests on Sets.
use Prim.Native.Nat.{ℕ, ◌+◌, ◌-◌, ◌≤◌}
use mathlib.Core.Path.{◌≡◌, sym, ap, ◌∙◌}
use mathlib.Core.List.{List, ◌++◌}
use native.Mathlib.Omega.{arith}
use lib.ListN.{length, take, drop, replicate, length-drop, length-replicate}
use lib.Seq.{sets, length-take-le, drop-drop}
use borrow.Rule.Slice.PartMut.{put_mid}
use Rattle.slices.proofs.Sets.{sets_parts}

-- a run written into the part from `at` on that is as long as it
pub written_run : (l xs : List ℕ) (at k : ℕ) → at + k ≤ length l → length xs ≡ k → put_mid at k l xs ≡ sets l at xs
written_run l xs at k h size =
    ap (λ r. take at l ++ (xs ++ r)) (drop-drop k at l ∙ ap (λ n. drop (at + n) l) (sym size)) ∙ sym (sets_parts l at xs (omega arith))

-- a part that was filled with zeros
pub written_zeros : (l xs : List ℕ) (from end : ℕ) → from ≤ end → end ≤ length l → xs ≡ replicate (length (take (end - from) (drop from l))) 0
    → put_mid from (end - from) l xs ≡ sets l from (replicate (end - from) 0)
written_zeros l xs from end low high filled =
    let rest = length-drop from l in
    let part = length-take-le (end - from) (drop from l) (omega arith) in
    let zeros : xs ≡ replicate (end - from) 0 = filled ∙ ap (λ n. replicate n 0) part in
    let size : length xs ≡ end - from = ap length zeros ∙ length-replicate (end - from) 0 in
    written_run l xs from (end - from) (omega arith) size ∙ ap (sets l from) zeros
