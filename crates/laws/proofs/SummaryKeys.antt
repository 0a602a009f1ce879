-- The summary's blocks stand in key order (specification S8.3): the key of a later block is larger. Rests on the definition of their keys.
use Prim.Native.Nat.{ℕ, zero, suc, ◌+◌, ◌*◌, ◌/◌, ◌%◌, ◌^◌, ◌<◌}
use native.Mathlib.Nat.{add-suc, pow-suc, one-le-pow, add-mul, mul_comm, mul-le-mul_right, div-add-mod', div-lt_iff_lt-mul, mod-lt}
use native.Mathlib.Omega.{arith}
use mathlib.Core.Path.{◌≡◌, ◌∙◌, ap}
use Rattle.keys.proofs.Cases.{equal}
use Rattle.definitions.specs.Area.{summary_level, summary_height, key_below, block_key}

-- one level lower a block has a fifth of the keys
five_parts : (k d : ℕ) → 5 ^ (k + suc d) ≡ 5 * 5 ^ (k + d)
five_parts k d = ap (λ x. 5 ^ x) (add-suc k d) ∙ pow-suc 5 (k + d) ∙ mul_comm (5 ^ (k + d)) 5

-- the number of the quadrant that block number b lies in
quadrant : (d b : ℕ) → b < 4 ^ suc d → b / 4 ^ d < 4
quadrant d b h = let e = pow-suc 4 d in (div-lt_iff_lt-mul (one-le-pow d 4 (omega arith))).1 (omega arith)

-- a quadrant's keys end where the next one's begin
next_quadrant : (q q' P x y : ℕ) → q < q' → x < P → (q + 1) * P + x < (q' + 1) * P + y
next_quadrant q q' P x y h i =
    let more = mul-le-mul_right {m = q + 1 + 1} {n = q' + 1} P (omega arith) in
    let apart = add-mul (q + 1) 1 P in
    omega arith

-- the keys of the blocks below a block lie in its interval
key_inside : (k d b : ℕ) → b < 4 ^ d → key_below k d b < 5 ^ (k + d)
unfolding key_below
key_inside k zero b h = one-le-pow (k + 0) 5 (omega arith)
key_inside k (suc d) b h =
    let pos = one-le-pow d 4 (omega arith) in
    let few = quadrant d b h in
    let rest = key_inside k d (b % 4 ^ d) (mod-lt b pos) in
    let all = five_parts k d in
    let most = mul-le-mul_right {m = b / 4 ^ d + 1} {n = 4} (5 ^ (k + d)) (omega arith) in
    omega arith

-- and ascend
below_ascend : (k d a b : ℕ) → a < b → b < 4 ^ d → key_below k d a < key_below k d b
unfolding key_below
below_ascend k zero a b h i = absurd (omega arith)
below_ascend k (suc d) a b h i =
    let pos = one-le-pow d 4 (omega arith) in
    let whole = div-add-mod' a (4 ^ d) in
    let whole' = div-add-mod' b (4 ^ d) in
    let past = mod-lt b pos in
    let not_after : a / 4 ^ d < b / 4 ^ d + 1 = (div-lt_iff_lt-mul pos).1 (let e = add-mul (b / 4 ^ d) 1 (4 ^ d) in omega arith) in
    equal (a / 4 ^ d) (b / 4 ^ d)
    (λ same.
    let parts = ap (λ x. x * 4 ^ d) same in
    let keys = ap (λ x. (x + 1) * 5 ^ (k + d)) same in
    let rest = below_ascend k d (a % 4 ^ d) (b % 4 ^ d) (omega arith) past in
    omega arith)
    (λ other. next_quadrant (a / 4 ^ d) (b / 4 ^ d) (5 ^ (k + d)) _ _ (omega arith) (key_inside k d (a % 4 ^ d) (mod-lt a pos)))

-- a later block of the summary has the larger key
pub block_keys_ascend : (m a b : ℕ) → a < b → b < 4 ^ summary_level m → block_key m a < block_key m b
unfolding block_key
block_keys_ascend m a b h i = below_ascend (summary_height m) (summary_level m) a b h i
