-- Records laid over two slices keep the room. Rests on the laws of lists.
use Prim.Native.Nat.{ℕ, ◌≤◌}
use mathlib.Core.Path.{◌≡◌}
use mathlib.Core.List.{List}
use native.Mathlib.Omega.{arith}
use lib.ListN.{length, length-map, length-append, drop}
use Rattle.definitions.specs.List.{Record, keys_of, values_of}
use Rattle.definitions.specs.Read.{room}
use Rattle.definitions.specs.Buffer.{over}

-- what has room keeps it
pub over_room : (l : List Record) (n : ℕ) (keys bits : List ℕ) → length l ≡ n → n ≤ room keys bits → n ≤ room (over (keys_of l) keys) (over (values_of l) bits)
over_room l n keys bits e h =
    let ks = length-map l (λ x. x.key) in
    let vs = length-map l (λ x. x.value) in
    let a = length-append (keys_of l) (drop (length (keys_of l)) keys) in
    let b = length-append (values_of l) (drop (length (values_of l)) bits) in
    omega arith
