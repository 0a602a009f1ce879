-- `slots_below` meets its contract: from s = 32 on every number of 32 bits is below the power.
use Prim.Native.Nat.{◌^◌, ◌≤◌}
use mathlib.Core.Path.{sym, ◌∙◌}
use native.Mathlib.Omega.{arith}
use lib.Pow.{pow_mono}
use borrow.Author.Tests.{lt-ltb}
use Rattle.keys.proofs.power.slots_below.Goals as goal

pub returns-then-s-gt31 : goal.returns-then-s-gt31
returns-then-s-gt31 c =
    let h : 2 ^ 32 ≤ 2 ^ c.args.s = pow_mono {i = 32} {j = c.args.s} (omega arith) in
    lt-ltb 31 c.args.s c.if-s-gt31.true ∙ sym (lt-ltb c.args.bits (2 ^ c.args.s) (omega arith))
