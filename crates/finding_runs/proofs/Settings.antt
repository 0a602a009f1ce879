-- Good settings: at most ten levels and at most sixteen slots. Rests on the definitions alone.
use Prim.Native.Nat.{ℕ, ◌≤◌}
use mathlib.Core.Path.{◌≡◌, refl}
use mathlib.Core.Bool.{Bool, true, false, ◌||◌}
use lib.Dec.{ltb, eqb}
use borrow.Author.Tests.{ltb-false}
use Rattle.keys.specs.Key.{deepest_level, slot_limit}
use Rattle.definitions.specs.Refusal.{bad_settings}

-- where neither of two tests holds
neither : (a b : Bool) → a || b ≡ false → (a ≡ false) × (b ≡ false)
neither true b e = (e, let z : true ≡ false = e in absurd (mathlib.Core.Bool.true≢false z))
neither false b e = (refl, e)

pub good_level : (m s : ℕ) → bad_settings m s ≡ false → m ≤ 10
unfolding bad_settings
good_level m s e = ltb-false deepest_level m (neither (ltb deepest_level m) (eqb s 0 || ltb slot_limit s) e).0

pub good_slots : (m s : ℕ) → bad_settings m s ≡ false → s ≤ slot_limit
unfolding bad_settings
good_slots m s e = ltb-false slot_limit s (neither (eqb s 0) (ltb slot_limit s) (neither (ltb deepest_level m) (eqb s 0 || ltb slot_limit s) e).1).1
