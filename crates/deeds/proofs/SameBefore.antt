-- A step does before any key what it does itself. Rests on the definitions alone.
use Prim.Native.Nat.{ℕ}
use mathlib.Core.Path.{refl}
use Rattle.deeds.specs.Step.{Step}
use Rattle.deeds.specs.Deed.{SameBefore}

pub same_itself : (m past : ℕ) (t : Step) → SameBefore m past t t
same_itself m past t = record { touches = λ row column h. refl; gives = λ row column h. refl }
