-- `measure::number_of` meets its contract: both digits are 1 to 4.
use mathlib.Core.Path.{refl}
use native.Mathlib.Omega.{arith}
use Rattle.area.specs.Number.{summary_number}
use Rattle.area.proofs.NumberOf.{digits_in}
use Rattle.area.proofs.measure.number_of.Goals as goal

pub nonzero_div-digits : goal.nonzero_div-digits
nonzero_div-digits c = let d = digits_in c.requires.1 c.requires.2 in omega arith

pub overflow_sub-result : goal.overflow_sub-result
overflow_sub-result c = let d = digits_in c.requires.1 c.requires.2 in omega arith

pub overflow_sub-result-2 : goal.overflow_sub-result-2
overflow_sub-result-2 c = let d = digits_in c.requires.1 c.requires.2 in omega arith

pub returns : goal.returns
unfolding summary_number
returns c = let d = digits_in c.requires.1 c.requires.2 in (refl, omega arith)
