-- `known` meets its contract, kind by kind.
use mathlib.Core.Path.{sym, ap}
use native.Mathlib.Omega.{arith}
use Rattle.apply_deed.specs.Passes.{known_of}
use Rattle.apply_deed.proofs.tally.known.Goals as goal

pub offset_bounds-log_values-start : goal.offset_bounds-log_values-start
offset_bounds-log_values-start c = let s = c in let h = c.requires.starts _ _ c.in-Content.is in record { fits = omega (arith, h, c.well_formed) }

pub bounds-log_values-start : goal.bounds-log_values-start
bounds-log_values-start c = let h = c.requires.starts _ _ c.in-Content.is in omega (arith, h)

pub returns-in-Apart : goal.returns-in-Apart
returns-in-Apart c = let a = c.args in sym (ap (λ x. known_of x a.own a.records a.log_values.now) c.in-Apart.is)

pub returns-in-Leaf : goal.returns-in-Leaf
returns-in-Leaf c = let a = c.args in sym (ap (λ x. known_of x a.own a.records a.log_values.now) c.in-Leaf.is)

pub returns-in-Content : goal.returns-in-Content
returns-in-Content c = let a = c.args in sym (ap (λ x. known_of x a.own a.records a.log_values.now) c.in-Content.is)

pub returns-in-Cut : goal.returns-in-Cut
returns-in-Cut c = let a = c.args in sym (ap (λ x. known_of x a.own a.records a.log_values.now) c.in-Cut.is)
