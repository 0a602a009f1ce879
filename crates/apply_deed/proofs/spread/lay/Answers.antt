-- `lay` meets its contract, kind by kind.
use native.Mathlib.Omega.{arith}
use Rattle.apply_deed.proofs.LaidContent.{laid_apart, laid_leaf, laid_content, laid_cut}
use Rattle.apply_deed.proofs.spread.lay.Goals as goal

pub overflow_sub-place : goal.overflow_sub-place
overflow_sub-place c = let f = c.requires.fits _ _ c.in-Content.is in f.low

pub overflow_add-first : goal.overflow_add-first
overflow_add-first c = let f = c.requires.fits _ _ c.in-Content.is in record { fits = omega (arith, f.some, f.low, f.in_keys, c.well_formed) }

pub overflow_add-start : goal.overflow_add-start
overflow_add-start c = let f = c.requires.fits _ _ c.in-Content.is in record { fits = omega (arith, f.some, f.from_keys, c.well_formed) }

pub overflow_sub-count : goal.overflow_sub-count
overflow_sub-count c = let f = c.requires.fits _ _ c.in-Content.is in f.some

pub copy-requires : goal.copy-requires
copy-requires c = let f = c.requires.fits _ _ c.in-Content.is in (omega (arith, f.some, f.from_keys), omega (arith, f.some, f.low, f.in_keys))

pub overflow_add-start-in-Content : goal.overflow_add-start-in-Content
overflow_add-start-in-Content c = let f = c.requires.fits _ _ c.in-Content.is in record { fits = omega (arith, f.some, f.from_keys, c.well_formed) }

pub overflow_sub-count-in-Content : goal.overflow_sub-count-in-Content
overflow_sub-count-in-Content c = let f = c.requires.fits _ _ c.in-Content.is in f.some

pub copy-requires-in-Content : goal.copy-requires-in-Content
copy-requires-in-Content c = let f = c.requires.fits _ _ c.in-Content.is in (omega (arith, f.some, f.from_values), omega (arith, f.some, f.low, f.in-bits))

pub offset_bounds-log_values-start : goal.offset_bounds-log_values-start
offset_bounds-log_values-start c = let f = c.requires.fits _ _ c.in-Content.is in record { fits = omega (arith, f.some, f.from_values, c.well_formed) }

pub bounds-log_values-start : goal.bounds-log_values-start
bounds-log_values-start c = let f = c.requires.fits _ _ c.in-Content.is in omega (arith, f.some, f.from_values)

pub returns-in-Apart : goal.returns-in-Apart
returns-in-Apart c = laid_apart _ _ _ _ _ _ c.in-Apart.is c.saturating_sub-alone.ensures

pub returns-in-Leaf : goal.returns-in-Leaf
returns-in-Leaf c = laid_leaf _ _ _ _ _ _ c.in-Leaf.is c.saturating_sub-alone.ensures

pub returns-in-Content : goal.returns-in-Content
returns-in-Content c = laid_content _ _ _ _ _ _ c.in-Content.is c.copy.ensures c.copy-in-Content.ensures

pub returns-in-Cut : goal.returns-in-Cut
returns-in-Cut c = laid_cut _ _ _ _ _ _ c.in-Cut.is
