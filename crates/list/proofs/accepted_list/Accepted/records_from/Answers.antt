-- `Accepted::records_from` meets its contract: the root has all records; one slot is a leaf's one record, and a node of four pixels has five; else the records
-- end with the keys of the block's interval. Rests on Own, Fuller, Taken and Searched.
use mathlib.Core.Path.{sym, ◌∙◌}
use native.Mathlib.Omega.{arith}
use Rattle.list.proofs.Own.{own_ascends}
use Rattle.list.proofs.Searched.{count_of_first}
use Rattle.list.proofs.Taken.{block_listed}
use Rattle.list.proofs.Fuller.{step_fits, in-bits, near_later, root_records, leaf_records, pixels_records, ends_after, node_records}
use Rattle.list.proofs.accepted_list.Accepted.records_from.Goals as goal

pub returns-then-key-eq-ROOT : goal.returns-then-key-eq-ROOT
returns-then-key-eq-ROOT c = root_records (block_listed c.args.self.now _ c.requires.0) _ c.requires.3 c.requires.2 c.if-key-eq-ROOT.true

pub offset_bounds-self-place : goal.offset_bounds-self-place
offset_bounds-self-place c = omega (arith, in-bits (block_listed c.args.self.now _ c.requires.0) _ c.requires.3, c.well_formed)

pub bounds-self-place : goal.bounds-self-place
bounds-self-place c = in-bits (block_listed c.args.self.now _ c.requires.0) _ c.requires.3

pub returns-then-has_one_slot : goal.returns-then-has_one_slot
returns-then-has_one_slot c =
    leaf_records (block_listed c.args.self.now _ c.requires.0) _ c.requires.3 c.requires.2 (sym c.has_one_slot.ensures ∙ c.if-has_one_slot.true)

pub returns-then-step-eq5 : goal.returns-then-step-eq5
returns-then-step-eq5 c =
    pixels_records (block_listed c.args.self.now _ c.requires.0) _ c.requires.3 c.requires.2 (sym c.has_one_slot.ensures ∙ c.if-has_one_slot.false) _ c.requires.1 c.if-step-eq5.true

pub overflow_sub-step : goal.overflow_sub-step
overflow_sub-step c = let h = step_fits (block_listed c.args.self.now _ c.requires.0) _ c.requires.1 in omega arith

pub overflow_add-key : goal.overflow_add-key
overflow_add-key c = let h = step_fits (block_listed c.args.self.now _ c.requires.0) _ c.requires.1 in record { fits = omega arith }

pub up_to_from-requires : goal.up_to_from-requires
up_to_from-requires c =
    (own_ascends c.args.self.now.own, near_later (block_listed c.args.self.now _ c.requires.0) _ c.requires.3 _ (omega arith))

pub overflow_sub-result : goal.overflow_sub-result
overflow_sub-result c =
    ends_after (block_listed c.args.self.now _ c.requires.0) _ c.requires.3 c.requires.2 _ c.requires.1 _ (count_of_first _ _ _ c.up_to_from.ensures)

pub returns : goal.returns
returns c =
    node_records (block_listed c.args.self.now _ c.requires.0) _ c.requires.3 c.requires.2 _ c.requires.1 _ (count_of_first _ _ _ c.up_to_from.ensures)
