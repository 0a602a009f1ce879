-- `calls::part`: the span that was found lies within the key slice, and names the part and where it starts.
use Prim.Native.Nat.{◌+◌, ◌*◌}
use mathlib.Core.Path.{refl, ap, ◌∙◌}
use native.Mathlib.Nat.{add_comm}
use native.Mathlib.Omega.{arith}
use Rattle.read.proofs.Answers.{span_within, span_part}
use Rattle.read.proofs.calls.part.Goals as goal

pub overflow_add-end : goal.overflow_add-end
overflow_add-end c = let h = span_within _ _ _ _ _ _ _ c.part_span-span.ensures in omega (arith, c.well_formed)

pub offset_bounds-keys-start : goal.offset_bounds-keys-start
offset_bounds-keys-start c = let h = span_within _ _ _ _ _ _ _ c.part_span-span.ensures in omega (arith, c.well_formed)

pub returns : goal.returns
returns c =
    record {
      result_value = span_part _ _ _ _ _ _ _ c.part_span-span.ensures;
      ref_ptr_value = (refl, add_comm _ _ ∙ ap (λ x. c.args.keys.ref_ptr.1 + x.start * 4) c.part_span-span.ensures);
    }

pub slice_bounds-result-end : goal.slice_bounds-result-end
slice_bounds-result-end c = let h = span_within _ _ _ _ _ _ _ c.part_span-span.ensures in omega arith
