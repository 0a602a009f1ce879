-- `read::read_bit_strings`: each way out answers what the definition does there. Rests on ReadAnswers.
use Rattle.std.proofs.Common.{sym, ◌∙◌, arith}
use borrow.Author.Tests.{lt-ltb, le-ltb}
use Rattle.list.proofs.Tests.{good_settings}
use Rattle.bit_strings.proofs.ReadAnswers.{bad-settings, not_two, refused_pair, no_room, fitting, all_read}
use Rattle.bit_strings.proofs.read.read_bit_strings.Goals as goal

pub returns-then-are_bad : goal.returns-then-are_bad
returns-then-are_bad c =
    let h = bad-settings _ _ _ _ _ _ (sym c.are_bad.ensures ∙ c.if-are_bad.true) in
    record { value = h.0; keys_after = h.1.0; bits_after = h.1.1 }

pub returns-then-s-ne2 : goal.returns-then-s-ne2
returns-then-s-ne2 c =
    let h = not_two _ _ _ _ _ _ (sym c.are_bad.ensures ∙ c.if-are_bad.false) c.if-s-ne2.true in
    record { value = h.0; keys_after = h.1.0; bits_after = h.1.1 }

pub count_records-requires : goal.count_records-requires
count_records-requires c = (good_settings _ _ (sym c.are_bad.ensures ∙ c.if-are_bad.false)).deep

pub returns-in_default : goal.returns-in_default
returns-in_default c =
    let h = refused_pair _ _ _ _ _ _ (sym c.are_bad.ensures ∙ c.if-are_bad.false) c.if-s-ne2.false c.in_default.ensures in
    record { value = h.0; keys_after = h.1.0; bits_after = h.1.1 }

pub returns-then-min-n : goal.returns-then-min-n
returns-then-min-n c =
    let h = no_room _ _ _ _ _ _ (sym c.are_bad.ensures ∙ c.if-are_bad.false) c.if-s-ne2.false _ c.in-Some.ensures (lt-ltb _ _ (omega arith)) in
    record { value = h.0; keys_after = h.1.0; bits_after = h.1.1 }

pub fill-requires : goal.fill-requires
fill-requires c =
    fitting _ _ _ _ _ _ (sym c.are_bad.ensures ∙ c.if-are_bad.false) c.if-s-ne2.false _ c.in-Some.ensures (le-ltb _ _ (omega arith))

pub returns : goal.returns
returns c =
    let h = all_read _ _ _ _ _ _ (sym c.are_bad.ensures ∙ c.if-are_bad.false) c.if-s-ne2.false _ c.in-Some.ensures (le-ltb _ _ (omega arith)) _ _ c.fill.ensures.keys_after c.fill.ensures.bits_after in
    record { value = h.0; keys_after = h.1.0; bits_after = h.1.1 }
