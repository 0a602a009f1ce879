-- `fill::fill`: each turn writes the next record. Rests on Filling.
use Rattle.std.proofs.Common.{sym, ◌∙◌, ap, arith}
use Rattle.bit_strings.specs.Steps.{bit_told}
use Rattle.bit_strings.proofs.NextBit.{byte_digit, found_some}
use Rattle.bit_strings.proofs.Filling.{filling_start, next, filling_turn}
use Rattle.bit_strings.proofs.fill.fill.Goals as goal

pub loop-i-init : goal.loop-i-init
loop-i-init c = filling_start _ _ _ _ _ _

pub unwrap-requires : goal.unwrap-requires
unwrap-requires c = found_some _ _ c.bit_at.ensures (next c.loop-i.invariant c.requires (omega arith)).digit

pub key_after-key-requires : goal.key_after-key-requires
key_after-key-requires c = (c.requires.deep, (next c.loop-i.invariant c.requires (omega arith)).inside)

pub loop-i-preserved : goal.loop-i-preserved
loop-i-preserved c =
    let leaf_is = c.from-leaf.ensures ∙ byte_digit c.unwrap.result ∙ sym (ap bit_told c.unwrap.ensures) ∙ c.bit_at.ensures in
    filling_turn c.loop-i.invariant c.requires (omega arith) _ _ _ leaf_is c.value_at.ensures c.key_after-key.ensures
