-- `write::write_bit_strings`: each way out answers what the definition does there. Rests on WriteAnswers.
use Rattle.std.proofs.Common.{ℕ, Bool, true, false, ◌||◌, ◌≡◌, ◌<◌, ◌≤◌, ◌+◌, ◌-◌, ◌/◌, length, refl, ◌∙◌, ap, ap₂}
use borrow.Author.Tests.{lt-ltb, le-ltb}
use lib.Dec.{ltb}
use Rattle.definitions.specs.Buffer.{over}
use Rattle.definitions.specs.BitStrings.{packed_in}
use Rattle.definitions.proofs.Refused.{refusal_some}
use Rattle.bit_strings.specs.Strings.{string_of}
use Rattle.bit_strings.proofs.WriteAnswers.{refused_early, too_short, all_written}
use Rattle.bit_strings.proofs.write.write_bit_strings.Goals as goal
use Rattle.bit_strings.proofs.write.write_bit_strings.Goals.{then-nodes-node_bytes-via-then-nodes-node_bytes, then-nodes-node_bytes-via-else-nodes-node_bytes+then-leaves-leaf_bytes}

-- one of two slices is too short, or neither
short_first : (a least : ℕ) (second : Bool) → a < least → (ltb a least || second) ≡ true
short_first a least second h = ap (λ t. t || second) (lt-ltb a least h)

short_second : (first : Bool) (b least : ℕ) → b < least → (first || ltb b least) ≡ true
short_second true b least h = refl
short_second false b least h = lt-ltb b least h

long_both : (a least b fewest : ℕ) → least ≤ a → fewest ≤ b → (ltb a least || ltb b fewest) ≡ false
long_both a least b fewest h k = ap₂ (λ s t. s || t) (le-ltb a least h) (le-ltb b fewest k)

pub returns-in-Err : goal.returns-in-Err
returns-in-Err c =
    let h = refused_early _ _ _ _ _ _ _ _ c.in-Err.ensures.told (refusal_some _) in
    record { value = rw c.into.ensures h.0; nodes_after = h.1.0; leaves_after = h.1.1 }

pub returns-then-nodes-node_bytes : goal.returns-then-nodes-node_bytes
returns-then-nodes-node_bytes c =
    let short : (ltb (length c.args.nodes.now) ((c.args.n + 7) / 8) || ltb (length c.args.leaves.now) ((c.args.n - c.args.n / 4 + 7) / 8)) ≡ true =
    elim c.then-nodes-node_bytes.branch [
      | then-nodes-node_bytes-via-then-nodes-node_bytes w ↦ short_first _ _ _ w.if-nodes-node_bytes.true
      | then-nodes-node_bytes-via-else-nodes-node_bytes+then-leaves-leaf_bytes w ↦ short_second _ _ _ w.if-leaves-leaf_bytes.true
    ] in
    let h = too_short _ _ _ _ _ _ _ c.in-Ok.ensures.told short in
    record { value = rw c.into-then-nodes-node_bytes.ensures h.0; nodes_after = h.1.0; leaves_after = h.1.1 }

pub returns : goal.returns
returns c =
    let same = c.in-Ok.ensures.list.bits_taken in
    let h = all_written _ _ _ _ _ _ _ c.in-Ok.ensures.told _ _ (long_both _ _ _ _ c.if-nodes-node_bytes.false c.if-leaves-leaf_bytes.false)
    (c.pack.ensures ∙ ap (λ l. over (packed_in ((c.args.n + 7) / 8) (string_of false l)) c.args.nodes.now) same)
    (c.pack-2.ensures ∙ ap (λ l. over (packed_in ((c.args.n - c.args.n / 4 + 7) / 8) (string_of true l)) c.args.leaves.now) same) in
    record { value = h.0; nodes_after = h.1.0; leaves_after = h.1.1 }
