-- The loop that counts the records of a pair: what is left decides as the whole does. Rests on Passing.
use Prim.Native.Nat.{ℕ, ◌+◌, ◌*◌, ◌^◌, ◌≤◌, ◌<◌}
use mathlib.Core.Path.{◌≡◌, refl, sym, ap, ◌∙◌}
use Rattle.std.specs.Prelude.{Some, None}
use mathlib.Core.Bool.{Bool, true, false, cond, not, ◌&&◌, ◌||◌}
use mathlib.Core.Logic.{⊎_elim}
use mathlib.Core.List.{List}
use native.Mathlib.Omega.{arith}
use lib.ListN.{length, drop}
use lib.Seq.{drop-drop}
use lib.Dec.{leb}
use Rattle.definitions.specs.BitStrings.{bits_in, any_set, is_whole, left_over, reading, records_from, is_pair, records_of_pair}
use Rattle.definitions.specs.BitStrings.{runs_on, spare_bit_set, whole}
use Rattle.bit_strings.specs.Steps.{is_spare, passed, pair_length}
use Rattle.bit_strings.specs.declared.next.AfterBlock.{AfterBlock}
use Rattle.bit_strings.proofs.NextBit.{drop-on, digit_most}
use Rattle.bit_strings.proofs.Passing.{GoesOn, step, reading_past, records_past}

by_tests : (a b x y : Bool) → is_whole (cond (a || b) runs_on (cond (x || y) spare_bit_set whole)) ≡ (not a && not x) && (not b && not y)
unfolding is_whole
by_tests true b x y = refl
by_tests false true true y = refl
by_tests false true false y = refl
by_tests false false true y = refl
by_tests false false false true = refl
by_tests false false false false = refl

-- what is left over may be, exactly where both strings have spare bits alone
pub left_spare : (ns ls : List Bool) → is_whole (left_over ns ls) ≡ is_spare ns && is_spare ls
unfolding left_over is_spare
left_spare ns ls = by_tests (leb 8 (length ns)) (leb 8 (length ls)) (any_set ns) (any_set ls)

-- i blocks are read, j of them leaves, and the next one has the given key
pub record CountedPair (m : ℕ) (nodes leaves : List ℕ) (key i j : ℕ) : Type 0 where
  pub below : i ≤ key
  pub fewer : j ≤ i
  pub near : key ≤ 2 * 5 ^ m
  pub read : is_whole (reading m key (drop i (bits_in nodes)) (drop j (bits_in leaves))) ≡ is_pair m nodes leaves
  pub records : i + length (records_from m key (drop i (bits_in nodes)) (drop j (bits_in leaves))) ≡ length (records_of_pair m nodes leaves)

pub counting_start : (m : ℕ) (nodes leaves : List ℕ) → CountedPair m nodes leaves 0 0 0
unfolding is_pair records_of_pair
counting_start m nodes leaves = record { below = omega arith; fewer = omega arith; near = omega arith; read = refl; records = omega arith }

count_none : (m : ℕ) (nodes leaves : List ℕ) → is_pair m nodes leaves ≡ false → None ≡ pair_length m nodes leaves
unfolding pair_length
count_none m nodes leaves e = sym (ap (λ b. cond b (Some (length (records_of_pair m nodes leaves))) None) e)

count_some : (m : ℕ) (nodes leaves : List ℕ) (n : ℕ) → is_pair m nodes leaves ≡ true → n ≡ length (records_of_pair m nodes leaves) → Some n ≡ pair_length m nodes leaves
unfolding pair_length
count_some m nodes leaves n e f = ap Some f ∙ sym (ap (λ b. cond b (Some (length (records_of_pair m nodes leaves))) None) e)

module _ (m : ℕ) (nodes leaves : List ℕ) (key i j : ℕ) (c : CountedPair m nodes leaves key i j) where
  module _ (inside : key < 5 ^ m) where
    pub counting_stuck : None ≡ passed m key (drop i (bits_in nodes)) (drop j (bits_in leaves)) → None ≡ pair_length m nodes leaves
    counting_stuck is =
        ⊎_elim
        (λ s. count_none m nodes leaves (sym c.read ∙ s.refused))
        (λ g. absurd (let h = is ∙ g.somewhere in cc))
        (step m key (drop i (bits_in nodes)) (drop j (bits_in leaves)) inside)

    module _ (p : AfterBlock) (is : Some p ≡ passed m key (drop i (bits_in nodes)) (drop j (bits_in leaves))) where
      pub counting_on : GoesOn m key (drop i (bits_in nodes)) (drop j (bits_in leaves)) p
      counting_on =
          ⊎_elim
          (λ s. absurd (let h = is ∙ s.nowhere in cc))
          (λ g. let h = is ∙ g.somewhere in let same : p ≡ g.block = cc in rw same g.on)
          (step m key (drop i (bits_in nodes)) (drop j (bits_in leaves)) inside)

      pub counting_turn : (k : ℕ) → k ≡ cond p.leaf 1 0 → CountedPair m nodes leaves p.key (i + 1) (j + k)
      counting_turn k k-is =
          let g = counting_on in
          let b = g.beyond in
          let f = c.below in
          let o = digit_most p.leaf in
          let w = c.fewer in
          let r = c.records in
          let q : length (records_from m key (drop i (bits_in nodes)) (drop j (bits_in leaves))) ≡ 1 + length (records_from m p.key (drop 1 (drop i (bits_in nodes))) (drop k (drop j (bits_in leaves)))) = rw k-is g.records in
          let n = g.near in
          let nodes-on = drop-on (bits_in nodes) i in
          let leaves-on : drop k (drop j (bits_in leaves)) ≡ drop (j + k) (bits_in leaves) = drop-drop k j (bits_in leaves) in
          let rest : records_from m p.key (drop 1 (drop i (bits_in nodes))) (drop k (drop j (bits_in leaves))) ≡ records_from m p.key (drop (i + 1) (bits_in nodes)) (drop (j + k) (bits_in leaves)) =
          λ t. records_from m p.key (nodes-on t) (leaves-on t) in
          let many = ap length rest in
          record {
            below = omega arith;
            fewer = omega arith;
            near = omega arith;
            read = sym (g.read ∙ ap (λ d. is_whole (reading m p.key (drop 1 (drop i (bits_in nodes))) (drop d (drop j (bits_in leaves))))) (sym k-is) ∙ (λ t. is_whole (reading m p.key (nodes-on t) (leaves-on t)))) ∙ c.read;
            records = omega arith;
          }

  module _ (past : 5 ^ m ≤ key) where
    left : is_spare (drop i (bits_in nodes)) && is_spare (drop j (bits_in leaves)) ≡ is_pair m nodes leaves
    left =
        sym (ap is_whole (reading_past m key (drop i (bits_in nodes)) (drop j (bits_in leaves)) past) ∙ left_spare (drop i (bits_in nodes)) (drop j (bits_in leaves)))
        ∙ c.read

    pub counting_nodes : is_spare (drop i (bits_in nodes)) ≡ false → None ≡ pair_length m nodes leaves
    counting_nodes e = count_none m nodes leaves (sym left ∙ ap (λ b. b && is_spare (drop j (bits_in leaves))) e)

    module _ (first : is_spare (drop i (bits_in nodes)) ≡ true) where
      pub counting_leaves : is_spare (drop j (bits_in leaves)) ≡ false → None ≡ pair_length m nodes leaves
      counting_leaves e = count_none m nodes leaves (sym left ∙ ap (λ b. b && is_spare (drop j (bits_in leaves))) first ∙ e)

      pub counting_end : is_spare (drop j (bits_in leaves)) ≡ true → Some i ≡ pair_length m nodes leaves
      counting_end e =
          let none = ap length (records_past m key (drop i (bits_in nodes)) (drop j (bits_in leaves)) past) in
          let r = c.records in
          count_some m nodes leaves i (sym left ∙ ap (λ b. b && is_spare (drop j (bits_in leaves))) first ∙ e) (omega arith)
