-- One string of a list, bit by bit and byte by byte: what the code picks is the string of the definitions. Rests on the laws of lists.
use Prim.Native.Nat.{ℕ, ◌+◌, ◌*◌, ◌/◌, ◌%◌, ◌^◌, ◌<◌}
use mathlib.Core.Path.{◌≡◌, refl, sym, ap, ◌∙◌}
use mathlib.Core.Bool.{Bool, true, false, cond}
use mathlib.Core.List.{List, [], ◌∷◌}
use native.Mathlib.Nat.{mod-lt}
use native.Mathlib.Numerals.{add-one}
use native.Mathlib.Omega.{arith}
use lib.ListN.{length, get_or, drop}
use lib.Seq.{drop-cons, drop-length}
use lib.Dec.{eqb}
use lib.Arith.{mod-mul}
use borrow.Author.Tests.{eq-eqb, ne_eqb, eqb-true}
use Rattle.keys.proofs.Cases.{same_test, and_left, and_right, and_both}
use Rattle.definitions.specs.Bits.{has_slot}
use Rattle.definitions.specs.BitStrings.{is_inner}
use Rattle.bit_strings.specs.Strings.{bit_of, string_of, Picked}
use Rattle.bit_strings.proofs.NextBit.{no_digit, told_one}

-- both slots are set exactly where the last two bits are
pub inner_is : (v : ℕ) → is_inner v ≡ eqb (v % 4) 3
unfolding is_inner
inner_is v =
    let parts : v % 4 ≡ (v / 2 % 2) * 2 + v % 2 = mod-mul v {m = 2} {c = 2} (omega arith) (omega arith) in
    let first : v / 2 ^ 0 % 2 ≡ v % 2 = omega arith in
    let low = mod-lt v {m = 2} (omega arith) in
    let high = mod-lt (v / 2) {m = 2} (omega arith) in
    same_test (is_inner v) (eqb (v % 4) 3)
    (λ e. let a = eqb-true (v / 2 ^ 0 % 2) 1 (and_left (has_slot v 0) (has_slot v 1) e) in
    let b : v / 2 % 2 ≡ 1 = eqb-true (v / 2 ^ 1 % 2) 1 (and_right (has_slot v 0) (has_slot v 1) e) in
    eq-eqb (v % 4) 3 (omega arith))
    (λ e. let a = eqb-true (v % 4) 3 e in
    let b : v / 2 % 2 ≡ 1 = omega arith in
    and_both (has_slot v 0) (has_slot v 1) (eq-eqb (v / 2 ^ 0 % 2) 1 (omega arith)) (eq-eqb (v / 2 ^ 1 % 2) 1 b))

module _ (leaves : Bool) (v : ℕ) where
  pub node_inner : leaves ≡ false → eqb (v % 4) 3 ≡ true → 0 ≡ bit_of leaves v
  unfolding bit_of
  node_inner n e = sym (rw (n, inner_is v, e) refl)

  pub node_leaf : leaves ≡ false → eqb (v % 4) 3 ≡ false → 1 ≡ bit_of leaves v
  unfolding bit_of
  node_leaf n e = sym (rw (n, inner_is v, e) refl)

  pub leaf_none : leaves ≡ true → eqb (v % 4) 3 ≡ true → 2 ≡ bit_of leaves v
  unfolding bit_of
  leaf_none n e = sym (rw (n, inner_is v, e) refl)

  pub leaf_some : leaves ≡ true → eqb (v % 4) 3 ≡ false → cond (eqb (v / 2 % 2) 1) 1 0 ≡ bit_of leaves v
  unfolding bit_of
  leaf_some n e = sym (rw (n, inner_is v, e) refl)

-- a record without a bit is passed
pub string_skip : (leaves : Bool) (v : ℕ) (l : List ℕ) → bit_of leaves v ≡ 2 → string_of leaves (v ∷ l) ≡ string_of leaves l
unfolding string_of
string_skip leaves v l e = rw (eq-eqb (bit_of leaves v) 2 e) refl

pub string_bit : (leaves : Bool) (v : ℕ) (l : List ℕ) → (bit_of leaves v ≡ 2 → ⊥) → string_of leaves (v ∷ l) ≡ eqb (bit_of leaves v) 1 ∷ string_of leaves l
unfolding string_of
string_bit leaves v l e = rw (ne_eqb (bit_of leaves v) 2 e) refl

string_none : (leaves : Bool) → string_of leaves [] ≡ []
unfolding string_of
string_none leaves = refl

-- from a place on
abbrev pub string_from : Bool → List ℕ → ℕ → List Bool
string_from leaves values at = string_of leaves (drop at values)

module _ (leaves : Bool) (values : List ℕ) (at place : ℕ) (so_far : string_from leaves values place ≡ string_from leaves values at) where
  here : place < length values → drop place values ≡ get_or values place 0 ∷ drop (place + 1) values
  here h = drop-cons values place 0 h ∙ ap (λ k. get_or values place 0 ∷ drop k values) (sym (add-one place))

  pub pick_skip : place < length values → 2 ≡ bit_of leaves (get_or values place 0)
      → string_from leaves values (place + 1) ≡ string_from leaves values at
  pick_skip h two =
      sym (ap (string_of leaves) (here h) ∙ string_skip leaves (get_or values place 0) (drop (place + 1) values) (sym two)) ∙ so_far

  pub pick_bit : (bit : Bool) → place < length values → cond bit 1 0 ≡ bit_of leaves (get_or values place 0)
      → Picked leaves values at (record { bit = bit; after = place + 1 })
  pick_bit bit h e =
      let v = get_or values place 0 in
      let string : string_from leaves values at ≡ bit ∷ string_from leaves values (place + 1) =
      sym so_far
      ∙ ap (string_of leaves) (here h)
      ∙ string_bit leaves v (drop (place + 1) values) (λ two. no_digit bit (sym (e ∙ two)))
      ∙ ap (λ b. b ∷ string_from leaves values (place + 1)) (told_one bit (bit_of leaves v) e) in
      record {
        inside = omega arith;
        bit_is = ap (λ l. get_or l 0 false) (sym string);
        rest = ap (drop 1) (sym string);
      }

  pub pick_end : place ≡ length values → Picked leaves values at (record { bit = false; after = length values })
  pick_end same =
      let end : string_from leaves values (length values) ≡ [] = ap (string_of leaves) (drop-length values) ∙ string_none leaves in
      let string : [] ≡ string_from leaves values at = sym end ∙ ap (string_from leaves values) (sym same) ∙ so_far in
      record {
        inside = omega arith;
        bit_is = ap (λ l. get_or l 0 false) string;
        rest = end ∙ ap (drop 1) string;
      }
