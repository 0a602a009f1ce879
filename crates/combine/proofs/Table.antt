-- The table of classes: refusal 25 by the tests of the code, and that two classes of a block have a place in the table. Rests on laws' Within and Features.
use Prim.Native.Nat.{ℕ, ◌+◌, ◌*◌, ◌<◌}
use mathlib.Core.Path.{◌≡◌}
use mathlib.Core.Bool.{true}
use mathlib.Core.List.{List}
use native.Mathlib.Omega.{arith}
use lib.Arith.{digits_lt}
use lib.ListN.{length}
use borrow.Author.Tests.{eq-eqb, ne_eqb}
use Rattle.keys.specs.Key.{slot_limit}
use Rattle.definitions.specs.Picture.{Picture}
use Rattle.definitions.specs.Refusal.{bad_pixel}
use Rattle.definitions.specs.Combine.{class_of, bad_class_table}
use Rattle.laws.proofs.Within.{first_within}
use Rattle.laws.proofs.Features.{below_to}
use Rattle.combine.specs.Combining.{Named}

module _ (s₁ s₂ s₃ : ℕ) (table : List ℕ) where
  pub table_short : (length table ≡ s₁ * s₂ → ⊥) → true ≡ bad_class_table s₁ s₂ s₃ table
  unfolding bad_class_table
  table_short h = rw (ne_eqb (length table) (s₁ * s₂) h)

  pub table_long : length table ≡ s₁ * s₂ → bad_pixel s₃ table ≡ bad_class_table s₁ s₂ s₃ table
  unfolding bad_class_table
  table_long e = rw (eq-eqb (length table) (s₁ * s₂) e)

module _ {p q : Picture} {k r c : ℕ} {table : List ℕ} {s₂ : ℕ} (n : Named p q k r c table s₂) where
  -- the classes of the block's first pixel
  pub named_place : p r c * s₂ + q r c < length table
  named_place =
      let a = below_to n.slots p k r c n.firsts r c (first_within k r c) in
      let b = below_to s₂ q k r c n.seconds r c (first_within k r c) in
      let d = digits_lt a b in
      omega (arith, n.long)

  pub named_class : class_of table s₂ (p r c) (q r c) < slot_limit
  named_class = n.classes (p r c * s₂ + q r c)
