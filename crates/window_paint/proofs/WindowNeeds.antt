-- What the entries of a window's largest blocks need, none, one block's, and those of the quadrants together. Rests on WindowEntries and edit's ContentLength.
use Prim.Native.Nat.{ℕ, ◌+◌, ◌≤◌, ◌<◌}
use mathlib.Core.Path.{◌≡◌, sym, ◌∙◌, ap}
use mathlib.Core.Bool.{true, false}
use mathlib.Core.List.{List, [], ◌∷◌, ◌++◌}
use native.Mathlib.Omega.{arith}
use lib.ListN.{length, length-append}
use Rattle.keys.specs.Key.{valid_key}
use Rattle.keys.specs.Child.{child_of, InMap}
use Rattle.keys.specs.declared.block.TreeBlock.{TreeBlock}
use Rattle.keys.proofs.Powers.{five_le}
use Rattle.definitions.specs.Picture.{Picture}
use Rattle.definitions.specs.Read.{records_of}
use Rattle.definitions.specs.Standing.{part_length}
use Rattle.definitions.specs.Window.{is_inside}
use Rattle.definitions.specs.declared.Window.{Window}
use Rattle.definitions.specs.Log.{closing_places, entries_of}
use Rattle.definitions.specs.Calls.Paint.{gained}
use Rattle.list.specs.Own.{OwnList, shown_by}
use Rattle.window_paint.specs.WindowLogging.{largest_in, NeededFor}
use Rattle.edit.proofs.ContentLength.{gained_size}
use Rattle.window_paint.proofs.WindowEntries.{largest_cut, entries_none, entries_one, entries_four, entries_more, entries_few}

pub needs_none : (m : ℕ) (p : Picture) {blocks : List ℕ} → blocks ≡ [] → NeededFor m p blocks 0 0
needs_none m p {blocks} e = record {
  number_is = sym (ap length e);
  places_are = λ f. sym (ap length (ap (λ l. entries_of m p l f) e ∙ entries_none m p f));
}

pub needs_one : {m n : ℕ} {keys bits : List ℕ} (own : OwnList m keys bits n) (κ : ℕ) → valid_key m κ ≡ true → {blocks : List ℕ} {count places : ℕ} → blocks ≡ κ ∷ []
    → count ≡ part_length m κ (records_of keys bits n) → places ≡ count + closing_places → NeededFor m (shown_by m keys bits n) blocks 1 places
unfolding gained
needs_one {m} {n} {keys} {bits} own κ valid {blocks} e count-is places_are = record {
  number_is = sym (ap length e);
  places_are = λ f.
      places_are
      ∙ ap (λ x. x + closing_places) count-is
      ∙ sym (gained_size own κ valid f)
      ∙ sym (ap length (ap (λ l. entries_of m (shown_by m keys bits n) l f) e ∙ entries_one m (shown_by m keys bits n) f κ));
}

-- the same blocks
pub needs_same : {m : ℕ} {p : Picture} {l k : List ℕ} {number places : ℕ} → l ≡ k → NeededFor m p k number places → NeededFor m p l number places
needs_same e a = rw e a

-- four runs of blocks
needs_runs : (m : ℕ) (p : Picture) (l₁ l₂ l₃ l₄ : List ℕ) {n₁ n₂ n₃ n₄ p₁ p₂ p₃ p₄ : ℕ}
    → NeededFor m p l₁ n₁ p₁ → NeededFor m p l₂ n₂ p₂ → NeededFor m p l₃ n₃ p₃ → NeededFor m p l₄ n₄ p₄
    → NeededFor m p (l₁ ++ (l₂ ++ (l₃ ++ l₄))) (n₁ + n₂ + n₃ + n₄) (p₁ + p₂ + p₃ + p₄)
needs_runs m p l₁ l₂ l₃ l₄ a b c d = record {
  number_is =
      let x₁ = length-append l₁ (l₂ ++ (l₃ ++ l₄)) in
      let x₂ = length-append l₂ (l₃ ++ l₄) in
      let x₃ = length-append l₃ l₄ in
      omega (arith, a.number_is, b.number_is, c.number_is, d.number_is);
  places_are = λ f.
      let x = ap length (entries_four m p f l₁ l₂ l₃ l₄) in
      let x₁ = length-append (entries_of m p l₁ f) (entries_of m p l₂ f ++ (entries_of m p l₃ f ++ entries_of m p l₄ f)) in
      let x₂ = length-append (entries_of m p l₂ f) (entries_of m p l₃ f ++ entries_of m p l₄ f) in
      let x₃ = length-append (entries_of m p l₃ f) (entries_of m p l₄ f) in
      omega (arith, a.places_are f, b.places_are f, c.places_are f, d.places_are f);
}

-- of the quadrants
pub needs_four : (m : ℕ) (p : Picture) (w : Window) (b : TreeBlock) {q₁ q₂ q₃ q₄ : TreeBlock} {n₁ n₂ n₃ n₄ p₁ p₂ p₃ p₄ : ℕ}
    → 0 < b.height
    → is_inside w b.height b.row b.column ≡ false
    → q₁ ≡ child_of b 1 → q₂ ≡ child_of b 2 → q₃ ≡ child_of b 3 → q₄ ≡ child_of b 4
    → NeededFor m p (largest_in w q₁) n₁ p₁
    → NeededFor m p (largest_in w q₂) n₂ p₂
    → NeededFor m p (largest_in w q₃) n₃ p₃
    → NeededFor m p (largest_in w q₄) n₄ p₄
    → NeededFor m p (largest_in w b) (n₁ + n₂ + n₃ + n₄) (p₁ + p₂ + p₃ + p₄)
needs_four m p w b positive cut e₁ e₂ e₃ e₄ = rw (e₁, e₂, e₃, e₄) (λ nw ne sw se. rw (largest_cut w b positive cut) (needs_runs m p _ _ _ _ nw ne sw se))

-- what a block needs is little
pub needs_few : (m : ℕ) (p : Picture) (w : Window) (b : TreeBlock) {number places : ℕ} → b.height ≤ 10 → InMap m b → NeededFor m p (largest_in w b) number places
    → (number ≤ 29296875) × (places ≤ 29296875)
needs_few m p w b deep i a =
    let e = a.number_is in
    let g = a.places_are 0 in
    let h = entries_few m p 0 w b.height i in
    let j = entries_more m p 0 (largest_in w b) in
    let five = five_le 10 deep in
    omega arith
