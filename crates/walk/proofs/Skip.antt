-- Select goes on block by block: what it gives below the end of a block is what it gives below the block's key, and then what it gives in the block,
-- if no block around it is given. Rests on Lower and the laws of select.
use Prim.Native.Nat.{ℕ, suc, ◌+◌, ◌^◌, ◌<◌}
use mathlib.Core.Path.{◌≡◌, sym, ◌∙◌, ap}
use mathlib.Core.Bool.{true, false}
use mathlib.Core.List.{◌++◌}
use native.Mathlib.Omega.{arith}
use Rattle.keys.specs.Key.{child_key}
use Rattle.keys.proofs.Cases.{decide}
use Rattle.keys.proofs.Powers.{five_pos}
use Rattle.keys.specs.Under.{Under, here, nw, ne, sw, se}
use Rattle.keys.proofs.Interval.{within}
use Rattle.definitions.specs.Picture.{Picture}
use Rattle.definitions.specs.Window.{is_given, select_from}
use Rattle.definitions.specs.declared.Window.{Window}
use Rattle.laws.proofs.AscendingKeys.{AscendingKeys, keys-append, ascending_widen}
use Rattle.laws.proofs.SelectMeans.{select_quadrants}
use Rattle.laws.proofs.SelectAscends.{select_ascends}
use Rattle.walk.specs.Given.{lower}
use Rattle.walk.proofs.Lower.{lower_all, lower_none, lower_first, lower_later}

module _ (p : Picture) (w : Window) (f : ℕ) where
  -- no block from the first down to the second, the second set aside, is given
  abbrev pub Alone : ℕ → ℕ → ℕ → ℕ → ℕ → ℕ → ℕ → ℕ → Type 0
  Alone k r c κ k' r' c' κ' = (k₂ r₂ c₂ κ₂ : ℕ) → Under k r c κ k₂ r₂ c₂ κ₂ → Under k₂ r₂ c₂ κ₂ k' r' c' κ' → is_given p w f k₂ r₂ c₂ ≡ true → κ₂ ≡ κ'

  not_given : (k r c κ k' r' c' κ' : ℕ) → Under k r c κ k' r' c' κ' → Alone k r c κ k' r' c' κ' → κ < κ' → is_given p w f k r c ≡ false
  not_given k r c κ k' r' c' κ' u alone before =
      decide (is_given p w f k r c) (λ given. let e = alone k r c κ here u given in absurd (omega arith)) (λ other. other)

  -- the four quadrants' keys, each in its interval
  module _ (k r c κ : ℕ) where
    one : AscendingKeys (child_key κ k 1) (child_key κ k 1 + 5 ^ k) (select_from p w f k r c (child_key κ k 1))
    one = select_ascends p w f k r c (child_key κ k 1)

    two : AscendingKeys (child_key κ k 2) (child_key κ k 2 + 5 ^ k) (select_from p w f k r (c + 2 ^ k) (child_key κ k 2))
    two = select_ascends p w f k r (c + 2 ^ k) (child_key κ k 2)

    three : AscendingKeys (child_key κ k 3) (child_key κ k 3 + 5 ^ k) (select_from p w f k (r + 2 ^ k) c (child_key κ k 3))
    three = select_ascends p w f k (r + 2 ^ k) c (child_key κ k 3)

    four : AscendingKeys (child_key κ k 4) (child_key κ k 4 + 5 ^ k) (select_from p w f k (r + 2 ^ k) (c + 2 ^ k) (child_key κ k 4))
    four = select_ascends p w f k (r + 2 ^ k) (c + 2 ^ k) (child_key κ k 4)

    from_three : AscendingKeys (child_key κ k 3) (child_key κ k 4 + 5 ^ k)
        (select_from p w f k (r + 2 ^ k) c (child_key κ k 3) ++ select_from p w f k (r + 2 ^ k) (c + 2 ^ k) (child_key κ k 4))
    from_three = keys-append (ascending_widen {hi' = child_key κ k 4} (omega arith) (omega arith) three) four

    from_two : AscendingKeys (child_key κ k 2) (child_key κ k 4 + 5 ^ k)
        (select_from p w f k r (c + 2 ^ k) (child_key κ k 2)
        ++ (select_from p w f k (r + 2 ^ k) c (child_key κ k 3) ++ select_from p w f k (r + 2 ^ k) (c + 2 ^ k) (child_key κ k 4)))
    from_two = keys-append (ascending_widen {hi' = child_key κ k 3} (omega arith) (omega arith) two) from_three

  -- passing a block adds what select gives in it
  pub select_skip : {k r c κ k' r' c' κ' : ℕ} → Under k r c κ k' r' c' κ' → Alone k r c κ k' r' c' κ'
      → lower (κ' + 5 ^ k') (select_from p w f k r c κ) ≡ lower κ' (select_from p w f k r c κ) ++ select_from p w f k' r' c' κ'
  select_skip (here {k} {r} {c} {κ}) alone =
      let l = select_from p w f k r c κ in
      lower_all (κ + 5 ^ k) (select_ascends p w f k r c κ) (omega arith) ∙ ap (λ x. x ++ l) (sym (lower_none κ (select_ascends p w f k r c κ) (omega arith)))
  select_skip {k' = k'} {r'} {c'} {κ'} (nw {k} {r} {c} {κ} u) alone =
      let v = within u in
      let z = five_pos k in
      let z' = five_pos k' in
      rw (select_quadrants p w f k r c κ (not_given (suc k) r c κ k' r' c' κ' (nw u) alone (omega arith)))
      (lower_first κ' (κ' + 5 ^ k') _ _ _ (select_skip u (λ k₂ r₂ c₂ κ₂ a. alone k₂ r₂ c₂ κ₂ (nw a)))
      (lower_none (κ' + 5 ^ k') (from_two k r c κ) (omega arith))
      (lower_none κ' (from_two k r c κ) (omega arith)))
  select_skip {k' = k'} {r'} {c'} {κ'} (ne {k} {r} {c} {κ} u) alone =
      let v = within u in
      let z = five_pos k in
      let z' = five_pos k' in
      rw (select_quadrants p w f k r c κ (not_given (suc k) r c κ k' r' c' κ' (ne u) alone (omega arith)))
      (lower_later κ' (κ' + 5 ^ k') _ _ _ (lower_all (κ' + 5 ^ k') (one k r c κ) (omega arith)) (lower_all κ' (one k r c κ) (omega arith))
      (lower_first κ' (κ' + 5 ^ k') _ _ _ (select_skip u (λ k₂ r₂ c₂ κ₂ a. alone k₂ r₂ c₂ κ₂ (ne a)))
      (lower_none (κ' + 5 ^ k') (from_three k r c κ) (omega arith))
      (lower_none κ' (from_three k r c κ) (omega arith))))
  select_skip {k' = k'} {r'} {c'} {κ'} (sw {k} {r} {c} {κ} u) alone =
      let v = within u in
      let z = five_pos k in
      let z' = five_pos k' in
      rw (select_quadrants p w f k r c κ (not_given (suc k) r c κ k' r' c' κ' (sw u) alone (omega arith)))
      (lower_later κ' (κ' + 5 ^ k') _ _ _ (lower_all (κ' + 5 ^ k') (one k r c κ) (omega arith)) (lower_all κ' (one k r c κ) (omega arith))
      (lower_later κ' (κ' + 5 ^ k') _ _ _ (lower_all (κ' + 5 ^ k') (two k r c κ) (omega arith)) (lower_all κ' (two k r c κ) (omega arith))
      (lower_first κ' (κ' + 5 ^ k') _ _ _ (select_skip u (λ k₂ r₂ c₂ κ₂ a. alone k₂ r₂ c₂ κ₂ (sw a)))
      (lower_none (κ' + 5 ^ k') (four k r c κ) (omega arith))
      (lower_none κ' (four k r c κ) (omega arith)))))
  select_skip {k' = k'} {r'} {c'} {κ'} (se {k} {r} {c} {κ} u) alone =
      let v = within u in
      let z = five_pos k in
      let z' = five_pos k' in
      rw (select_quadrants p w f k r c κ (not_given (suc k) r c κ k' r' c' κ' (se u) alone (omega arith)))
      (lower_later κ' (κ' + 5 ^ k') _ _ _ (lower_all (κ' + 5 ^ k') (one k r c κ) (omega arith)) (lower_all κ' (one k r c κ) (omega arith))
      (lower_later κ' (κ' + 5 ^ k') _ _ _ (lower_all (κ' + 5 ^ k') (two k r c κ) (omega arith)) (lower_all κ' (two k r c κ) (omega arith))
      (lower_later κ' (κ' + 5 ^ k') _ _ _ (lower_all (κ' + 5 ^ k') (three k r c κ) (omega arith)) (lower_all κ' (three k r c κ) (omega arith))
      (select_skip u (λ k₂ r₂ c₂ κ₂ a. alone k₂ r₂ c₂ κ₂ (se a))))))
