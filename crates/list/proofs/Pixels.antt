-- A node of height 1: its children can only be leaves, so four records in a row decide. Rests on Children and Places.
use Prim.Native.Nat.{ℕ, zero, suc, ◌+◌, ◌-◌, ◌*◌, ◌≤◌, ◌<◌}
use mathlib.Core.Path.{◌≡◌, refl, sym, ◌∙◌, ap}
use mathlib.Core.Bool.{Bool, true, false, cond, ◌&&◌}
use mathlib.Core.List.{List, [], ◌∷◌}
use native.Mathlib.Omega.{arith}
use lib.Dec.{eqb}
use lib.Bits.{bit_or, or_zero_l}
use lib.ListN.{length, get_or, drop, length-drop}
use borrow.Author.Tests.{eqb-true, eqb-false}
use Rattle.keys.proofs.Cases.{decide}
use Rattle.definitions.specs.List.{Record, record_of}
use Rattle.definitions.specs.Read.{paired}
use Rattle.laws.proofs.Records.{paired-length}
use Rattle.list.specs.Check.{one_slot, wrong, left, rest_place, after_children, after_node}
use Rattle.list.proofs.Children.{own_leaf, own_node, node_zero, node_suc, children_none, children_from, children_short, children_other, children_wrong}
use Rattle.list.proofs.Places.{record_at, place_of_rest}

-- tests one after the other, or all at once
in_turn : {A : Type 0} (a b c d e : Bool) (x w : A) → cond a (cond b (cond c (cond d (cond e x w) w) w) w) w ≡ cond ((((a && b) && c) && d) && e) x w
in_turn false b c d e x w = refl
in_turn true false c d e x w = refl
in_turn true true false d e x w = refl
in_turn true true true false e x w = refl
in_turn true true true true e x w = refl

either_way : {A : Type 0} (b : Bool) (x : A) → cond b x x ≡ x
either_way false x = refl
either_way true x = refl

-- the tests of four records, each of its key and its slots: the four keys first, then the slots
swapped : (a b c d : Bool) → (a && b) && (c && d) ≡ (a && c) && (b && d)
swapped false b c d = refl
swapped true false false d = refl
swapped true false true d = refl
swapped true true false d = refl
swapped true true true d = refl

last_first : (a b c : Bool) → (a && b) && c ≡ a && (c && b)
last_first false b c = refl
last_first true false false = refl
last_first true false true = refl
last_first true true false = refl
last_first true true true = refl

four_apart : (k₁ s₁ k₂ s₂ k₃ s₃ k₄ s₄ u : Bool)
    → ((((k₁ && s₁) && (k₂ && s₂)) && (k₃ && s₃)) && (k₄ && s₄)) && u ≡ (((k₁ && k₂) && k₃) && k₄) && (u && (((s₁ && s₂) && s₃) && s₄))
four_apart k₁ s₁ k₂ s₂ k₃ s₃ k₄ s₄ u =
    ap (λ b. ((b && (k₃ && s₃)) && (k₄ && s₄)) && u) (swapped k₁ s₁ k₂ s₂)
    ∙ ap (λ b. (b && (k₄ && s₄)) && u) (swapped (k₁ && k₂) (s₁ && s₂) k₃ s₃)
    ∙ ap (λ b. b && u) (swapped ((k₁ && k₂) && k₃) ((s₁ && s₂) && s₃) k₄ s₄)
    ∙ last_first (((k₁ && k₂) && k₃) && k₄) (((s₁ && s₂) && s₃) && s₄) u

module _ (κ step own : ℕ) where
  -- the next child must be a leaf
  next_pixel : (j union k bits : ℕ) (l : List Record)
      → after_children (after_node 0) κ step own (suc j) union (record_of k bits ∷ l)
      ≡ cond (eqb k (κ + (5 - suc j) * step) && one_slot bits) (after_children (after_node 0) κ step own j (bit_or union bits) l) wrong
  next_pixel j union k bits l =
      decide (eqb k (κ + (5 - suc j) * step))
      (λ same.
      decide (one_slot bits)
      (λ leaf. rw (same, leaf) (children_from (after_node 0) κ step own j union bits l l k (eqb-true _ _ same) (own_leaf (after_node 0) k bits l leaf)))
      (λ node. rw (same, node) (children_wrong (after_node 0) κ step own j union bits l k (eqb-true _ _ same) (own_node (after_node 0) k bits l node ∙ node_zero k bits l))))
      (λ other. rw other (children_other (after_node 0) κ step own j union bits l k (eqb-false _ _ other)))

  -- each child takes a record
  few_pixels : (j union : ℕ) (l : List Record) → length l < j → after_children (after_node 0) κ step own j union l ≡ wrong
  few_pixels zero union l h = absurd (omega arith)
  few_pixels (suc j) union [] h = children_short (after_node 0) κ step own j union
  few_pixels (suc j) union (x ∷ l) h =
      let t = eqb x.key (κ + (5 - suc j) * step) && one_slot x.value in
      next_pixel j union x.key x.value l ∙ ap (λ o. cond t o wrong) (few_pixels j (bit_or union x.value) l (omega arith)) ∙ either_way t wrong

-- a record is the leaf with the key κ
abbrev pub is_pixel : ℕ → ℕ → ℕ → Bool
is_pixel κ k bits = eqb k κ && one_slot bits

-- what the function answers: whether the next four records are the block's
abbrev pub Right : List ℕ → List ℕ → ℕ → ℕ → ℕ → Bool → Type 0
Right K B first κ own r =
    (r ≡ true → first + 4 ≤ length K) × (cond r (first + 4) 0 ≡ rest_place (length K) (after_node 1 κ own (drop first (paired K B))))

-- where the block does not end after four records, and where it does, the place
pub right_false : (r : Bool) (place answer : ℕ) → r ≡ false → cond r place 0 ≡ answer → 0 ≡ answer
right_false r place answer e h = ap (λ x. cond x place 0) (sym e) ∙ h

pub right_true : (r : Bool) (place answer : ℕ) → r ≡ true → cond r place 0 ≡ answer → place ≡ answer
right_true r place answer e h = ap (λ x. cond x place 0) (sym e) ∙ h

four_records : (κ own k₁ b₁ k₂ b₂ k₃ b₃ k₄ b₄ : ℕ) (l : List Record)
    → after_node 1 κ own (record_of k₁ b₁ ∷ (record_of k₂ b₂ ∷ (record_of k₃ b₃ ∷ (record_of k₄ b₄ ∷ l))))
    ≡ cond ((((is_pixel (κ + 1) k₁ b₁ && is_pixel (κ + 2) k₂ b₂) && is_pixel (κ + 3) k₃ b₃) && is_pixel (κ + 4) k₄ b₄) && eqb (bit_or (bit_or (bit_or b₁ b₂) b₃) b₄) own) (left l) wrong
four_records κ own k₁ b₁ k₂ b₂ k₃ b₃ k₄ b₄ l =
    let t₁ = is_pixel (κ + 1) k₁ b₁ in
    let t₂ = is_pixel (κ + 2) k₂ b₂ in
    let t₃ = is_pixel (κ + 3) k₃ b₃ in
    let t₄ = is_pixel (κ + 4) k₄ b₄ in
    let u₁ = bit_or 0 b₁ in
    let u₂ = bit_or u₁ b₂ in
    let u₃ = bit_or u₂ b₃ in
    node_suc 0 κ own _
    ∙ next_pixel κ 1 own 3 0 k₁ b₁ _
    ∙ ap (λ o. cond t₁ o wrong)
    (next_pixel κ 1 own 2 u₁ k₂ b₂ _
    ∙ ap (λ o. cond t₂ o wrong)
    (next_pixel κ 1 own 1 u₂ k₃ b₃ _
    ∙ ap (λ o. cond t₃ o wrong)
    (next_pixel κ 1 own 0 u₃ k₄ b₄ l
    ∙ ap (λ o. cond t₄ o wrong)
    (children_none (after_node 0) κ 1 own (bit_or u₃ b₄) l))))
    ∙ ap (λ u. cond t₁ (cond t₂ (cond t₃ (cond t₄ (cond (eqb (bit_or (bit_or (bit_or u b₂) b₃) b₄) own) (left l) wrong) wrong) wrong) wrong) wrong) (or_zero_l b₁)
    ∙ in_turn t₁ t₂ t₃ t₄ (eqb (bit_or (bit_or (bit_or b₁ b₂) b₃) b₄) own) (left l) wrong

place_if : (n place : ℕ) (b : Bool) (l : List Record) → rest_place n (left l) ≡ place → rest_place n (cond b (left l) wrong) ≡ cond b place 0
unfolding rest_place
place_if n place false l e = refl
place_if n place true l e = e

module _ (K B : List ℕ) (first κ own : ℕ) (size : length K ≡ length B) where
  -- fewer than four records are left
  pub too_few : length K - first < 4 → Right K B first κ own false
  unfolding rest_place
  too_few h =
      let d = length-drop first (paired K B) in
      let n = paired-length K B size in (
        λ e. let z : ◌≡◌ {A = ℕ} 0 1 = cc in omega arith,
        sym (ap (rest_place (length K)) (node_suc 0 κ own (drop first (paired K B)) ∙ few_pixels κ 1 own 4 0 (drop first (paired K B)) (omega arith))),
      )

  -- the tests of the next four records
  abbrev pub nw : Bool
  nw = is_pixel (κ + 1) (get_or K first 0) (get_or B first 0)

  abbrev pub ne : Bool
  ne = is_pixel (κ + 2) (get_or K (first + 1) 0) (get_or B (first + 1) 0)

  abbrev pub sw : Bool
  sw = is_pixel (κ + 3) (get_or K (first + 2) 0) (get_or B (first + 2) 0)

  abbrev pub se : Bool
  se = is_pixel (κ + 4) (get_or K (first + 3) 0) (get_or B (first + 3) 0)

  abbrev pub union : ℕ
  union = bit_or (bit_or (bit_or (get_or B first 0) (get_or B (first + 1) 0)) (get_or B (first + 2) 0)) (get_or B (first + 3) 0)

  module _ (there : 4 ≤ length K - first) where
    from_place : (i j : ℕ) → i < length K → i + 1 ≡ j → (l : List Record) → drop j (paired K B) ≡ l → drop i (paired K B) ≡ record_of (get_or K i 0) (get_or B i 0) ∷ l
    from_place i j h e l after = record_at K B i size h ∙ ap (λ l. record_of (get_or K i 0) (get_or B i 0) ∷ l) (ap (λ x. drop x (paired K B)) e ∙ after)

    next_four : drop first (paired K B)
        ≡ record_of (get_or K first 0) (get_or B first 0)
        ∷ (record_of (get_or K (first + 1) 0) (get_or B (first + 1) 0)
        ∷ (record_of (get_or K (first + 2) 0) (get_or B (first + 2) 0) ∷ (record_of (get_or K (first + 3) 0) (get_or B (first + 3) 0) ∷ drop (first + 4) (paired K B))))
    next_four =
        from_place first (first + 1) (omega arith) refl _
        (from_place (first + 1) (first + 2) (omega arith) (omega arith) _
        (from_place (first + 2) (first + 3) (omega arith) (omega arith) _ (from_place (first + 3) (first + 4) (omega arith) (omega arith) _ refl)))

    -- four are left: their tests and their union decide
    decides : (r : Bool) → r ≡ (((nw && ne) && sw) && se) && eqb union own → Right K B first κ own r
    decides r e = (
      λ z. omega arith,
      ap (λ x. cond x (first + 4) 0) e
          ∙ sym (ap (rest_place (length K)) (ap (after_node 1 κ own) next_four ∙ four_records κ own _ _ _ _ _ _ _ _ (drop (first + 4) (paired K B)))
          ∙ place_if (length K) (first + 4) ((((nw && ne) && sw) && se) && eqb union own) (drop (first + 4) (paired K B))
          (place_of_rest (paired K B) (first + 4) (length K) (sym (paired-length K B size)) (omega arith))),
    )

    -- the keys of the four, and their slots
    abbrev pub keys_right : Bool
    keys_right = ((eqb (get_or K first 0) (κ + 1) && eqb (get_or K (first + 1) 0) (κ + 2)) && eqb (get_or K (first + 2) 0) (κ + 3)) && eqb (get_or K (first + 3) 0) (κ + 4)

    abbrev pub slots_right : Bool
    slots_right = ((one_slot (get_or B first 0) && one_slot (get_or B (first + 1) 0)) && one_slot (get_or B (first + 2) 0)) && one_slot (get_or B (first + 3) 0)

    apart : (((nw && ne) && sw) && se) && eqb union own ≡ keys_right && (eqb union own && slots_right)
    apart = four_apart
        (eqb (get_or K first 0) (κ + 1))
        (one_slot (get_or B first 0))
        (eqb (get_or K (first + 1) 0) (κ + 2))
        (one_slot (get_or B (first + 1) 0))
        (eqb (get_or K (first + 2) 0) (κ + 3))
        (one_slot (get_or B (first + 2) 0))
        (eqb (get_or K (first + 3) 0) (κ + 4))
        (one_slot (get_or B (first + 3) 0))
        (eqb union own)

    pub keys_wrong : keys_right ≡ false → Right K B first κ own false
    keys_wrong e = decides false (sym (apart ∙ ap (λ b. b && (eqb union own && slots_right)) e))

    pub union_wrong : keys_right ≡ true → eqb union own ≡ false → Right K B first κ own false
    union_wrong e h = decides false (sym (apart ∙ ap (λ b. b && (eqb union own && slots_right)) e ∙ ap (λ b. b && slots_right) h))

    pub slots_decide : (r : Bool) → keys_right ≡ true → eqb union own ≡ true → r ≡ slots_right → Right K B first κ own r
    slots_decide r e h is = decides r (is ∙ sym (apart ∙ ap (λ b. b && (eqb union own && slots_right)) e ∙ ap (λ b. b && slots_right) h))
