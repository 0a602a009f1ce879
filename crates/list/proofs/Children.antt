-- The model of the check, step by step: what it says of a child that passes, and that a child that passes leaves the others. Rests on keys' Cases and laws' Slots.
use Prim.Native.Nat.{ℕ, zero, suc, ◌+◌, ◌-◌, ◌*◌, ◌^◌}
use mathlib.Core.Path.{◌≡◌, refl, sym, ◌∙◌, ap}
use mathlib.Core.Bool.{true, false, cond}
use mathlib.Core.List.{List, [], ◌∷◌, ◌++◌, append_assoc}
use native.Mathlib.Omega.{arith}
use lib.Dec.{eqb}
use lib.Bits.{bit_or, or_zero_l}
use borrow.Author.Tests.{eqb-true, eq-eqb, ne_eqb}
use Rattle.keys.proofs.Cases.{decide}
use Rattle.definitions.specs.Bits.{union_of_four}
use Rattle.definitions.specs.List.{Record, record_of}
use Rattle.laws.proofs.Slots.{or_assoc}
use Rattle.list.specs.Check.{one_slot, Outcome, wrong, left, and_then, after_own, after_children, after_node}

-- wrong records leave nothing
pub wrong-not-left {ℓ} : {C : Type ℓ} {l : List Record} → wrong ≡ left l → C
wrong-not-left e = absurd (let z : ◌≡◌ {A = ℕ} 0 1 = cc in omega arith)

pub left_inj : {l l' : List Record} → left l ≡ left l' → l ≡ l'
left_inj e = cc

-- after a leaf's record, and after a node's
pub own_leaf : (node : ℕ → ℕ → List Record → Outcome) (κ bits : ℕ) (l : List Record) → one_slot bits ≡ true → after_own node κ bits l ≡ left l
unfolding after_own
own_leaf node κ bits l e = rw e

pub own_node : (node : ℕ → ℕ → List Record → Outcome) (κ bits : ℕ) (l : List Record) → one_slot bits ≡ false → after_own node κ bits l ≡ node κ bits l
unfolding after_own
own_node node κ bits l e = rw e

-- a pixel is no node, and a node has four children
pub node_zero : (κ own : ℕ) (l : List Record) → after_node zero κ own l ≡ wrong
unfolding after_node
node_zero κ own l = refl

pub node_suc : (k κ own : ℕ) (l : List Record) → after_node (suc k) κ own l ≡ after_children (after_node k) κ (5 ^ k) own 4 0 l
unfolding after_node
node_suc k κ own l = refl

-- the union of four, one after the other
pub union_in_turn : (a b c d : ℕ) → bit_or (bit_or (bit_or (bit_or 0 a) b) c) d ≡ union_of_four a b c d
unfolding union_of_four
union_in_turn a b c d = ap (λ x. bit_or (bit_or (bit_or x b) c) d) (or_zero_l a) ∙ or_assoc (bit_or a b) c d

-- what is known where the records l begin with a child of key κ that passes, and the others, after it, leave rest
pub record Child (node : ℕ → ℕ → List Record → Outcome) (κ : ℕ) (others : ℕ → List Record → Outcome) (l rest : List Record) : Type 0 where
  pub bits : ℕ
  pub below : List Record
  pub after : List Record
  pub is : l ≡ record_of κ bits ∷ below
  pub passes : after_own node κ bits below ≡ left after
  pub goes_on : others bits after ≡ left rest

and-then : (o : Outcome) (more : List Record → Outcome) (rest : List Record) → and_then o more ≡ left rest → (l : List Record) × (o ≡ left l) × (more l ≡ left rest)
unfolding and_then
and-then wrong more rest e = wrong-not-left e
and-then (left l) more rest e = (l, refl, e)

module _ (node : ℕ → ℕ → List Record → Outcome) (κ step own : ℕ) where
  -- all children have passed: their union is the block's own bits
  pub children_none : (union : ℕ) (l : List Record) → after_children node κ step own zero union l ≡ cond (eqb union own) (left l) wrong
  unfolding after_children
  children_none union l = refl

  pub children_end : (union : ℕ) (l rest : List Record) → after_children node κ step own zero union l ≡ left rest → (union ≡ own) × (l ≡ rest)
  unfolding after_children
  children_end union l rest e =
      decide (eqb union own)
      (λ same. (eqb-true _ _ same, left_inj (sym (rw same) ∙ e)))
      (λ other. wrong-not-left (sym (rw other) ∙ e))

  -- records that pass begin with the next child
  pub children_to : (j union : ℕ) (l rest : List Record) → after_children node κ step own (suc j) union l ≡ left rest
      → Child node (κ + (5 - suc j) * step) (λ bits. after_children node κ step own j (bit_or union bits)) l rest
  unfolding after_children
  children_to j union [] rest e = wrong-not-left e
  children_to j union (x ∷ l) rest e =
      decide (eqb x.key (κ + (5 - suc j) * step))
      (λ same.
      let key = eqb-true _ _ same in
      let child = after_own node (κ + (5 - suc j) * step) x.value l in
      let others : List Record → Outcome = after_children node κ step own j (bit_or union x.value) in
      let t = and-then child others rest (sym (ap (λ b. cond b (and_then child others) wrong) same) ∙ e) in
      record {
        bits = x.value;
        below = l;
        after = t.0;
        is = λ i. record { key = key i; value = x.value } ∷ l;
        passes = t.1;
        goes_on = t.2;
      })
      (λ other. wrong-not-left (sym (rw other) ∙ e))

  -- where the next child passes, the others decide
  pub children_from : (j union bits : ℕ) (below after : List Record) (κ' : ℕ) → κ' ≡ κ + (5 - suc j) * step → after_own node κ' bits below ≡ left after
      → after_children node κ step own (suc j) union (record_of κ' bits ∷ below) ≡ after_children node κ step own j (bit_or union bits) after
  unfolding after_children and_then
  children_from j union bits below after κ' key passes =
      rw (eq-eqb κ' (κ + (5 - suc j) * step) key)
      (ap (λ o. and_then o (λ more. after_children node κ step own j (bit_or union bits) more)) (ap (λ x. after_own node x bits below) (sym key) ∙ passes))

  -- where no record is left, or the next one has another key, or its block does not pass, the records are wrong
  pub children_short : (j union : ℕ) → after_children node κ step own (suc j) union [] ≡ wrong
  unfolding after_children
  children_short j union = refl

  pub children_other : (j union bits : ℕ) (below : List Record) (κ' : ℕ) → (κ' ≡ κ + (5 - suc j) * step → ⊥)
      → after_children node κ step own (suc j) union (record_of κ' bits ∷ below) ≡ wrong
  unfolding after_children
  children_other j union bits below κ' other = rw (ne_eqb κ' (κ + (5 - suc j) * step) other)

  pub children_wrong : (j union bits : ℕ) (below : List Record) (κ' : ℕ) → κ' ≡ κ + (5 - suc j) * step → after_own node κ' bits below ≡ wrong
      → after_children node κ step own (suc j) union (record_of κ' bits ∷ below) ≡ wrong
  unfolding after_children and_then
  children_wrong j union bits below κ' key fails =
      rw (eq-eqb κ' (κ + (5 - suc j) * step) key)
      (ap (λ o. and_then o (λ more. after_children node κ step own j (bit_or union bits) more)) (ap (λ x. after_own node x bits below) (sym key) ∙ fails))

-- four children that pass one after the other, and leave rest
pub record FourChildren (node : ℕ → ℕ → List Record → Outcome) (κ step own : ℕ) (l rest : List Record) : Type 0 where
  pub bits_nw : ℕ
  pub bits_ne : ℕ
  pub bits_sw : ℕ
  pub bits_se : ℕ
  pub below_nw : List Record
  pub below_ne : List Record
  pub below_sw : List Record
  pub below_se : List Record
  pub after_nw : List Record
  pub after_ne : List Record
  pub after_sw : List Record
  pub is_nw : l ≡ record_of (κ + 1 * step) bits_nw ∷ below_nw
  pub is_ne : after_nw ≡ record_of (κ + 2 * step) bits_ne ∷ below_ne
  pub is_sw : after_ne ≡ record_of (κ + 3 * step) bits_sw ∷ below_sw
  pub is_se : after_sw ≡ record_of (κ + 4 * step) bits_se ∷ below_se
  pub passes_nw : after_own node (κ + 1 * step) bits_nw below_nw ≡ left after_nw
  pub passes_ne : after_own node (κ + 2 * step) bits_ne below_ne ≡ left after_ne
  pub passes_sw : after_own node (κ + 3 * step) bits_sw below_sw ≡ left after_sw
  pub passes_se : after_own node (κ + 4 * step) bits_se below_se ≡ left rest
  pub union : union_of_four bits_nw bits_ne bits_sw bits_se ≡ own

pub children_four : (node : ℕ → ℕ → List Record → Outcome) (κ step own : ℕ) (l rest : List Record) → after_children node κ step own 4 0 l ≡ left rest → FourChildren node κ step own l rest
children_four node κ step own l rest e = from_nw (children_to node κ step own 3 0 l rest e)
  where
    others : ℕ → ℕ → ℕ → List Record → Outcome
    others j union bits = after_children node κ step own j (bit_or union bits)

    from_se : (b₁ b₂ b₃ : ℕ) (m₁ l₁ m₂ l₂ m₃ l₃ : List Record)
        → l ≡ record_of (κ + 1 * step) b₁ ∷ m₁
        → after_own node (κ + 1 * step) b₁ m₁ ≡ left l₁
        → l₁ ≡ record_of (κ + 2 * step) b₂ ∷ m₂
        → after_own node (κ + 2 * step) b₂ m₂ ≡ left l₂
        → l₂ ≡ record_of (κ + 3 * step) b₃ ∷ m₃
        → after_own node (κ + 3 * step) b₃ m₃ ≡ left l₃
        → Child node (κ + 4 * step) (others 0 (bit_or (bit_or (bit_or 0 b₁) b₂) b₃)) l₃ rest
        → FourChildren node κ step own l rest
    from_se b₁ b₂ b₃ m₁ l₁ m₂ l₂ m₃ l₃ i₁ p₁ i₂ p₂ i₃ p₃ se =
        let end = children_end node κ step own (bit_or (bit_or (bit_or (bit_or 0 b₁) b₂) b₃) se.bits) se.after rest se.goes_on in
        record {
          bits_nw = b₁;
          bits_ne = b₂;
          bits_sw = b₃;
          bits_se = se.bits;
          below_nw = m₁;
          below_ne = m₂;
          below_sw = m₃;
          below_se = se.below;
          after_nw = l₁;
          after_ne = l₂;
          after_sw = l₃;
          is_nw = i₁;
          is_ne = i₂;
          is_sw = i₃;
          is_se = se.is;
          passes_nw = p₁;
          passes_ne = p₂;
          passes_sw = p₃;
          passes_se = se.passes ∙ ap left end.1;
          union = sym (union_in_turn b₁ b₂ b₃ se.bits) ∙ end.0;
        }

    from_sw : (b₁ b₂ : ℕ) (m₁ l₁ m₂ l₂ : List Record)
        → l ≡ record_of (κ + 1 * step) b₁ ∷ m₁
        → after_own node (κ + 1 * step) b₁ m₁ ≡ left l₁
        → l₁ ≡ record_of (κ + 2 * step) b₂ ∷ m₂
        → after_own node (κ + 2 * step) b₂ m₂ ≡ left l₂
        → Child node (κ + 3 * step) (others 1 (bit_or (bit_or 0 b₁) b₂)) l₂ rest
        → FourChildren node κ step own l rest
    from_sw b₁ b₂ m₁ l₁ m₂ l₂ i₁ p₁ i₂ p₂ sw =
        from_se b₁ b₂ sw.bits m₁ l₁ m₂ l₂ sw.below sw.after i₁ p₁ i₂ p₂ sw.is sw.passes
        (children_to node κ step own 0 (bit_or (bit_or (bit_or 0 b₁) b₂) sw.bits) sw.after rest sw.goes_on)

    from_ne : (b₁ : ℕ) (m₁ l₁ : List Record)
        → l ≡ record_of (κ + 1 * step) b₁ ∷ m₁
        → after_own node (κ + 1 * step) b₁ m₁ ≡ left l₁
        → Child node (κ + 2 * step) (others 2 (bit_or 0 b₁)) l₁ rest
        → FourChildren node κ step own l rest
    from_ne b₁ m₁ l₁ i₁ p₁ ne =
        from_sw b₁ ne.bits m₁ l₁ ne.below ne.after i₁ p₁ ne.is ne.passes
        (children_to node κ step own 1 (bit_or (bit_or 0 b₁) ne.bits) ne.after rest ne.goes_on)

    from_nw : Child node (κ + 1 * step) (others 3 0) l rest → FourChildren node κ step own l rest
    from_nw nw =
        from_ne nw.bits nw.below nw.after nw.is nw.passes (children_to node κ step own 2 (bit_or 0 nw.bits) nw.after rest nw.goes_on)

-- four lists and what follows them
pub four_lists_joined : (a b c d rest : List Record) → (a ++ (b ++ (c ++ d))) ++ rest ≡ a ++ (b ++ (c ++ (d ++ rest)))
four_lists_joined a b c d rest =
    append_assoc a (b ++ (c ++ d)) rest ∙ ap (λ l. a ++ l) (append_assoc b (c ++ d) rest ∙ ap (λ l. b ++ l) (append_assoc c d rest))
