-- The answers of reading leaves: whether so many leaves are a delivery, the rows of its table of refusals, and what is given and left. Rests on
-- laws' First.
use Prim.Native.Nat.{ℕ, ◌≤◌, ◌<◌}
use mathlib.Core.Path.{◌≡◌, sym, ◌∙◌, ap}
use mathlib.Core.Bool.{true, false, cond}
use Rattle.std.specs.Prelude.{Option, Some, None}
use mathlib.Core.List.{List}
use lib.ListN.{length, take}
use lib.Dec.{leb}
use borrow.Author.Tests.{le-leb, lt-leb, leb-true, lt-ltb, le-ltb}
use Rattle.keys.proofs.Cases.{decide, and_left, and_right}
use Rattle.definitions.specs.List.{keys_of, values_of}
use Rattle.definitions.specs.Read.{room}
use Rattle.definitions.specs.Leaves.{are_leaves, is_delivery}
use Rattle.definitions.specs.Buffer.{over}
use Rattle.definitions.specs.Refusal.{first, bad_settings}
use Rattle.definitions.specs.Calls.ReadLeaves.{list_delivered, read_leaves_refusal, read_leaves, read_leaves_keys, read_leaves_bits}
use Rattle.definitions.specs.declared.Counted.{Counted}
use Rattle.laws.proofs.First.{accepted_done, accepted_left}

-- an answer by its two numbers
pub leaves_counted : {r r' n n' : ℕ} → r ≡ r' → n ≡ n' → ◌≡◌ {A = Counted} (record { refusal = r; count = n }) (record { refusal = r'; count = n' })
leaves_counted e f i = record { refusal = e i; count = f i }

-- whether the leaves of slices that have them are a delivery
module _ (m s : ℕ) (keys features : List ℕ) (leaves : ℕ) where
  pub delivery_short : room keys features < leaves → is_delivery m s keys features leaves ≡ false
  unfolding is_delivery
  delivery_short h = rw (lt-leb leaves (room keys features) h)

  pub delivery_full : leaves ≤ room keys features → is_delivery m s keys features leaves ≡ are_leaves m s (take leaves keys) (take leaves features)
  unfolding is_delivery
  delivery_full h = rw (le-leb leaves (room keys features) h)

  pub delivery_within : is_delivery m s keys features leaves ≡ true → leaves ≤ room keys features
  unfolding is_delivery
  delivery_within e = leb-true _ _ (and_left (leb leaves (room keys features)) (are_leaves m s (take leaves keys) (take leaves features)) e)

  pub delivery_leaves : is_delivery m s keys features leaves ≡ true → are_leaves m s (take leaves keys) (take leaves features) ≡ true
  unfolding is_delivery
  delivery_leaves e = and_right (leb leaves (room keys features)) (are_leaves m s (take leaves keys) (take leaves features)) e

  -- a number of records says whether they are
  abbrev pub Number : Option ℕ → Type 0
  Number n = n ≡ cond (is_delivery m s keys features leaves) (Some (length (list_delivered m keys features leaves))) None

  pub number_none : Number None → is_delivery m s keys features leaves ≡ false
  number_none e =
      decide (is_delivery m s keys features leaves)
      (λ t. absurd (let f = e ∙ ap (λ b. cond b (Some (length (list_delivered m keys features leaves))) None) t in cc))
      (λ t. t)

  pub number_some : (n : ℕ) → Number (Some n) → is_delivery m s keys features leaves ≡ true
  number_some n e =
      decide (is_delivery m s keys features leaves) (λ t. t)
      (λ t. absurd (let f = e ∙ ap (λ b. cond b (Some (length (list_delivered m keys features leaves))) None) t in cc))

  pub number-length : (n : ℕ) → Number (Some n) → n ≡ length (list_delivered m keys features leaves)
  number-length n e =
      let f = e ∙ ap (λ b. cond b (Some (length (list_delivered m keys features leaves))) None) (number_some n e) in
      cc

module _ (m s : ℕ) (leafKeys leafFeatures : List ℕ) (leaves : ℕ) (keys bits : List ℕ) where
  pub read_one : bad_settings m s ≡ true → 1 ≡ read_leaves_refusal m s leafKeys leafFeatures leaves keys bits
  unfolding read_leaves_refusal first
  read_one e = rw e

  pub read_nineteen : bad_settings m s ≡ false → is_delivery m s leafKeys leafFeatures leaves ≡ false
      → 19 ≡ read_leaves_refusal m s leafKeys leafFeatures leaves keys bits
  unfolding read_leaves_refusal first
  read_nineteen e f = rw (e, f)

  pub read_nine : bad_settings m s ≡ false → is_delivery m s leafKeys leafFeatures leaves ≡ true
      → room keys bits < length (list_delivered m leafKeys leafFeatures leaves)
      → 9 ≡ read_leaves_refusal m s leafKeys leafFeatures leaves keys bits
  unfolding read_leaves_refusal first
  read_nine e f h = rw (e, f, lt-ltb (room keys bits) (length (list_delivered m leafKeys leafFeatures leaves)) h)

  pub read_none : bad_settings m s ≡ false → is_delivery m s leafKeys leafFeatures leaves ≡ true
      → length (list_delivered m leafKeys leafFeatures leaves) ≤ room keys bits
      → 0 ≡ read_leaves_refusal m s leafKeys leafFeatures leaves keys bits
  unfolding read_leaves_refusal first
  read_none e f h = rw (e, f, le-ltb (room keys bits) (length (list_delivered m leafKeys leafFeatures leaves)) h)

  -- what a refused call answers and leaves
  pub read_refused : (r : ℕ) → r ≡ read_leaves_refusal m s leafKeys leafFeatures leaves keys bits → (r ≡ 0 → ⊥)
      → (◌≡◌ {A = Counted} (record { refusal = r; count = 0 }) (read_leaves m s leafKeys leafFeatures leaves keys bits))
      × ((keys ≡ read_leaves_keys m s leafKeys leafFeatures leaves keys bits) × (bits ≡ read_leaves_bits m s leafKeys leafFeatures leaves keys bits))
  unfolding read_leaves read_leaves_keys read_leaves_bits
  read_refused r e h = (
    leaves_counted e (sym (accepted_left _ 0 (λ z. h (e ∙ z)))),
    (sym (accepted_left _ keys (λ z. h (e ∙ z))), sym (accepted_left _ bits (λ z. h (e ∙ z)))),
  )

  -- what an accepted one does
  pub read_done : (n : ℕ) (keys' bits' : List ℕ) → 0 ≡ read_leaves_refusal m s leafKeys leafFeatures leaves keys bits
      → n ≡ length (list_delivered m leafKeys leafFeatures leaves)
      → keys' ≡ over (keys_of (list_delivered m leafKeys leafFeatures leaves)) keys
      → bits' ≡ over (values_of (list_delivered m leafKeys leafFeatures leaves)) bits
      → (◌≡◌ {A = Counted} (record { refusal = 0; count = n }) (read_leaves m s leafKeys leafFeatures leaves keys bits))
      × ((keys' ≡ read_leaves_keys m s leafKeys leafFeatures leaves keys bits) × (bits' ≡ read_leaves_bits m s leafKeys leafFeatures leaves keys bits))
  unfolding read_leaves read_leaves_keys read_leaves_bits
  read_done n keys' bits' e f g h = (
    leaves_counted e (f ∙ sym (accepted_done _ 0 (sym e))),
    (g ∙ sym (accepted_done _ keys (sym e)), h ∙ sym (accepted_done _ bits (sym e))),
  )
