-- The answers of writing bit strings, one for each way out of the code: its result and what it leaves in the two byte slices. Rests on the laws of
-- tables, Bitwise and Shape.
use Prim.Native.Nat.{ℕ, ◌+◌, ◌-◌, ◌*◌, ◌/◌, ◌≤◌}
use mathlib.Core.Path.{◌≡◌, refl, sym, ap, ap₂, ◌∙◌}
use mathlib.Core.Bool.{Bool, true, false, cond, not, ◌||◌}
use mathlib.Core.List.{List, [], ◌∷◌}
use native.Mathlib.Omega.{arith}
use lib.ListN.{length, take}
use lib.Dec.{ltb, eqb, leb}
use borrow.Author.Tests.{ne_eqb, eqb-true, leb-true, not-false}
use Rattle.keys.specs.Key.{root_key}
use Rattle.keys.proofs.Cases.{decide, and_left, and_right}
use Rattle.definitions.specs.Bits.{has_slot}
use Rattle.definitions.specs.List.{Record, values_of}
use Rattle.definitions.specs.Read.{room, records_of, is_list, is_list_of_block}
use Rattle.definitions.specs.Buffer.{over}
use Rattle.definitions.specs.BitStrings.{is_inner, node_bits, leaf_bits, packed_in, bytes_for, packed}
use Rattle.definitions.specs.Refusal.{first, accepted, bad_settings, no_list}
use Rattle.definitions.specs.Calls.WriteBitStrings.{node_string, leaf_string, write_strings_refusal, write_strings, written_nodes, written_leaves}
use Rattle.definitions.specs.declared.Strings.{Strings}
use Rattle.laws.proofs.First.{this, later, holds_first, none_first, first_none, first_holds, holds_more}
use Rattle.laws.proofs.Records.{records-length}
use Rattle.laws.proofs.IsList.{ShowsBlock, block_list_to}
use Rattle.list.proofs.Among.{values_of_records}
use Rattle.bit_strings.specs.Strings.{bit_of, string_of, early_refusal}
use Rattle.bit_strings.proofs.Bitwise.{length-packed}
use Rattle.bit_strings.proofs.Shape.{list_shape, nodes_many, leaves_many}

-- ---- the strings, from the bitstrings alone

pub nodes_string : (l : List Record) → node_bits l ≡ string_of false (values_of l)
unfolding node_bits string_of bit_of
nodes_string [] = refl
nodes_string (e ∷ l) =
    decide (is_inner e.value)
    (λ i. rw i (ap (λ x. false ∷ x) (nodes_string l)))
    (λ i. rw i (ap (λ x. true ∷ x) (nodes_string l)))

pub leaves_string : (l : List Record) → leaf_bits l ≡ string_of true (values_of l)
unfolding leaf_bits string_of bit_of
leaves_string [] = refl
leaves_string (e ∷ l) =
    decide (is_inner e.value)
    (λ i. rw i (leaves_string l))
    (λ i. decide (has_slot e.value 1)
    (λ s. rw (i, s) (ap (λ x. true ∷ x) (leaves_string l)))
    (λ s. rw (i, s) (ap (λ x. false ∷ x) (leaves_string l))))

length-bytes : (l : List Bool) → length (packed l) ≡ bytes_for (length l)
unfolding packed
length-bytes l = length-packed (bytes_for (length l)) l

packed_is : (l : List Bool) (count : ℕ) → count ≡ bytes_for (length l) → packed l ≡ packed_in count l
unfolding packed
packed_is l count e = ap (λ n. packed_in n l) (sym e)

-- ---- the calls

not_twelve : (a b c : Bool) → ◌≡◌ {A = ℕ} (cond a 1 (cond b 23 (cond c 4 0))) 12 → ⊥
not_twelve true b c e = omega arith
not_twelve false true c e = omega arith
not_twelve false false true e = omega arith
not_twelve false false false e = omega arith

module _ (m s : ℕ) (keys bits : List ℕ) (n : ℕ) (nodes leaves : List ℕ) where
  -- what writing promises of its result and of the two slices
  abbrev pub WrittenAs : Strings → List ℕ → List ℕ → Type 0
  WrittenAs r nodes' leaves' =
      (r ≡ write_strings m s keys bits n nodes leaves)
      × ((nodes' ≡ written_nodes m s keys bits n nodes leaves) × (leaves' ≡ written_leaves m s keys bits n nodes leaves))

  -- all by the number that the table gives
  by_number : (k : ℕ) → write_strings_refusal m s keys bits n nodes leaves ≡ k
      → WrittenAs (record {
        refusal = k;
        node_bytes = cond (eqb k 0 || eqb k 12) (length (node_string keys bits n)) 0;
        leaf_bytes = cond (eqb k 0 || eqb k 12) (length (leaf_string keys bits n)) 0;
      })
      (accepted k (over (node_string keys bits n) nodes) nodes)
      (accepted k (over (leaf_string keys bits n) leaves) leaves)
  unfolding write_strings written_nodes written_leaves
  by_number k e = (
    sym (λ i. record {
      refusal = e i;
      node_bytes = cond (eqb (e i) 0 || eqb (e i) 12) (length (node_string keys bits n)) 0;
      leaf_bytes = cond (eqb (e i) 0 || eqb (e i) 12) (length (leaf_string keys bits n)) 0;
    }),
    (
      sym (λ i. accepted (e i) (over (node_string keys bits n) nodes) nodes),
      sym (λ i. accepted (e i) (over (leaf_string keys bits n) leaves) leaves),
    ),
  )

  early_not_twelve : early_refusal m s keys bits n ≡ 12 → ⊥
  unfolding early_refusal first
  early_not_twelve e = not_twelve (bad_settings m s) (not (eqb s 2)) (no_list m s keys bits n) e

  -- 1, 23, 4
  early_number : (k : ℕ) → k ≡ early_refusal m s keys bits n → (k ≡ 0 → ⊥) → write_strings_refusal m s keys bits n nodes leaves ≡ k
  unfolding early_refusal write_strings_refusal
  early_number k e z = holds_first (holds_more _ (first_holds k _ z (sym e)))

  pub refused_early : (k : ℕ) → k ≡ early_refusal m s keys bits n → (k ≡ 0 → ⊥)
      → WrittenAs (record { refusal = k; node_bytes = 0; leaf_bytes = 0 }) nodes leaves
  refused_early k e z =
      let told = by_number k (early_number k e z) in
      let zero_is = ne_eqb k 0 z in
      let twelve-is = ne_eqb k 12 (λ t. early_not_twelve (sym e ∙ t)) in
      let none : (x : ℕ) → cond (eqb k 0 || eqb k 12) x 0 ≡ 0 = λ x. ap₂ (λ a b. cond (a || b) x 0) zero_is twelve-is in (
        sym (λ i. record { refusal = k; node_bytes = none (length (node_string keys bits n)) i; leaf_bytes = none (length (leaf_string keys bits n)) i }) ∙ told.0,
        (
          sym (ap (λ b. cond b (over (node_string keys bits n) nodes) nodes) zero_is) ∙ told.1.0,
          sym (ap (λ b. cond b (over (leaf_string keys bits n) leaves) leaves) zero_is) ∙ told.1.1,
        ),
      )

  module _ (none : 0 ≡ early_refusal m s keys bits n) where
    no_row : (bad_settings m s ≡ false) × ((not (eqb s 2) ≡ false) × ((no_list m s keys bits n ≡ false) × Unit {0}))
    unfolding early_refusal
    no_row = first_none _ refl (sym none)

    two : s ≡ 2
    two = eqb-true s 2 (not-false _ no_row.1.0)

    list : is_list m s keys bits n ≡ true
    list = not-false _ no_row.1.1.0

    pub roomy : n ≤ room keys bits
    unfolding is_list
    roomy = leb-true n (room keys bits) (and_left (leb n (room keys bits)) (is_list_of_block m s m 0 0 root_key (records_of keys bits n)) list)

    shows : ShowsBlock s m 0 0 root_key (records_of keys bits n)
    unfolding is_list
    shows = block_list_to m s m 0 0 root_key (records_of keys bits n) (and_right (leb n (room keys bits)) (is_list_of_block m s m 0 0 root_key (records_of keys bits n)) list)

    many : length (records_of keys bits n) ≡ n
    many = let h = roomy in records-length keys bits n (omega arith) (omega arith)

    of_two : ShowsBlock 2 m 0 0 root_key (records_of keys bits n)
    of_two = rw two at shows

    leaf_many : 4 * length (leaf_bits (records_of keys bits n)) ≡ 3 * n + 1
    leaf_many =
        let p = of_two.picture in
        let e : 4 * length (leaf_bits (records_of keys bits n)) ≡ 3 * length (records_of keys bits n) + 1 =
        ap (λ l. 4 * length (leaf_bits l)) of_two.is
        ∙ leaves_many (list_shape p m 0 0 root_key of_two.below)
        ∙ ap (λ l. 3 * length l + 1) (sym of_two.is) in
        let f = many in
        omega arith

    pub node-bytes : (n + 7) / 8 ≡ length (node_string keys bits n)
    unfolding node_string
    node-bytes = sym (length-bytes (node_bits (records_of keys bits n)) ∙ ap bytes_for (nodes_many (records_of keys bits n) ∙ many))

    leaf_count : length (leaf_bits (records_of keys bits n)) ≡ n - n / 4
    leaf_count = let h = leaf_many in omega arith

    pub leaf-bytes : (n - n / 4 + 7) / 8 ≡ length (leaf_string keys bits n)
    unfolding leaf_string
    leaf-bytes = sym (length-bytes (leaf_bits (records_of keys bits n)) ∙ ap bytes_for leaf_count)

    short_is : (ltb (length nodes) ((n + 7) / 8) || ltb (length leaves) ((n - n / 4 + 7) / 8))
        ≡ (ltb (length nodes) (length (node_string keys bits n)) || ltb (length leaves) (length (leaf_string keys bits n)))
    short_is = ap₂ (λ a b. ltb (length nodes) a || ltb (length leaves) b) node-bytes leaf-bytes

    -- 12
    pub too_short : (ltb (length nodes) ((n + 7) / 8) || ltb (length leaves) ((n - n / 4 + 7) / 8)) ≡ true
        → WrittenAs (record { refusal = 12; node_bytes = (n + 7) / 8; leaf_bytes = (n - n / 4 + 7) / 8 }) nodes leaves
    unfolding write_strings_refusal
    too_short e =
        let told = by_number 12 (holds_first (later no_row.0 (later no_row.1.0 (later no_row.1.1.0 (this (sym short_is ∙ e) refl))))) in
        ((λ i. record { refusal = 12; node_bytes = node-bytes i; leaf_bytes = leaf-bytes i }) ∙ told.0, told.1)

    node-string : packed_in ((n + 7) / 8) (string_of false (take n bits)) ≡ node_string keys bits n
    unfolding node_string
    node-string =
        let is : node_bits (records_of keys bits n) ≡ string_of false (take n bits) = nodes_string (records_of keys bits n) ∙ ap (string_of false) (values_of_records keys bits n roomy) in
        ap (packed_in ((n + 7) / 8)) (sym is)
        ∙ sym (packed_is (node_bits (records_of keys bits n)) ((n + 7) / 8) (ap bytes_for (sym (nodes_many (records_of keys bits n) ∙ many))))

    leaf-string : packed_in ((n - n / 4 + 7) / 8) (string_of true (take n bits)) ≡ leaf_string keys bits n
    unfolding leaf_string
    leaf-string =
        let is : leaf_bits (records_of keys bits n) ≡ string_of true (take n bits) = leaves_string (records_of keys bits n) ∙ ap (string_of true) (values_of_records keys bits n roomy) in
        ap (packed_in ((n - n / 4 + 7) / 8)) (sym is)
        ∙ sym (packed_is (leaf_bits (records_of keys bits n)) ((n - n / 4 + 7) / 8) (ap bytes_for (sym leaf_count)))

    -- the strings that were written are what writing leaves
    pub all_written : (nodes' leaves' : List ℕ)
        → (ltb (length nodes) ((n + 7) / 8) || ltb (length leaves) ((n - n / 4 + 7) / 8)) ≡ false
        → nodes' ≡ over (packed_in ((n + 7) / 8) (string_of false (take n bits))) nodes
        → leaves' ≡ over (packed_in ((n - n / 4 + 7) / 8) (string_of true (take n bits))) leaves
        → WrittenAs (record { refusal = 0; node_bytes = (n + 7) / 8; leaf_bytes = (n - n / 4 + 7) / 8 }) nodes' leaves'
    unfolding write_strings_refusal
    all_written nodes' leaves' e f g =
        let told = by_number 0 (none_first _ (no_row.0, (no_row.1.0, (no_row.1.1.0, (sym short_is ∙ e, tt))))) in (
          (λ i. record { refusal = 0; node_bytes = node-bytes i; leaf_bytes = leaf-bytes i }) ∙ told.0,
          (f ∙ ap (λ l. over l nodes) node-string ∙ told.1.0, g ∙ ap (λ l. over l leaves) leaf-string ∙ told.1.1),
        )
