-- One list has one pair of strings and each accepted pair one list: what is written reads back as the list, what is read is a list and writes back as
-- the bytes (specification S18.14). Rests on Trees and Unpacking, and on the laws of joined pictures.
use Prim.Native.Nat.{ℕ, suc, ◌+◌, ◌*◌, ◌^◌, ◌<◌}
use mathlib.Core.Path.{◌≡◌, refl, sym, ap, ap₂, ◌∙◌}
use mathlib.Core.Bool.{Bool, true, false, cond, ◌&&◌}
use mathlib.Core.List.{List, [], ◌∷◌, ◌++◌, append-nil}
use native.Mathlib.Omega.{arith}
use lib.ListN.{length}
use Rattle.keys.specs.Key.{root_key}
use Rattle.keys.proofs.Cases.{and_left, and_right, and_both}
use Rattle.definitions.specs.Picture.{Picture, one_feature}
use Rattle.definitions.specs.Bits.{bits_of, feature_of, twos_in}
use Rattle.definitions.specs.List.{Record, record_of, list_of}
use Rattle.definitions.specs.Read.{is_list_of_block}
use Rattle.definitions.specs.BitStrings.{node_bits, leaf_bits, packed, bits_in, is_whole, left_over, reading, records_from, is_pair, records_of_pair}
use Rattle.laws.proofs.FileBytes.{Bytes}
use Rattle.laws.proofs.Features.{one_from_leaf}
use Rattle.laws.proofs.Slots.{same_four}
use Rattle.laws.proofs.BitsOf.{bits_one, below_bits}
use Rattle.laws.proofs.ListOf.{list_one}
use Rattle.laws.proofs.ReadBack.{root_keys}
use Rattle.laws.proofs.IsList.{ShowsBlock, block_list_to, block_list_from}
use Rattle.list.specs.Check.{one_slot}
use Rattle.list.proofs.OneSlot.{slot_feature}
use Rattle.list.proofs.Joined.{joined, joined_bits, joined_list}
use Rattle.bit_strings.specs.Steps.{is_spare}
use Rattle.bit_strings.proofs.Counting.{left_spare}
use Rattle.bit_strings.proofs.Passing.{reading_past, records_past}
use Rattle.bit_strings.proofs.Shape.{Shape, leaf, node, list_shape, nodes_many, leaves_many}
use Rattle.bit_strings.proofs.Unpacking.{again, packed_back}
use Rattle.bit_strings.proofs.Places.{root_place}
use Rattle.bit_strings.proofs.Trees.{list_read, BlockRead, block_read}

-- ---- a shape is the list of a picture

pub record ShownAs (k r c κ v : ℕ) (l : List Record) : Type 0 where
  pub picture : Picture
  pub bits_are : bits_of picture k r c ≡ v
  pub is : l ≡ list_of picture k r c κ

leaf_power : (b : Bool) → 2 ^ cond b 1 0 ≡ cond b 2 1
leaf_power true = refl
leaf_power false = refl

three_several : one_slot 3 ≡ false
unfolding one_slot feature_of twos_in
three_several = refl

pub shape_shown : {k κ v : ℕ} {l : List Record} → Shape k κ v l → (r c : ℕ) → ShownAs k r c κ v l
shape_shown {k} {κ} (leaf b) r c =
    let p : Picture = λ row column. cond b 1 0 in
    let one : one_feature p k r c ≡ true = one_from_leaf p (cond b 1 0) k r c (λ row column w. refl) in
    record {
      picture = p;
      bits_are = bits_one p k r c one ∙ leaf_power b;
      is = sym (list_one p k r c κ one ∙ ap (λ v. record_of κ v ∷ []) (leaf_power b));
    }
shape_shown {κ = κ} (node {k = k} {nw = nw} {ne = ne} {sw = sw} {se = se} a b c d u) row column =
    let A = shape_shown a row column in
    let B = shape_shown b row (column + 2 ^ k) in
    let C = shape_shown c (row + 2 ^ k) column in
    let D = shape_shown d (row + 2 ^ k) (column + 2 ^ k) in
    let p = joined k row column A.picture B.picture C.picture D.picture in
    let bits : bits_of p (suc k) row column ≡ 3 =
    joined_bits k row column A.picture B.picture C.picture D.picture ∙ same_four A.bits_are B.bits_are C.bits_are D.bits_are ∙ u in
    let several = sym (slot_feature p (suc k) row column) ∙ ap one_slot bits ∙ three_several in
    record {
      picture = p;
      bits_are = bits;
      is = lists A.is B.is C.is D.is (sym bits) ∙ sym (joined_list k row column A.picture B.picture C.picture D.picture κ several);
    }
  where
    lists : {a b c d a' b' c' d' : List Record} {x y : ℕ} → a ≡ a' → b ≡ b' → c ≡ c' → d ≡ d' → x ≡ y
        → record_of κ x ∷ (a ++ (b ++ (c ++ d))) ≡ record_of κ y ∷ (a' ++ (b' ++ (c' ++ d')))
    lists e f g h i = cc

shape_small : {k κ v : ℕ} {l : List Record} → Shape k κ v l → v < 4
shape_small (leaf true) = omega arith
shape_small (leaf false) = omega arith
shape_small (node a b c d u) = omega arith

-- ---- writing and then reading

module _ (m : ℕ) (l : List Record) (list : is_list_of_block m 2 m 0 0 root_key l ≡ true) where
  shows : ShowsBlock 2 m 0 0 root_key l
  shows = block_list_to m 2 m 0 0 root_key l list

  shape : Shape m 0 (bits_of shows.picture m 0 0) l
  shape = ap' shows.is (list_shape shows.picture m 0 0 root_key shows.below)
    where
      ap' : {v : ℕ} {a b : List Record} → a ≡ b → Shape m 0 v b → Shape m 0 v a
      ap' e s = rw e s

  -- the numbers of bits are those of nodes and leaves
  pub node_bits_many : length (node_bits l) ≡ length l
  node_bits_many = nodes_many l

  pub leaf_bits_many : 4 * length (leaf_bits l) ≡ 3 * length l + 1
  leaf_bits_many = leaves_many shape

  strings_end : is_whole (left_over (again (node_bits l)).rest (again (leaf_bits l)).rest) ≡ true
  strings_end =
      left_spare (again (node_bits l)).rest (again (leaf_bits l)).rest
      ∙ and_both (is_spare (again (node_bits l)).rest) (is_spare (again (leaf_bits l)).rest) (again (node_bits l)).spare (again (leaf_bits l)).spare

  past : 0 + 5 ^ m ≡ 5 ^ m
  past = omega arith

  -- the strings of a list are an accepted pair
  pub written_accepted : is_pair m (packed (node_bits l)) (packed (leaf_bits l)) ≡ true
  unfolding is_pair
  written_accepted =
      let n = again (node_bits l) in
      let f = again (leaf_bits l) in
      ap₂ (λ a b. is_whole (reading m 0 a b)) n.is f.is
      ∙ ap is_whole ((list_read shape (root_place m) n.rest f.rest).read ∙ reading_past m (0 + 5 ^ m) n.rest f.rest (omega arith))
      ∙ strings_end

  -- and read back as the list
  pub written_read : records_of_pair m (packed (node_bits l)) (packed (leaf_bits l)) ≡ l
  unfolding records_of_pair
  written_read =
      let n = again (node_bits l) in
      let f = again (leaf_bits l) in
      ap₂ (records_from m 0) n.is f.is
      ∙ (list_read shape (root_place m) n.rest f.rest).records
      ∙ ap (λ t. l ++ t) (records_past m (0 + 5 ^ m) n.rest f.rest (omega arith))
      ∙ append-nil l

-- so two lists with the same strings are the same
pub one_list_of_pair : (m : ℕ) (l l' : List Record) → is_list_of_block m 2 m 0 0 root_key l ≡ true → is_list_of_block m 2 m 0 0 root_key l' ≡ true
    → packed (node_bits l) ≡ packed (node_bits l') → packed (leaf_bits l) ≡ packed (leaf_bits l') → l ≡ l'
one_list_of_pair m l l' e f p q = sym (written_read m l e) ∙ ap₂ (records_of_pair m) p q ∙ written_read m l' f

-- ---- reading and then writing

module _ (m : ℕ) (nodes leaves : List ℕ) (pair : is_pair m nodes leaves ≡ true) where
  whole_read : is_whole (reading m 0 (bits_in nodes) (bits_in leaves)) ≡ true
  unfolding is_pair
  whole_read = pair

  block : BlockRead m m 0 (bits_in nodes) (bits_in leaves)
  block = block_read m m 0 (root_place m) (bits_in nodes) (bits_in leaves) whole_read

  records_are : records_of_pair m nodes leaves ≡ block.list
  unfolding records_of_pair
  records_are =
      ap₂ (records_from m 0) block.nodes block.leaves
      ∙ (list_read block.shape (root_place m) block.more_nodes block.more_leaves).records
      ∙ ap (λ t. block.list ++ t) (records_past m (0 + 5 ^ m) block.more_nodes block.more_leaves (omega arith))
      ∙ append-nil block.list

  spares : is_spare block.more_nodes && is_spare block.more_leaves ≡ true
  spares =
      sym (ap is_whole (reading_past m (0 + 5 ^ m) block.more_nodes block.more_leaves (omega arith)) ∙ left_spare block.more_nodes block.more_leaves)
      ∙ block.whole

  -- what is read is a list
  pub read_list : is_list_of_block m 2 m 0 0 root_key (records_of_pair m nodes leaves) ≡ true
  read_list =
      let s = shape_shown block.shape 0 0 in
      let e = s.bits_are in
      let h = shape_small block.shape in
      block_list_from m 2 m 0 0 root_key (records_of_pair m nodes leaves) (root_keys m)
      (record { picture = s.picture; below = below_bits 2 s.picture m 0 0 (omega arith); is = records_are ∙ s.is })

  -- and writes back as the bytes
  module _ (good-nodes : Bytes nodes) (good-leaves : Bytes leaves) where
    pub read_nodes : packed (node_bits (records_of_pair m nodes leaves)) ≡ nodes
    read_nodes =
        ap (λ l. packed (node_bits l)) records_are
        ∙ packed_back good-nodes (node_bits block.list) block.more_nodes block.nodes (and_left (is_spare block.more_nodes) (is_spare block.more_leaves) spares)

    pub read_leaves : packed (leaf_bits (records_of_pair m nodes leaves)) ≡ leaves
    read_leaves =
        ap (λ l. packed (leaf_bits l)) records_are
        ∙ packed_back good-leaves (leaf_bits block.list) block.more_leaves block.leaves (and_right (is_spare block.more_nodes) (is_spare block.more_leaves) spares)

-- so two accepted pairs with the same list are the same
pub one_pair : (m : ℕ) (nodes leaves nodes' leaves' : List ℕ) → Bytes nodes → Bytes leaves → Bytes nodes' → Bytes leaves'
    → is_pair m nodes leaves ≡ true → is_pair m nodes' leaves' ≡ true
    → records_of_pair m nodes leaves ≡ records_of_pair m nodes' leaves' → (nodes ≡ nodes') × (leaves ≡ leaves')
one_pair m nodes leaves nodes' leaves' a b c d p q e = (
  sym (read_nodes m nodes leaves p a b) ∙ ap (λ l. packed (node_bits l)) e ∙ read_nodes m nodes' leaves' q c d,
  sym (read_leaves m nodes leaves p a b) ∙ ap (λ l. packed (leaf_bits l)) e ∙ read_leaves m nodes' leaves' q c d,
)
