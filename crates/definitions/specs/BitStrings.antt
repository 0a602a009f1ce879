-- A list of two features as a pair of bit strings (specification S18): in key order one bit a node, 0 inner and 1 leaf, and apart from it one
-- bit a leaf, its feature. Both are packed from the high bit, with spare bits zero. Rests on List and Bits.
use Rattle.std.specs.Prelude.{ℕ, zero, suc, ◌+◌, ◌/◌, ◌^◌, Bool, true, false, cond, not, ◌&&◌, ◌||◌, List, [], ◌∷◌, ◌++◌, length, get_or, drop, leb, eqb}
use Rattle.keys.specs.Key.{root_key, zeros_at_end}
use Rattle.definitions.specs.Bits.{has_slot}
use Rattle.definitions.specs.List.{Record, record_of}

-- both features occur
unfoldable pub is_inner : (value : ℕ) → Bool
is_inner value = has_slot value 0 && has_slot value 1

-- one bit a node: 0 inner, 1 leaf
unfoldable pub node_bits : List Record → List Bool
node_bits [] = []
node_bits (e ∷ l) = not (is_inner e.value) ∷ node_bits l

-- one bit a leaf: the feature
unfoldable pub leaf_bits : List Record → List Bool
leaf_bits [] = []
leaf_bits (e ∷ l) = cond (is_inner e.value) (leaf_bits l) (has_slot e.value 1 ∷ leaf_bits l)

-- the first k bits as a number, the first one worth most; a bit past the end is zero
unfoldable pub high_first : (k : ℕ) (l : List Bool) → ℕ
high_first zero l = 0
high_first (suc k) [] = 0
high_first (suc k) (b ∷ l) = cond b (2 ^ k) 0 + high_first k l

unfoldable pub packed_in : (n : ℕ) (l : List Bool) → List ℕ
packed_in zero l = []
packed_in (suc n) l = high_first 8 l ∷ packed_in n (drop 8 l)

-- the bytes that so many bits take
abbrev pub bytes_for : (n : ℕ) → ℕ
bytes_for n = (n + 7) / 8

unfoldable pub packed : List Bool → List ℕ
packed l = packed_in (bytes_for (length l)) l

-- the last k bits of a byte, from the high one on
unfoldable pub bits_of_byte : (k byte : ℕ) → List Bool
bits_of_byte zero byte = []
bits_of_byte (suc k) byte = has_slot byte k ∷ bits_of_byte k byte

-- all bits of bytes, each from its high bit on
unfoldable pub bits_in : (bytes : List ℕ) → List Bool
bits_in [] = []
bits_in (byte ∷ bytes) = bits_of_byte 8 byte ++ bits_in bytes

-- the next key in key order: after a leaf the block that follows it, after an inner node its first child
unfoldable pub key_after : (m x : ℕ) (leaf : Bool) → ℕ
key_after m x leaf = x + cond leaf (5 ^ zeros_at_end m x) (5 ^ zeros_at_end m x / 5)

-- the string begins with k bits equal to b
unfoldable pub begins_with : (k : ℕ) (b : Bool) (l : List Bool) → Bool
begins_with zero b l = true
begins_with (suc k) b [] = false
begins_with (suc k) b (x ∷ l) = cond b x (not x) && begins_with k b l

-- the four children of an inner node are leaves of one feature, where these are the bits after the node's own
unfoldable pub four_equal : (nodes leaves : List Bool) → Bool
four_equal nodes leaves = begins_with 4 true nodes && (begins_with 4 false leaves || begins_with 4 true leaves)

unfoldable pub any_set : List Bool → Bool
any_set [] = false
any_set (b ∷ l) = b || any_set l

-- what comes of reading a pair
pub data Reading : Type 0 where
  whole : Reading
  ends_early : Reading
  runs_on : Reading
  too_deep : Reading
  spare_bit_set : Reading
  equal_siblings : Reading

unfoldable pub is_whole : Reading → Bool
is_whole whole = true
is_whole ends_early = false
is_whole runs_on = false
is_whole too_deep = false
is_whole spare_bit_set = false
is_whole equal_siblings = false

-- what may be left when the last block is read: fewer bits than a byte has, and none set
unfoldable pub left_over : (nodes leaves : List Bool) → Reading
left_over nodes leaves =
    cond (leb 8 (length nodes) || leb 8 (length leaves)) runs_on (cond (any_set nodes || any_set leaves) spare_bit_set whole)

-- reading the blocks in key order from the key x on; every key is below 5 ^ m
unfoldable pub reading : (m x : ℕ) (nodes leaves : List Bool) → Reading
reading m x [] leaves = cond (leb (5 ^ m) x) (left_over [] leaves) ends_early
reading m x (true ∷ nodes) [] = cond (leb (5 ^ m) x) (left_over (true ∷ nodes) []) ends_early
reading m x (true ∷ nodes) (f ∷ leaves) =
    cond (leb (5 ^ m) x) (left_over (true ∷ nodes) (f ∷ leaves)) (reading m (key_after m x true) nodes leaves)
reading m x (false ∷ nodes) leaves =
    cond (leb (5 ^ m) x)
    (left_over (false ∷ nodes) leaves)
    (cond (eqb (zeros_at_end m x) 0)
    too_deep
    (cond (four_equal nodes leaves) equal_siblings (reading m (key_after m x false) nodes leaves)))

-- the bitstring of a leaf whose feature is the first of the bits, and that of an inner node
abbrev pub leaf_value : (leaves : List Bool) → ℕ
leaf_value leaves = cond (get_or leaves 0 false) 2 1

abbrev pub inner_value : ℕ
inner_value = 3

-- the records that are read from the key x on
unfoldable pub records_from : (m x : ℕ) (nodes leaves : List Bool) → List Record
records_from m x [] leaves = []
records_from m x (true ∷ nodes) leaves =
    cond (leb (5 ^ m) x) [] (record_of x (leaf_value leaves) ∷ records_from m (key_after m x true) nodes (drop 1 leaves))
records_from m x (false ∷ nodes) leaves =
    cond (leb (5 ^ m) x) [] (record_of x inner_value ∷ records_from m (key_after m x false) nodes leaves)

-- two byte strings are an accepted pair: the bits do not end early, run on, go deeper than m, have a spare bit set or show four equal leaf siblings
unfoldable pub is_pair : (m : ℕ) (nodes leaves : List ℕ) → Bool
is_pair m nodes leaves = is_whole (reading m root_key (bits_in nodes) (bits_in leaves))

-- the records of a pair
unfoldable pub records_of_pair : (m : ℕ) (nodes leaves : List ℕ) → List Record
records_of_pair m nodes leaves = records_from m root_key (bits_in nodes) (bits_in leaves)
