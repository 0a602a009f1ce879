-- Reading a list gives its picture back: at a pixel's key the last record at or before it is that of the leaf around the pixel. So different
-- pictures have different lists. Rests on ListOf, ValueAt and Within.
use Prim.Native.Nat.{ℕ, zero, suc, ◌+◌, ◌-◌, ◌^◌, ◌<◌}
use mathlib.Core.Path.{◌≡◌, refl, sym, ◌∙◌, ap, ap₂}
use mathlib.Core.List.{List, [], ◌∷◌, ◌++◌}
use native.Mathlib.Nat.{pow-suc, zero-add}
use native.Mathlib.Omega.{arith}
use Rattle.keys.specs.Key.{root_key, child_key}
use Rattle.keys.specs.Block.{pixel_key}
use Rattle.keys.proofs.Cases.{decide, split}
use Rattle.definitions.specs.Picture.{Picture, one_feature}
use Rattle.definitions.specs.Bits.{bits_of, feature_of}
use Rattle.definitions.specs.List.{Record, record_of, list_of, list_of_picture}
use Rattle.definitions.specs.Read.{value_at, picture_of}
use Rattle.laws.proofs.Within.{at_offset}
use Rattle.laws.proofs.Pixels.{Agree}
use Rattle.laws.proofs.Features.{one_to}
use Rattle.laws.proofs.FeatureOf.{feature_of_power, power_inj}
use Rattle.laws.proofs.ListOf.{list_zero, list_one, list_node, list_ascends}
use Rattle.laws.proofs.ValueAt.{Reads, Silent, value_above, silent-append, reads_left, reads_right, reads_tail, reads_one}
use Rattle.keys.proofs.Pixel.{pixel_nw, pixel_ne, pixel_sw, pixel_se, pixel_key-lt}
use Rattle.keys.specs.Under.{InSquare}

reads_as : (x y : ℕ) {x' y' : ℕ} (l : List Record) → x ≡ x' → y' ≡ y → Reads x' l y' → Reads x l y
reads_as x y l e f h v = ap (λ z. value_at z v l) e ∙ h v ∙ f

-- in the list of a node, what the list of one quadrant gives, where those after it have nothing
module _ (x y : ℕ) (e : Record) (a b c d : List Record) where
  node_nw : Reads x a y → Silent x b → Silent x c → Silent x d → Reads x (e ∷ (a ++ (b ++ (c ++ d)))) y
  node_nw h in_b in_c in-d =
      reads_tail x y e (a ++ (b ++ (c ++ d))) (reads_left x y a (b ++ (c ++ d)) h (silent-append x b (c ++ d) in_b (silent-append x c d in_c in-d)))

  node_ne : Reads x b y → Silent x c → Silent x d → Reads x (e ∷ (a ++ (b ++ (c ++ d)))) y
  node_ne h in_c in-d =
      reads_tail x y e (a ++ (b ++ (c ++ d))) (reads_right x y a (b ++ (c ++ d)) (reads_left x y b (c ++ d) h (silent-append x c d in_c in-d)))

  node_sw : Reads x c y → Silent x d → Reads x (e ∷ (a ++ (b ++ (c ++ d)))) y
  node_sw h in-d =
      reads_tail x y e (a ++ (b ++ (c ++ d))) (reads_right x y a (b ++ (c ++ d)) (reads_right x y b (c ++ d) (reads_left x y c d h in-d)))

  node_se : Reads x d y → Reads x (e ∷ (a ++ (b ++ (c ++ d)))) y
  node_se h = reads_tail x y e (a ++ (b ++ (c ++ d))) (reads_right x y a (b ++ (c ++ d)) (reads_right x y b (c ++ d) (reads_right x y c d h)))

-- the list of a block gives nothing before the block's key
silent_before : (p : Picture) (k r c κ x : ℕ) → x < κ → Silent x (list_of p k r c κ)
silent_before p k r c κ x h v = value_above x v h (list_ascends p k r c κ)

-- at the key of a pixel of the block the list gives the pixel's feature
pub read_block : (p : Picture) (k r c κ r' c' : ℕ) → r' < 2 ^ k → c' < 2 ^ k
    → Reads (κ + pixel_key k r' c') (list_of p k r c κ) (2 ^ p (r + r') (c + c'))
read_block p zero r c κ r' c' h j =
    rw (list_zero p r c κ)
    (reads_as (κ + pixel_key zero r' c') (2 ^ p (r + r') (c + c')) (record_of κ (2 ^ p r c) ∷ []) refl
    (ap (λ f. 2 ^ f) (ap₂ p (omega arith) (omega arith)))
    (reads_one (κ + pixel_key zero r' c') κ (2 ^ p r c) (omega arith)))
read_block p (suc k) r c κ r' c' h j =
    let side = pow-suc 2 k in
    let x = κ + pixel_key (suc k) r' c' in
    let y = 2 ^ p (r + r') (c + c') in
    let list-nw = list_of p k r c (child_key κ k 1) in
    let list-ne = list_of p k r (c + 2 ^ k) (child_key κ k 2) in
    let list-sw = list_of p k (r + 2 ^ k) c (child_key κ k 3) in
    let list-se = list_of p k (r + 2 ^ k) (c + 2 ^ k) (child_key κ k 4) in
    let own = record_of κ (bits_of p (suc k) r c) in
    decide (one_feature p (suc k) r c)
    (λ one. rw (list_one p (suc k) r c κ one)
    (reads_as x y (record_of κ (2 ^ p r c) ∷ []) refl
    (ap (λ f. 2 ^ f) (sym (one_to p (suc k) r c one (r + r') (c + c') (at_offset h j))))
    (reads_one x κ (2 ^ p r c) (omega arith))))
    (λ several. rw (list_node p k r c κ several)
    (split r' (2 ^ k)
    (λ n. split c' (2 ^ k)
    (λ w. let e = pixel_nw k r' c' n w in
    let b = pixel_key-lt k r' c' in
    node_nw x y own list-nw list-ne list-sw list-se
    (reads_as x y list-nw (omega arith) refl (read_block p k r c (child_key κ k 1) r' c' n w))
    (silent_before p k r (c + 2 ^ k) (child_key κ k 2) x (omega arith))
    (silent_before p k (r + 2 ^ k) c (child_key κ k 3) x (omega arith))
    (silent_before p k (r + 2 ^ k) (c + 2 ^ k) (child_key κ k 4) x (omega arith)))
    (λ w. let e = pixel_ne k r' c' n w in
    let b = pixel_key-lt k r' (c' - 2 ^ k) in
    let f : c + 2 ^ k + (c' - 2 ^ k) ≡ c + c' = omega arith in
    node_ne x y own list-nw list-ne list-sw list-se
    (reads_as x y list-ne (omega arith) (rw f) (read_block p k r (c + 2 ^ k) (child_key κ k 2) r' (c' - 2 ^ k) n (omega arith)))
    (silent_before p k (r + 2 ^ k) c (child_key κ k 3) x (omega arith))
    (silent_before p k (r + 2 ^ k) (c + 2 ^ k) (child_key κ k 4) x (omega arith))))
    (λ s. split c' (2 ^ k)
    (λ w. let e = pixel_sw k r' c' s w in
    let b = pixel_key-lt k (r' - 2 ^ k) c' in
    let f : r + 2 ^ k + (r' - 2 ^ k) ≡ r + r' = omega arith in
    node_sw x y own list-nw list-ne list-sw list-se
    (reads_as x y list-sw (omega arith) (rw f) (read_block p k (r + 2 ^ k) c (child_key κ k 3) (r' - 2 ^ k) c' (omega arith) w))
    (silent_before p k (r + 2 ^ k) (c + 2 ^ k) (child_key κ k 4) x (omega arith)))
    (λ w. let e = pixel_se k r' c' s w in
    let f : r + 2 ^ k + (r' - 2 ^ k) ≡ r + r' = omega arith in
    let g : c + 2 ^ k + (c' - 2 ^ k) ≡ c + c' = omega arith in
    node_se x y own list-nw list-ne list-sw list-se
    (reads_as x y list-se (omega arith) (rw (f, g)) (read_block p k (r + 2 ^ k) (c + 2 ^ k) (child_key κ k 4) (r' - 2 ^ k) (c' - 2 ^ k) (omega arith) (omega arith)))))))

-- the same at a pixel given by its row and column in the map
pub read_pixel : (p : Picture) (k r c κ a b : ℕ) → InSquare k r c a b → Reads (κ + pixel_key k (a - r) (b - c)) (list_of p k r c κ) (2 ^ p a b)
read_pixel p k r c κ a b w =
    let f : r + (a - r) ≡ a = omega arith in
    let g : c + (b - c) ≡ b = omega arith in
    reads_as (κ + pixel_key k (a - r) (b - c)) (2 ^ p a b) (list_of p k r c κ) refl (rw (f, g)) (read_block p k r c κ (a - r) (b - c) (omega arith) (omega arith))

-- different pixels give different lists: where the lists of two pictures at a block are equal, the pictures agree on it
pub list_differ : (p q : Picture) (k r c κ : ℕ) → list_of p k r c κ ≡ list_of q k r c κ → Agree p q k r c
list_differ p q k r c κ e a b w =
    power_inj (p a b) (q a b)
    (sym (read_pixel p k r c κ a b w 0) ∙ ap (value_at (κ + pixel_key k (a - r) (b - c)) 0) e ∙ read_pixel q k r c κ a b w 0)

-- in the map of side 2 ^ m the pixels of the block of height k at row r and column c have their keys from κ on
abbrev pub KeysFrom : ℕ → ℕ → ℕ → ℕ → ℕ → Type 0
KeysFrom m k r c κ = (r' c' : ℕ) → r' < 2 ^ k → c' < 2 ^ k → pixel_key m (r + r') (c + c') ≡ κ + pixel_key k r' c'

-- the whole map's from the root key on
pub root_keys : (m : ℕ) → KeysFrom m m 0 0 root_key
root_keys m r' c' h j = ap₂ (pixel_key m) (zero-add r') (zero-add c') ∙ sym (zero-add (pixel_key m r' c'))

-- the picture that the list of a block shows agrees with its picture on the block
pub block_back : (m : ℕ) (p : Picture) (k r c κ : ℕ) → KeysFrom m k r c κ → Agree (picture_of m (list_of p k r c κ)) p k r c
unfolding picture_of
block_back m p k r c κ keys a b w =
    let f : r + (a - r) ≡ a = omega arith in
    let g : c + (b - c) ≡ b = omega arith in
    let e : pixel_key m a b ≡ κ + pixel_key k (a - r) (b - c) = sym (ap₂ (pixel_key m) f g) ∙ keys (a - r) (b - c) (omega arith) (omega arith) in
    ap feature_of (ap (λ x. value_at x 0 (list_of p k r c κ)) e ∙ read_pixel p k r c κ a b w 0) ∙ feature_of_power (p a b)

-- the picture that the list of a picture shows is that picture, inside the map
pub picture_back : (m : ℕ) (p : Picture) (r c : ℕ) → r < 2 ^ m → c < 2 ^ m → picture_of m (list_of_picture m p) r c ≡ p r c
picture_back m p r c h j = block_back m p m 0 0 root_key (root_keys m) r c (omega arith)
