-- The leaves of a list: their keys tile the raster, three in four of the records and a quarter more are leaves, and each pixel lies in a leaf that has
-- its feature. Rests on Tiles and on the equations of lists.
use Prim.Native.Nat.{ℕ, zero, suc, ◌+◌, ◌*◌, ◌^◌, ◌<◌}
use mathlib.Core.Path.{◌≡◌, refl, sym, ◌∙◌, ap}
use mathlib.Core.Bool.{Bool, true, false, cond, ◌||◌}
use mathlib.Core.List.Memᴰ
use mathlib.Core.List.{List, [], ◌∷◌, ◌++◌, map-append, Memᴰ}
use native.Mathlib.Omega.{arith}
use lib.ListN.{length, length-append}
use lib.Dec.{leb}
use borrow.Author.Tests.{lt-leb}
use Rattle.keys.specs.Key.{child_key}
use Rattle.keys.specs.Block.{in_block}
use Rattle.keys.proofs.Cases.{decide}
use Rattle.keys.specs.Under.{MapBlock, here, nw, ne, sw, se, InSquare}
use Rattle.keys.proofs.Under.{under_trans}
use Rattle.keys.proofs.InBlock.{in_block_iff}
use Rattle.definitions.specs.Picture.{Picture, one_feature, features_below}
use Rattle.definitions.specs.Bits.{feature_of, bits_of}
use Rattle.definitions.specs.List.{Record, record_of, list_of, keys_of, values_of}
use Rattle.definitions.specs.Leaves.{is_leaf, leaves_of}
use Rattle.definitions.specs.Refusal.{bad_pixel}
use Rattle.laws.proofs.Within.{within-cases, first_within}
use Rattle.laws.proofs.Features.{one_to, one_pixel, below_to, below_under}
use Rattle.laws.proofs.FeatureOf.{feature_of_power}
use Rattle.laws.proofs.ListOf.{list_one, list_node, length-node}
use Rattle.list.specs.Check.{one_slot}
use Rattle.list.proofs.OneSlot.{power_slot, slot_feature}
use Rattle.leaves.proofs.Tiles.{Tiles, alone, parts}

-- the definition's test of a leaf is the check's
pub leaf_slot : (bits : ℕ) → is_leaf bits ≡ one_slot bits
unfolding one_slot
leaf_slot bits = refl

pub leaves_cons : (κ bits : ℕ) (l : List Record) → one_slot bits ≡ true → leaves_of (record_of κ bits ∷ l) ≡ record_of κ (feature_of bits) ∷ leaves_of l
unfolding leaves_of
leaves_cons κ bits l e = ap (λ t. cond t (record_of κ (feature_of bits) ∷ leaves_of l) (leaves_of l)) (leaf_slot bits ∙ e)

pub leaves_skip : (κ bits : ℕ) (l : List Record) → one_slot bits ≡ false → leaves_of (record_of κ bits ∷ l) ≡ leaves_of l
unfolding leaves_of
leaves_skip κ bits l e = ap (λ t. cond t (record_of κ (feature_of bits) ∷ leaves_of l) (leaves_of l)) (leaf_slot bits ∙ e)

pub leaves_nil : leaves_of [] ≡ []
unfolding leaves_of
leaves_nil = refl

either : {A : Type 0} (t : Bool) (x : A) (a b : List A) → cond t (x ∷ (a ++ b)) (a ++ b) ≡ cond t (x ∷ a) a ++ b
either true x a b = refl
either false x a b = refl

pub leaves-append : (a b : List Record) → leaves_of (a ++ b) ≡ leaves_of a ++ leaves_of b
unfolding leaves_of
leaves-append [] b = refl
leaves-append (e ∷ a) b =
    ap (λ l. cond (is_leaf e.value) (record_of e.key (feature_of e.value) ∷ l) l) (leaves-append a b)
    ∙ either (is_leaf e.value) (record_of e.key (feature_of e.value)) (leaves_of a) (leaves_of b)

leaves_fours : (a b c d : List Record) → leaves_of (a ++ (b ++ (c ++ d))) ≡ leaves_of a ++ (leaves_of b ++ (leaves_of c ++ leaves_of d))
leaves_fours a b c d =
    leaves-append a (b ++ (c ++ d))
    ∙ ap (λ l. leaves_of a ++ l) (leaves-append b (c ++ d) ∙ ap (λ l. leaves_of b ++ l) (leaves-append c d))

module _ (p : Picture) where
  abbrev pub leaves_at : (k r c κ : ℕ) → List Record
  leaves_at k r c κ = leaves_of (list_of p k r c κ)

  -- a block of one feature is a leaf
  pub leaves_one : (k r c κ : ℕ) → one_feature p k r c ≡ true → leaves_at k r c κ ≡ record_of κ (p r c) ∷ []
  leaves_one k r c κ e =
      ap leaves_of (list_one p k r c κ e)
      ∙ leaves_cons κ (2 ^ p r c) [] (power_slot (p r c))
      ∙ ap (λ f. record_of κ f ∷ leaves_of []) (feature_of_power (p r c))
      ∙ ap (λ l. record_of κ (p r c) ∷ l) leaves_nil

  -- one of several has those of its quadrants
  pub leaves_node : (k r c κ : ℕ) → one_feature p (suc k) r c ≡ false → leaves_at (suc k) r c κ
      ≡ leaves_at k r c (child_key κ k 1)
      ++ (leaves_at k r (c + 2 ^ k) (child_key κ k 2) ++ (leaves_at k (r + 2 ^ k) c (child_key κ k 3) ++ leaves_at k (r + 2 ^ k) (c + 2 ^ k) (child_key κ k 4)))
  leaves_node k r c κ e =
      ap leaves_of (list_node p k r c κ e)
      ∙ leaves_skip κ (bits_of p (suc k) r c) _ (slot_feature p (suc k) r c ∙ e)
      ∙ leaves_fours (list_of p k r c (child_key κ k 1)) (list_of p k r (c + 2 ^ k) (child_key κ k 2)) (list_of p k (r + 2 ^ k) c (child_key κ k 3)) (list_of p k (r + 2 ^ k) (c + 2 ^ k) (child_key κ k 4))

  tile_one : (k r c κ : ℕ) → one_feature p k r c ≡ true → Tiles k r c κ (keys_of (leaves_at k r c κ))
  tile_one k r c κ e = rw (leaves_one k r c κ e) alone

  keys_four : (a b c d : List Record) → keys_of (a ++ (b ++ (c ++ d))) ≡ keys_of a ++ (keys_of b ++ (keys_of c ++ keys_of d))
  keys_four a b c d =
      map-append (λ x. x.key) a (b ++ (c ++ d))
      ∙ ap (λ l. keys_of a ++ l) (map-append (λ x. x.key) b (c ++ d) ∙ ap (λ l. keys_of b ++ l) (map-append (λ x. x.key) c d))

  -- the keys of a block's leaves tile it
  pub leaves_tile : (k r c κ : ℕ) → Tiles k r c κ (keys_of (leaves_at k r c κ))
  leaves_tile zero r c κ = tile_one zero r c κ (one_pixel p r c)
  leaves_tile (suc k) r c κ =
      decide (one_feature p (suc k) r c) (tile_one (suc k) r c κ)
      (λ e.
      rw (leaves_node k r c κ e, keys_four (leaves_at k r c (child_key κ k 1)) (leaves_at k r (c + 2 ^ k) (child_key κ k 2)) (leaves_at k (r + 2 ^ k) c (child_key κ k 3)) (leaves_at k (r + 2 ^ k) (c + 2 ^ k) (child_key κ k 4)))
      (parts (leaves_tile k r c (child_key κ k 1)) (leaves_tile k r (c + 2 ^ k) (child_key κ k 2)) (leaves_tile k (r + 2 ^ k) c (child_key κ k 3)) (leaves_tile k (r + 2 ^ k) (c + 2 ^ k) (child_key κ k 4))))

  length-four : (a b c d : List Record) → length (a ++ (b ++ (c ++ d))) ≡ length a + (length b + (length c + length d))
  length-four a b c d =
      let e = length-append a (b ++ (c ++ d)) in
      let f = length-append b (c ++ d) in
      let g = length-append c d in
      omega arith

  count_one : (k r c κ : ℕ) → one_feature p k r c ≡ true → 4 * length (leaves_at k r c κ) ≡ 3 * length (list_of p k r c κ) + 1
  count_one k r c κ e =
      let f = ap length (leaves_one k r c κ e) in
      let g = ap length (list_one p k r c κ e) in
      omega arith

  -- how many there are
  pub leaves_count : (k r c κ : ℕ) → 4 * length (leaves_at k r c κ) ≡ 3 * length (list_of p k r c κ) + 1
  leaves_count zero r c κ = count_one zero r c κ (one_pixel p r c)
  leaves_count (suc k) r c κ =
      decide (one_feature p (suc k) r c) (count_one (suc k) r c κ)
      (λ e.
      let f = ap length (leaves_node k r c κ e)
      ∙ length-four (leaves_at k r c (child_key κ k 1)) (leaves_at k r (c + 2 ^ k) (child_key κ k 2)) (leaves_at k (r + 2 ^ k) c (child_key κ k 3)) (leaves_at k (r + 2 ^ k) (c + 2 ^ k) (child_key κ k 4)) in
      let g = length-node p k r c κ e in
      let n₁ = leaves_count k r c (child_key κ k 1) in
      let n₂ = leaves_count k r (c + 2 ^ k) (child_key κ k 2) in
      let n₃ = leaves_count k (r + 2 ^ k) c (child_key κ k 3) in
      let n₄ = leaves_count k (r + 2 ^ k) (c + 2 ^ k) (child_key κ k 4) in
      omega arith)

  -- a leaf has the pixel, and its feature
  pub record LeafFound (m : ℕ) (l : List Record) (a b : ℕ) : Type 0 where
    pub leaf : Record
    pub among : Memᴰ leaf l
    pub has : in_block m leaf.key a b ≡ true
    pub feature : leaf.value ≡ p a b

  found_left : {m a b : ℕ} (l l' : List Record) → LeafFound m l a b → LeafFound m (l ++ l') a b
  found_left l l' f = record { leaf = f.leaf; among = Memᴰ.append_left l' f.among; has = f.has; feature = f.feature }

  found_right : {m a b : ℕ} (l l' : List Record) → LeafFound m l' a b → LeafFound m (l ++ l') a b
  found_right l l' f = record { leaf = f.leaf; among = Memᴰ.append_right l f.among; has = f.has; feature = f.feature }

  found_one : {m k r c κ a b : ℕ} → MapBlock m k r c κ → InSquare k r c a b → one_feature p k r c ≡ true → LeafFound m (leaves_at k r c κ) a b
  found_one {k = k} {r = r} {c = c} {κ = κ} {a = a} {b = b} u w e =
      rw (leaves_one k r c κ e)
      (record { leaf = record_of κ (p r c); among = Memᴰ.head refl; has = (in_block_iff a b u).1 w; feature = sym (one_to p k r c e a b w) })

  pub leaves_found : {m : ℕ} (k r c κ a b : ℕ) → MapBlock m k r c κ → InSquare k r c a b → LeafFound m (leaves_at k r c κ) a b
  leaves_found zero r c κ a b u w = found_one u w (one_pixel p r c)
  leaves_found (suc k) r c κ a b u w =
      decide (one_feature p (suc k) r c) (found_one u w)
      (λ e.
      rw (leaves_node k r c κ e)
      (within-cases w
      (λ j. found_left (leaves_at k r c (child_key κ k 1)) _ (leaves_found k r c (child_key κ k 1) a b (under_trans u (nw here)) j))
      (λ j. found_right (leaves_at k r c (child_key κ k 1)) _
      (found_left (leaves_at k r (c + 2 ^ k) (child_key κ k 2)) _ (leaves_found k r (c + 2 ^ k) (child_key κ k 2) a b (under_trans u (ne here)) j)))
      (λ j. found_right (leaves_at k r c (child_key κ k 1)) _
      (found_right (leaves_at k r (c + 2 ^ k) (child_key κ k 2)) _
      (found_left (leaves_at k (r + 2 ^ k) c (child_key κ k 3)) _ (leaves_found k (r + 2 ^ k) c (child_key κ k 3) a b (under_trans u (sw here)) j))))
      (λ j. found_right (leaves_at k r c (child_key κ k 1)) _
      (found_right (leaves_at k r (c + 2 ^ k) (child_key κ k 2)) _
      (found_right (leaves_at k (r + 2 ^ k) c (child_key κ k 3)) _ (leaves_found k (r + 2 ^ k) (c + 2 ^ k) (child_key κ k 4) a b (under_trans u (se here)) j))))))

bad-append : (s : ℕ) (a b : List ℕ) → bad_pixel s a ≡ false → bad_pixel s b ≡ false → bad_pixel s (a ++ b) ≡ false
unfolding bad_pixel
bad-append s [] b e f = f
bad-append s (x ∷ a) b e f =
    decide (leb s x) (λ t. absurd (true_or t e)) (λ t. ap (λ u. u || bad_pixel s (a ++ b)) t ∙ bad-append s a b (sym (ap (λ u. u || bad_pixel s a) t) ∙ e) f)
  where
    true_or : leb s x ≡ true → leb s x || bad_pixel s a ≡ false → ⊥
    true_or t h = let z : true ≡ false = sym (ap (λ u. u || bad_pixel s a) t) ∙ h in let o : ◌≡◌ {A = ℕ} 0 1 = cc in omega arith

bad_one : (s x : ℕ) → x < s → bad_pixel s (x ∷ []) ≡ false
unfolding bad_pixel
bad_one s x h = rw (lt-leb s x h)

values-append : (s : ℕ) (a b : List Record) → bad_pixel s (values_of a) ≡ false → bad_pixel s (values_of b) ≡ false → bad_pixel s (values_of (a ++ b)) ≡ false
values-append s a b e f = ap (bad_pixel s) (map-append (λ x. x.value) a b) ∙ bad-append s (values_of a) (values_of b) e f

-- where a block's features are below s, those of its leaves are
pub leaves_below : (s : ℕ) (p : Picture) (k r c κ : ℕ) → features_below s p k r c ≡ true → bad_pixel s (values_of (leaves_of (list_of p k r c κ))) ≡ false
leaves_below s p zero r c κ h =
    ap (λ l. bad_pixel s (values_of l)) (leaves_one p zero r c κ (one_pixel p r c)) ∙ bad_one s (p r c) (below_to s p zero r c h r c (first_within zero r c))
leaves_below s p (suc k) r c κ h =
    decide (one_feature p (suc k) r c)
    (λ e. ap (λ l. bad_pixel s (values_of l)) (leaves_one p (suc k) r c κ e) ∙ bad_one s (p r c) (below_to s p (suc k) r c h r c (first_within (suc k) r c)))
    (λ e. ap (λ l. bad_pixel s (values_of l)) (leaves_node p k r c κ e)
    ∙ values-append s (leaves_of (list_of p k r c (child_key κ k 1))) _ (leaves_below s p k r c (child_key κ k 1) (below_under s p {κ = κ} (nw here) h))
    (values-append s (leaves_of (list_of p k r (c + 2 ^ k) (child_key κ k 2))) _ (leaves_below s p k r (c + 2 ^ k) (child_key κ k 2) (below_under s p {κ = κ} (ne here) h))
    (values-append s (leaves_of (list_of p k (r + 2 ^ k) c (child_key κ k 3))) _ (leaves_below s p k (r + 2 ^ k) c (child_key κ k 3) (below_under s p {κ = κ} (sw here) h))
    (leaves_below s p k (r + 2 ^ k) (c + 2 ^ k) (child_key κ k 4) (below_under s p {κ = κ} (se here) h)))))
