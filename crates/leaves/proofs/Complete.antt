-- A delivery parts by the blocks that it is read by: at each block its next leaf is the block, or its quadrants follow, and at the raster's end no
-- leaf is left. Rests on EndOf and Open.
use Prim.Native.Nat.{ℕ, zero, suc, ◌+◌, ◌^◌, ◌≤◌, ◌<◌}
use mathlib.Core.Path.{◌≡◌, refl, sym, ◌∙◌, ap}
use mathlib.Core.Bool.{true}
use mathlib.Core.List.{List, [], ◌∷◌}
use native.Mathlib.Nat.{pow-suc}
use native.Mathlib.Numerals.{add-one}
use native.Mathlib.Omega.{arith}
use lib.ListN.{length, get_or, drop, drop_of_length-le}
use lib.Seq.{drop-cons}
use Rattle.keys.specs.Key.{child_key}
use Rattle.keys.proofs.Cases.{split, equal}
use Rattle.keys.specs.Under.{MapBlock, here, nw, ne, sw, se}
use Rattle.keys.proofs.Under.{under_trans}
use Rattle.definitions.specs.Picture.{Picture, one_feature}
use Rattle.leaves.specs.Delivered.{leaves_end, Parted, leaf, four}
use Rattle.leaves.proofs.EndOf.{end_leaf, end_four}
use Rattle.leaves.proofs.Open.{OpenBlock, open_at, none_open, open_tail, open_pixel, open_child, open_end}

-- the picture has the feature of each leaf in the whole of its block
abbrev pub LeafShows : (m : ℕ) (p : Picture) (keys features : List ℕ) → Type 0
LeafShows m p keys features = (i k r c : ℕ) → i < length keys → MapBlock m k r c (get_or keys i 0) → (one_feature p k r c ≡ true) × (p r c ≡ get_or features i 0)

module _ (m : ℕ) (p : Picture) (keys features : List ℕ) (shows : LeafShows m p keys features) where
  -- the leaves of a block begin at a place, and past them the others are read up to the block's end
  pub record Read (k r c κ at : ℕ) : Type 0 where
    pub parted : Parted p keys features k r c κ at
    pub after : OpenBlock m (κ + 5 ^ k) (drop (leaves_end keys k κ at) keys)
    pub last : leaves_end keys k κ at ≤ length keys

  there : {k r c κ at : ℕ} → MapBlock m k r c κ → OpenBlock m κ (drop at keys) → at < length keys
  there {κ = κ} {at = at} b o =
      split at (length keys) (λ h. h) (λ h. absurd (none_open b (open_at refl (drop_of_length-le keys h) o)))

  next : {κ at : ℕ} → at < length keys → OpenBlock m κ (drop at keys) → OpenBlock m κ (get_or keys at 0 ∷ drop (suc at) keys)
  next {at = at} h o = open_at refl (drop-cons keys at 0 h) o

  read_leaf : {k r c κ at : ℕ} → MapBlock m k r c κ → OpenBlock m κ (drop at keys) → at < length keys → get_or keys at 0 ≡ κ → Read k r c κ at
  read_leaf {k} {r} {c} {κ} {at} b o h e =
      let f = end_leaf keys k κ at h e in
      let s = shows at k r c h (rw e b) in
      record {
        parted = leaf h e s.0 s.1;
        after = open_at refl (ap (λ i. drop i keys) (sym (add-one at) ∙ sym f)) (open_tail b (next h o) e);
        last = omega arith;
      }

  pub complete : (k r c κ at : ℕ) → MapBlock m k r c κ → OpenBlock m κ (drop at keys) → Read k r c κ at
  complete zero r c κ at b o = let h = there b o in read_leaf b o h (open_pixel b (next h o))
  complete (suc k) r c κ at b o =
      let h = there b o in
      equal (get_or keys at 0) κ (read_leaf b o h)
      (λ n.
      let g = pow-suc 5 k in
      let f = end_four keys k κ at h n in
      let x = complete k r c (child_key κ k 1) at (under_trans b (nw here)) (open_at refl (sym (drop-cons keys at 0 h)) (open_child b (next h o) n)) in
      let y = complete k r (c + 2 ^ k) (child_key κ k 2) _ (under_trans b (ne here)) (open_at (omega arith) refl x.after) in
      let z = complete k (r + 2 ^ k) c (child_key κ k 3) _ (under_trans b (sw here)) (open_at (omega arith) refl y.after) in
      let w = complete k (r + 2 ^ k) (c + 2 ^ k) (child_key κ k 4) _ (under_trans b (se here)) (open_at (omega arith) refl z.after) in
      record {
        parted = four h n x.parted y.parted z.parted w.parted;
        after = open_at (omega arith) (ap (λ i. drop i keys) (sym f)) w.after;
        last = omega (arith, w.last);
      })

  -- the whole delivery
  pub all_read : OpenBlock m 0 keys → Parted p keys features m 0 0 0 0 × (leaves_end keys m 0 0 ≡ length keys)
  all_read o =
      let x = complete m 0 0 0 0 here o in
      let none = open_end (open_at (omega arith) refl x.after) in (
        x.parted,
        split (leaves_end keys m 0 0) (length keys)
            (λ low. absurd (not_nil (sym (drop-cons keys (leaves_end keys m 0 0) 0 low) ∙ none)))
            (λ high. omega (arith, x.last)),
      )
    where
      not_nil : {y : ℕ} {l : List ℕ} → y ∷ l ≡ [] → ⊥
      not_nil e = let z : ◌≡◌ {A = ℕ} 0 1 = cc in omega arith
