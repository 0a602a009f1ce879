-- Where the list of a block stands in the list of a block around it: all keys before it are below the block's interval, and all after it are past
-- it. A quadrant of a block with several features stands so, and so does the listed block at or around any block. Rests on the laws of lists.
use Prim.Native.Nat.{ℕ, suc, ◌+◌, ◌*◌, ◌^◌, ◌<◌}
use mathlib.Core.Path.{◌≡◌, sym, ◌∙◌, ap}
use mathlib.Core.Bool.{true, false}
use mathlib.Core.Logic.{◌⊎◌, inl, inr}
use mathlib.Core.List.{List, [], ◌∷◌, ◌++◌, append_assoc, append-nil}
use native.Mathlib.Nat.{pow-suc, le_refl}
use native.Mathlib.Omega.{arith}
use Rattle.keys.specs.Key.{child_key}
use Rattle.keys.proofs.Cases.{decide}
use Rattle.keys.proofs.Powers.{five_pos}
use Rattle.keys.specs.Under.{Under, here, nw, ne, sw, se, Quadrant, is_nw, is_ne, is_sw, is_se}
use Rattle.keys.proofs.Under.{under_trans, quadrant_under}
use Rattle.keys.proofs.Interval.{SameBlock, key_within}
use Rattle.definitions.specs.Picture.{Picture, one_feature}
use Rattle.definitions.specs.Bits.{bits_of}
use Rattle.definitions.specs.List.{Record, record_of, list_of, Ascending, none}
use Rattle.laws.proofs.Ascending.{widen, ascending_one, ascending-append}
use Rattle.laws.proofs.ListOf.{list_node, list_ascends}

-- the list of the second block is a part of the first's, and the keys around it are outside its interval
pub record PartOfList (p : Picture) (k r c κ k' r' c' κ' : ℕ) : Type 0 where
  pub before : List Record
  pub after : List Record
  pub splits : list_of p k r c κ ≡ before ++ (list_of p k' r' c' κ' ++ after)
  pub keys_before : Ascending κ κ' before
  pub keys_after : Ascending (κ' + 5 ^ k') (κ + 5 ^ k) after

pub placed_here : (p : Picture) (k r c κ : ℕ) → PartOfList p k r c κ k r c κ
placed_here p k r c κ =
    record {
      before = [];
      after = [];
      splits = sym (append-nil (list_of p k r c κ));
      keys_before = none (le_refl κ);
      keys_after = none (le_refl (κ + 5 ^ k));
    }

join_parts : (l a b x c d y : List Record) → l ≡ a ++ (y ++ b) → y ≡ c ++ (x ++ d) → l ≡ (a ++ c) ++ (x ++ (d ++ b))
join_parts l a b x c d y e f = e ∙ ap (λ z. a ++ (z ++ b)) f ∙ simp append_assoc

-- a part of a part is a part
pub placed_trans : {p : Picture} {k r c κ k₁ r₁ c₁ κ₁ k₂ r₂ c₂ κ₂ : ℕ} → PartOfList p k r c κ k₁ r₁ c₁ κ₁ → PartOfList p k₁ r₁ c₁ κ₁ k₂ r₂ c₂ κ₂ → PartOfList p k r c κ k₂ r₂ c₂ κ₂
placed_trans {p} {k₂ = k₂} {r₂} {c₂} {κ₂} u v =
    record {
      before = u.before ++ v.before;
      after = v.after ++ u.after;
      splits = join_parts _ u.before u.after (list_of p k₂ r₂ c₂ κ₂) v.before v.after _ u.splits v.splits;
      keys_before = ascending-append u.keys_before v.keys_before;
      keys_after = ascending-append v.keys_after u.keys_after;
    }

-- four lists, each in its fifth of an interval
record Fifths (κ q : ℕ) (a b c d : List Record) : Type 0 where
  pos : 0 < q
  one : Ascending (κ + 1 * q) (κ + 1 * q + q) a
  two : Ascending (κ + 2 * q) (κ + 2 * q + q) b
  three : Ascending (κ + 3 * q) (κ + 3 * q + q) c
  four : Ascending (κ + 4 * q) (κ + 4 * q + q) d

-- after a record with the interval's first key they stand one after the other: the keys before and after each of them
module _ {κ q : ℕ} {a b c d : List Record} (v : ℕ) (f : Fifths κ q a b c d) where
  after_sw : Ascending (κ + 3 * q + q) (κ + q * 5) d
  after_sw = widen (omega arith) (omega arith) f.four

  after_ne : Ascending (κ + 2 * q + q) (κ + q * 5) (c ++ d)
  after_ne = ascending-append (widen {lo' = κ + 2 * q + q} {hi' = κ + 3 * q + q} (omega arith) (omega arith) f.three) after_sw

  after_nw : Ascending (κ + 1 * q + q) (κ + q * 5) (b ++ (c ++ d))
  after_nw = ascending-append (widen {lo' = κ + 1 * q + q} {hi' = κ + 2 * q + q} (omega arith) (omega arith) f.two) after_ne

  before_nw : Ascending κ (κ + 1 * q) (record_of κ v ∷ [])
  before_nw = let h = f.pos in ascending_one (omega arith) (omega arith)

  before_ne : Ascending κ (κ + 2 * q) (record_of κ v ∷ a)
  before_ne = ascending-append before_nw (widen {lo' = κ + 1 * q} {hi' = κ + 2 * q} (omega arith) (omega arith) f.one)

  before_sw : Ascending κ (κ + 3 * q) (record_of κ v ∷ (a ++ b))
  before_sw = ascending-append before_ne (widen {lo' = κ + 2 * q} {hi' = κ + 3 * q} (omega arith) (omega arith) f.two)

  before_se : Ascending κ (κ + 4 * q) (record_of κ v ∷ (a ++ b ++ c))
  before_se = ascending-append before_sw (widen {lo' = κ + 3 * q} {hi' = κ + 4 * q} (omega arith) (omega arith) f.three)

fifths : (p : Picture) (k r c κ : ℕ) → Fifths κ (5 ^ k)
    (list_of p k r c (child_key κ k 1))
    (list_of p k r (c + 2 ^ k) (child_key κ k 2))
    (list_of p k (r + 2 ^ k) c (child_key κ k 3))
    (list_of p k (r + 2 ^ k) (c + 2 ^ k) (child_key κ k 4))
fifths p k r c κ =
    record {
      pos = five_pos k;
      one = list_ascends p k r c (child_key κ k 1);
      two = list_ascends p k r (c + 2 ^ k) (child_key κ k 2);
      three = list_ascends p k (r + 2 ^ k) c (child_key κ k 3);
      four = list_ascends p k (r + 2 ^ k) (c + 2 ^ k) (child_key κ k 4);
    }

-- four lists after a record, parted before and after each of them
part_sw : (e : Record) (a b c d : List Record) → e ∷ (a ++ (b ++ (c ++ d))) ≡ (e ∷ (a ++ b)) ++ (c ++ d)
part_sw e a b c d = ap (λ x. e ∷ x) (sym (append_assoc a b (c ++ d)))

part_se : (e : Record) (a b c d : List Record) → e ∷ (a ++ (b ++ (c ++ d))) ≡ (e ∷ (a ++ b ++ c)) ++ (d ++ [])
part_se e a b c d = ap (λ x. e ∷ x) (sym (simp (append_assoc, append-nil)))

placed_in : {p : Picture} {k r c κ r' c' κ' : ℕ} (before after : List Record)
    → list_of p (suc k) r c κ ≡ before ++ (list_of p k r' c' κ' ++ after)
    → Ascending κ κ' before
    → Ascending (κ' + 5 ^ k) (κ + 5 ^ k * 5) after
    → PartOfList p (suc k) r c κ k r' c' κ'
placed_in {k = k} before after e u v = record { before = before; after = after; splits = e; keys_before = u; keys_after = rw (pow-suc 5 k) v }

-- the list of a quadrant stands in the list of its parent, if that has several features
pub placed_quadrant : (p : Picture) {k r c κ r' c' κ' : ℕ} → one_feature p (suc k) r c ≡ false → Quadrant k r c κ r' c' κ' → PartOfList p (suc k) r c κ k r' c' κ'
placed_quadrant p several (is_nw {k} {r} {c} {κ}) =
    placed_in (record_of κ (bits_of p (suc k) r c) ∷ [])
    (list_of p k r (c + 2 ^ k) (child_key κ k 2) ++ (list_of p k (r + 2 ^ k) c (child_key κ k 3) ++ list_of p k (r + 2 ^ k) (c + 2 ^ k) (child_key κ k 4)))
    (list_node p k r c κ several)
    (before_nw _ (fifths p k r c κ))
    (after_nw 0 (fifths p k r c κ))
placed_quadrant p several (is_ne {k} {r} {c} {κ}) =
    placed_in (record_of κ (bits_of p (suc k) r c) ∷ list_of p k r c (child_key κ k 1))
    (list_of p k (r + 2 ^ k) c (child_key κ k 3) ++ list_of p k (r + 2 ^ k) (c + 2 ^ k) (child_key κ k 4))
    (list_node p k r c κ several)
    (before_ne _ (fifths p k r c κ))
    (after_ne 0 (fifths p k r c κ))
placed_quadrant p several (is_sw {k} {r} {c} {κ}) =
    placed_in (record_of κ (bits_of p (suc k) r c) ∷ (list_of p k r c (child_key κ k 1) ++ list_of p k r (c + 2 ^ k) (child_key κ k 2)))
    (list_of p k (r + 2 ^ k) (c + 2 ^ k) (child_key κ k 4))
    (list_node p k r c κ several ∙ part_sw _ (list_of p k r c (child_key κ k 1)) (list_of p k r (c + 2 ^ k) (child_key κ k 2)) (list_of p k (r + 2 ^ k) c (child_key κ k 3)) _)
    (before_sw _ (fifths p k r c κ))
    (after_sw 0 (fifths p k r c κ))
placed_quadrant p several (is_se {k} {r} {c} {κ}) =
    placed_in (record_of κ (bits_of p (suc k) r c)
    ∷ (list_of p k r c (child_key κ k 1) ++ list_of p k r (c + 2 ^ k) (child_key κ k 2) ++ list_of p k (r + 2 ^ k) c (child_key κ k 3)))
    []
    (list_node p k r c κ several
    ∙ part_se _ (list_of p k r c (child_key κ k 1)) (list_of p k r (c + 2 ^ k) (child_key κ k 2)) (list_of p k (r + 2 ^ k) c (child_key κ k 3)) (list_of p k (r + 2 ^ k) (c + 2 ^ k) (child_key κ k 4)))
    (before_se _ (fifths p k r c κ))
    (none (omega arith))

-- the listed block at or around a block: it is the block itself, or a leaf whose key comes before the block's
pub record ListedAround (p : Picture) (k r c κ k' r' c' κ' : ℕ) : Type 0 where
  pub height : ℕ
  pub row : ℕ
  pub column : ℕ
  pub at : ℕ
  pub placed : PartOfList p k r c κ height row column at
  pub under : Under k r c κ height row column at
  pub holds : Under height row column at k' r' c' κ'
  pub which : SameBlock height row column at k' r' c' κ' ⊎ ((one_feature p height row column ≡ true) × (at < κ'))

-- what is listed at or around a block in the list of a quadrant is so in the list of the parent
around_quadrant : {p : Picture} {k r c κ r₁ c₁ κ₁ k' r' c' κ' : ℕ} → one_feature p (suc k) r c ≡ false → Quadrant k r c κ r₁ c₁ κ₁ → ListedAround p k r₁ c₁ κ₁ k' r' c' κ' → ListedAround p (suc k) r c κ k' r' c' κ'
around_quadrant {p} several q a =
    record {
      height = a.height;
      row = a.row;
      column = a.column;
      at = a.at;
      placed = placed_trans (placed_quadrant p several q) a.placed;
      under = under_trans (quadrant_under q) a.under;
      holds = a.holds;
      which = a.which;
    }

-- a leaf is listed around all blocks under it
around_leaf : {p : Picture} {k r c κ k' r' c' κ' : ℕ} → one_feature p k r c ≡ true → Under k r c κ k' r' c' κ' → κ < κ' → ListedAround p k r c κ k' r' c' κ'
around_leaf {p} {k} {r} {c} {κ} one u h =
    record { height = k; row = r; column = c; at = κ; placed = placed_here p k r c κ; under = here; holds = u; which = inr (one, h) }

around_step : {p : Picture} {k r c κ r₁ c₁ κ₁ k' r' c' κ' : ℕ} → Quadrant k r c κ r₁ c₁ κ₁ → Under (suc k) r c κ k' r' c' κ' → κ < κ' → ListedAround p k r₁ c₁ κ₁ k' r' c' κ' → ListedAround p (suc k) r c κ k' r' c' κ'
around_step {p} {k} {r} {c} q u h a = decide (one_feature p (suc k) r c) (λ one. around_leaf one u h) (λ several. around_quadrant several q a)

-- every block under another has a listed block at or around it
pub placed_around : (p : Picture) {k r c κ k' r' c' κ' : ℕ} → Under k r c κ k' r' c' κ' → ListedAround p k r c κ k' r' c' κ'
placed_around p (here {k} {r} {c} {κ}) =
    record { height = k; row = r; column = c; at = κ; placed = placed_here p k r c κ; under = here; holds = here; which = inl (omega arith) }
placed_around p (nw {k} u) = let w = key_within u in let e = five_pos k in around_step is_nw (nw u) (omega arith) (placed_around p u)
placed_around p (ne {k} u) = let w = key_within u in let e = five_pos k in around_step is_ne (ne u) (omega arith) (placed_around p u)
placed_around p (sw {k} u) = let w = key_within u in let e = five_pos k in around_step is_sw (sw u) (omega arith) (placed_around p u)
placed_around p (se {k} u) = let w = key_within u in let e = five_pos k in around_step is_se (se u) (omega arith) (placed_around p u)
