-- One list while both are gone down: reading the record of a block leaves it at a leaf, which waits, or at a node, whose four quadrants follow one
-- after the other. Rests on the list's Shown and ShownQuadrants.
use Prim.Native.Nat.{ℕ, suc, ◌+◌, ◌^◌, ◌<◌}
use Rattle.std.specs.Prelude.{Option, Some, None}
use mathlib.Core.Path.{◌≡◌, refl, sym, ap, ◌∙◌}
use mathlib.Core.Bool.{true, false}
use mathlib.Core.List.{List}
use native.Mathlib.Omega.{arith}
use lib.ListN.{length, get_or}
use Rattle.keys.specs.Key.{child_key}
use Rattle.keys.proofs.Cases.{decide}
use Rattle.keys.specs.Under.{Under}
use Rattle.definitions.specs.Picture.{Picture, one_feature}
use Rattle.definitions.specs.Bits.{bits_of, feature_of}
use Rattle.definitions.specs.List.{list_of}
use Rattle.laws.proofs.Within.{first_within, under_within}
use Rattle.laws.proofs.Features.{one_to, one_under}
use Rattle.laws.proofs.BitsOf.{bits_one}
use Rattle.laws.proofs.ListOf.{list_one}
use Rattle.list.specs.Check.{one_slot}
use Rattle.list.proofs.Shown.{slot_one, shown_feature, shown_value, node_several}
use Rattle.list.proofs.ShownQuadrants.{Left, left_all, left_shown, left_then, left_none}
use Rattle.list.specs.Quadrants.{quadrant_row, quadrant_column}
use Rattle.combine.specs.Combining.{At, leaf_of, leaf_in, read_in, Entered, passing, CursorPassed}
use Rattle.combine.specs.declared.cursor.Cursor.{Cursor}

-- a leaf, or none
pub leaf_or_none : {A : Type 0} (o : Option ℕ) → (o ≡ None → A) → ((b : ℕ) → o ≡ Some b → A) → A
leaf_or_none None f g = f refl
leaf_or_none (Some b) f g = g b refl

leaf_one : (b : ℕ) → one_slot b ≡ true → leaf_of b ≡ Some b
leaf_one b e = rw e

leaf_several : (b : ℕ) → one_slot b ≡ false → leaf_of b ≡ None
leaf_several b e = rw e

-- what is passed of a listed block
passing_listed : (p : Picture) (k r c κ : ℕ) (leaf : Option ℕ) → leaf ≡ None → passing p k r c κ leaf ≡ length (list_of p k r c κ)
passing_listed p k r c κ leaf e = rw e

-- a block of one record is passed as its record is read
passing_one : (p : Picture) (k r c κ : ℕ) (leaf : Option ℕ) → one_feature p k r c ≡ true → passing p k r c κ leaf ≡ read_in leaf
passing_one p k r c κ None one = ap length (list_one p k r c κ one)
passing_one p k r c κ (Some b) one = refl

entered_listed : {bits : List ℕ} {x y : Cursor} → Entered bits x y → x.leaf ≡ None → y.leaf ≡ leaf_of (get_or bits x.at 0)
entered_listed {bits} {x} e z = e.leaf_is ∙ ap (λ o. leaf_in o (get_or bits x.at 0)) z

entered_inside : {bits : List ℕ} {x y : Cursor} {b : ℕ} → Entered bits x y → x.leaf ≡ Some b → y.leaf ≡ Some b
entered_inside {bits} {x} e z = e.leaf_is ∙ ap (λ o. leaf_in o (get_or bits x.at 0)) z

module _ {p : Picture} {k r c κ : ℕ} {bits : List ℕ} {x y : Cursor} (a : At p k r c κ bits x) (e : Entered bits x y) where
  -- a leaf has the block's bits
  pub entered_leaf : (b : ℕ) → y.leaf ≡ Some b → (b ≡ bits_of p k r c) × (one_slot b ≡ true)
  entered_leaf b h =
      let own = get_or bits x.at 0 in
      leaf_or_none x.leaf
      (λ z. decide (one_slot own)
      (λ one. let f : Some own ≡ Some b = sym (entered_listed e z ∙ leaf_one own one) ∙ h in
      let g : b ≡ own = cc in
      (g ∙ shown_value (a.listed z), ap one_slot g ∙ one))
      (λ several. absurd (let f : None ≡ Some b = sym (entered_listed e z ∙ leaf_several own several) ∙ h in cc)))
      (λ v z. let f : Some v ≡ Some b = sym (entered_inside e z) ∙ h in
      let g : b ≡ v = cc in
      (g ∙ (a.inside v z).0, ap one_slot g ∙ (a.inside v z).1))

  -- so it has one feature, which is the leaf's
  pub leaf_uniform : (b : ℕ) → y.leaf ≡ Some b → one_feature p k r c ≡ true
  leaf_uniform b h = let f = entered_leaf b h in slot_one p k r c (ap one_slot (sym f.0) ∙ f.1)

  pub leaf_feature : (b : ℕ) → y.leaf ≡ Some b → feature_of b ≡ p r c
  leaf_feature b h = let f = entered_leaf b h in ap feature_of f.0 ∙ shown_feature p k r c (ap one_slot (sym f.0) ∙ f.1)

  pub leaf_passed : (b : ℕ) → y.leaf ≡ Some b → y.at ≡ x.at + passing p k r c κ x.leaf
  leaf_passed b h = e.at_is ∙ ap (λ n. x.at + n) (sym (passing_one p k r c κ x.leaf (leaf_uniform b h)))

  -- a node is listed, and has several features
  node_listed : y.leaf ≡ None → x.leaf ≡ None
  node_listed z = leaf_or_none x.leaf (λ u. u) (λ v u. absurd (let f : Some v ≡ None = sym (entered_inside e u) ∙ z in cc))

  pub entered_several : y.leaf ≡ None → one_feature p k r c ≡ false
  entered_several z =
      let u = node_listed z in
      let own = get_or bits x.at 0 in
      node_several (a.listed u)
      (decide (one_slot own)
      (λ one. absurd (let f : Some own ≡ None = sym (entered_listed e u ∙ leaf_one own one) ∙ z in cc))
      (λ several. several))

-- between the quadrants of a block where the list stood at x: a leaf waits, and of a node the quadrants from one on follow
pub record WaitingQuarters (p : Picture) (k r c κ : ℕ) (bits : List ℕ) (x y : Cursor) (d : ℕ) : Type 0 where
  pub waits : (b : ℕ) → y.leaf ≡ Some b → (b ≡ bits_of p (suc k) r c) × ((one_slot b ≡ true) × (y.at ≡ x.at + passing p (suc k) r c κ x.leaf))
  pub follow : y.leaf ≡ None → (x.leaf ≡ None) × Left p k r c κ bits x.at y.at d

pub quarters_all : {p : Picture} {k r c κ : ℕ} {bits : List ℕ} {x y : Cursor} → At p (suc k) r c κ bits x → Entered bits x y
    → WaitingQuarters p k r c κ bits x y 0
quarters_all {x = x} {y = y} a e = record {
  waits = λ b h. let f = entered_leaf a e b h in (f.0, (f.1, leaf_passed a e b h));
  follow = λ z.
      let u = node_listed a e z in
      let one : y.at ≡ x.at + 1 = e.at_is ∙ ap (λ o. x.at + read_in o) u in
      (u, rw one (left_all (a.listed u) (entered_several a e z)));
}

module _ {p : Picture} {k r c κ : ℕ} {bits : List ℕ} {x y : Cursor} {d : ℕ} (w : WaitingQuarters p k r c κ bits x y d) where
  -- the list stands at the next quadrant
  pub quarter_at : d < 4 → Under (suc k) r c κ k (quadrant_row d r (2 ^ k)) (quadrant_column d c (2 ^ k)) (child_key κ k (suc d))
      → At p k (quadrant_row d r (2 ^ k)) (quadrant_column d c (2 ^ k)) (child_key κ k (suc d)) bits y
  quarter_at h u = record {
    inside = λ b o.
        let v = w.waits b o in
        let one = slot_one p (suc k) r c (ap one_slot (sym v.0) ∙ v.1.0) in
        let same = one_to p (suc k) r c one _ _ (under_within u (first_within k _ _)) in
        (v.0 ∙ bits_one p (suc k) r c one ∙ ap (λ f. 2 ^ f) (sym same) ∙ sym (bits_one p k _ _ (one_under p u one)), v.1.0);
    listed = λ z. left_shown (w.follow z).1 h;
  }

  -- and once it is passed at the one after it
  pub quarter_next : d < 4 → {z : Cursor} → CursorPassed p k (quadrant_row d r (2 ^ k)) (quadrant_column d c (2 ^ k)) (child_key κ k (suc d)) y z
      → WaitingQuarters p k r c κ bits x z (d + 1)
  quarter_next h {z} e = record {
    waits = λ b o.
        let n : y.leaf ≡ Some b = sym e.same_leaf ∙ o in
        let v = w.waits b n in
        let stays : z.at ≡ y.at + 0 = e.at_is ∙ ap (λ l. y.at + passing p k (quadrant_row d r (2 ^ k)) (quadrant_column d c (2 ^ k)) (child_key κ k (suc d)) l) n in
        let g = v.1.1 in
        (v.0, (v.1.0, omega arith));
    follow = λ o.
        let l = sym e.same_leaf ∙ o in
        let v = w.follow l in
        (v.0, left_then v.1 h z.at (e.at_is ∙ ap (λ n. y.at + n) (passing_listed p k (quadrant_row d r (2 ^ k)) (quadrant_column d c (2 ^ k)) (child_key κ k (suc d)) y.leaf l)));
  }

  -- after all four the block is passed
  pub quarters_none : d ≡ 4 → y.at ≡ x.at + passing p (suc k) r c κ x.leaf
  quarters_none h =
      leaf_or_none y.leaf
      (λ z. let v = w.follow z in left_none v.1 h ∙ ap (λ n. x.at + n) (sym (passing_listed p (suc k) r c κ x.leaf v.0)))
      (λ b o. (w.waits b o).1.1)
