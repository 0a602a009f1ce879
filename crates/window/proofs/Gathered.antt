-- Report on the walk: every slot gathered is that of a pixel of the window, and every pixel of the window before the key where the walk stands has
-- its slot. A block within the window adds its bits, and so does a block of one feature that meets it; a block with nothing new is passed. Rests on
-- the walk's laws of a block's bits and the meaning of report.
use Prim.Native.Nat.{ℕ, ◌+◌, ◌^◌, ◌≤◌, ◌<◌}
use mathlib.Core.Path.{◌≡◌, sym, ◌∙◌, ap, subst}
use mathlib.Core.Bool.{true, false, true≢false, ◌||◌}
use mathlib.Core.Logic.{⊎_elim}
use native.Mathlib.Omega.{arith}
use lib.Bits.{bit_or}
use lib.Dec.{eqb}
use borrow.Author.Tests.{eqb-true}
use Rattle.keys.specs.Block.{pixel_key}
use Rattle.keys.proofs.Cases.{split, or_either, or_left, or_right, neither_right, same_test}
use Rattle.keys.proofs.Pixel.{pixel_key-lt}
use Rattle.definitions.specs.Picture.{Picture}
use Rattle.definitions.specs.Bits.{has_slot, feature_of}
use Rattle.definitions.specs.Window.{is_window, in_window, report_in}
use Rattle.definitions.specs.declared.Window.{Window}
use Rattle.laws.proofs.Slots.{slot_union, slot_of_zero, bits_equal, slot_power}
use Rattle.laws.proofs.BitsOf.{bits_to, bits_from}
use Rattle.laws.proofs.WindowScan.{PixelWith, report_exactly}
use Rattle.list.specs.Check.{one_slot}
use Rattle.list.proofs.OneSlot.{one_slot_power}
use Rattle.walk.specs.declared.Spot.{Spot}
use Rattle.walk.specs.Walk.{BlockSpot, is_within, is_apart, Clear}
use Rattle.walk.proofs.Lies.{InSpot, within_pixel, window_pixel, meets_pixel}
use Rattle.walk.proofs.Steps.{in_spot}
use Rattle.walk.proofs.SpotBits.{bits_at, whole_pixel}
use Rattle.window.specs.Settled.{settles}

module _ (union bits : ℕ) (s : Spot) (w : Window) where
  -- a block that nothing settles does not lie within the window
  pub not_settled : settles union bits s w ≡ false → is_within s w ≡ false
  unfolding settles
  not_settled e = neither_right (one_slot bits) (is_within s w) (neither_right (eqb (bit_or union bits) union) (one_slot bits || is_within s w) e)

pub record Gathered (m : ℕ) (p : Picture) (w : Window) (union x : ℕ) : Type 0 where
  pub only : (i : ℕ) → has_slot union i ≡ true → PixelWith p w i
  pub every : (row column : ℕ) → in_window w row column ≡ true → pixel_key m row column < x → has_slot union (p row column) ≡ true

module _ (m : ℕ) (p : Picture) (w : Window) where
  -- nothing before the root
  pub gathered_none : (x : ℕ) → x ≡ 0 → Gathered m p w 0 x
  gathered_none x e =
      record {
        only = λ i h. absurd (true≢false (sym h ∙ slot_of_zero i));
        every = λ row column i before. absurd (omega arith);
      }

  pub gathered_clear : (union x y : ℕ) → Gathered m p w union x → Clear m w x y → Gathered m p w union y
  gathered_clear union x y g c =
      record {
        only = g.only;
        every = λ row column i before. split (pixel_key m row column) x (g.every row column i) (λ past. absurd (c row column i past before));
      }

  gathered_lower : (union x y : ℕ) → y ≤ x → Gathered m p w union x → Gathered m p w union y
  gathered_lower union x y h g = record { only = g.only; every = λ row column i before. g.every row column i (omega arith) }

  module _ {s : Spot} (good : is_window m w ≡ true) (h : BlockSpot m s) where
    -- a slot of a block within the window belongs to a pixel of the window
    block_only : is_within s w ≡ true → (i : ℕ) → has_slot (bits_at p h) i ≡ true → PixelWith p w i
    block_only e i has =
        let x = bits_to p h.height s.row s.column i has in
        let inner : InSpot s x.row x.column = let v = x.within in omega (arith, h.side) in
        record { row = x.row; column = x.column; inside = within_pixel s w x.row x.column e inner; feature = x.holds }

    block_every : (row column : ℕ) → InSpot s row column → has_slot (bits_at p h) (p row column) ≡ true
    block_every row column i = bits_from p h.height s.row s.column row column (omega (arith, h.side))

    -- with the block's bits every pixel up to its end has its slot
    every_past : (union bits : ℕ) → bits ≡ bits_at p h → Gathered m p w union s.key
        → (row column : ℕ) → in_window w row column ≡ true → pixel_key m row column < s.key + s.step → has_slot (bit_or union bits) (p row column) ≡ true
    every_past union bits is g row column i before =
        let f = p row column in
        let q = window_pixel m w row column good i in
        slot_union union bits f
        ∙ split (pixel_key m row column) s.key (λ low. or_left (has_slot union f) (has_slot bits f) (g.every row column i low))
        (λ past.
        or_right (has_slot union f) (has_slot bits f)
        (ap (λ y. has_slot y f) is ∙ block_every row column (in_spot row column h q.0 q.1 past before)))

    -- a block whose slots are all the window's adds its bits
    gathered_add : (union bits : ℕ) → bits ≡ bits_at p h → ((i : ℕ) → has_slot (bits_at p h) i ≡ true → PixelWith p w i)
        → Gathered m p w union s.key
        → Gathered m p w (bit_or union bits) (s.key + s.step)
    gathered_add union bits is only g =
        record {
          only = λ i has.
              ⊎_elim (λ (a : has_slot union i ≡ true). g.only i a) (λ (b : has_slot bits i ≡ true). only i (ap (λ y. has_slot y i) (sym is) ∙ b))
              (or_either (has_slot union i) (has_slot bits i) (sym (slot_union union bits i) ∙ has));
          every = every_past union bits is g;
        }

    -- the slot of a block of one feature that meets the window belongs to a pixel of it
    whole_only : is_apart s w ≡ false → (bits : ℕ) → bits ≡ bits_at p h → one_slot bits ≡ true → (i : ℕ) → has_slot bits i ≡ true → PixelWith p w i
    whole_only e bits is one i has =
        let x = meets_pixel w good h e in
        let power = one_slot_power bits one in
        let same = eqb-true (feature_of bits) i (sym (slot_power (feature_of bits) i) ∙ ap (λ y. has_slot y i) (sym power) ∙ has) in
        record { row = x.row; column = x.column; inside = x.window_has; feature = whole_pixel p (feature_of bits) h x.row x.column (sym is ∙ power) x.in_spot ∙ same }

    -- a block that adds nothing is passed
    gathered_nothing : (union bits : ℕ) → bits ≡ bits_at p h → bit_or union bits ≡ union → Gathered m p w union s.key → Gathered m p w union (s.key + s.step)
    gathered_nothing union bits is none g =
        record { only = g.only; every = λ row column i before. ap (λ y. has_slot y (p row column)) (sym none) ∙ every_past union bits is g row column i before }

  -- a block that its bits settle: the whole block of which they are told adds them, and is passed
  module _ {s whole : Spot} (good : is_window m w ≡ true) (h : BlockSpot m s) (t : BlockSpot m whole) (from : whole.key ≤ s.key) (union bits : ℕ)
      (is : bits ≡ bits_at p h) (all : bits ≡ bits_at p t) (g : Gathered m p w union s.key) where
    lowered : Gathered m p w union whole.key
    lowered = gathered_lower union s.key whole.key from g

    adds : ((i : ℕ) → has_slot bits i ≡ true → PixelWith p w i) → Gathered m p w (bit_or union bits) (whole.key + whole.step)
    adds only = gathered_add good t union bits all (λ i has. only i (ap (λ y. has_slot y i) all ∙ has)) lowered

    pub gathered_settled : is_apart s w ≡ false → settles union bits s w ≡ true → Gathered m p w (bit_or union bits) (whole.key + whole.step)
    unfolding settles
    gathered_settled meets settled =
        ⊎_elim
        (λ (none : eqb (bit_or union bits) union ≡ true).
        let e = eqb-true (bit_or union bits) union none in
        subst (λ (u : ℕ). Gathered m p w u (whole.key + whole.step)) (sym e) (gathered_nothing good t union bits all e lowered))
        (λ (some : (one_slot bits || is_within s w) ≡ true).
        ⊎_elim (λ (one : one_slot bits ≡ true). adds (whole_only good h meets bits is one))
        (λ (inside : is_within s w ≡ true). adds (λ i has. block_only good h inside i (ap (λ y. has_slot y i) (sym is) ∙ has)))
        (or_either (one_slot bits) (is_within s w) some))
        (or_either (eqb (bit_or union bits) union) (one_slot bits || is_within s w) settled)

  -- at the end the union is the report
  pub gathered_end : (union x : ℕ) → x ≡ 5 ^ m → Gathered m p w union x → union ≡ report_in p w
  gathered_end union x end g =
      bits_equal union (report_in p w)
      (λ i. same_test _ _ (λ has. (report_exactly p w i).1 (g.only i has))
      (λ has.
      let y = (report_exactly p w i).0 has in
      let low = pixel_key-lt m y.row y.column in
      ap (has_slot union) (sym y.feature) ∙ g.every y.row y.column y.inside (omega arith)))
