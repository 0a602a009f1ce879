-- What painting a window makes of a block. Rests on the walk's laws of how a block lies to a window.
use Prim.Native.Nat.{ℕ, zero, suc, ◌^◌, ◌<◌}
use native.Mathlib.Omega.{arith}
use mathlib.Core.Path.{◌≡◌, refl, sym, ◌∙◌, ap}
use mathlib.Core.Bool.{true, false, true≢false}
use Rattle.keys.specs.Child.{block_square}
use Rattle.keys.specs.declared.Square.{Square}
use Rattle.keys.specs.declared.block.TreeBlock.{TreeBlock}
use Rattle.keys.proofs.Cases.{decide}
use Rattle.keys.proofs.Interval.{within}
use Rattle.keys.proofs.Powers.{two_le}
use Rattle.definitions.specs.Window.{in_window}
use Rattle.definitions.specs.declared.Window.{Window}
use Rattle.list.specs.Check.{one_slot}
use Rattle.list.proofs.OneSlot.{power_slot}
use Rattle.walk.specs.Walk.{Small, is_within, is_apart, square_spot, lie_of}
use Rattle.walk.specs.declared.lying.Lie.{Lie}
use Rattle.walk.specs.declared.lying.Lie.TheVariants as lie
use Rattle.walk.proofs.Lies.{apart_pixel, within_pixel, not_apart, inside_within, lies_as}
use Rattle.deeds.specs.Step.{plain}
use Rattle.deeds.specs.Deed.{window_step, Painting, WindowMet}
use Rattle.deeds.specs.Meeting.{BlockAsked}
use Rattle.deeds.specs.declared.meeting.Meeting.TheVariants.{Apart, Leaf, Cut}
use Rattle.deeds.proofs.Meetings.{covers_leaf, plain_bits}

module _ {w : Window} {feature m : ℕ} {b : TreeBlock} {q : Square} (p : Painting w feature) (a : BlockAsked m b) (e : q ≡ block_square b) where
  -- the sums that compare the block with the window are small
  pub small : Small (square_spot q) w
  small =
      let i = within a.block in
      let t = two_le 10 a.deep in
      rw e (record { rows = omega (arith, i.bottom); columns = omega (arith, i.right); height = p.low; width = p.narrow })

  module _ {answer : Lie} (told : answer ≡ lie_of q w) where
    pub out : answer ≡ lie.Apart → WindowMet w feature b Apart
    out f ks vs =
        let h : is_apart (square_spot (block_square b)) w ≡ true = rw e at (lies_as q w told f) in
        record {
          told = λ row column i. decide (in_window w row column) (λ j. absurd (apart_pixel (square_spot (block_square b)) w row column h (omega arith) j)) (λ j. j);
        }

    pub in_all : answer ≡ lie.Within → {bits : ℕ} → bits ≡ 2 ^ feature → WindowMet w feature b (Leaf bits)
    in_all f g ks vs =
        let h : is_within (square_spot (block_square b)) w ≡ true = rw e at (lies_as q w told f) in
        record {
          told = covers_leaf (window_step w feature) (plain feature)
              (λ row column i. (within_pixel (square_spot (block_square b)) w row column h (omega arith), refl))
              (g ∙ plain_bits feature b.height b.row b.column) (ap one_slot g ∙ power_slot feature);
        }

    pub in_part : answer ≡ lie.Cut → WindowMet w feature b Cut
    in_part f ks vs =
        let h : (is_apart (square_spot (block_square b)) w ≡ false) × (is_within (square_spot (block_square b)) w ≡ false) = rw e at (lies_as q w told f) in
        record { told = higher b.height b.row b.column h.0 h.1 }
      where
        higher : (k r c : ℕ) → is_apart (square_spot (record { row = r; column = c; side = 2 ^ k })) w ≡ false → is_within (square_spot (record { row = r; column = c; side = 2 ^ k })) w ≡ false → 0 < k
        higher zero r c h i =
            let j = not_apart (square_spot (record { row = r; column = c; side = 2 ^ zero })) w h in
            absurd (true≢false (sym (inside_within (square_spot (record { row = r; column = c; side = 2 ^ zero })) w (omega arith)) ∙ i))
        higher (suc k) r c h i = omega arith
