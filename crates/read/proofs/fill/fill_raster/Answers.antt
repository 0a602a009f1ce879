-- `fill::fill_raster`: the bitstrings show the root, and its square painted is the picture.
use Prim.Native.Nat.{ℕ, ◌+◌, ◌*◌, ◌/◌, ◌%◌, ◌^◌}
use mathlib.Core.Path.{◌≡◌, refl, sym, ◌∙◌, ap}
use mathlib.Core.Bool.{true, false}
use mathlib.Core.List.{List, ◌++◌}
use native.Mathlib.Omega.{arith}
use lib.ListN.{length, get_or, drop, take-append-drop}
use Rattle.keys.specs.Key.{root_key}
use Rattle.definitions.specs.Bits.{feature_of}
use Rattle.definitions.specs.Window.{features_of_rows}
use Rattle.list.specs.Check.{one_slot}
use Rattle.list.specs.Own.{OwnList, shown_by}
use Rattle.read.specs.Fill.{rectangle_painted, Shows, ShowsNode, NodeFilled}
use Rattle.list.proofs.Own.{own_values}
use Rattle.read.proofs.Shown.{shows_room, leaf_painted, node_asked, node_filled}
use Rattle.read.proofs.Rows.{whole_painted}
use Rattle.read.proofs.fill.fill_raster.Goals as goal

module _ {m : ℕ} {keys bits : List ℕ} {n : ℕ} (o : OwnList m keys bits n) {side long : ℕ} (sides : side ≡ 2 ^ m) (area : long ≡ 2 ^ m * 2 ^ m) where
  squared : long ≡ side * side
  squared = area ∙ ap (λ x. x * x) (sym sides)

  root_shows : Shows (shown_by m keys bits n) m 0 0 root_key bits 0 side 0 side long
  root_shows =
      let e : 0 + side ≡ side = omega arith in
      let f = squared in
      record {
        rest = drop n bits;
        values = sym (take-append-drop n bits) ∙ ap (λ l. l ++ drop n bits) (sym (own_values o));
        sides = sides;
        corner = omega arith;
        columns = omega arith;
        rows = rw e (omega arith);
      }

  module _ (before after : List ℕ) (is : length before ≡ long) where
    whole : after ≡ rectangle_painted side (shown_by m keys bits n) 0 0 side side before → after ≡ features_of_rows (shown_by m keys bits n) 0 0 (2 ^ m) (2 ^ m)
    whole e =
        e
        ∙ whole_painted (shown_by m keys bits n) side side before (is ∙ squared)
        ∙ ap (λ x. features_of_rows (shown_by m keys bits n) 0 0 x x) sides

    leaf_end : (f : ℕ)
        → one_slot (get_or bits 0 0) ≡ true
        → f ≡ feature_of (get_or bits 0 0)
        → after ≡ rectangle_painted side (λ a b. f) (0 / side) (0 % side) side side before
        → after ≡ features_of_rows (shown_by m keys bits n) 0 0 (2 ^ m) (2 ^ m)
    leaf_end f leaf feature e =
        whole (e
        ∙ ap (λ g. rectangle_painted side (λ a b. g) (0 / side) (0 % side) side side before) feature
        ∙ leaf_painted root_shows leaf before)

    node_end : (next : ℕ)
        → one_slot (get_or bits 0 0) ≡ false
        → NodeFilled bits 0 side 0 side before after next
        → after ≡ features_of_rows (shown_by m keys bits n) 0 0 (2 ^ m) (2 ^ m)
    node_end next node f =
        let s : Shows (shown_by m keys bits n) m 0 0 root_key bits 0 side 0 side (length before) = rw is root_shows in
        whole (node_filled f s node).pixels

pub bounds-list-0 : goal.bounds-list-0
bounds-list-0 c = shows_room (root_shows c.args.list.now.own c.power_of_two-side.ensures c.requires)

pub fill_node-end-requires : goal.fill_node-end-requires
fill_node-end-requires c =
    node_asked (root_shows c.args.list.now.own c.power_of_two-side.ensures c.requires) (sym c.has_one_slot.ensures ∙ c.if-has_one_slot.false)

pub returns-then-has_one_slot : goal.returns-then-has_one_slot
returns-then-has_one_slot c =
    leaf_end c.args.list.now.own c.power_of_two-side.ensures c.requires _ _ refl _ (sym c.has_one_slot.ensures ∙ c.if-has_one_slot.true) c.feature_of.ensures c.fill_square.ensures

-- the same where the side is known by a number
module _ {bits : List ℕ} {at wide place side known : ℕ} (is : side ≡ known) where
  known_asked : {long : ℕ} → ShowsNode bits at wide place side long → ShowsNode bits at wide place known long
  known_asked s = rw (← is) s

  known_filled : {before after : List ℕ} {next : ℕ} → NodeFilled bits at wide place known before after next → NodeFilled bits at wide place side before after next
  known_filled f = rw is f

pub fill_quadrants-end-requires : goal.fill_quadrants-end-requires
fill_quadrants-end-requires c =
    known_asked c.if-side-eq16.true
    (node_asked (root_shows c.args.list.now.own c.power_of_two-side.ensures c.requires) (sym c.has_one_slot.ensures ∙ c.if-has_one_slot.false))

pub returns-then-side-eq16 : goal.returns-then-side-eq16
returns-then-side-eq16 c =
    node_end c.args.list.now.own c.power_of_two-side.ensures c.requires _ _ refl _ (sym c.has_one_slot.ensures ∙ c.if-has_one_slot.false)
    (known_filled c.if-side-eq16.true c.fill_quadrants-end.ensures)

pub returns-else-side-eq16 : goal.returns-else-side-eq16
returns-else-side-eq16 c =
    node_end c.args.list.now.own c.power_of_two-side.ensures c.requires _ _ refl _ (sym c.has_one_slot.ensures ∙ c.if-has_one_slot.false) c.fill_node-end.ensures
