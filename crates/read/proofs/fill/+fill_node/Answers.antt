-- `fill::fill_node`: each turn fills one quadrant more, a leaf or a node. Rests on Shown and FillTurn.
use Prim.Native.Nat.{suc}
use Rattle.std.proofs.Common.{ℕ, List, ◌≡◌, ◌/◌, ◌<◌, refl, sym, ◌∙◌, arith}
use lib.Pow.{pow_pos}
use Rattle.definitions.specs.Picture.{Picture}
use Rattle.read.specs.Fill.{Shows}
use Rattle.read.proofs.Shown.{shows_room}
use Rattle.read.proofs.FillTurn.{fill_reached_none, reached_all, next_room, next_slots, leaf_asked, child_asked, leaf_turn, node_turn}
use Rattle.read.proofs.fill.+fill_node.Goals as goal
use Rattle.read.proofs.fill.+fill_node.Goals.{then-is_leaf, else-is_leaf+then-half-eq16, else-is_leaf+else-half-eq16}

-- half of the side is less
less : (side t : ℕ) {p : Picture} {k r c κ : ℕ} {bits : List ℕ} {at wide place long : ℕ} → side ≡ t → Shows p (suc k) r c κ bits at wide place side long → side / 2 < t
less side t {k = k} e s = let f = s.sides in let g = pow_pos (suc k) in omega arith

pub overflow_add-next : goal.overflow_add-next
overflow_add-next t c = let e = shows_room c.requires.shows in omega (arith, c.well_formed)

pub loop-d-init : goal.loop-d-init
loop-d-init t c = fill_reached_none _ _ _ _ _ _

pub offset_bounds-bits-next : goal.offset_bounds-bits-next
offset_bounds-bits-next t c = let h = next_room c.loop-d.invariant c.requires (omega arith) in omega (arith, c.well_formed)

pub bounds-bits-next : goal.bounds-bits-next
bounds-bits-next t c = next_room c.loop-d.invariant c.requires (omega arith)

pub is_leaf-requires : goal.is_leaf-requires
is_leaf-requires t c = next_slots c.loop-d.invariant c.requires (omega arith)

pub fill_square-requires : goal.fill_square-requires
fill_square-requires t c = leaf_asked c.loop-d.invariant c.requires (omega arith) _ c.corner_of-corner.ensures

pub overflow_add-next-then-is_leaf : goal.overflow_add-next-then-is_leaf
overflow_add-next-then-is_leaf t c = let h = next_room c.loop-d.invariant c.requires (omega arith) in omega (arith, c.well_formed)

pub fill_quadrants-next-requires : goal.fill_quadrants-next-requires
fill_quadrants-next-requires t c =
    rw c.if-half-eq16.true at
    (child_asked c.loop-d.invariant c.requires (omega arith) _ c.corner_of-corner.ensures (sym c.is_leaf.ensures ∙ c.if-is_leaf.false))

pub fill_node-next-requires : goal.fill_node-next-requires
fill_node-next-requires t c = (
  less _ t c.decreases c.requires.shows,
  child_asked c.loop-d.invariant c.requires (omega arith) _ c.corner_of-corner.ensures (sym c.is_leaf.ensures ∙ c.if-is_leaf.false),
)

pub loop-d-preserved : goal.loop-d-preserved
loop-d-preserved t c =
    let corner = c.corner_of-corner.ensures in
    let slot = sym c.is_leaf.ensures in
    elim c.if-is_leaf.branch [
      | then-is_leaf w ↦ leaf_turn c.loop-d.invariant _ _ _ _ (omega arith) corner (slot ∙ w.if-is_leaf.true) w.feature_of.ensures (w.raster-is ∙ w.fill_square.ensures) w.next-is
      | else-is_leaf+then-half-eq16 w ↦ node_turn c.loop-d.invariant _ _ _ _ _ _ (omega arith) corner w.if-half-eq16.true (slot ∙ w.if-is_leaf.false) w.fill_quadrants-next.ensures w.raster-is w.next-is
      | else-is_leaf+else-half-eq16 w ↦ node_turn c.loop-d.invariant _ _ _ _ _ _ (omega arith) corner refl (slot ∙ w.if-is_leaf.false) w.fill_node-next.ensures w.raster-is w.next-is
    ]

pub returns : goal.returns
returns t c = reached_all c.loop-d.invariant (omega arith)
