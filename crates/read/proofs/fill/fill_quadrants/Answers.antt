-- `fill::fill_quadrants`: each turn fills one quadrant more, a leaf or a node. Rests on Shown and FillTurn.
use Rattle.std.proofs.Common.{ℕ, ◌≡◌, ◌*◌, ◌/◌, sym, ◌∙◌, arith}
use Rattle.read.proofs.Shown.{shows_room}
use Rattle.read.proofs.FillTurn.{fill_reached_none, reached_all, next_room, next_slots, leaf_half, node_half, leaf_fits, child_fits}
use Rattle.read.proofs.fill.fill_quadrants.Goals as goal
use Rattle.read.proofs.fill.fill_quadrants.Goals.{then-is_leaf, else-is_leaf}

-- half of twice a number
halved : (x half : ℕ) → half ≡ x → 2 * x / 2 ≡ half
halved x half e = omega arith

pub overflow_add-next : goal.overflow_add-next
overflow_add-next g c = let e = shows_room c.requires.shows in omega (arith, c.well_formed)

pub loop-d-init : goal.loop-d-init
loop-d-init g c = fill_reached_none _ _ _ _ _ _

pub offset_bounds-bits-next : goal.offset_bounds-bits-next
offset_bounds-bits-next g c = let h = next_room c.loop-d.invariant c.requires (omega arith) in omega (arith, c.well_formed)

pub bounds-bits-next : goal.bounds-bits-next
bounds-bits-next g c = next_room c.loop-d.invariant c.requires (omega arith)

pub is_leaf-requires : goal.is_leaf-requires
is_leaf-requires g c = next_slots c.loop-d.invariant c.requires (omega arith)

pub fill_leaf-requires : goal.fill_leaf-requires
fill_leaf-requires g c =
    rw (sym c.SIDE-half.ensures) (leaf_fits (halved _ _ c.SIDE-half.ensures) c.loop-d.invariant (omega arith) _ c.corner_of-corner.ensures c.requires)

pub overflow_add-next-then-is_leaf : goal.overflow_add-next-then-is_leaf
overflow_add-next-then-is_leaf g c = let h = next_room c.loop-d.invariant c.requires (omega arith) in omega (arith, c.well_formed)

pub fill_node-next-requires : goal.fill_node-next-requires
fill_node-next-requires g c =
    rw (sym c.SIDE-half.ensures)
    (child_fits (halved _ _ c.SIDE-half.ensures) c.loop-d.invariant (omega arith) _ c.corner_of-corner.ensures c.requires (sym c.is_leaf.ensures ∙ c.if-is_leaf.false))

pub loop-d-preserved : goal.loop-d-preserved
loop-d-preserved g c =
    let known = halved _ _ c.SIDE-half.ensures in
    let corner = c.corner_of-corner.ensures in
    let slot = sym c.is_leaf.ensures in
    elim c.if-is_leaf.branch [
      | then-is_leaf w ↦
          let filled = rw (sym c.SIDE-half.ensures) at w.fill_leaf.ensures in
          leaf_half known c.loop-d.invariant (omega arith) _ corner _ _ _ (slot ∙ w.if-is_leaf.true) w.feature_of.ensures (w.raster-is ∙ filled) w.next-is
      | else-is_leaf w ↦
          let filled = rw (sym c.SIDE-half.ensures) at w.fill_node-next.ensures in
          node_half known c.loop-d.invariant (omega arith) _ corner _ _ _ _ (slot ∙ w.if-is_leaf.false) filled w.raster-is w.next-is
    ]

pub returns : goal.returns
returns g c = reached_all c.loop-d.invariant (omega arith)
