-- `count::pass_quad`: no leaf is left, the next is the block, or four pixels follow.
use Prim.Native.Nat.{ℕ}
use mathlib.Core.Path.{◌≡◌, refl}
use native.Mathlib.Omega.{arith}
use Rattle.leaves.specs.Delivered.{quad_span}
use Rattle.leaves.proofs.PassBlock.{lost_none, lost_nw, lost_ne, lost_sw, lost_se, passed_leaf, passed_four, passed_small}
use Rattle.leaves.proofs.count.pass_quad.Goals as goal

-- it has more than one key
many : ◌≡◌ {A = ℕ} 5 1 → ⊥
many e = omega arith

pub returns-then-keys-at : goal.returns-then-keys-at
returns-then-keys-at c = lost_none _ c.args.features.now _ _ c.if-keys-at.true

pub returns-then-keys-at-2 : goal.returns-then-keys-at-2
returns-then-keys-at-2 c = rw c.pass_leaf.ensures (passed_leaf _ _ _ _ c.if-keys-at.false c.if-keys-at-2.true)

pub returns-in_err-nw : goal.returns-in_err-nw
returns-in_err-nw c = rw c.from_residual.ensures (lost_nw _ c.args.features.now (quad_span c.args.key) _ c.if-keys-at.false c.if-keys-at-2.false many refl c.in_err-nw.ensures)

pub returns-in_err-ne : goal.returns-in_err-ne
returns-in_err-ne c = rw c.from_residual-in_err-ne.ensures (lost_ne _ c.args.features.now (quad_span c.args.key) _ c.if-keys-at.false c.if-keys-at-2.false many refl c.in_ok-nw.ensures refl c.in_err-ne.ensures)

pub returns-in_err-sw : goal.returns-in_err-sw
returns-in_err-sw c =
    rw c.from_residual-in_err-sw.ensures (lost_sw _ c.args.features.now (quad_span c.args.key) _ c.if-keys-at.false c.if-keys-at-2.false many refl c.in_ok-nw.ensures refl c.in_ok-ne.ensures refl c.in_err-sw.ensures)

pub returns-in_err-se : goal.returns-in_err-se
returns-in_err-se c =
    rw c.from_residual-in_err-se.ensures (lost_se _ c.args.features.now (quad_span c.args.key) _ c.if-keys-at.false c.if-keys-at-2.false many refl c.in_ok-nw.ensures refl c.in_ok-ne.ensures refl c.in_ok-sw.ensures refl c.in_err-se.ensures)

pub joined-tally-requires : goal.joined-tally-requires
joined-tally-requires c =
    let a = c.requires in (
      passed_small a many 1 refl c.in_ok-nw.ensures,
      passed_small a many 2 refl c.in_ok-ne.ensures,
      passed_small a many 3 refl c.in_ok-sw.ensures,
      passed_small a many 4 refl c.in_ok-se.ensures,
    )

pub returns : goal.returns
returns c =
    passed_four _ _ (quad_span c.args.key) _ c.if-keys-at.false c.if-keys-at-2.false many refl refl refl refl
    c.in_ok-nw.ensures
    c.in_ok-ne.ensures
    c.in_ok-sw.ensures
    c.in_ok-se.ensures
    c.joined-tally.ensures
