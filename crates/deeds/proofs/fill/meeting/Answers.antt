-- `fill::meeting` meets its contract, by how the block lies.
use native.Mathlib.Omega.{arith}
use Rattle.keys.proofs.Interval.{within}
use Rattle.deeds.proofs.ByWindow.{small, out, in_all, in_part}
use Rattle.deeds.proofs.fill.meeting.Goals as goal

pub square-requires : goal.square-requires
square-requires c = let a = c.requires.1 in let w = within a.block in omega (arith, w.height, a.deep)

pub lies-lie-requires : goal.lies-lie-requires
lies-lie-requires c = let s = c.requires in small s.0 s.1 c.square.ensures

pub returns-in-Apart : goal.returns-in-Apart
returns-in-Apart c =
    let l = c in
    let s = l.requires in
    out s.0 s.1 l.square.ensures l.lies-lie.ensures c.in-Apart.is

pub returns-in-Within : goal.returns-in-Within
returns-in-Within c =
    let l = c in
    let s = l.requires in
    in_all s.0 s.1 l.square.ensures l.lies-lie.ensures c.in-Within.is c.power_of_two.ensures

pub returns-in-Cut : goal.returns-in-Cut
returns-in-Cut c =
    let l = c in
    let s = l.requires in
    in_part s.0 s.1 l.square.ensures l.lies-lie.ensures c.in-Cut.is
