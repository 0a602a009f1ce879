-- `parents::parent_bits` meets its contract: the four children of the parent, one after the other.
use Rattle.replace.proofs.FamilyRead.{wider_read}
use Rattle.replace.proofs.parents.parent_bits.Goals as goal

pub returns : goal.returns
returns c =
    wider_read _ _ _ _ _ _ _ _ _ _ _ _ _ _
    c.enclosing-own.ensures.0 c.parent-parent.ensures.0
    c.child.ensures c.child-2.ensures c.child-3.ensures c.child-4.ensures
    c.child_bits-nw.ensures c.child_bits-ne.ensures c.child_bits-sw.ensures c.child_bits-se.ensures
