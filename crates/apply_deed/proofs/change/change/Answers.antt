-- `change` meets its contract: the passes one after the other.
use Rattle.std.proofs.Common.{◌∙◌, arith}
use Rattle.apply_deed.proofs.Changing.{shrink_whole, grow_asked, after_is, changed_keys, changed_bits}
use Rattle.apply_deed.proofs.change.change.Goals as goal

pub shrink-shrunk-requires : goal.shrink-shrunk-requires
shrink-shrunk-requires c = shrink_whole c.root.ensures c.requires.deep c.requires.own

pub grow_all-requires : goal.grow_all-requires
grow_all-requires c = grow_asked _ c.requires.deep c.requires.own c.root.ensures c.shrink-shrunk.ensures c.requires.fits

pub give_up-requires : goal.give_up-requires
give_up-requires c =
    let e = c.grow_all.auto.keys ∙ c.shrink-shrunk.auto.keys in
    let f = c.grow_all.auto.bits ∙ c.shrink-shrunk.auto.bits in
    record { in_keys = omega (arith, c.requires.own.fits, e); in-bits = omega (arith, c.requires.own.fits, f) }

pub returns : goal.returns
returns c =
    let s = c.requires in
    let e = c.root.ensures in
    let h = c.shrink-shrunk.ensures in
    record {
      length-is = after_is _ s.deep s.own e h;
      keys_are = c.give_up.ensures.keys_after ∙ changed_keys _ s.deep s.own e h s.fits c.grow_all.ensures;
      bits_are = c.give_up.ensures.bits_after ∙ changed_bits _ s.deep s.own e h s.fits c.grow_all.ensures;
    }
