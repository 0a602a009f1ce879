-- `put_number_then`: the number and the byte stand one after the other.
use mathlib.Core.List.{[], ◌∷◌}
use Rattle.definitions.specs.Listing.{decimal}
use Rattle.listing_text.proofs.Going.{line_begins, goes, finishes, room, piece_room}
use Rattle.listing_text.proofs.text.put_number_then.Goals as goal

pub put_number-end-requires : goal.put_number-end-requires
put_number-end-requires c = piece_room (decimal _) _ (line_begins _ _ _) c.requires

pub put_byte-requires : goal.put_byte-requires
put_byte-requires c = room _ (goes (decimal _) (line_begins _ _ _) c.put_number-end.ensures) c.requires

pub returns : goal.returns
returns c =
    finishes (_ ∷ []) (goes (decimal _) (line_begins _ _ _) c.put_number-end.ensures) c.put_byte.ensures
