-- `put_listing`: the head, whose n is the number of the records, and then their lines.
use Prim.Native.Nat.{ℕ}
use mathlib.Core.Path.{◌≡◌, ap}
use mathlib.Core.List.{List, ◌++◌}
use Rattle.definitions.specs.Read.{records_of}
use Rattle.laws.proofs.Records.{records-length}
use Rattle.definitions.specs.Listing.{head_line, lines_of, listing}
use Rattle.listing_text.specs.Put.{Put, BytesFit, Records}
use Rattle.listing_text.proofs.Going.{Going, bytes_kept}
use Rattle.listing_text.proofs.Going as going
use Rattle.listing_text.proofs.listing.put_listing.Goals as goal

module _ (m s : ℕ) (keys bits : List ℕ) (n : ℕ) (old : List ℕ) (r : Records m keys bits n) where
  abbrev lines : List ℕ
  lines = lines_of m s (records_of keys bits n)

  abbrev whole : List ℕ
  whole = listing m s (records_of keys bits n)

  parts : whole ≡ head_line m s n ++ lines
  unfolding listing
  parts = ap (λ (k : ℕ). head_line m s k ++ lines) (records-length keys bits n r.keys_hold r.bits_hold)

  at_head : Going whole (head_line m s n ++ lines) 0 old old 0
  at_head = going.renamed (going.line_begins _ 0 old) parts

  head_room : BytesFit whole 0 old → BytesFit (head_line m s n) 0 old
  head_room room = going.piece_room (head_line m s n) lines at_head room

  module _ {a : List ℕ} {i : ℕ} (one : Put (head_line m s n) 0 old a i) where
    at_lines : Going whole lines 0 old a i
    at_lines = going.goes (head_line m s n) at_head one

    lines_room : BytesFit whole 0 old → BytesFit lines i a
    lines_room room = going.room lines at_lines room

    ends : {b : List ℕ} {j : ℕ} → Put lines i a b j → Put whole 0 old b j
    ends two = going.finishes lines at_lines two

pub put_head-place-requires : goal.put_head-place-requires
put_head-place-requires c = head_room _ _ _ _ _ _ c.requires.0 c.requires.1

pub put_lines-requires : goal.put_lines-requires
put_lines-requires c =
    (c.requires.0, lines_room _ _ _ _ _ _ c.requires.0 c.put_head-place.ensures c.requires.1)

pub returns : goal.returns
returns c = ends _ _ _ _ _ _ c.requires.0 c.put_head-place.ensures c.put_lines.ensures
