-- `put_refusal`: the word with its blank, and then the number and the line's end.
use Prim.Native.Nat.{ℕ}
use mathlib.Core.List.{List, [], ◌∷◌, ◌++◌}
use Rattle.definitions.specs.Listing.{blank, line_end, refused, decimal, refusal_line}
use Rattle.listing_text.specs.Put.{Put, BytesFit}
use Rattle.listing_text.proofs.Going.{Going, bytes_kept}
use Rattle.listing_text.proofs.Going as going
use Rattle.listing_text.proofs.listing.put_refusal.Goals as goal

abbrev word : List ℕ
word = refused ++ (blank ∷ [])

abbrev end : ℕ → List ℕ
end number = decimal number ++ (line_end ∷ [])

module _ (number : ℕ) (old : List ℕ) where
  at_word : Going (refusal_line number) (word ++ end number) 0 old old 0
  unfolding refusal_line
  at_word = going.line_begins _ 0 old

  word_room : BytesFit (refusal_line number) 0 old → BytesFit word 0 old
  word_room r = going.piece_room word (end number) at_word r

  module _ {a : List ℕ} {i : ℕ} (one : Put word 0 old a i) where
    at_number : Going (refusal_line number) (end number) 0 old a i
    at_number = going.goes word at_word one

    number_room : BytesFit (refusal_line number) 0 old → BytesFit (end number) i a
    number_room r = going.room (end number) at_number r

    ends : {b : List ℕ} {j : ℕ} → Put (end number) i a b j → Put (refusal_line number) 0 old b j
    ends two = going.finishes (end number) at_number two

pub put_text-place-requires : goal.put_text-place-requires
put_text-place-requires c = word_room _ _ c.requires

pub put_number_then-requires : goal.put_number_then-requires
put_number_then-requires c = rw c.from.ensures (number_room _ _ c.put_text-place.ensures c.requires)

pub returns : goal.returns
returns c = ends _ _ c.put_text-place.ensures (rw c.from.ensures at c.put_number_then.ensures)
