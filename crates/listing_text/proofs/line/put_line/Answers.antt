-- `put_line`: the key, a blank, the slots and the line's end stand one after the other.
use Prim.Native.Nat.{ℕ}
use mathlib.Core.List.{List, [], ◌∷◌, ◌++◌}
use Rattle.definitions.specs.List.{record_of}
use Rattle.definitions.specs.Listing.{blank, line_end, key_text, slots_text, line_of}
use Rattle.listing_text.specs.Put.{Put, BytesFit}
use Rattle.listing_text.proofs.Going.{Going, bytes_kept}
use Rattle.listing_text.proofs.Going as going
use Rattle.listing_text.proofs.line.put_line.Goals as goal

abbrev end : List ℕ
end = line_end ∷ []

abbrev slots : ℕ → ℕ → List ℕ
slots s bits = slots_text s bits ++ end

module _ (m s key bits start : ℕ) (old : List ℕ) where
  abbrev whole : List ℕ
  whole = line_of m s (record_of key bits)

  at_key : Going whole (key_text m key ++ (blank ∷ slots s bits)) start old old start
  unfolding line_of
  at_key = going.line_begins _ start old

  key_room : BytesFit whole start old → BytesFit (key_text m key) start old
  key_room r = going.piece_room (key_text m key) _ at_key r

  module _ {a : List ℕ} {i : ℕ} (one : Put (key_text m key) start old a i) where
    at_blank : Going whole ((blank ∷ []) ++ slots s bits) start old a i
    at_blank = going.goes (key_text m key) at_key one

    blank_room : BytesFit whole start old → BytesFit (blank ∷ []) i a
    blank_room r = going.piece_room (blank ∷ []) _ at_blank r

    module _ {b : List ℕ} {j : ℕ} (two : Put (blank ∷ []) i a b j) where
      at_slots : Going whole (slots s bits) start old b j
      at_slots = going.goes (blank ∷ []) at_blank two

      slots_room : BytesFit whole start old → BytesFit (slots_text s bits) j b
      slots_room r = going.piece_room (slots_text s bits) _ at_slots r

      module _ {d : List ℕ} {k : ℕ} (three : Put (slots_text s bits) j b d k) where
        at_end : Going whole end start old d k
        at_end = going.goes (slots_text s bits) at_slots three

        end_room : BytesFit whole start old → BytesFit end k d
        end_room r = going.room end at_end r

        ends : {e : List ℕ} {n : ℕ} → Put end k d e n → Put whole start old e n
        ends four = going.finishes end at_end four

pub put_key-blank-requires : goal.put_key-blank-requires
put_key-blank-requires c =
    let asked = c.requires in
    (asked.0, asked.1, key_room _ _ _ _ _ _ asked.2)

pub put_byte-slots-requires : goal.put_byte-slots-requires
put_byte-slots-requires c = blank_room _ _ _ _ _ _ c.put_key-blank.ensures c.requires.2

pub put_slots-end-requires : goal.put_slots-end-requires
put_slots-end-requires c = slots_room _ _ _ _ _ _ c.put_key-blank.ensures c.put_byte-slots.ensures c.requires.2

pub put_byte-requires : goal.put_byte-requires
put_byte-requires c =
    end_room _ _ _ _ _ _
    c.put_key-blank.ensures
    c.put_byte-slots.ensures
    c.put_slots-end.ensures
    c.requires.2

pub returns : goal.returns
returns c =
    ends _ _ _ _ _ _
    c.put_key-blank.ensures
    c.put_byte-slots.ensures
    c.put_slots-end.ensures
    c.put_byte.ensures
