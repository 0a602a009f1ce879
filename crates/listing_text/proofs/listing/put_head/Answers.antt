-- `put_head`: m, s and n stand one after the other, each with the byte that follows it.
use Prim.Native.Nat.{ℕ}
use mathlib.Core.Path.{◌≡◌, sym, ap, ◌∙◌}
use mathlib.Core.List.{List, [], ◌∷◌, ◌++◌, append_assoc}
use Rattle.definitions.specs.Listing.{blank, line_end, decimal, head_line}
use Rattle.listing_text.specs.Put.{Put, BytesFit}
use Rattle.listing_text.proofs.Going.{Going, bytes_kept}
use Rattle.listing_text.proofs.Going as going
use Rattle.listing_text.proofs.listing.put_head.Goals as goal

-- a number and the blank after it
abbrev part : ℕ → List ℕ
part x = decimal x ++ (blank ∷ [])

abbrev end : ℕ → List ℕ
end n = decimal n ++ (line_end ∷ [])

three : (m s n : ℕ) → head_line m s n ≡ part m ++ (part s ++ end n)
unfolding head_line
three m s n =
    sym (append_assoc (decimal m) (blank ∷ []) (part s ++ end n)
    ∙ ap (λ (l : List ℕ). decimal m ++ (blank ∷ l)) (append_assoc (decimal s) (blank ∷ []) (end n)))

module _ (m s n : ℕ) (old : List ℕ) where
  at_m : Going (head_line m s n) (part m ++ (part s ++ end n)) 0 old old 0
  at_m = going.renamed (going.line_begins _ 0 old) (three m s n)

  m_room : BytesFit (head_line m s n) 0 old → BytesFit (part m) 0 old
  m_room r = going.piece_room (part m) _ at_m r

  module _ {a : List ℕ} {i : ℕ} (one : Put (part m) 0 old a i) where
    at_s : Going (head_line m s n) (part s ++ end n) 0 old a i
    at_s = going.goes (part m) at_m one

    s_room : BytesFit (head_line m s n) 0 old → BytesFit (part s) i a
    s_room r = going.piece_room (part s) _ at_s r

    module _ {b : List ℕ} {j : ℕ} (two : Put (part s) i a b j) where
      at_n : Going (head_line m s n) (end n) 0 old b j
      at_n = going.goes (part s) at_s two

      n_room : BytesFit (head_line m s n) 0 old → BytesFit (end n) j b
      n_room r = going.room (end n) at_n r

      ends : {d : List ℕ} {k : ℕ} → Put (end n) j b d k → Put (head_line m s n) 0 old d k
      ends last = going.finishes (end n) at_n last

pub put_number_then-second-requires : goal.put_number_then-second-requires
put_number_then-second-requires c = rw c.from.ensures (m_room _ _ _ _ c.requires)

pub put_number_then-third-requires : goal.put_number_then-third-requires
put_number_then-third-requires c = rw c.from-2.ensures (s_room _ _ _ _ (rw c.from.ensures at c.put_number_then-second.ensures) c.requires)

pub put_number_then-requires : goal.put_number_then-requires
put_number_then-requires c =
    n_room _ _ _ _ (rw c.from.ensures at c.put_number_then-second.ensures) (rw c.from-2.ensures at c.put_number_then-third.ensures) c.requires

pub returns : goal.returns
returns c =
    ends _ _ _ _ (rw c.from.ensures at c.put_number_then-second.ensures) (rw c.from-2.ensures at c.put_number_then-third.ensures) c.put_number_then.ensures
