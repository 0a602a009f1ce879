-- `put_slots`: after i turns slots 0 to i - 1 stand, and the rest is the bitstring without them.
use Prim.Native.Nat.{ℕ, ◌+◌, ◌-◌, ◌/◌, ◌%◌, ◌≤◌, ◌<◌}
use mathlib.Core.Path.{◌≡◌, sym, ap, ◌∙◌}
use mathlib.Core.List.{List, [], ◌∷◌, ◌++◌}
use native.Mathlib.Omega.{arith}
use native.Mathlib.Nat.{div-one}
use Rattle.definitions.specs.Listing.{character_of, slots_from, slots_text}
use Rattle.listing_text.specs.Put.{Put, BytesFit}
use Rattle.listing_text.proofs.Going.{Going}
use Rattle.listing_text.proofs.Going as going
use Rattle.listing_text.proofs.Pieces.{slots_piece, slots_down}
use Rattle.listing_text.proofs.line.put_slots.Invariants.{Passed}
use Rattle.listing_text.proofs.line.put_slots.Goals as goal

begins : (s bits start : ℕ) (old : List ℕ) → Passed s bits start old old start bits 0
begins s bits start old =
    let all : s ≡ s - 0 = omega arith in
    record {
      within = omega arith;
      shifted = sym (div-one bits);
      going = going.renamed (going.line_begins _ start old) (ap (λ (k : ℕ). slots_from 0 k bits) all);
    }

module _ {s bits start : ℕ} {old out : List ℕ} {next rest i : ℕ} (p : Passed s bits start old out next rest i) where
  module _ (h : i < s) (d : ℕ) (e : d ≡ rest % 2) where
    piece : slots_from i (s - i) bits ≡ (character_of d ∷ []) ++ slots_from (i + 1) (s - (i + 1)) bits
    piece =
        slots_piece s i bits rest h p.shifted ∙ ap (λ (x : ℕ). character_of x ∷ slots_from (i + 1) (s - (i + 1)) bits) (sym e)

    fits : BytesFit (slots_text s bits) start old → (d < 10) × BytesFit (character_of d ∷ []) next out
    fits r = (omega arith, going.piece_room (character_of d ∷ []) _ (going.renamed p.going piece) r)

    goes : {later : List ℕ} {last : ℕ} → Put (character_of d ∷ []) next out later last → Passed s bits start old later last (rest / 2) (i + 1)
    goes put =
        record {
          within = omega arith;
          shifted = slots_down bits i rest p.shifted;
          going = going.goes _ (going.renamed p.going piece) put;
        }

  ends : s ≤ i → Put (slots_text s bits) start old out next
  unfolding slots_from
  ends h =
      let none : s - i ≡ 0 = omega arith in
      going.ends (going.renamed p.going (ap (λ (k : ℕ). slots_from i k bits) none))

pub loop-slot-init : goal.loop-slot-init
loop-slot-init c = begins _ _ _ _

pub put_digit-next-requires : goal.put_digit-next-requires
put_digit-next-requires c =
    fits c.loop-slot.invariant c.loop-slot-test.true _ c.from.ensures c.requires

pub loop-slot-preserved : goal.loop-slot-preserved
loop-slot-preserved c =
    goes c.loop-slot.invariant
    c.loop-slot-test.true
    _
    c.from.ensures
    c.put_digit-next.ensures

pub returns : goal.returns
returns c = ends c.loop-slot.invariant c.loop-slot-test.false
