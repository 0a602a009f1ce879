-- `put_text`: after i turns the first i bytes stand, and what remains is the text without them.
use Prim.Native.Nat.{ℕ, ◌+◌, ◌≤◌, ◌<◌}
use mathlib.Core.Path.{◌≡◌, sym, ap, ◌∙◌}
use mathlib.Core.List.{List, [], ◌∷◌, ◌++◌}
use native.Mathlib.Omega.{arith}
use native.Mathlib.Numerals.{add-one}
use lib.ListN.{length, drop, get_or, drop_of_length-le}
use lib.Seq.{drop-cons}
use Rattle.listing_text.specs.Put.{Put, BytesFit}
use Rattle.listing_text.proofs.Going.{Going}
use Rattle.listing_text.proofs.Going as going
use Rattle.listing_text.proofs.text.put_text.Invariants.{Passed}
use Rattle.listing_text.proofs.text.put_text.Goals as goal

begins : (text : List ℕ) (start : ℕ) (old : List ℕ) → Passed text start old old start 0
begins text start old = record { within = omega arith; going = going.line_begins text start old }

module _ {text : List ℕ} {start : ℕ} {old out : List ℕ} {next i : ℕ} (p : Passed text start old out next i) where
  module _ (h : i < length text) where
    piece : drop i text ≡ (get_or text i 0 ∷ []) ++ drop (i + 1) text
    piece = drop-cons text i 0 h ∙ ap (λ (k : ℕ). get_or text i 0 ∷ drop k text) (sym (add-one i))

    fits : BytesFit text start old → BytesFit (get_or text i 0 ∷ []) next out
    fits r = going.piece_room _ _ (going.renamed p.going piece) r

    goes : {later : List ℕ} {last : ℕ} → Put (get_or text i 0 ∷ []) next out later last → Passed text start old later last (i + 1)
    goes put = record { within = omega arith; going = going.goes _ (going.renamed p.going piece) put }

  ends : length text ≤ i → Put text start old out next
  ends h = going.ends (going.renamed p.going (drop_of_length-le text h))

pub loop-byte-init : goal.loop-byte-init
loop-byte-init c = begins _ _ _

pub put_byte-next-requires : goal.put_byte-next-requires
put_byte-next-requires c =
    fits c.loop-byte.invariant c.loop-byte-test.true c.requires

pub loop-byte-preserved : goal.loop-byte-preserved
loop-byte-preserved c =
    goes c.loop-byte.invariant
    c.loop-byte-test.true
    c.put_byte-next.ensures

pub returns : goal.returns
returns c = ends c.loop-byte.invariant c.loop-byte-test.false
