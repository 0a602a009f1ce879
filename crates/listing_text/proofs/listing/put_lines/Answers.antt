-- `put_lines`: after i turns the lines of the first i records stand, and what remains is those of the others.
use Prim.Native.Nat.{ℕ, ◌+◌, ◌-◌, ◌^◌, ◌≤◌, ◌<◌}
use mathlib.Core.Path.{◌≡◌, ap, ◌∙◌}
use mathlib.Core.List.{List, ◌++◌}
use native.Mathlib.Omega.{arith}
use lib.ListN.{drop, get_or}
use Rattle.definitions.specs.List.{record_of}
use Rattle.definitions.specs.Read.{records_of}
use Rattle.definitions.specs.Listing.{line_of, lines_of}
use Rattle.listing_text.specs.Put.{Put, BytesFit, Records}
use Rattle.listing_text.proofs.Going.{Going}
use Rattle.listing_text.proofs.Going as going
use Rattle.listing_text.proofs.Records.{lines_piece, lines_none}
use Rattle.listing_text.proofs.listing.put_lines.Invariants.{left, Passed}
use Rattle.listing_text.proofs.listing.put_lines.Goals as goal

begins : (m s : ℕ) (keys bits : List ℕ) (n start : ℕ) (old : List ℕ) → Passed m s keys bits n start old old start 0
begins m s keys bits n start old =
    let all : n ≡ n - 0 = omega arith in
    record {
      within = omega arith;
      going = going.renamed (going.line_begins _ start old) (ap (λ (k : ℕ). lines_of m s (records_of keys bits k)) all);
    }

module _ {m s : ℕ} {keys bits : List ℕ} {n start : ℕ} {old out : List ℕ} {next i : ℕ} (p : Passed m s keys bits n start old out next i) where
  module _ (h : i < n) (r : Records m keys bits n) where
    abbrev line : List ℕ
    line = line_of m s (record_of (get_or keys i 0) (get_or bits i 0))

    at_line : Going (lines_of m s (records_of keys bits n)) (line ++ left m s keys bits n (i + 1)) start old out next
    at_line = going.renamed p.going (lines_piece keys bits n i h r.keys_hold r.bits_hold m s)

    asked : BytesFit (lines_of m s (records_of keys bits n)) start old → (m ≤ 10) × (get_or keys i 0 < 5 ^ m) × BytesFit line next out
    asked room = (r.resolution, r.digits i h, going.piece_room line _ at_line room)

    goes : {later : List ℕ} {last : ℕ} → Put line next out later last → Passed m s keys bits n start old later last (i + 1)
    goes put = record { within = omega arith; going = going.goes line at_line put }

  ends : n ≤ i → Put (lines_of m s (records_of keys bits n)) start old out next
  ends h =
      let none : n - i ≡ 0 = omega arith in
      going.ends
      (going.renamed p.going
      (ap (λ (k : ℕ). lines_of m s (records_of (drop i keys) (drop i bits) k)) none ∙ lines_none m s (drop i keys) (drop i bits)))

pub loop-i-init : goal.loop-i-init
loop-i-init c = begins _ _ _ _ _ _ _

pub offset_bounds-bits-i : goal.offset_bounds-bits-i
offset_bounds-bits-i c = omega arith

pub bounds-bits-i : goal.bounds-bits-i
bounds-bits-i c = omega arith

pub put_line-next-requires : goal.put_line-next-requires
put_line-next-requires c =
    asked c.loop-i.invariant c.loop-i-test.true c.requires.0 c.requires.1

pub loop-i-preserved : goal.loop-i-preserved
loop-i-preserved c =
    goes c.loop-i.invariant c.loop-i-test.true c.requires.0 c.put_line-next.ensures

pub returns : goal.returns
returns c = ends c.loop-i.invariant c.loop-i-test.false
