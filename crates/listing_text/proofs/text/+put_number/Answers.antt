-- `put_number`: below ten it is one digit, else the number's tenth and then its last digit. The measure is the number.
use Prim.Native.Nat.{ℕ, ◌/◌, ◌%◌, ◌<◌, ◌≤◌}
use mathlib.Core.Path.{◌≡◌, ap}
use mathlib.Core.List.{List, [], ◌∷◌, ◌++◌}
use native.Mathlib.Omega.{arith}
use lib.ListN.{length}
use Rattle.definitions.specs.Listing.{character_of, decimal}
use Rattle.listing_text.specs.Put.{Put, BytesFit}
use Rattle.listing_text.proofs.Going.{Going}
use Rattle.listing_text.proofs.Going as going
use Rattle.listing_text.proofs.Pieces.{decimal_digit, decimal_tenth}
use Rattle.listing_text.proofs.text.+put_number.Goals as goal

module _ (x start : ℕ) (old : List ℕ) where
  -- below ten
  one : x < 10 → BytesFit (decimal x) start old → (x < 10) × BytesFit (character_of x ∷ []) start old
  one h r = let l = ap length (decimal_digit x h) in (h, record { fits = omega arith })

  digit : x < 10 → {later : List ℕ} {next : ℕ} → Put (character_of x ∷ []) start old later next → Put (decimal x) start old later next
  digit h put = rw (decimal_digit x h) put

  module _ (h : 10 ≤ x) where
    starts : Going (decimal x) (decimal (x / 10) ++ (character_of (x % 10) ∷ [])) start old old start
    starts = going.renamed (going.line_begins _ start old) (decimal_tenth x h)

    tenth_fits : (t : ℕ) → x ≡ t → BytesFit (decimal x) start old → (x / 10 < t) × BytesFit (decimal (x / 10)) start old
    tenth_fits t e r = (omega arith, going.piece_room (decimal (x / 10)) _ starts r)

    module _ {later : List ℕ} {last : ℕ} (put : Put (decimal (x / 10)) start old later last) where
      goes : Going (decimal x) (character_of (x % 10) ∷ []) start old later last
      goes = going.goes _ starts put

      last_fits : BytesFit (decimal x) start old → (x % 10 < 10) × BytesFit (character_of (x % 10) ∷ []) last later
      last_fits r = (omega arith, going.room _ goes r)

      ends : {final : List ℕ} {next : ℕ} → Put (character_of (x % 10) ∷ []) last later final next → Put (decimal x) start old final next
      ends p = going.ends (going.goes (character_of (x % 10) ∷ []) goes p)

pub put_digit-requires : goal.put_digit-requires
put_digit-requires t c = one _ _ _ c.if-x-lt10.true c.requires

pub returns-then-x-lt10 : goal.returns-then-x-lt10
returns-then-x-lt10 t c = digit _ _ _ c.if-x-lt10.true c.put_digit.ensures

pub put_number-last-requires : goal.put_number-last-requires
put_number-last-requires t c = tenth_fits _ _ _ c.if-x-lt10.false t c.decreases c.requires

pub put_digit-requires-2 : goal.put_digit-requires-2
put_digit-requires-2 t c =
    last_fits _ _ _ c.if-x-lt10.false c.put_number-last.ensures c.requires

pub returns : goal.returns
returns t c = ends _ _ _ c.if-x-lt10.false c.put_number-last.ensures c.put_digit-2.ensures
