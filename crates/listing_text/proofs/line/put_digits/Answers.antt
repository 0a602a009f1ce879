-- `put_digits`: after i turns the first i digits stand, and what remains is the digits of the rest.
use Prim.Native.Nat.{ℕ, ◌+◌, ◌-◌, ◌*◌, ◌/◌, ◌%◌, ◌^◌, ◌≤◌, ◌<◌}
use mathlib.Core.Path.{◌≡◌, sym, ap, ◌∙◌}
use mathlib.Core.List.{List, [], ◌∷◌, ◌++◌}
use native.Mathlib.Omega.{arith}
use native.Mathlib.Nat.{mod-lt, div-lt_iff_lt-mul}
use lib.Dec.{lit<}
use Rattle.keys.specs.Key.{digits_of}
use Rattle.keys.proofs.Powers.{five_pos}
use Rattle.keys.proofs.Descent.{power_down, power_whole}
use Rattle.definitions.specs.Listing.{character_of, digits_text}
use Rattle.listing_text.specs.Put.{Put, BytesFit}
use Rattle.listing_text.proofs.Going.{Going}
use Rattle.listing_text.proofs.Going as going
use Rattle.listing_text.proofs.Pieces.{digits_piece}
use Rattle.listing_text.proofs.line.put_digits.Invariants.{Passed}
use Rattle.listing_text.proofs.line.put_digits.Goals as goal

begins : (m key start : ℕ) (old : List ℕ) (step : ℕ) → step ≡ 5 ^ m → key < 5 ^ m → Passed m key start old old start key step 0
begins m key start old step e h =
    let all : m ≡ m - 0 = omega arith in
    record {
      within = omega arith;
      power = e ∙ ap (λ (k : ℕ). 5 ^ k) all;
      small = omega arith;
      going = going.renamed (going.line_begins _ start old) (ap (λ (k : ℕ). digits_text k key) all);
    }

module _ {m key start : ℕ} {old out : List ℕ} {next rest step i : ℕ} (p : Passed m key start old out next rest step i) where
  module _ (h : i < m) where
    down : step / 5 ≡ 5 ^ (m - (i + 1))
    down = power_down 5 m i step (lit< tt) h p.power

    nonzero : 0 < step / 5
    nonzero = let q = down in let z = five_pos (m - (i + 1)) in omega arith

    whole_step : step ≡ step / 5 * 5
    whole_step = power_whole 5 m i step (lit< tt) h p.power

    is_digit : rest / (step / 5) < 5
    is_digit = let e = whole_step in (div-lt_iff_lt-mul {x = rest} {y = 5} nonzero).1 (omega (arith, p.small))

    module _ (d : ℕ) (e : d ≡ rest / (step / 5)) where
      piece : digits_text (m - i) rest ≡ (character_of d ∷ []) ++ digits_text (m - (i + 1)) (rest % (step / 5))
      piece =
          digits_piece m i rest (step / 5) h down ∙ ap (λ (x : ℕ). character_of x ∷ digits_text (m - (i + 1)) (rest % (step / 5))) (sym e)

      fits : BytesFit (digits_text m key) start old → (d < 10) × BytesFit (character_of d ∷ []) next out
      fits r = let f = is_digit in (omega arith, going.piece_room (character_of d ∷ []) _ (going.renamed p.going piece) r)

      goes : {later : List ℕ} {last : ℕ} → Put (character_of d ∷ []) next out later last
          → Passed m key start old later last (rest % (step / 5)) (step / 5) (i + 1)
      goes put =
          record {
            within = omega arith;
            power = down;
            small = mod-lt rest nonzero;
            going = going.goes _ (going.renamed p.going piece) put;
          }

  ends : m ≤ i → Put (digits_text m key) start old out next
  unfolding digits_of
  ends h =
      let none : m - i ≡ 0 = omega arith in
      going.ends (going.renamed p.going (ap (λ (k : ℕ). digits_text k rest) none))

pub power_of_five-step-requires : goal.power_of_five-step-requires
power_of_five-step-requires c = omega (arith, c.requires.0)

pub loop-digit-init : goal.loop-digit-init
loop-digit-init c = begins _ _ _ _ _ c.power_of_five-step.ensures c.requires.1

pub nonzero_div-rest : goal.nonzero_div-rest
nonzero_div-rest c = nonzero c.loop-digit.invariant c.loop-digit-test.true

pub put_digit-next-requires : goal.put_digit-next-requires
put_digit-next-requires c =
    fits c.loop-digit.invariant
    c.loop-digit-test.true
    _
    c.from.ensures
    c.requires.2

pub nonzero_rem-rest : goal.nonzero_rem-rest
nonzero_rem-rest c = nonzero c.loop-digit.invariant c.loop-digit-test.true

pub loop-digit-preserved : goal.loop-digit-preserved
loop-digit-preserved c =
    goes c.loop-digit.invariant
    c.loop-digit-test.true
    _
    c.from.ensures
    c.put_digit-next.ensures

pub returns : goal.returns
returns c = ends c.loop-digit.invariant c.loop-digit-test.false
