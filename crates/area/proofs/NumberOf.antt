-- Where the summary has a block's counts: a block of the summary's level has the number that the first two digits of its key give, and the summary's
-- place of that number and a feature has the block's count. Rests on the summary block by block.
use Prim.Native.Nat.{ℕ, suc, ◌+◌, ◌-◌, ◌*◌, ◌/◌, ◌%◌, ◌^◌, ◌≤◌, ◌<◌}
use mathlib.Core.Path.{◌≡◌, refl, sym, ◌∙◌, ap, ap₂}
use native.Mathlib.Nat.{pow-suc, add-zero, add-mul, suc-mul, mul_comm, mul_assoc, mul-le-mul_right, div-one, mul-div_cancel}
use native.Mathlib.Numerals.{add-one}
use native.Mathlib.Omega.{arith}
use lib.ListN.{length, get_or}
use Rattle.keys.specs.Key.{child_key, height_of}
use Rattle.keys.specs.Block.{row_of, column_of}
use Rattle.keys.proofs.Cases.{split}
use Rattle.keys.proofs.Powers.{five_pos, two_pos, two_le}
use Rattle.keys.specs.Under.{Under, here, nw, ne, sw, se, MapBlock}
use Rattle.keys.proofs.Interval.{within}
use Rattle.keys.proofs.Valid.{block_valid}
use Rattle.definitions.specs.Picture.{Picture}
use Rattle.definitions.specs.Area.{pixels_with, summary_level, summary_height, summary_of, key_below, block_key}
use Rattle.laws.proofs.SummaryOf.{summary-length, summary_place}
use Rattle.walk.specs.Walk.{BlockSpot}
use Rattle.walk.specs.declared.Spot.{Spot}
use Rattle.area.specs.Number.{summary_number}

-- a block under another that is lower lies at or under one of its quadrants, which a digit names
record Below (k κ k' r' c' κ' : ℕ) : Type 0 where
  digit : ℕ
  row : ℕ
  column : ℕ
  from : 1 ≤ digit
  to : digit ≤ 4
  under : Under k row column (child_key κ k digit) k' r' c' κ'

below : {k r c κ k' r' c' κ' : ℕ} → Under (suc k) r c κ k' r' c' κ' → k' ≤ k → Below k κ k' r' c' κ'
below here low = absurd (omega arith)
below (nw u) low = record { digit = 1; row = _; column = _; from = omega arith; to = omega arith; under = u }
below (ne u) low = record { digit = 2; row = _; column = _; from = omega arith; to = omega arith; under = u }
below (sw u) low = record { digit = 3; row = _; column = _; from = omega arith; to = omega arith; under = u }
below (se u) low = record { digit = 4; row = _; column = _; from = omega arith; to = omega arith; under = u }

-- the two digits of a block two levels below the root
record Digits (k κ : ℕ) : Type 0 where
  first : ℕ
  second : ℕ
  first_from : 1 ≤ first
  first_to : first ≤ 4
  second_from : 1 ≤ second
  second_to : second ≤ 4
  key : κ ≡ (first * 5 + second) * 5 ^ k

joined : (i j u : ℕ) → 0 + i * (u * 5) + j * u ≡ (i * 5 + j) * u
joined i j u = rw (add-mul (i * 5) j u, mul_assoc i 5 u, mul_comm 5 u) (omega arith)

two_digits : {k r c κ : ℕ} → MapBlock (suc (suc k)) k r c κ → Digits k κ
two_digits {k} b =
    let x = below b (omega arith) in
    let y = below x.under (omega arith) in
    let v = within y.under in
    record {
      first = x.digit;
      second = y.digit;
      first_from = x.from;
      first_to = x.to;
      second_from = y.from;
      second_to = y.to;
      key = let e = joined x.digit y.digit (5 ^ k) in let f = ap (λ z. x.digit * z) (pow-suc 5 k) in omega arith;
    }

-- the key of block number b, two levels below the root
key_two : (k b : ℕ) → key_below k 2 b ≡ (b / 4 + 1) * 5 ^ (k + 1) + (b % 4 + 1) * 5 ^ k
unfolding key_below
key_two k b = rw (div-one (b % 4), add-zero k, add-zero ((b % 4 + 1) * 5 ^ k)) refl

-- two digits make this number
abbrev number : ℕ → ℕ → ℕ
number first second = (first - 1) * 4 + (second - 1)

module _ {k κ : ℕ} (d : Digits k κ) where
  number_key : key_below k 2 (number d.first d.second) ≡ κ
  number_key =
      let i : number d.first d.second / 4 + 1 ≡ d.first = omega arith in
      let j : number d.first d.second % 4 + 1 ≡ d.second = omega arith in
      let five : 5 ^ (k + 1) ≡ 5 ^ k * 5 = ap (λ z. 5 ^ z) (add-one k) ∙ pow-suc 5 k in
      let e = joined d.first d.second (5 ^ k) in
      key_two k (number d.first d.second)
      ∙ ap₂ (λ x y. x + y) (ap₂ (λ x y. x * y) i five) (ap (λ x. x * 5 ^ k) j)
      ∙ (let f = d.key in omega arith)

  -- and are read off the key
  digits_read : κ / 5 ^ k ≡ d.first * 5 + d.second
  digits_read = ap (λ x. x / 5 ^ k) d.key ∙ mul-div_cancel (d.first * 5 + d.second) (five_pos k)

  number_read : (κ / 5 ^ k / 5 - 1) * 4 + (κ / 5 ^ k % 5 - 1) ≡ number d.first d.second
  number_read = let e = digits_read in omega arith

  number_few : number d.first d.second < 16
  number_few = omega arith

-- a quarter of the side is two levels down
four_sides : (m k : ℕ) → 2 ^ k * 4 ≡ 2 ^ m → m ≡ suc (suc k)
four_sides m k e =
    let a = pow-suc 2 k in
    let b = pow-suc 2 (suc k) in
    split m (suc (suc k))
    (λ low. let h = two_le {k = m} (suc k) (omega arith) in let z = two_pos k in absurd (omega arith))
    (λ high. split (suc (suc k)) m
    (λ less. let h = two_le {k = suc (suc (suc k))} m (omega arith) in let z = two_pos k in let d = pow-suc 2 (suc (suc k)) in absurd (omega arith))
    (λ same. omega arith))

-- the digits as the code reads them
pub record NumberRead (key step : ℕ) : Type 0 where
  pub some : 0 < step
  pub first_from : 1 ≤ key / step / 5
  pub first_to : key / step / 5 ≤ 4
  pub second_from : 1 ≤ key / step % 5
  pub second_to : key / step % 5 ≤ 4

module _ {m : ℕ} {t : Spot} (h : BlockSpot m t) (level : t.side * 4 ≡ 2 ^ m) where
  two_down : m ≡ suc (suc h.height)
  two_down = four_sides m h.height (ap (λ x. x * 4) (sym h.side) ∙ level)

  digits : Digits h.height t.key
  digits = two_digits (rw two_down at h.block)

  number_is : summary_number t ≡ number digits.first digits.second
  unfolding summary_number
  number_is = ap (λ x. (t.key / x / 5 - 1) * 4 + (t.key / x % 5 - 1)) h.step ∙ number_read digits

  pub digits_in : NumberRead t.key t.step
  digits_in =
      let e : t.key / t.step ≡ digits.first * 5 + digits.second = ap (λ x. t.key / x) h.step ∙ digits_read digits in
      let d = digits in
      let z = five_pos h.height in
      record {
        some = omega (arith, h.step);
        first_from = omega (arith, d.first_from, d.second_to);
        first_to = omega (arith, d.first_to, d.second_to);
        second_from = omega (arith, d.second_from, d.second_to);
        second_to = omega (arith, d.second_from, d.second_to);
      }

  -- the number is that of a block of the summary
  pub number_small : summary_number t < 16
  number_small = let e = number_is in let f = number_few digits in omega arith

  summary_two : (summary_level m ≡ 2) × (summary_height m ≡ h.height)
  summary_two = let e = two_down in (omega arith, omega arith)

  number_block : block_key m (summary_number t) ≡ t.key
  unfolding block_key
  number_block =
      ap₂ (λ x y. key_below x y (summary_number t)) summary_two.1 summary_two.0 ∙ ap (key_below h.height 2) number_is ∙ number_key digits

  -- so it is below the number of the summary's blocks
  pub number_below : summary_number t < 4 ^ summary_level m
  number_below = rw summary_two.0 number_small

  module _ (s : ℕ) (p : Picture) where
    -- the place of its number and a feature has the block's count
    pub number_count : (f : ℕ) → f < s → get_or (summary_of m s p) (summary_number t * s + f) 0 ≡ pixels_with p (height_of m t.key) (row_of m t.key) (column_of m t.key) f
    number_count f low =
        summary_place m s p (summary_number t) number_below f low
        ∙ ap (λ x. pixels_with p x (row_of m (block_key m (summary_number t))) (column_of m (block_key m (summary_number t))) f)
        (summary_two.1 ∙ sym (block_valid h.block).height)
        ∙ ap (λ x. pixels_with p (height_of m t.key) (row_of m x) (column_of m x) f) number_block

    -- and is one of the summary's places
    pub number_room : (f : ℕ) → f < s → summary_number t * s + f < length (summary_of m s p)
    number_room f low =
        let e = summary-length m s p in
        let g : 4 ^ summary_level m * s ≡ 16 * s = ap (λ x. 4 ^ x * s) summary_two.0 in
        let a = mul-le-mul_right {m = suc (summary_number t)} {n = 16} s (let z = number_small in omega arith) in
        let b = suc-mul (summary_number t) s in
        omega arith
