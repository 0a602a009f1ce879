-- How long the printed text is, and that the program's room holds it: a listing at m up to 5 and any s, and a refusal. Rests on Pieces.
use Prim.Native.Nat.{ℕ, zero, suc, ◌+◌, ◌*◌, ◌/◌, ◌^◌, ◌≤◌, ◌<◌}
use mathlib.Core.Path.{◌≡◌, refl, ap, ◌∙◌}
use mathlib.Core.List.{List, [], ◌∷◌, ◌++◌}
use native.Mathlib.Omega.{arith}
use native.Mathlib.Nat.{pow-suc}
use lib.Dec.{eqb}
use lib.ListN.{length, length-append, length-map}
use Rattle.keys.specs.Key.{slot_limit, digits_of}
use Rattle.keys.proofs.Cases.{decide, split}
use Rattle.definitions.specs.List.{Record}
use Rattle.definitions.specs.Listing.{character_of, blank, line_end, decimal, key_text, slots_from, slots_text, line_of, lines_of, head_line, listing, refusal_line}
use Rattle.listing_text.specs.Lent.{longest_listing}
use Rattle.listing_text.proofs.Pieces.{decimal_digit, decimal_tenth}

-- a number below 10 ^ (k + 1) has at most k + 1 digits
pub decimal-length : (k x : ℕ) → x < 10 ^ suc k → length (decimal x) ≤ suc k
decimal-length zero x h = let e = ap length (decimal_digit x h) in omega arith
decimal-length (suc k) x h =
    split x 10
    (λ small. let e = ap length (decimal_digit x small) in omega arith)
    (λ large.
    let p = pow-suc 10 (suc k) in
    let q = decimal-length k (x / 10) (omega arith) in
    let e = ap length (decimal_tenth x large) ∙ length-append (decimal (x / 10)) (character_of _ ∷ []) in
    omega arith)

digits-length : (k κ : ℕ) → length (digits_of k κ) ≡ k
unfolding digits_of
digits-length zero κ = refl
digits-length (suc k) κ = ap suc (digits-length k _)

-- m digits, or one character at m = 0
pub key-length : (m κ : ℕ) → m ≤ 5 → length (key_text m κ) ≤ 5
unfolding key_text
key-length m κ h =
    let e = length-map (digits_of m κ) character_of ∙ digits-length m κ in
    decide (eqb m 0) (λ none. rw none (omega arith)) (λ some. rw some (omega arith))

pub slots_length : (i s bits : ℕ) → length (slots_from i s bits) ≡ s
unfolding slots_from
slots_length i zero bits = refl
slots_length i (suc s) bits = ap suc (slots_length (suc i) s bits)

module _ (m s : ℕ) (five : m ≤ 5) (limit : s ≤ slot_limit) where
  line-length : (e : Record) → length (line_of m s e) ≤ 7 + slot_limit
  unfolding line_of
  line-length e =
      let a = length-append (key_text m e.key) (blank ∷ (slots_text s e.value ++ (line_end ∷ []))) in
      let b = length-append (slots_text s e.value) (line_end ∷ []) in
      let k = key-length m e.key five in
      let l = slots_length 0 s e.value in
      omega arith

  lines-length : (l : List Record) → length (lines_of m s l) ≤ (7 + slot_limit) * length l
  unfolding lines_of
  lines-length [] = omega arith
  lines-length (e ∷ l) =
      let a = length-append (line_of m s e) (lines_of m s l) in
      let b = line-length e in
      let r = lines-length l in
      omega arith

  head-length : (n : ℕ) → n ≤ 1365 → length (head_line m s n) ≤ 10
  unfolding head_line
  head-length n h =
      let a = length-append (decimal m) (blank ∷ (decimal s ++ (blank ∷ (decimal n ++ (line_end ∷ []))))) in
      let b = length-append (decimal s) (blank ∷ (decimal n ++ (line_end ∷ []))) in
      let c = length-append (decimal n) (line_end ∷ []) in
      let x = decimal-length 0 m (omega arith) in
      let y = decimal-length 1 s (omega arith) in
      let z = decimal-length 3 n (omega arith) in
      omega arith

  -- the listing of up to 1,365 records
  pub listing-length : (l : List Record) → length l ≤ 1365 → length (listing m s l) ≤ longest_listing
  unfolding listing
  listing-length l h =
      let a = length-append (head_line m s (length l)) (lines_of m s l) in
      let b = head-length (length l) h in
      let c = lines-length l in
      omega arith

-- the line of a refusal, whose number has one digit
pub refusal-length : (number : ℕ) → number < 10 → length (refusal_line number) ≤ longest_listing
unfolding refusal_line
refusal-length number h =
    let a = length-append (decimal number) (line_end ∷ []) in
    let b = decimal-length 0 number h in
    omega arith
