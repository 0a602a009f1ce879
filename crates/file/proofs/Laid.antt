-- Places of records: a file that has room for n of them has each of the first n whole. Rests on the widths 2 and 4.
use Prim.Native.Nat.{ℕ, ◌+◌, ◌^◌, ◌≤◌, ◌<◌}
use mathlib.Core.Path.{◌≡◌, refl, sym, ap, ap₂, ◌∙◌}
use mathlib.Core.List.{List}
use native.Mathlib.Omega.{arith}
use lib.ListN.{length}
use lib.Seq.{sets}
use Rattle.definitions.specs.List.{record_of}
use Rattle.definitions.specs.File.{Width, two, four, file_length, bytes_of, bytes_of_record, number_at}
use Rattle.laws.proofs.FileBytes.{length-bytes}
use Rattle.file.specs.Layout.{RecordsFit}
use Rattle.file.proofs.Stores.{sets_split}

-- a width that is not 2 is 4
pub other_width : {w : ℕ} → Width w → (w ≡ 2 → ⊥) → w ≡ 4
other_width two h = absurd (h refl)
other_width four h = refl

-- and none is above 4
pub width_small : {w : ℕ} → Width w → w ≤ 4
width_small two = omega arith
width_small four = omega arith

-- a file whose number of records fits 32 bits has a length that fits 64
pub short_fits : {w : ℕ} → Width w → (n : ℕ) → n < 2 ^ 32 → file_length w n < 2 ^ 64
short_fits two n h = omega arith
short_fits four n h = omega arith

-- a number read at an equal place in as many bytes
pub number_here : (x p q v w : ℕ) (file : List ℕ) → p ≡ q → v ≡ w → x ≡ number_at p v file → x ≡ number_at q w file
number_here x p q v w file e f h = h ∙ ap₂ (λ p w. number_at p w file) e f

-- record i ends where record i + 1 begins
pub record_ends : {w : ℕ} → Width w → (i k : ℕ) → file_length w (i + 1) ≤ k → file_length w i + 4 + w ≤ k
record_ends two i k h = omega arith
record_ends four i k h = omega arith

-- fewer records have room too
pub fewer_there : {w : ℕ} → Width w → (i n k : ℕ) → i ≤ n → file_length w n ≤ k → file_length w i ≤ k
fewer_there two i n k h e = omega arith
fewer_there four i n k h e = omega arith

pub bytes_laid_at : {w n : ℕ} {file : List ℕ} → RecordsFit w n file → (i : ℕ) → i < n → RecordsFit w (i + 1) file
bytes_laid_at {w} {n} {file} l i h = record {
  width_is = l.width_is;
  there = fewer_there l.width_is (i + 1) n (length file) (omega arith) l.there;
}

-- a record stored as key and bitstring is the record's bytes
pub record_put : (file : List ℕ) (p place u w κ v : ℕ) (keyed whole : List ℕ) → p ≡ place → u ≡ w → keyed ≡ sets file p (bytes_of 4 κ)
    → whole ≡ sets keyed (p + 4) (bytes_of u v) → whole ≡ sets file place (bytes_of_record w (record_of κ v))
record_put file p place u w κ v keyed whole at width e f =
    f
    ∙ ap (λ l. sets l (p + 4) (bytes_of u v)) e
    ∙ ap (λ k. sets (sets file p (bytes_of 4 κ)) (p + k) (bytes_of u v)) (sym (length-bytes 4 κ))
    ∙ sym (sets_split file p (bytes_of 4 κ) (bytes_of u v))
    ∙ ap₂ (λ p w. sets file p (bytes_of_record w (record_of κ v))) at width
