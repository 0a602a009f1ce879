-- What an accepted list has of the two slices that it was taken from: as many records, the same ones, and the picture that they show. Rests on Taken.
use Prim.Native.Nat.{ℕ}
use mathlib.Core.Path.{◌≡◌, ◌∙◌, ap, ap₂, sym}
use mathlib.Core.List.{List}
use native.Mathlib.Omega.{arith}
use lib.ListN.{length, take}
use lib.Seq.{take-length, length-take-le}
use Rattle.definitions.specs.Read.{records_of, paired, picture_of}
use Rattle.list.specs.Own.{BlockIn, shown_by}
use Rattle.list.specs.declared.accepted_list.Accepted.{Accepted}
use Rattle.list.specs.Taken.{Taken, records_listed, picture_listed}
use Rattle.keys.specs.Key.{valid_key}
use mathlib.Core.Bool.{true}

module _ {m : ℕ} {keys bits : List ℕ} {n : ℕ} {list : Accepted} (t : Taken m keys bits n list) where
  pub taken_length : length list.keys.now ≡ n
  taken_length = ap length t.keys_taken ∙ length-take-le n keys (let h = t.room_for in omega arith)

  pub taken_records : records_listed list ≡ records_of keys bits n
  taken_records =
      let all = take-length list.keys.now in
      let pair = ap (λ k. take k list.bits.now) (sym list.paired) ∙ take-length list.bits.now in
      ap₂ paired (all ∙ t.keys_taken) (pair ∙ t.bits_taken)

  pub taken_picture : picture_listed list ≡ shown_by m keys bits n
  taken_picture = ap₂ picture_of t.map taken_records

-- a block of the map whose list it is
pub block_listed : (list : Accepted) (κ : ℕ) → valid_key list.m κ ≡ true → BlockIn list.m list.keys.now list.bits.now (length list.keys.now) κ
block_listed list κ e = record { deepest = list.deepest; own = list.own; valid = e }
