-- Runs of paints on one sheet, and what either order leaves alike: the list and the summary, by the definitions that paint's promise cites.
-- The logs are not compared. Rests on the history's calls.
use Rattle.std.specs.Prelude.{ℕ, ◌^◌, ◌≤◌, ◌<◌, ◌≡◌, Bool, true, false, ◌&&◌, ◌||◌, List, [], ◌∷◌, eqb}
use Rattle.keys.specs.Block.{in_block}
use Rattle.definitions.specs.Picture.{Picture}
use Rattle.definitions.specs.List.{Record}
use Rattle.definitions.specs.Read.{records_of, picture_of}
use Rattle.definitions.specs.Edit.{paint_in}
use Rattle.history.specs.History.{Call, of_block, painting, Buffers, answer, after, after_calls}
use Rattle.order.specs.Paint.{BlockPaint}
use Rattle.order.specs.Rearranged.{times_in}
use Rattle.order.specs.Apart.{in_some_paint}

-- a paint as a call
abbrev pub as_call : BlockPaint → Call
as_call x = painting (of_block x.key x.feature)

unfoldable pub as_calls : List BlockPaint → List Call
as_calls [] = []
as_calls (x ∷ xs) = as_call x ∷ as_calls xs

-- every paint of the run is accepted, the first paint first
unfoldable pub in_full : ℕ → ℕ → Buffers → List BlockPaint → Bool
in_full m s b [] = true
in_full m s b (x ∷ xs) = eqb (answer m s b (as_call x)) 0 && in_full m s (after m s b (as_call x)) xs

-- a picture with the paints of a run, the first paint first
unfoldable pub in_turn : ℕ → Picture → List BlockPaint → Picture
in_turn m p [] = p
in_turn m p (x ∷ xs) = in_turn m (paint_in m x.key x.feature p) xs

-- the records on a sheet
abbrev pub records_on : Buffers → List Record
records_on b = records_of b.keys b.bits b.n

-- the picture that they show
abbrev pub picture_in : ℕ → Buffers → Picture
picture_in m b = picture_of m (records_on b)

-- two sheets have the same list, with as many records, and the same summary
pub record SameSheet (b b' : Buffers) : Type 0 where
  pub count : b.n ≡ b'.n
  pub list : records_on b ≡ records_on b'
  pub summary : b.summary ≡ b'.summary

-- the buffers after the paints of a run
abbrev pub after_paints : ℕ → ℕ → Buffers → List BlockPaint → Buffers
after_paints m s b xs = after_calls m s b (as_calls xs)

-- the second picture is the first with all the paints: where a paint has a pixel in its block its feature, and the first picture's elsewhere
pub record AllPaints (m : ℕ) (xs : List BlockPaint) (p q : Picture) : Type 0 where
  pub inside : (x : BlockPaint) → 1 ≤ times_in x xs → (row column : ℕ) → in_block m x.key row column ≡ true → q row column ≡ x.feature
  pub outside : (row column : ℕ) → row < 2 ^ m → column < 2 ^ m → in_some_paint m xs row column ≡ false → q row column ≡ p row column

-- accepted, or refused for want of room in the log or in the list
abbrev pub is_of_room : ℕ → Bool
is_of_room refusal = eqb refusal 0 || (eqb refusal 10 || eqb refusal 9)

-- two answers to a paint are the same, or differ by room alone
abbrev pub same_but_room : ℕ → ℕ → Bool
same_but_room refusal refusal' = eqb refusal refusal' || (is_of_room refusal && is_of_room refusal')
